-- Reports with their texts in ASCII: of the fresh machine, and of it with a few numbers changed.
-- Assumes nothing.
use Rattle.std.specs.Prelude.{List, [], ◌∷◌, ◌++◌, ℕ}
use Rattle.model.specs.Sizes.{policies}
use Rattle.model.specs.Records.{call_pin}
use Rattle.model.specs.Damage.{Change, policy, calling}
use Rattle.report.specs.Report.{hold_status, broken_status}

-- what is changed, the text, and the status
pub record Sample : Type 0 where
  pub changes : List Change
  pub text : List ℕ
  pub status : ℕ

-- nothing is changed
abbrev pub fresh_text : List ℕ
fresh_text =
    (49 ∷ 32 ∷ 104 ∷ 111 ∷ 108 ∷ 100 ∷ 115 ∷ 10 ∷ [])  -- 1 holds
    ++ (50 ∷ 32 ∷ 104 ∷ 111 ∷ 108 ∷ 100 ∷ 115 ∷ 10 ∷ [])  -- 2 holds
    ++ (51 ∷ 32 ∷ 104 ∷ 111 ∷ 108 ∷ 100 ∷ 115 ∷ 10 ∷ [])  -- 3 holds
    ++ (52 ∷ 32 ∷ 104 ∷ 111 ∷ 108 ∷ 100 ∷ 115 ∷ 10 ∷ [])  -- 4 holds
    ++ (53 ∷ 32 ∷ 104 ∷ 111 ∷ 108 ∷ 100 ∷ 115 ∷ 10 ∷ [])  -- 5 holds
    ++ (54 ∷ 32 ∷ 104 ∷ 111 ∷ 108 ∷ 100 ∷ 115 ∷ 10 ∷ [])  -- 6 holds
    ++ (55 ∷ 32 ∷ 104 ∷ 111 ∷ 108 ∷ 100 ∷ 115 ∷ 10 ∷ [])  -- 7 holds
    ++ (56 ∷ 32 ∷ 104 ∷ 111 ∷ 108 ∷ 100 ∷ 115 ∷ 10 ∷ [])  -- 8 holds
    ++ (57 ∷ 32 ∷ 104 ∷ 111 ∷ 108 ∷ 100 ∷ 115 ∷ 10 ∷ [])  -- 9 holds
    ++ (49 ∷ 48 ∷ 32 ∷ 104 ∷ 111 ∷ 108 ∷ 100 ∷ 115 ∷ 10 ∷ [])  -- 10 holds
    ++ (49 ∷ 49 ∷ 32 ∷ 104 ∷ 111 ∷ 108 ∷ 100 ∷ 115 ∷ 10 ∷ [])  -- 11 holds

-- a policy that there is not
abbrev pub policy_text : List ℕ
policy_text =
    (49 ∷ 32 ∷ 104 ∷ 111 ∷ 108 ∷ 100 ∷ 115 ∷ 10 ∷ [])  -- 1 holds
    ++ (50 ∷ 32 ∷ 104 ∷ 111 ∷ 108 ∷ 100 ∷ 115 ∷ 10 ∷ [])  -- 2 holds
    ++ (51 ∷ 32 ∷ 104 ∷ 111 ∷ 108 ∷ 100 ∷ 115 ∷ 10 ∷ [])  -- 3 holds
    ++ (52 ∷ 32 ∷ 104 ∷ 111 ∷ 108 ∷ 100 ∷ 115 ∷ 10 ∷ [])  -- 4 holds
    ++ (53 ∷ 32 ∷ 104 ∷ 111 ∷ 108 ∷ 100 ∷ 115 ∷ 10 ∷ [])  -- 5 holds
    ++ (54 ∷ 32 ∷ 104 ∷ 111 ∷ 108 ∷ 100 ∷ 115 ∷ 10 ∷ [])  -- 6 holds
    ++ (55 ∷ 32 ∷ 104 ∷ 111 ∷ 108 ∷ 100 ∷ 115 ∷ 10 ∷ [])  -- 7 holds
    ++ (56 ∷ 32 ∷ 104 ∷ 111 ∷ 108 ∷ 100 ∷ 115 ∷ 10 ∷ [])  -- 8 holds
    ++ (57 ∷ 32 ∷ 104 ∷ 111 ∷ 108 ∷ 100 ∷ 115 ∷ 10 ∷ [])  -- 9 holds
    ++ (49 ∷ 48 ∷ 32 ∷ 98 ∷ 114 ∷ 111 ∷ 107 ∷ 101 ∷ 110 ∷ 32 ∷ 112 ∷ 111 ∷ 108 ∷ 105 ∷ 99 ∷ 121 ∷ 32 ∷ 48 ∷ 10 ∷ [])  -- 10 broken policy 0
    ++ (49 ∷ 49 ∷ 32 ∷ 104 ∷ 111 ∷ 108 ∷ 100 ∷ 115 ∷ 10 ∷ [])  -- 11 holds

-- a call for the guest that runs
abbrev pub call_text : List ℕ
call_text =
    (49 ∷ 32 ∷ 98 ∷ 114 ∷ 111 ∷ 107 ∷ 101 ∷ 110 ∷ 32 ∷ 103 ∷ 117 ∷ 101 ∷ 115 ∷ 116 ∷ 32 ∷ 48 ∷ 10 ∷ [])  -- 1 broken guest 0
    ++ (50 ∷ 32 ∷ 104 ∷ 111 ∷ 108 ∷ 100 ∷ 115 ∷ 10 ∷ [])  -- 2 holds
    ++ (51 ∷ 32 ∷ 104 ∷ 111 ∷ 108 ∷ 100 ∷ 115 ∷ 10 ∷ [])  -- 3 holds
    ++ (52 ∷ 32 ∷ 104 ∷ 111 ∷ 108 ∷ 100 ∷ 115 ∷ 10 ∷ [])  -- 4 holds
    ++ (53 ∷ 32 ∷ 104 ∷ 111 ∷ 108 ∷ 100 ∷ 115 ∷ 10 ∷ [])  -- 5 holds
    ++ (54 ∷ 32 ∷ 104 ∷ 111 ∷ 108 ∷ 100 ∷ 115 ∷ 10 ∷ [])  -- 6 holds
    ++ (55 ∷ 32 ∷ 104 ∷ 111 ∷ 108 ∷ 100 ∷ 115 ∷ 10 ∷ [])  -- 7 holds
    ++ (56 ∷ 32 ∷ 104 ∷ 111 ∷ 108 ∷ 100 ∷ 115 ∷ 10 ∷ [])  -- 8 holds
    ++ (57 ∷ 32 ∷ 104 ∷ 111 ∷ 108 ∷ 100 ∷ 115 ∷ 10 ∷ [])  -- 9 holds
    ++ (49 ∷ 48 ∷ 32 ∷ 104 ∷ 111 ∷ 108 ∷ 100 ∷ 115 ∷ 10 ∷ [])  -- 10 holds
    ++ (49 ∷ 49 ∷ 32 ∷ 104 ∷ 111 ∷ 108 ∷ 100 ∷ 115 ∷ 10 ∷ [])  -- 11 holds

abbrev pub samples : List Sample
samples =
    record { changes = []; text = fresh_text; status = hold_status }
    ∷ record { changes = policy policies ∷ []; text = policy_text; status = broken_status }
    ∷ record { changes = calling 0 call_pin 1 0; text = call_text; status = broken_status }
    ∷ []

-- of what is no image: refused 16
abbrev pub refused_text : List ℕ
refused_text = 114 ∷ 101 ∷ 102 ∷ 117 ∷ 115 ∷ 101 ∷ 100 ∷ 32 ∷ 49 ∷ 54 ∷ 10 ∷ []
