-- What a call promises: its answer, and the state, what is kept and every byte of the answer buffer after it; and what its parts do.
-- Assumes nothing.
use Rattle.std.specs.Prelude.{◌≡◌, Bool, Result, Ok, Err, List, ◌++◌, ℕ, ◌/◌, min, eqb, length, take, drop}
use Rattle.laws.specs.Choice.{pick}
use Rattle.model.specs.Sizes.{answer_bytes, count_bytes}
use Rattle.model.specs.State.{State}
use Rattle.model.specs.Valid.{valid?}
use Rattle.model.specs.Run.{run}
use Rattle.model.specs.Journal.{pasted}
use Rattle.model.specs.Pieces.{whole_in, records_in, kept_of, stop, Feeds}
use Rattle.model.specs.Pieces as model
use Rattle.numbers.specs.declared.refusal.Refusal.{Refusal}
use Rattle.numbers.specs.declared.refusal.Refusal.TheVariants.{NotValid}
use Rattle.numbers.specs.Refusals.{refusal_number}
use Rattle.steps.specs.declared.Ran.{Ran}
use Rattle.steps.specs.Parts.{took_of}
use Rattle.pieces.specs.declared.Fed.{Fed}

-- code's answer as the model's
abbrev pub fed_from : Result Fed Refusal → model.Fed
fed_from (Ok r) = record { number = 0; records = r.records; bytes = r.bytes }
fed_from (Err e) = record { number = refusal_number e; records = 0; bytes = 0 }

-- a call on the state s, with what is kept, a piece, an allowance, whether the input ends, and the answer buffer b: r is its answer; t the state,
-- l what is kept and c the buffer after it
abbrev pub FeedsCode : State → List ℕ → List ℕ → ℕ → Bool → List ℕ → Result Fed Refusal → State → List ℕ → List ℕ → Type 0
FeedsCode s k piece allowance last b r t l c = Feeds s k piece allowance last b (fed_from r) t l c

-- ---- its parts

-- as many records of the bytes at hand, x, as are whole, are allowed and have room in b for their answers
abbrev pub most_in : ℕ → List ℕ → List ℕ → ℕ
most_in allowance x b = min allowance (min (length b / answer_bytes) (whole_in (length x)))

-- n records of the bytes at hand, x, were run on a valid state; on another, refused with 1
pub record RunsHand (n : ℕ) (s : State) (x b : List ℕ) (r : Result Ran Refusal) (t : State) (c : List ℕ) : Type 0 where
  pub result : r ≡ pick (valid? s) (Ok (took_of (run s (records_in x n)) n)) (Err NotValid)
  pub state : t ≡ pick (valid? s) (run s (records_in x n)).state s
  pub buffer : c ≡ pick (valid? s) (pasted (run s (records_in x n)).answers b) b

-- a call that is refused with e where the state is valid, and with 1 where it is not: the refusal, and what is kept
pub record Refuses (s : State) (e : Refusal) (k : List ℕ) (r : Refusal) (l : List ℕ) : Type 0 where
  pub answer : r ≡ pick (valid? s) e NotValid
  pub kept : l ≡ pick (valid? s) (pick (eqb (refusal_number e) 13) (stop k) k) k

-- so many bytes of a begun record stay, others follow them
abbrev pub begun_with : List ℕ → ℕ → List ℕ → List ℕ
begun_with k stays more = take stays (drop count_bytes k) ++ more

abbrev pub holds : List ℕ → ℕ → ℕ → List ℕ → List ℕ
holds k n stays more = kept_of n (begun_with k stays more)
