-- Demand 3 by the bytes that `steps::run` and `journal::run` leave: the answer buffers say which actions were accepted; by these alone, what the
-- host's bytes hold and what each read answered.
-- Assumes nothing.
use Rattle.std.specs.Prelude.{◌≡◌, List, [], ◌∷◌, ℕ, Result, Ok, Err}
use Rattle.laws.specs.Search.{list_of}
use Rattle.model.specs.Sizes.{header_bytes}
use Rattle.model.specs.State.{State}
use Rattle.model.specs.Journal.{number_at, value_at}
use Rattle.history.specs.Past.{Book, Past, past_after, values_after}
use Rattle.history.specs.Rations.{Kept}
use Rattle.numbers.specs.declared.refusal.Refusal.{Refusal}
use Rattle.steps.specs.Promises.{Steps}
use Rattle.steps.specs.Parts.{records_from}
use Rattle.journal.specs.declared.Report.{Report}
use Rattle.journal.specs.Promises.{Runs}

-- ---- records that lie one after another, and their answers in a buffer

-- the numbers of the first n answers of a buffer, and their values
abbrev pub numbers_in : List ℕ → ℕ → List ℕ
numbers_in c n = list_of n (λ i. number_at c i)

abbrev pub values_in : List ℕ → ℕ → List ℕ
values_in c n = list_of n (λ i. value_at c i)

-- The actions that were accepted of the first n records of the bytes j from `start` on, after those of a past: those of the records whose answer's
-- number is 0.
abbrev pub past_in : Past → List ℕ → ℕ → ℕ → List ℕ → Past
past_in past j start n c = past_after past (records_from j start n) (numbers_in c n)

-- and the values of their answers, each by the past before it
abbrev pub values_by : Book → Past → List ℕ → ℕ → ℕ → List ℕ → List ℕ
values_by b past j start n c = values_after b past (records_from j start n) (numbers_in c n)

-- A past led from the state s, which agrees with the book b, to the state on which these records were run: t is the state and c the answer buffer
-- at exit. A journal's records start behind its header.
pub record Guarantee (b : Book) (s : State) (past : Past) (j : List ℕ) (start n : ℕ) (t : State) (c : List ℕ) : Type 0 where
  pub kept : Kept b s (past_in past j start n c) t
  pub answers : values_in c n ≡ values_by b past j start n c

-- ---- journals one after another on one host

-- a journal that was run or refused, with its answer buffer before and after
pub record Turn : Type 0 where
  pub journal : List ℕ
  pub before : List ℕ
  pub verdict : Result Report Refusal
  pub after : List ℕ

-- `journal::run` on each, one after another: verdicts, states and buffers as it promises them
abbrev pub Turns : State → List Turn → State → Type 0
Turns s [] t = t ≡ s
Turns s (x ∷ xs) t = (u : State) × Runs s x.journal x.before x.verdict u x.after × Turns u xs t

-- the past after a journal: a refused one adds nothing
abbrev pub past_of : Past → List ℕ → Result Report Refusal → List ℕ → Past
past_of past j (Ok r) after = past_in past j header_bytes r.taken after
past_of past j (Err n) after = past

-- what its buffer says: a refused one's is as it was
abbrev pub Answers : Book → Past → List ℕ → List ℕ → Result Report Refusal → List ℕ → Type 0
Answers b past j before (Ok r) after = values_in after r.taken ≡ values_by b past j header_bytes r.taken after
Answers b past j before (Err n) after = after ≡ before

-- the past that all the buffers together tell, and what each of them says
abbrev pub past_of_all : Past → List Turn → Past
past_of_all past [] = past
past_of_all past (x ∷ xs) = past_of_all (past_of past x.journal x.verdict x.after) xs

abbrev pub AllAnswers : Book → Past → List Turn → Type 0
AllAnswers b past [] = Unit {0}
AllAnswers b past (x ∷ xs) =
    Answers b past x.journal x.before x.verdict x.after × AllAnswers b (past_of past x.journal x.verdict x.after) xs

-- A past led from the state s, which agrees with the book b, to the state on which the first of these journals was run: t is the state after the
-- last.
pub record AllGuarantee (b : Book) (s : State) (past : Past) (xs : List Turn) (t : State) : Type 0 where
  pub kept : Kept b s (past_of_all past xs) t
  pub answers : AllAnswers b past xs

-- ---- step after step

-- `step` on each record, one after another: answers and states as it promises them
abbrev pub Folds : State → List (List ℕ) → List (Result ℕ Refusal) → State → Type 0
Folds s [] [] t = t ≡ s
Folds s [] (x ∷ xs) t = ⊥
Folds s (r ∷ rs) [] t = ⊥
Folds s (r ∷ rs) (x ∷ xs) t = (u : State) × Steps s r x u × Folds u rs xs t
