-- One turn of a run: a record judged where it lies, and its answer stored.
-- Assumes nothing.
use Rattle.std.specs.Prelude.{◌≡◌, List, ℕ, Result, ◌*◌, eqb, take, drop}
use Rattle.std.proofs.lemmas.List.Edits.{sets}
use Rattle.laws.specs.Choice.{pick}
use Rattle.model.specs.Sizes.{record_bytes, answer_bytes}
use Rattle.model.specs.State.{State}
use Rattle.model.specs.Step.{Answer, number_of}
use Rattle.model.specs.Journal.{answer_bytes_of, accepted_in, pasted}
use Rattle.model.specs.Run.{run_by}
use Rattle.numbers.specs.declared.refusal.Refusal.{Refusal}
use Rattle.steps.specs.Acting.{judged}
use Rattle.steps.specs.Promises.{answer_from}
use Rattle.steps.specs.Parts.{records_from, joined_records}

-- 1 for an answer that is done, 0 for a refusal
abbrev pub counts : Answer → ℕ
counts a = pick (eqb (number_of a) 0) 1 0

-- the answer's bytes as answer i
abbrev pub answer_at : List ℕ → ℕ → Answer → List ℕ
answer_at b i a = sets b (answer_bytes * i) (answer_bytes_of a)

-- code's answer a is stored as answer i: what it counts, and the buffer
pub record Stores (b : List ℕ) (i : ℕ) (a : Result ℕ Refusal) (k : ℕ) (c : List ℕ) : Type 0 where
  pub counted : k ≡ counts (answer_from a)
  pub buffer : c ≡ answer_at b i (answer_from a)

-- after the record at `at`, the answer stored as answer i: what it counts, the state, the buffer
pub record Turns (s : State) (j : List ℕ) (at : ℕ) (b : List ℕ) (i k : ℕ) (t : State) (c : List ℕ) : Type 0 where
  pub counted : k ≡ counts (judged s (take record_bytes (drop at j))).answer
  pub state : t ≡ (judged s (take record_bytes (drop at j))).state
  pub buffer : c ≡ answer_at b i (judged s (take record_bytes (drop at j))).answer

-- after the first n records
pub record Plays (s : State) (j : List ℕ) (start n : ℕ) (b : List ℕ) (k : ℕ) (t : State) (c : List ℕ) : Type 0 where
  pub counted : k ≡ accepted_in (run_by judged s (records_from j start n)).answers
  pub state : t ≡ (run_by judged s (records_from j start n)).state
  pub buffer : c ≡ pasted (run_by judged s (records_from j start n)).answers b

-- after a record by itself, the answer stored as the first
pub record JudgesFirst (s : State) (l b : List ℕ) (k : ℕ) (t : State) (c : List ℕ) : Type 0 where
  pub counted : k ≡ counts (judged s l).answer
  pub state : t ≡ (judged s l).state
  pub buffer : c ≡ answer_at b 0 (judged s l).answer

-- after n records, the first of them put together
pub record PlaysJoined (s : State) (first j : List ℕ) (start n : ℕ) (b : List ℕ) (k : ℕ) (t : State) (c : List ℕ) : Type 0 where
  pub counted : k ≡ accepted_in (run_by judged s (joined_records first j start n)).answers
  pub state : t ≡ (run_by judged s (joined_records first j start n)).state
  pub buffer : c ≡ pasted (run_by judged s (joined_records first j start n)).answers b
