-- The run over a part of records: those that lie one after another from a place on, as many as are whole and have room for their answers.
-- Assumes nothing.
use Rattle.std.specs.Prelude.{◌≡◌, Result, Ok, Err, List, [], ◌∷◌, ℕ, zero, suc, ◌+◌, ◌*◌, ◌-◌, ◌/◌, min, ltb, length, take, drop}
use Rattle.laws.specs.Choice.{pick}
use Rattle.laws.specs.Search.{list_of}
use Rattle.model.specs.Sizes.{record_bytes, answer_bytes}
use Rattle.model.specs.State.{State}
use Rattle.model.specs.Valid.{valid?}
use Rattle.model.specs.Run.{run}
use Rattle.model.specs.Run as model
use Rattle.model.specs.Journal.{pasted, accepted_in}
use Rattle.numbers.specs.declared.refusal.Refusal.{Refusal}
use Rattle.numbers.specs.declared.refusal.Refusal.TheVariants.{NotValid}
use Rattle.steps.specs.declared.Ran.{Ran}

-- record n of bytes j from place `start` on
abbrev pub record_from : List ℕ → ℕ → ℕ → List ℕ
record_from j start n = take record_bytes (drop (start + record_bytes * n) j)

-- the smaller of the whole records from there on and the answers that b has room for
abbrev pub runnable : List ℕ → ℕ → List ℕ → ℕ
runnable j start b =
    pick (ltb (length b / answer_bytes) ((length j - start) / record_bytes)) (length b / answer_bytes) ((length j - start) / record_bytes)

abbrev pub records_from : List ℕ → ℕ → ℕ → List (List ℕ)
records_from j start n = list_of n (record_from j start)

-- how many were taken, and accepted
abbrev pub took_of : model.Ran → ℕ → Ran
took_of r n = record { taken = n; accepted = accepted_in r.answers }

-- the run of the first n records, on a valid state; on another, refused with 1 and all as it was
pub record RunsFirst (n : ℕ) (s : State) (j : List ℕ) (start : ℕ) (b : List ℕ) (r : Result Ran Refusal) (t : State) (c : List ℕ) : Type 0 where
  pub result : r ≡ pick (valid? s) (Ok (took_of (run s (records_from j start n)) n)) (Err NotValid)
  pub state : t ≡ pick (valid? s) (run s (records_from j start n)).state s
  pub buffer : c ≡ pick (valid? s) (pasted (run s (records_from j start n)).answers b) b

-- all that can be run
abbrev pub Runs : State → List ℕ → ℕ → List ℕ → Result Ran Refusal → State → List ℕ → Type 0
Runs s j start b r t c = RunsFirst (runnable j start b) s j start b r t c

-- ---- at most so many, the first of them put together elsewhere

-- a record that was put together, unless it has no bytes
abbrev pub together_count : List ℕ → ℕ
together_count [] = 0
together_count (x ∷ l) = 1

-- the first n records: that one, and then those of j from `start` on
abbrev pub joined_records : List ℕ → List ℕ → ℕ → ℕ → List (List ℕ)
joined_records [] j start n = records_from j start n
joined_records (x ∷ l) j start zero = []
joined_records (x ∷ l) j start (suc n) = (x ∷ l) ∷ records_from j start n

-- as many as are allowed, as there are, and as b has room for their answers
abbrev pub most_of : ℕ → List ℕ → List ℕ → ℕ → List ℕ → ℕ
most_of n first j start b = min n (min (length b / answer_bytes) (together_count first + (length j - start) / record_bytes))

-- the run of n of them, as above
pub record RunsJoined (n : ℕ) (s : State) (first j : List ℕ) (start : ℕ) (b : List ℕ) (r : Result Ran Refusal) (t : State) (c : List ℕ) : Type 0 where
  pub result : r ≡ pick (valid? s) (Ok (took_of (run s (joined_records first j start n)) n)) (Err NotValid)
  pub state : t ≡ pick (valid? s) (run s (joined_records first j start n)).state s
  pub buffer : c ≡ pick (valid? s) (pasted (run s (joined_records first j start n)).answers b) b

abbrev pub RunsMost : ℕ → State → List ℕ → List ℕ → ℕ → List ℕ → Result Ran Refusal → State → List ℕ → Type 0
RunsMost n s first j start b r t c = RunsJoined (most_of n first j start b) s first j start b r t c
