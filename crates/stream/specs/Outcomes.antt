-- What is known of the end of a call that is refused, and of calls that took a whole journal.
-- Assumes nothing.
use Rattle.std.specs.Prelude.{◌≡◌, List, ℕ, ◌*◌, eqb, take}
use Rattle.laws.specs.Choice.{pick}
use Rattle.model.specs.Sizes.{answer_bytes}
use Rattle.model.specs.State.{State}
use Rattle.model.specs.Journal.{taken, left_over, journal}
use Rattle.model.specs.Pieces.{begun_count, stop, Fed}

-- A call answered f. It ran nothing, took nothing and left all as it was, but for the mark of 13 in what is kept.
pub record Leaves (s : State) (k b : List ℕ) (f : Fed) (t : State) (l c : List ℕ) : Type 0 where
  pub records : f.records ≡ 0
  pub bytes : f.bytes ≡ 0
  pub state : t ≡ s
  pub kept : l ≡ pick (eqb f.number 13) (stop k) k
  pub buffer : c ≡ b

-- calls that gave the answers a and led to t and l: as the journal j, run on s with the buffer b
pub record AsJournal (s : State) (j b a : List ℕ) (t : State) (l : List ℕ) : Type 0 where
  pub state : t ≡ (journal s j b).state
  pub answers : a ≡ take (answer_bytes * taken j) (journal s j b).buffer
  pub begun : begun_count l ≡ left_over j
