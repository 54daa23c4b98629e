-- What calls since begin come to, by the bytes that they took alone.
-- Assumes nothing.
use Rattle.std.specs.Prelude.{◌≡◌, Bool, List, ℕ, ◌+◌, ◌*◌, min, length, take, drop}
use Rattle.laws.specs.Choice.{pick}
use Rattle.model.specs.Sizes.{record_bytes, header_bytes}
use Rattle.model.specs.State.{State}
use Rattle.model.specs.Run.{run}
use Rattle.model.specs.Journal.{header, taken, records_of, written}
use Rattle.model.specs.Pieces.{kept_of, stopped}

-- the bytes of a journal behind its last whole record
abbrev pub behind_records : List ℕ → List ℕ
behind_records j = drop (header_bytes + record_bytes * taken j) j

-- From the state s calls took the bytes j and gave the answers a; 13 was among their numbers or not, as z says. They led to the state t and to what is
-- kept, l.
pub record Streamed (s : State) (j a : List ℕ) (z : Bool) (t : State) (l : List ℕ) : Type 0 where
  pub begins : take header_bytes j ≡ take (length j) header
  pub state : t ≡ (run s (records_of j)).state
  pub answers : a ≡ written (run s (records_of j)).answers
  pub kept : l ≡ kept_of (pick z stopped (min (length j) header_bytes)) (behind_records j)
