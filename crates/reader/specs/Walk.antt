-- How a reader walks a journal of n bytes: what it finds at a position p, and where it goes from there.
-- Assumes nothing.
use Rattle.std.specs.Prelude.{Bool, true, false, List, ℕ, zero, suc, ◌+◌, ◌*◌, ◌-◌, ltb, length}
use Rattle.std.specs.Borrow.{Bor}
use Rattle.laws.specs.Choice.{pick}
use Rattle.model.specs.Sizes.{record_bytes, header_bytes}
use Rattle.reader.specs.declared.Reader.{Reader}
use Rattle.reader.specs.declared.Turned.{Turned}
use Rattle.reader.specs.declared.Found.{Found}
use Rattle.reader.specs.declared.Found.TheVariants.{Record, End}

-- a record, and where it starts; with less than a record left the end, and the bytes left over, none past the end
abbrev pub found_at : ℕ → ℕ → Found
found_at n p = pick (ltb (n - p) record_bytes) (End (n - p)) (Record p)

-- after the record; at the end the same
abbrev pub moved_at : ℕ → ℕ → ℕ
moved_at n p = pick (ltb (n - p) record_bytes) p (p + record_bytes)

abbrev pub turn_at : ℕ → ℕ → Turned
turn_at n p = record { found = found_at n p; position = moved_at n p }

-- ---- a walk from the header on

-- where record k starts: the model's `record_at j k` is the record's bytes from there on
abbrev pub record_start : ℕ → ℕ
record_start k = header_bytes + record_bytes * k

-- the position after k turns
unfoldable pub after_turns : ℕ → ℕ → ℕ
after_turns n zero = record_start 0
after_turns n (suc k) = (turn_at n (after_turns n k)).position

-- ---- the case and the number of what was found

abbrev pub is_record : Found → Bool
is_record (Record p) = true
is_record (End l) = false

abbrev pub number_in : Found → ℕ
number_in (Record p) = p
number_in (End l) = l

-- ---- the struct

abbrev pub reader_at : Bor (List ℕ) → ℕ → Reader
reader_at j p = record { journal = j; position = p }

abbrev pub moved_of : Reader → Reader
moved_of r = reader_at r.journal (moved_at (length r.journal.now) r.position)
