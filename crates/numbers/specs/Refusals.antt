-- Refusals by their numbers.
-- Assumes nothing.
use Rattle.std.specs.Prelude.{ℕ, Result, Ok, Err}
use Rattle.numbers.specs.declared.refusal.Refusal.{Refusal}
use Rattle.numbers.specs.declared.refusal.Refusal.TheVariants.{NotValid, NoRecord, WrongMode, WrongCall, Reserved, Unmapped, NoPage, OtherKind, Stealthy, Taken, NoneFree, InUse, NoJournal, TooLong, NoRoom, NotImage}

abbrev pub refusal_number : Refusal → ℕ
refusal_number NotValid = 1
refusal_number NoRecord = 2
refusal_number WrongMode = 3
refusal_number WrongCall = 4
refusal_number Reserved = 5
refusal_number Unmapped = 6
refusal_number NoPage = 7
refusal_number OtherKind = 8
refusal_number Stealthy = 9
refusal_number Taken = 10
refusal_number NoneFree = 11
refusal_number InUse = 12
refusal_number NoJournal = 13
refusal_number TooLong = 14
refusal_number NoRoom = 15
refusal_number NotImage = 16

-- of what may be refused: 0 where it is not
abbrev pub code_of : {A : Type 0} → Result A Refusal → ℕ
code_of (Ok x) = 0
code_of (Err r) = refusal_number r
