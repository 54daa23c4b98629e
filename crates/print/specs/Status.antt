-- The digit, in ASCII, of each status with which a program ends.
-- Assumes nothing.
use Rattle.std.specs.Prelude.{ℕ}
use Rattle.print.specs.declared.status.Status.{Status}
use Rattle.print.specs.declared.status.Status.TheVariants.{Passed, TurnedAway, Failed}

abbrev pub digit_of : Status → ℕ
digit_of Passed = 48
digit_of TurnedAway = 49
digit_of Failed = 50
