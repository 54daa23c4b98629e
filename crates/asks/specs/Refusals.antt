-- Checks 3 and 4 by what a row needs.
-- Assumes nothing.
use Rattle.std.specs.Prelude.{Bool, false, not, eqb}
use Rattle.model.specs.Names.{waiting, running}
use Rattle.model.specs.Checks.{Asked, has_call}
use Rattle.records.specs.declared.Mode.{Mode}
use Rattle.records.specs.declared.Mode.TheVariants.{Any, Waiting, Running}
use Rattle.records.specs.declared.Need.{Need}
use Rattle.records.specs.declared.Need.TheVariants.{Nothing, New, Del, Lswitch, Pin, Unpin, ActiveIdle, NamedIdle, NamedPending}
use Rattle.records.specs.declared.Action.{Action}
use Rattle.numbers.specs.declared.calls.Call.{Call}
use Rattle.numbers.specs.Calls.{call_bytes, bytes_of, same_bytes}
use Rattle.asks.specs.Actions.{guest_of, served}

-- check 3, by the mode that the row needs
abbrev pub wrong_mode_by : Asked → Mode → Bool
wrong_mode_by q Any = false
wrong_mode_by q Waiting = not (eqb waiting q.mode)
wrong_mode_by q Running = not (eqb running q.mode)

-- the active guest's call is not exactly x
abbrev pub other_call : Asked → Call → Bool
other_call q x = not (same_bytes (call_bytes (q.call q.active) (q.call_a q.active) (q.call_b q.active)) (bytes_of x))

-- check 4, by what the row needs of calls, of an action whose row it is
abbrev pub wrong_call_by : Asked → Need → Action → Bool
wrong_call_by q Nothing x = false
wrong_call_by q ActiveIdle x = has_call q q.active
wrong_call_by q NamedIdle x = has_call q (guest_of x).0
wrong_call_by q NamedPending x = not (has_call q (guest_of x).0)
wrong_call_by q New x = other_call q (served x)
wrong_call_by q Del x = other_call q (served x)
wrong_call_by q Lswitch x = other_call q (served x)
wrong_call_by q Pin x = other_call q (served x)
wrong_call_by q Unpin x = other_call q (served x)
