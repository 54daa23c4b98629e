-- A guest's pending call in a state, by its three numbers.
-- Assumes nothing.
use Rattle.std.specs.Prelude.{ℕ}
use Rattle.laws.specs.Choice.{at}
use Rattle.model.specs.State.{State}
use Rattle.numbers.specs.declared.calls.CallBytes.{CallBytes}
use Rattle.numbers.specs.Calls.{call_bytes}
use Rattle.host.specs.View.{put, call_field, call_a_field, call_b_field}

-- the numbers of guest g's call, and these stored
abbrev pub stored_call : State → ℕ → CallBytes
stored_call s g = call_bytes (at s.shape.guests.call g) (at s.shape.guests.call_a g) (at s.shape.guests.call_b g)

abbrev pub put_call : State → ℕ → CallBytes → State
put_call s g n = put call_b_field (put call_a_field (put call_field s g n.number) g n.a) g n.b
