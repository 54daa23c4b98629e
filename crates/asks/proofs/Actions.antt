-- The model's actions, taken to the code's and back, are themselves: those whose kind of a pin is in range, as that of every record is.
-- Assumes nothing.
use mathlib.Core.Path.{◌≡◌, refl, ap}
use Rattle.model.specs.Records.{Action, silent, read, read_hyper, write, write_hyper, new, new_sm, del, switch, lswitch, hcall, ret_ctrl, chmod, pin, unpin, drop}
use Rattle.numbers.specs.declared.calls.CallBytes.{CallBytes}
use Rattle.numbers.proofs.CallNumbers.{number_kind, bytes_call}
use Rattle.records.specs.Actions.{action_to}
use Rattle.records.proofs.Typed.{KindIn}
use Rattle.asks.specs.Actions.{action_from}

pub from_to : (x : Action) → KindIn x → action_from (action_to x) ≡ x
from_to silent h = refl
from_to (read a) h = refl
from_to (read_hyper a) h = refl
from_to (write a v) h = refl
from_to (write_hyper a v) h = refl
from_to (new a p) h = refl
from_to (new_sm p) h = refl
from_to (del a) h = refl
from_to (switch g) h = refl
from_to (lswitch p) h = refl
from_to (hcall c a b) h = ap (λ (n : CallBytes). hcall n.number n.a n.b) (bytes_call c a b)
from_to ret_ctrl h = refl
from_to chmod h = refl
from_to (pin p k) h = ap (pin p) (number_kind k h)
from_to (unpin p) h = refl
from_to (drop g) h = refl
