-- The code's actions as the model's, and what the checks of every action read of one: its kind, the guest that it names, the call that it serves.
-- Assumes nothing.
use Rattle.std.specs.Prelude.{ℕ}
use Rattle.model.specs.Sizes.{stealth}
use Rattle.model.specs.Records.{silent, read, read_hyper, write, write_hyper, new, new_sm, del, switch, lswitch, hcall, ret_ctrl, chmod, pin, unpin, drop, fields_of}
use Rattle.model.specs.Records as records
use Rattle.records.specs.declared.Action.{Action}
use Rattle.records.specs.declared.Action.TheVariants.{Silent, Read, ReadHyper, Write, WriteHyper, New, NewSm, Del, Switch, Lswitch, Hcall, RetCtrl, Chmod, Pin, Unpin, Drop}
use Rattle.numbers.specs.declared.Guest.{Guest}
use Rattle.numbers.specs.declared.calls.Call as code
use Rattle.numbers.specs.declared.calls.Call.TheVariants as calls
use Rattle.numbers.specs.Calls.{va, bytes_of, pin_number}
use Rattle.records.specs.Actions.{guest}

abbrev pub action_from : Action → records.Action
action_from Silent = silent
action_from (Read a) = read a.0
action_from (ReadHyper a) = read_hyper a.0
action_from (Write a v) = write a.0 v
action_from (WriteHyper a v) = write_hyper a.0 v
action_from (New a p) = new a.0 p.0
action_from (NewSm p) = new_sm p.0
action_from (Del a) = del a.0
action_from (Switch g) = switch g.0
action_from (Lswitch p) = lswitch p.0
action_from (Hcall x) = hcall (bytes_of x).number (bytes_of x).a (bytes_of x).b
action_from RetCtrl = ret_ctrl
action_from Chmod = chmod
action_from (Pin p k) = pin p.0 (pin_number k)
action_from (Unpin p) = unpin p.0
action_from (Drop g) = drop g.0

-- the kind, as its record says it
abbrev pub kind_of : Action → ℕ
kind_of x = (fields_of (action_from x)).kind

-- the guest that it names; guest 0 where it names none
abbrev pub guest_of : Action → Guest
guest_of (Switch g) = g
guest_of (Drop g) = g
guest_of _ = guest 0

-- the call that it serves; none where it serves none
abbrev pub served : Action → code.Call
served (New a p) = calls.New a p
served (NewSm p) = calls.New (va stealth) p
served (Del a) = calls.Del a
served (Lswitch p) = calls.Lswitch p
served (Pin p k) = calls.Pin p k
served (Unpin p) = calls.Unpin p
served _ = calls.None
