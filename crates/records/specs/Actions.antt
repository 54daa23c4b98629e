-- The model's actions as those of the code, whose numbers say what they address; the fields of a record.
-- Assumes nothing.
use Rattle.std.proofs.Math.Option.{none, some}
use Rattle.std.proofs.Math.Option as maybe
use Rattle.std.specs.Prelude.{ℕ, Option, Some, None}
use Rattle.model.specs.Records.{silent, read, read_hyper, write, write_hyper, new, new_sm, del, switch, lswitch, hcall, ret_ctrl, chmod, pin, unpin, drop, fields}
use Rattle.model.specs.Records as records
use Rattle.numbers.specs.declared.Guest.{Guest}
use Rattle.numbers.specs.Calls.{va, pa, call_of, pin_kind_of}
use Rattle.records.specs.declared.Action.{Action}
use Rattle.records.specs.declared.Action.TheVariants.{Silent, Read, ReadHyper, Write, WriteHyper, New, NewSm, Del, Switch, Lswitch, Hcall, RetCtrl, Chmod, Pin, Unpin, Drop}
use Rattle.records.specs.declared.Fields.{Fields}

abbrev pub guest : ℕ → Guest
guest n = record { 0 = n }

abbrev pub action_to : records.Action → Action
action_to silent = Silent
action_to (read a) = Read (va a)
action_to (read_hyper a) = ReadHyper (va a)
action_to (write a v) = Write (va a) v
action_to (write_hyper a v) = WriteHyper (va a) v
action_to (new a p) = New (va a) (pa p)
action_to (new_sm p) = NewSm (pa p)
action_to (del a) = Del (va a)
action_to (switch g) = Switch (guest g)
action_to (lswitch p) = Lswitch (pa p)
action_to (hcall c a b) = Hcall (call_of c a b)
action_to ret_ctrl = RetCtrl
action_to chmod = Chmod
action_to (pin p k) = Pin (pa p) (pin_kind_of k)
action_to (unpin p) = Unpin (pa p)
action_to (drop g) = Drop (guest g)

abbrev pub decoded_of : maybe.Option records.Action → Option Action
decoded_of none = None
decoded_of (some x) = Some (action_to x)

-- ---- the fields of a record

abbrev pub fields_from : Fields → records.Fields
fields_from f = fields f.kind f.a f.b f.call f.value
