-- What bytes are decoded to: nothing where they are not eight, else the action of their fields, if those are well formed.
-- Assumes nothing.
use mathlib.Core.Path.{◌≡◌, refl, ap}
use mathlib.Core.Bool.{Bool, true, false}
use mathlib.Core.List.{List}
use mathlib.Core.Option as maybe
use Prim.Native.Nat.{ℕ}
use lib.ListN.{length}
use borrow.Author.Tests.{eq-eqb}
use Rattle.std.specs.Prelude.{Option, Some, None, is_some, IfSome}
use Rattle.std.specs.Bool.{then_some}
use Rattle.laws.specs.Choice.{pick}
use Rattle.model.specs.Sizes.{record_bytes}
use Rattle.model.specs.Records.{Fields, fields_in, well_formed, action_of, decode}
use Rattle.model.specs.Records as records
use Rattle.records.specs.Actions.{action_to, decoded_of}

picked : (b : Bool) (x : records.Action) → then_some b (action_to x) ≡ decoded_of (pick b (maybe.some x) maybe.none)
picked true x = refl
picked false x = refl

pub decoded_law : (l : List ℕ) (f : Fields) → length l ≡ record_bytes → f ≡ fields_in l → then_some (well_formed f) (action_to (action_of f)) ≡ decoded_of (decode l)
unfolding decode
decoded_law l f n e = rw (eq-eqb (length l) record_bytes n, e) (picked (well_formed (fields_in l)) (action_of (fields_in l)))

-- what `then` returns
pub then_law : {A : Type 0} (b : Bool) (a : A) (r : Option A) → is_some r ≡ b → IfSome r (λ x. x ≡ a) → r ≡ then_some b a
then_law b a (Some x) e p = rw (← e) (ap Some p)
then_law b a None e p = rw (← e)
