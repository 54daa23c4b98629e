-- What is decoded has a pin's kind in range, so that it is lost on no type of the code.
-- Assumes nothing.
use mathlib.Core.Path.{◌≡◌, subst}
use mathlib.Core.Bool.{true, ◌&&◌, ◌||◌}
use mathlib.Core.List.{List}
use mathlib.Core.Option.{some, some-injective, none-ne-some}
use Prim.Native.Nat.{ℕ, zero, suc, ◌<◌}
use lib.Dec.{ltb, eqb}
use lib.ListN.{length}
use Rattle.laws.specs.Choice.{at}
use Rattle.laws.proofs.Cases.{split}
use Rattle.laws.proofs.Tests.{true⇔, and⇔}
use Rattle.model.specs.Sizes.{kinds, pin_kinds, record_bytes}
use Rattle.model.specs.Records.{Action, silent, read, read_hyper, write, write_hyper, new, new_sm, del, switch, lswitch, hcall, ret_ctrl, chmod, pin, unpin, drop, row_of, has_value, fields, fields_in, word_at, well_formed, action_of, decode}
use Rattle.model.proofs.RuleTests.{within⇔}

abbrev pub KindIn : Action → Type 0
KindIn silent = Unit {0}
KindIn (read a) = Unit {0}
KindIn (read_hyper a) = Unit {0}
KindIn (write a v) = Unit {0}
KindIn (write_hyper a v) = Unit {0}
KindIn (new a p) = Unit {0}
KindIn (new_sm p) = Unit {0}
KindIn (del a) = Unit {0}
KindIn (switch g) = Unit {0}
KindIn (lswitch p) = Unit {0}
KindIn (hcall c a b) = Unit {0}
KindIn ret_ctrl = Unit {0}
KindIn chmod = Unit {0}
KindIn (pin p k) = k < pin_kinds
KindIn (unpin p) = Unit {0}
KindIn (drop g) = Unit {0}

module _ (a b c v : ℕ) where
  kind_formed : (k : ℕ) → well_formed (fields k a b c v) ≡ true → KindIn (action_of (fields k a b c v))
  kind_formed zero e = tt
  kind_formed (suc zero) e = tt
  kind_formed (suc (suc zero)) e = tt
  kind_formed (suc (suc (suc zero))) e = tt
  kind_formed (suc (suc (suc (suc zero)))) e = tt
  kind_formed (suc (suc (suc (suc (suc zero))))) e = tt
  kind_formed (suc (suc (suc (suc (suc (suc zero)))))) e = tt
  kind_formed (suc (suc (suc (suc (suc (suc (suc zero))))))) e = tt
  kind_formed (suc (suc (suc (suc (suc (suc (suc (suc zero)))))))) e = tt
  kind_formed (suc (suc (suc (suc (suc (suc (suc (suc (suc zero))))))))) e = tt
  kind_formed (suc (suc (suc (suc (suc (suc (suc (suc (suc (suc zero)))))))))) e = tt
  kind_formed (suc (suc (suc (suc (suc (suc (suc (suc (suc (suc (suc zero))))))))))) e = tt
  kind_formed (suc (suc (suc (suc (suc (suc (suc (suc (suc (suc (suc (suc zero)))))))))))) e = tt
  kind_formed (suc (suc (suc (suc (suc (suc (suc (suc (suc (suc (suc (suc (suc zero))))))))))))) e =
      ((and⇔ (and⇔ (and⇔ (true⇔ (ltb 13 kinds)) (true⇔ (eqb c 0))) (within⇔ (row_of 13) a b)) (true⇔ (has_value 13 || eqb v 0))).0 e).0.1.b_high
  kind_formed (suc (suc (suc (suc (suc (suc (suc (suc (suc (suc (suc (suc (suc (suc zero)))))))))))))) e = tt
  kind_formed (suc (suc (suc (suc (suc (suc (suc (suc (suc (suc (suc (suc (suc (suc (suc zero))))))))))))))) e = tt
  kind_formed (suc (suc (suc (suc (suc (suc (suc (suc (suc (suc (suc (suc (suc (suc (suc (suc k)))))))))))))))) e = tt

pub kind_decoded : (l : List ℕ) (x : Action) → decode l ≡ some x → KindIn x
unfolding decode
kind_decoded l x e =
    split (eqb (length l) record_bytes && well_formed (fields_in l))
    (λ t.
    let w = (and⇔ (true⇔ (eqb (length l) record_bytes)) (true⇔ (well_formed (fields_in l)))).0 t in
    let q : action_of (fields_in l) ≡ x = some-injective (action_of (fields_in l)) x (rw t at e) in
    subst (λ (y : Action). KindIn y) q (kind_formed (at l 1) (at l 2) (at l 3) (word_at l 4) (at l 0) w.1))
    (λ t. absurd (none-ne-some x (rw t at e)))
