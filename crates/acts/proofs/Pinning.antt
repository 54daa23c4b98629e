-- pin and unpin: their parts one after another, and pin on any state, case by case.
-- Assumes nothing.
use mathlib.Core.Path.{◌≡◌, sym, ap, ◌∙◌}
use mathlib.Core.Bool.{true}
use Prim.Native.Nat.{ℕ, suc, ◌+◌, ◌*◌, ◌<◌}
use Rattle.laws.specs.Choice.{pick, ◌⇔◌}
use Rattle.laws.specs.Bits.{marked, unmarked}
use Rattle.laws.proofs.Cases.{pick_yes, pick_not}
use Rattle.laws.proofs.Tests.{lt⇔, and⇔, not_so}
use Rattle.model.specs.Sizes.{guests, physicals, pages}
use Rattle.model.specs.Names.{owner_none, kind_none}
use Rattle.model.specs.State.{State, active, is_page}
use Rattle.model.specs.Checks.{lowest_free}
use Rattle.model.specs.Pin.{pin_step}
use Rattle.model.specs.Unpin.{unpin_step}
use Rattle.model.specs.Valid.{Valid}
use Rattle.host.specs.View.{put, put_free, put_memory, physical_field}
use Rattle.acts.specs.Pinned.{pinnable, pinned, renewed}
use Rattle.acts.specs.Mapped.{idle}

-- ---- the parts of the two steps, one after another

abbrev marking : ℕ → State → State
marking p x = put_free x (pick (is_page p) (marked x.shape.pages.free p) x.shape.pages.free)

abbrev unmarking : ℕ → State → State
unmarking p x = put_free x (unmarked x.shape.pages.free p)

module _ (s : State) (a g p : ℕ) (q : g ≡ active s.shape) (h : p < pages) where
  abbrev placing : ℕ → State → State
  placing e x = put physical_field x (physicals * g + a) e

  page : is_page p ≡ true
  page = (lt⇔ p pages).1 h

  back : idle (marking p (placing 0 (renewed s p owner_none kind_none))) ≡ unpin_step s a p
  unfolding unpin_step put put_free put_memory renewed
  back = rw (q, page)

  over : (k : ℕ) → idle (unmarking p (placing (pick (is_page p) (suc p) 0) (renewed s p (2 + g) (suc k)))) ≡ pin_step s a k p
  unfolding pin_step put put_free put_memory renewed
  over k = rw (q, page)

  pub given_back_law : (t u v w : State) → t ≡ renewed s p owner_none kind_none → u ≡ placing 0 t → v ≡ marking p u → w ≡ idle v
      → w ≡ unpin_step s a p
  given_back_law t u v w d e f k = k ∙ ap idle (f ∙ ap (marking p) (e ∙ ap (placing 0) d)) ∙ back

  pub taken_over : (k : ℕ) (t u v w : State) → t ≡ renewed s p (2 + g) (suc k) → u ≡ placing (pick (is_page p) (suc p) 0) t
      → v ≡ unmarking p u
      → w ≡ idle v
      → w ≡ pin_step s a k p
  taken_over k t u v w d e f l =
      l ∙ ap idle (f ∙ ap (unmarking p) (e ∙ ap (placing (pick (is_page p) (suc p) 0)) d)) ∙ over k

-- ---- pin

module _ (s : State) (a k : ℕ) where
  abbrev Range : Type 0
  Range = (active s.shape < guests) × (lowest_free s.shape.pages.free < pages)

  range⇔ : pinnable s (lowest_free s.shape.pages.free) ⇔ Range
  range⇔ =
      and⇔ (lt⇔ (active s.shape) guests) (lt⇔ (lowest_free s.shape.pages.free) pages)

  -- in range it is the model's step
  pub pinned_is : Range → pinned s a k ≡ pin_step s a k (lowest_free s.shape.pages.free)
  unfolding pinned
  pinned_is r = pick_yes (pin_step s a k (lowest_free s.shape.pages.free)) s (range⇔.1 r)

  pub pinned_page : (p : ℕ) → Range → p ≡ lowest_free s.shape.pages.free → pin_step s a k p ≡ pinned s a k
  pinned_page p r e = ap (pin_step s a k) e ∙ sym (pinned_is r)

  pub pinned_not : (Range → ⊥) → s ≡ pinned s a k
  unfolding pinned
  pinned_not n = sym (pick_not (pin_step s a k (lowest_free s.shape.pages.free)) s (not_so range⇔ n))

  -- on a valid state with a free page
  pub pinned_valid : Valid s → is_page (lowest_free s.shape.pages.free) ≡ true
      → pinned s a k ≡ pin_step s a k (lowest_free s.shape.pages.free)
  pinned_valid v e = pinned_is (v.rule10.guests.active, (lt⇔ (lowest_free s.shape.pages.free) pages).0 e)
