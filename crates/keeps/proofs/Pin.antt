-- pin keeps a state valid: a free page is in nobody's use, and becomes a page of the active guest.
-- Assumes nothing.
use mathlib.Core.Path.{◌≡◌, refl, ap}
use mathlib.Core.Logic.{inl, inr}
use Prim.Native.Nat.{ℕ, suc, ◌+◌, ◌*◌, ◌^◌, ◌<◌}
use native.Mathlib.Omega.{arith}
use Rattle.laws.specs.Choice.{at}
use Rattle.laws.specs.Bits.{bit, unmarked}
use Rattle.laws.proofs.Cases.{same?}
use Rattle.laws.proofs.Bits.{unmarked_same, unmarked_other, unmarked_below}
use Rattle.model.specs.Sizes.{physicals, pages, pin_kinds}
use Rattle.model.specs.Names.{owner_none, owner_guest, kind_none}
use Rattle.model.specs.State.{State, active}
use Rattle.model.specs.Pin.{pin_step}
use Rattle.model.specs.Valid.{Valid}
use Rattle.keeps.proofs.Core.{Core, core_of, mapped_page}
use Rattle.keeps.proofs.Calls.{clear_valid}
use Rattle.keeps.proofs.Handover.{Idle, Becomes, handed_valid}

module _ {s : State} (c : Core s) {pa p : ℕ} (ha : pa < physicals) (hp : p < pages) where
  -- a free page has neither owner nor kind, so that no rule leads to it
  pub free_idle : bit s.shape.pages.free p ≡ 1 → at s.shape.pages.physical (physicals * active s.shape + pa) ≡ 0
      → Idle s p (physicals * active s.shape + pa)
  free_idle isFree empty =
      record {
        page = hp;
        place = omega (arith, c.rule10.guests.active);
        not_hosts = omega (arith, ownerless);
        bare = λ va q h e. omega (arith, (c.rule4.entries p va q hp h e).in_table, kindless);
        unmapped = λ m va a. omega (arith, (mapped_page c a).is_data, kindless);
        only = λ g b hg hb e. absurd (omega (arith, (c.rule3.own g b p hg hb e).1, ownerless));
        held = λ q e. absurd (omega arith);
        apart = λ g hg w. let r = (c.rule5.currents g hg).1 in omega (arith, r.registered, ap (at s.shape.pages.physical) w);
      }
    where
      ownerless : at s.shape.pages.owner p ≡ owner_none
      ownerless = (c.rule2.map p hp).0 isFree

      kindless : at s.shape.pages.kind p ≡ kind_none
      kindless = (c.rule2.ownerless p hp ownerless).0

  pinned : {k : ℕ} → k < pin_kinds
      → Becomes s.shape.pages.free p (physicals * active s.shape + pa) (owner_guest (active s.shape)) (suc k) (suc p)
      (unmarked s.shape.pages.free p)
  pinned {k} hk =
      record {
        owner = omega (arith, c.rule10.guests.active);
        kind = omega arith;
        not_hosts = omega arith;
        ownerless = λ e. absurd (omega arith);
        guest = λ g e. same? k 0 (λ z. inl (omega arith)) (λ z. inr (omega arith));
        mark = ((λ e. absurd (omega (arith, unmarked_same s.shape.pages.free p))), λ e. absurd (omega arith));
        marks = unmarked_other s.shape.pages.free p;
        map = unmarked_below s.shape.pages.free p (2 ^ pages) c.rule10.pages.free;
        leads = λ q e. omega arith;
        own = λ g b hb w e. omega arith;
        reached = λ g e. (pa, ha, omega arith, refl);
      }

pub pin_step_valid : {s : State} → Valid s → (pa k p : ℕ) → pa < physicals → k < pin_kinds → p < pages → bit s.shape.pages.free p ≡ 1
    → at s.shape.pages.physical (physicals * active s.shape + pa) ≡ 0 → Valid (pin_step s pa k p)
unfolding pin_step
pin_step_valid v pa k p ha hk hp f e = let c = core_of v in clear_valid (handed_valid v (free_idle c ha hp f e) (pinned c ha hp hk))
