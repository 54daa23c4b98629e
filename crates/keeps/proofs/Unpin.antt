-- unpin keeps a state valid: the page that its guest gives back is in nobody's use, and becomes a free page.
-- Assumes nothing.
use mathlib.Core.Path.{◌≡◌, refl, ap}
use mathlib.Core.Logic.{◌≢◌}
use Prim.Native.Nat.{ℕ, suc, ◌+◌, ◌*◌, ◌<◌}
use native.Mathlib.Omega.{arith}
use Rattle.laws.specs.Choice.{at}
use Rattle.laws.specs.Bits.{marked}
use Rattle.laws.proofs.Bits.{marked_same, marked_other, marked_below}
use Rattle.model.specs.Sizes.{physicals, pages, addresses}
use Rattle.model.specs.Names.{owner_none, owner_guest, kind_none}
use Rattle.model.specs.State.{State, active}
use Rattle.model.specs.Rules.{Maps}
use Rattle.model.specs.Unpin.{unpin_step}
use Rattle.model.specs.Valid.{Valid}
use Rattle.keeps.proofs.Core.{Core, core_of}
use Rattle.keeps.proofs.Calls.{clear_valid}
use Rattle.keeps.proofs.Handover.{Idle, Becomes, handed_valid}

module _ {s : State} (c : Core s) {pa p : ℕ} (ha : pa < physicals) (hp : p < pages) where
  -- the page is the active guest's, so that no other place leads to it
  pub given_idle : at s.shape.pages.physical (physicals * active s.shape + pa) ≡ suc p → pa ≢ at s.shape.guests.current (active s.shape)
      → ((va : ℕ) → va < addresses → at s.shape.pages.entry (addresses * p + va) ≡ 0)
      → ((m va : ℕ) → Maps s.shape.pages.kind s.shape.pages.entry m va p → ⊥) → Idle s p (physicals * active s.shape + pa)
  given_idle registered other bare unmapped =
      record {
        page = hp;
        place = omega (arith, c.rule10.guests.active);
        not_hosts = omega (arith, own);
        bare = λ va q h e. omega (arith, bare va h);
        unmapped = unmapped;
        only = λ g b hg hb e.
            let z : g ≡ active s.shape = omega (arith, own, (c.rule3.own g b p hg hb e).1) in
            omega (arith, z, c.rule3.different g b pa p hg hb ha e (rw z registered));
        held = λ q e. omega arith;
        apart = λ g hg w.
            let r = c.rule5.in_range g hg in
            let z : g ≡ active s.shape = omega arith in
            other (omega (arith, ap (at s.shape.guests.current) z));
      }
    where
      own : at s.shape.pages.owner p ≡ owner_guest (active s.shape)
      own = (c.rule3.own (active s.shape) pa p c.rule10.guests.active ha registered).1

  given : Becomes s.shape.pages.free p (physicals * active s.shape + pa) owner_none kind_none 0 (marked s.shape.pages.free p)
  given =
      record {
        owner = omega arith;
        kind = omega arith;
        not_hosts = omega arith;
        ownerless = λ e. refl;
        guest = λ g e. absurd (omega arith);
        mark = ((λ e. refl), λ e. marked_same s.shape.pages.free p);
        marks = marked_other s.shape.pages.free p;
        map = marked_below s.shape.pages.free p pages c.rule10.pages.free hp;
        leads = λ q e. absurd (omega arith);
        own = λ g b hb w e. absurd (omega arith);
        reached = λ g e. absurd (omega arith);
      }

pub unpin_step_valid : {s : State} → Valid s → (pa p : ℕ) → pa < physicals → p < pages
    → at s.shape.pages.physical (physicals * active s.shape + pa) ≡ suc p → pa ≢ at s.shape.guests.current (active s.shape)
    → ((va : ℕ) → va < addresses → at s.shape.pages.entry (addresses * p + va) ≡ 0)
    → ((m va : ℕ) → Maps s.shape.pages.kind s.shape.pages.entry m va p → ⊥) → Valid (unpin_step s pa p)
unfolding unpin_step
unpin_step_valid v pa p ha hp e o b u = let c = core_of v in clear_valid (handed_valid v (given_idle c ha hp e o b u) (given c ha hp))
