-- What is asked of the guest that owns a page.
-- Assumes nothing.
use mathlib.Core.Path.{◌≡◌, sym, ap, ◌∙◌}
use mathlib.Core.Bool.{Bool, true, ◌||◌}
use Prim.Native.Nat.{ℕ, zero, suc, ◌<◌}
use native.Mathlib.Omega.{arith}
use lib.Dec.{eqb, leb}
use borrow.Author.Tests.{eq-eqb, ne_eqb, lt-leb, le-leb}
use Rattle.laws.specs.Choice.{◌⇒◌}
use Rattle.laws.specs.Search.{all_below}
use Rattle.laws.proofs.Cases.{split, same?, below?}
use Rattle.laws.proofs.Loops.{all_made, all_fails}
use Rattle.model.specs.Sizes.{guests}
use Rattle.model.specs.Names.{owner_guest}
use Rattle.std.specs.Prelude.{Option, Some, None}
use Rattle.numbers.specs.declared.Guest.{Guest}
use Rattle.places.specs.Places.{guest_of}

module _ (o : ℕ) (f : ℕ → Bool) where
  abbrev asked : ℕ → Bool
  asked g = eqb o (owner_guest g) ⇒ f g

  other : (g : ℕ) → (o ≡ owner_guest g → ⊥) → asked g ≡ true
  other g n = rw (ne_eqb o (owner_guest g) n)

  this : (g : ℕ) → o ≡ owner_guest g → asked g ≡ f g
  this g e = rw (eq-eqb o (owner_guest g) e)

  -- no guest owns it
  none_owns : ((g : ℕ) → g < guests → o ≡ owner_guest g → ⊥) → all_below guests asked ≡ true
  none_owns n = all_made asked guests (λ g h. other g (n g h))

  one_owns : (g : ℕ) → g < guests → o ≡ owner_guest g → all_below guests asked ≡ f g
  one_owns g h e =
      split (f g)
      (λ t. all_made asked guests (λ j k. same? j g (λ q. let z : o ≡ owner_guest j = omega arith in this j z ∙ ap f q ∙ t) (λ q. other j (λ z. q (omega arith)))) ∙ sym t)
      (λ t. all_fails asked guests g h (this g e ∙ t) ∙ sym t)

-- the test of the guest that owns it, if one does
abbrev pub of_owner : (ℕ → Bool) → Option Guest → Bool
of_owner f None = true
of_owner f (Some g) = leb guests g.0 || f g.0

pub owner_asked : (f : ℕ → Bool) (o : ℕ) → of_owner f (guest_of o) ≡ all_below guests (asked o f)
owner_asked f zero = sym (none_owns 0 f (λ g h e. omega arith))
owner_asked f (suc zero) = sym (none_owns 1 f (λ g h e. omega arith))
owner_asked f (suc (suc g)) =
    below? g guests
    (λ h. rw (lt-leb guests g h) (sym (one_owns (suc (suc g)) f g h (omega arith))))
    (λ h. rw (le-leb guests g h) (sym (none_owns (suc (suc g)) f (λ k l e. omega arith))))
