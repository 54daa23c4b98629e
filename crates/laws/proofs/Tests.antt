-- Tests that pass exactly if a statement holds, put together from their parts.
-- Assumes nothing.
use mathlib.Core.Path.{◌≡◌, refl, sym, ◌∙◌}
use mathlib.Core.Bool.{Bool, true, false, ◌&&◌, ◌||◌, not, beq, true≢false, false≢true}
use mathlib.Core.Logic.{◌⊎◌, inl, inr, ◌↔◌, ⊎_elim}
use Prim.Native.Nat.{ℕ, ◌≤◌, ◌<◌}
use lib.Dec.{ltb, leb, eqb}
use borrow.Author.Tests.{eqb-true, eq-eqb, ltb-true, lt-ltb, leb-true, le-leb}
use Rattle.laws.specs.Choice.{pick, ◌⇒◌, ◌⇔◌}

pub eq⇔ : (a b : ℕ) → eqb a b ⇔ (a ≡ b)
eq⇔ a b = (eqb-true a b, eq-eqb a b)

pub lt⇔ : (a b : ℕ) → ltb a b ⇔ (a < b)
lt⇔ a b = (ltb-true a b, lt-ltb a b)

pub le⇔ : (a b : ℕ) → leb a b ⇔ (a ≤ b)
le⇔ a b = (leb-true a b, le-leb a b)

pub true⇔ : (b : Bool) → b ⇔ (b ≡ true)
true⇔ b = ((λ e. e), λ e. e)

pub false⇔ : (b : Bool) → not b ⇔ (b ≡ false)
false⇔ true = ((λ e. absurd (false≢true e)), λ e. absurd (true≢false e))
false⇔ false = ((λ e. refl), λ e. refl)

pub and⇔ {ℓ κ} : {b c : Bool} {P : Type ℓ} {Q : Type κ} → b ⇔ P → c ⇔ Q → (b && c) ⇔ (P × Q)
and⇔ {b = true} h k = ((λ e. (h.0 refl, k.0 e)), λ e. k.1 e.1)
and⇔ {b = false} h k = ((λ e. absurd (false≢true e)), λ e. h.1 e.0)

-- the second test means its statement only where the first holds
pub then⇔ {ℓ κ} : {b c : Bool} {P : Type ℓ} {Q : Type κ} → b ⇔ P → (P → c ⇔ Q) → (b && c) ⇔ (P × Q)
then⇔ {b = true} h k = ((λ e. (h.0 refl, (k (h.0 refl)).0 e)), λ e. (k e.0).1 e.1)
then⇔ {b = false} h k = ((λ e. absurd (false≢true e)), λ e. h.1 e.0)

pub or⇔ {ℓ κ} : {b c : Bool} {P : Type ℓ} {Q : Type κ} → b ⇔ P → c ⇔ Q → (b || c) ⇔ (P ⊎ Q)
or⇔ {b = true} h k = ((λ e. inl (h.0 refl)), λ e. refl)
or⇔ {b = false} h k = ((λ e. inr (k.0 e)), λ e. ⊎_elim (λ p. absurd (false≢true (h.1 p))) k.1 e)

pub imp⇔ {ℓ κ} : {b c : Bool} {P : Type ℓ} {Q : Type κ} → b ⇔ P → c ⇔ Q → (b ⇒ c) ⇔ (P → Q)
imp⇔ {b = true} h k = ((λ e p. k.0 e), λ f. k.1 (f (h.0 refl)))
imp⇔ {b = false} h k = ((λ e p. absurd (false≢true (h.1 p))), λ f. refl)

pub not⇔ {ℓ} : {b : Bool} {P : Type ℓ} → b ⇔ P → not b ⇔ (P → ⊥)
not⇔ {b = true} h = ((λ e. absurd (false≢true e)), λ f. absurd (f (h.0 refl)))
not⇔ {b = false} h = ((λ e p. false≢true (h.1 p)), λ f. refl)

pub same⇔ {ℓ κ} : {b c : Bool} {P : Type ℓ} {Q : Type κ} → b ⇔ P → c ⇔ Q → beq b c ⇔ (P ↔ Q)
same⇔ {b = true} {c = true} h k = ((λ e. ((λ p. k.0 refl), λ q. h.0 refl)), λ e. refl)
same⇔ {b = true} {c = false} h k = ((λ e. absurd (false≢true e)), λ e. k.1 (e.0 (h.0 refl)))
same⇔ {b = false} {c = true} h k = ((λ e. absurd (false≢true e)), λ e. h.1 (e.1 (k.0 refl)))
same⇔ {b = false} {c = false} h k = ((λ e. ((λ p. absurd (false≢true (h.1 p))), λ q. absurd (false≢true (k.1 q)))), λ e. refl)

pub pick⇔ {ℓ κ μ} : {b c d : Bool} {P : Type ℓ} {Q : Type κ} {R : Type μ} → b ⇔ P → c ⇔ Q → d ⇔ R → pick b c d ⇔ ((P → Q) × ((P → ⊥) → R))
pick⇔ {b = true} h k l = ((λ e. ((λ p. k.0 e), λ n. absurd (n (h.0 refl)))), λ f. k.1 (f.0 (h.0 refl)))
pick⇔ {b = false} h k l = ((λ e. ((λ p. absurd (false≢true (h.1 p))), λ n. l.0 e)), λ f. l.1 (f.1 (λ p. false≢true (h.1 p))))

-- the same test of a statement put in other words
pub as⇔ {ℓ κ} : {b : Bool} {P : Type ℓ} {Q : Type κ} → b ⇔ P → (P → Q) → (Q → P) → b ⇔ Q
as⇔ h f g = ((λ e. f (h.0 e)), λ q. h.1 (g q))

-- what a test that fails says
pub fails {ℓ} : {b : Bool} {P : Type ℓ} → b ⇔ P → b ≡ false → P → ⊥
fails h e p = true≢false (sym (h.1 p) ∙ e)

pub not_so {ℓ} : {b : Bool} {P : Type ℓ} → b ⇔ P → (P → ⊥) → b ≡ false
not_so {b = true} h n = absurd (n (h.0 refl))
not_so {b = false} h n = refl

-- two tests of equivalent statements
pub same_test {ℓ κ} : {b c : Bool} {P : Type ℓ} {Q : Type κ} → b ⇔ P → c ⇔ Q → (P → Q) → (Q → P) → b ≡ c
same_test {b = true} h k f g = sym (k.1 (f (h.0 refl)))
same_test {b = false} h k f g = sym (not_so k (λ q. false≢true (h.1 (g q))))

-- and of one
pub agree {ℓ} : {b c : Bool} {P : Type ℓ} → b ⇔ P → c ⇔ P → b ≡ c
agree h k = same_test h k (λ p. p) (λ p. p)
