-- A lead, and what the model reads where it was read.
-- Assumes nothing.
use mathlib.Core.Path.{◌≡◌, refl, sym, ap, ◌∙◌}
use mathlib.Core.Bool.{Bool, true, false, ◌&&◌, ◌||◌}
use Prim.Native.Nat.{ℕ, zero, suc, ◌≤◌, ◌<◌}
use native.Mathlib.Omega.{arith}
use lib.Dec.{ltb, eqb}
use borrow.Author.Tests.{lt-ltb, le-ltb, ne_eqb, eq-eqb}
use Rattle.laws.proofs.Cases.{same?, below?}
use Rattle.model.specs.Sizes.{pages}
use Rattle.model.specs.State.{lead, is_page}
use Rattle.model.specs.RuleTests.{leads_to}
use Rattle.model.proofs.RuleTests.{lead_page, lead_holds}
use Rattle.numbers.specs.declared.Ma.{Ma}
use Rattle.std.specs.Prelude.{Option}
use Rattle.std.specs.Prelude.{Some, None}
use Rattle.numbers.specs.Lead.{ma, lead_of, place_of}
use Rattle.numbers.proofs.Leads.{toward_page, toward_none, place_lead}
use Rattle.seek.specs.Leads.{placed}

-- ---- a lead to a page

module _ (e : ℕ) (q : Ma) (l : lead_of e ≡ Some q) where
  to_below : lead e < pages
  to_below = below? (lead e) pages (λ h. h) (λ h. let n : lead_of e ≡ None = toward_none (lead e) h in let z : ◌≡◌ {A = ℕ} 0 1 = cc in absurd (omega arith))

  to_lead : lead e ≡ q.0
  to_lead = sym (place_lead e) ∙ ap place_of l

  to_held : e ≡ suc q.0
  to_held = lead_holds e to_below ∙ ap suc to_lead

  leads_to_law : (t : ℕ → Bool) → leads_to e t ≡ t q.0
  leads_to_law t = onward (eqb e 0) (is_page (lead e)) (ne_eqb e 0 (λ z. omega (arith, to_held))) (lt-ltb (lead e) pages to_below) ∙ ap t to_lead
    where
      onward : (b c : Bool) → b ≡ false → c ≡ true → (b || (c && t (lead e))) ≡ t (lead e)
      onward b c f g = rw (f, g)

-- ---- a lead nowhere

module _ (e : ℕ) (l : lead_of e ≡ None) where
  no_page : pages ≤ lead e
  no_page = below? (lead e) pages (λ h. let n : lead_of e ≡ Some (ma (lead e)) = toward_page (lead e) h in let z : ◌≡◌ {A = ℕ} 0 1 = cc in absurd (omega arith)) (λ h. h)

  leads_nowhere_law : (t : ℕ → Bool) → leads_to e t ≡ eqb e 0
  leads_nowhere_law t = astray (eqb e 0) (is_page (lead e)) (le-ltb (lead e) pages no_page)
    where
      astray : (b c : Bool) → c ≡ false → (b || (c && t (lead e))) ≡ b
      astray true c f = refl
      astray false c f = rw f

-- ---- either

-- a page that is led to passes, or the place is empty
abbrev pub kept : (ℕ → Bool) → Bool → Option Ma → Bool
kept t empty (Some q) = t q.0
kept t empty None = empty

pub kept_is : (t : ℕ → Bool) (e : ℕ) → leads_to e t ≡ kept t (eqb e 0) (lead_of e)
kept_is t e =
    below? (lead e) pages
    (λ b. let l = toward_page (lead e) b in leads_to_law e (ma (lead e)) l t ∙ ap (kept t (eqb e 0)) (sym l))
    (λ b. let l = toward_none (lead e) b in leads_nowhere_law e l t ∙ ap (kept t (eqb e 0)) (sym l))

-- two tests that agree on every page
pub leads_same : (e : ℕ) {t u : ℕ → Bool} → ((p : ℕ) → p < pages → t p ≡ u p) → leads_to e t ≡ leads_to e u
leads_same e {t} {u} h =
    below? (lead e) pages (λ b. ap (λ (x : Bool). eqb e 0 || (is_page (lead e) && x)) (h (lead e) b))
    (λ b. let l : lead_of e ≡ None = toward_none (lead e) b in leads_nowhere_law e l t ∙ sym (leads_nowhere_law e l u))

-- a page or empty: the number is in range
pub placed_is : (e : ℕ) → placed (lead_of e) (eqb e 0) ≡ ltb e (suc pages)
placed_is e =
    below? (lead e) pages
    (λ b. let z : e ≡ suc (lead e) = lead_holds e b in ap (λ (k : Option Ma). placed k (eqb e 0)) (toward_page (lead e) b) ∙ sym (lt-ltb e (suc pages) (omega arith)))
    (λ b. ap (λ (k : Option Ma). placed k (eqb e 0)) (toward_none (lead e) b)
    ∙ same? e 0 (λ q. eq-eqb e 0 q ∙ sym (lt-ltb e (suc pages) (omega arith)))
    (λ q. ne_eqb e 0 q ∙ sym (le-ltb e (suc pages) (past e q b))))
  where
    past : (n : ℕ) → (n ≡ 0 → ⊥) → pages ≤ lead n → suc pages ≤ n
    past zero q b = absurd (q refl)
    past (suc p) q b = below? p pages (λ h. let z : lead (suc p) ≡ p = lead_page p h in absurd (omega arith)) (λ h. omega arith)
