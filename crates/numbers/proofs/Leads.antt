-- To what a place leads, case by case.
-- Assumes nothing.
use mathlib.Core.Path.{◌≡◌, sym, ap, ◌∙◌}
use mathlib.Core.Bool.{◌&&◌}
use Prim.Native.Nat.{ℕ, zero, suc, ◌+◌, ◌-◌, ◌≤◌, ◌<◌}
use native.Mathlib.Omega.{arith}
use native.Mathlib.Numerals.{add-one}
use lib.Dec.{eqb}
use borrow.Author.Tests.{lt-ltb, le-ltb, eq-eqb, ne_eqb}
use Rattle.laws.proofs.Cases.{split, same?, below?}
use Rattle.model.specs.Sizes.{pages}
use Rattle.model.specs.State.{lead, nowhere, is_page}
use Rattle.model.proofs.RuleTests.{lead_page, lead_past}
use Rattle.numbers.specs.declared.Ma.{Ma}
use Rattle.std.specs.Prelude.{Option}
use Rattle.std.specs.Prelude.{Some, None}
use Rattle.numbers.specs.Lead.{ma, toward, lead_of, held_of, place_of, leads_at}

pub toward_page : (p : ℕ) → p < pages → toward p ≡ Some (ma p)
toward_page p h = rw (lt-ltb p pages h)

pub toward_none : (p : ℕ) → pages ≤ p → toward p ≡ None
toward_none p h = rw (le-ltb p pages h)

pub leads_none : (e : ℕ) → e ≡ 0 → None ≡ lead_of e
leads_none e q = sym (ap lead_of q)

pub leads_page : (e : ℕ) → 0 < e → e ≤ pages → Some (ma (e - 1)) ≡ lead_of e
leads_page e h l =
    let q : e ≡ suc (e - 1) = omega arith in
    sym (ap lead_of q ∙ ap toward (lead_page (e - 1) (omega arith)) ∙ toward_page (e - 1) (omega arith))

pub leads_past : (e : ℕ) → pages < e → None ≡ lead_of e
leads_past e h =
    let q : e ≡ suc (e - 1) = omega arith in
    sym (ap lead_of q ∙ ap toward (lead_past (e - 1) (omega arith)) ∙ toward_none pages (omega arith))

-- what is stored for a lead
pub holds_page : (l : Option Ma) (p : Ma) → l ≡ Some p → p.0 < pages → p.0 + 1 ≡ held_of l
holds_page l p e h = add-one p.0 ∙ sym (ap held_of e ∙ rw (lt-ltb p.0 pages h))

pub holds_none : (l : Option Ma) (p : Ma) → l ≡ Some p → pages ≤ p.0 → 0 ≡ held_of l
holds_none l p e h = sym (ap held_of e ∙ rw (le-ltb p.0 pages h))

-- ---- as the model's number

pub lead_le : (e : ℕ) → lead e ≤ nowhere
lead_le zero = omega arith
lead_le (suc p) = below? p pages (λ h. omega (arith, lead_page p h)) (λ h. omega (arith, lead_past p h))

pub place_toward : (n : ℕ) → n ≤ nowhere → place_of (toward n) ≡ n
place_toward n h = below? n pages (λ b. ap place_of (toward_page n b)) (λ b. ap place_of (toward_none n b) ∙ omega arith)

pub place_lead : (e : ℕ) → place_of (lead_of e) ≡ lead e
place_lead e = place_toward (lead e) (lead_le e)

-- ---- a place leads to page p if it holds p plus one

pub leads_is : (e p : ℕ) → leads_at (lead_of e) p ≡ (is_page p && eqb e (suc p))
leads_is zero p = split (is_page p) (λ t. rw (t, ne_eqb 0 (suc p) (λ q. omega arith))) (λ t. rw t)
leads_is (suc q) p =
    below? q pages
    (λ h. rw (lt-ltb q pages h, lt-ltb q pages h) (same? q p
    (λ e. let z : p < pages = omega arith in rw (eq-eqb q p e, eq-eqb (suc q) (suc p) (omega arith), lt-ltb p pages z))
    (λ n. rw (ne_eqb q p n, ne_eqb (suc q) (suc p) (λ e. n (omega arith))) (split (is_page p) (λ t. rw t) (λ t. rw t)))))
    (λ h. rw (le-ltb q pages h) (below? p pages (λ w. rw (lt-ltb p pages w, ne_eqb (suc q) (suc p) (λ e. omega arith))) (λ w. rw (le-ltb p pages w))))

pub leads_at_law : (e p : ℕ) → p < pages → leads_at (lead_of e) p ≡ eqb e (suc p)
leads_at_law e p h = leads_is e p ∙ rw (lt-ltb p pages h)
