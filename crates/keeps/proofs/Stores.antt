-- What a store of a number keeps: sizes, ranges, zeros in empty places, and rule 2, where the mark or the value of a page changes.
-- Assumes nothing.
use mathlib.Core.Path.{◌≡◌, refl, sym, ap, ◌∙◌}
use mathlib.Core.Logic.{◌≢◌, ⊎_elim}
use mathlib.Core.List.{List}
use Prim.Native.Nat.{ℕ, zero, suc, ◌<◌}
use native.Mathlib.Omega.{arith}
use lib.ListN.{length, set, length-set}
use Rattle.laws.specs.Choice.{at}
use Rattle.laws.proofs.Cases.{same?, below?}
use Rattle.laws.proofs.Lists.{at_past, at_same, at_other, at_any, set_at'}
use Rattle.model.specs.Sizes.{pages, value_bound}
use Rattle.model.specs.Names.{owner_guest}
use Rattle.model.specs.State.{Shape, State}
use Rattle.model.specs.Rules.{Below, Rule2}
use Rattle.keeps.proofs.Core.{Core, GuestData}
use Rattle.keeps.proofs.Parts.{PagesPart}

pub size_set : (l : List ℕ) {n : ℕ} (i x : ℕ) → length l ≡ n → length (set l i x) ≡ n
size_set l i x e = length-set l i x ∙ e

pub below_set : (l : List ℕ) {n b : ℕ} (i x : ℕ) → x < b → Below l n b → Below (set l i x) n b
below_set l {b = b} i x h v j hj = at_any (λ (y : ℕ). y < b) l i x j h (v j hj)

-- a store of what stands there already changes nothing
pub same_set : (l : List ℕ) (i x j : ℕ) → (j ≡ i → x ≡ at l j) → at (set l i x) j ≡ at l j
same_set l i x j h = same? j i (λ e. at_any (λ (y : ℕ). y ≡ at l j) l i x j (h e) refl) (at_other l i x j)

-- what is read anywhere is in range, for past its end a list reads 0
pub below_any : (l : List ℕ) {n b : ℕ} → length l ≡ n → 0 < b → Below l n b → (i : ℕ) → at l i < b
below_any l {n} e z v i = below? i n (λ h. v i h) (λ h. let y = at_past l i (omega arith) in omega arith)

-- a number that holds a page, if it holds any, is in range
pub below_held : (e : ℕ) → ((p : ℕ) → e ≡ suc p → p < pages) → e < suc pages
below_held zero f = omega arith
below_held (suc p) f = omega (arith, f p refl)

-- ---- lines and slots: a list of pages, and others beside it

-- where no page is, 0 stands beside it
pub zero_set : (page beside : List ℕ) {n : ℕ} (i e x : ℕ) → length page ≡ n → length beside ≡ n → (e ≡ 0 → x ≡ 0) → (j : ℕ) → j < n
    → (at page j ≡ 0 → at beside j ≡ 0) → at (set page i e) j ≡ 0 → at (set beside i x) j ≡ 0
zero_set page beside i e x lp lb z j hj h w =
    same? j i
    (λ q. ap (at (set beside i x)) q ∙ at_same beside i x (omega arith)
    ∙ z (sym (at_same page i e (omega arith)) ∙ ap (at (set page i e)) (sym q) ∙ w))
    (λ n. at_other beside i x j n ∙ h (sym (at_other page i e j n) ∙ w))

-- the page that place j holds is stored now, or was there before, each with the address beside it
pub stored? {ℓ} : {P : Type ℓ} (address page : List ℕ) (i va e j p : ℕ) → at (set page i e) j ≡ suc p
    → (j ≡ i → e ≡ suc p → (i < length address → at (set address i va) j ≡ va) → P)
    → (j ≢ i → at page j ≡ suc p → at (set address i va) j ≡ at address j → P) → P
stored? address page i va e j p w f g =
    ⊎_elim (λ z. f z.0 z.1 (λ h. ap (at (set address i va)) z.0 ∙ at_same address i va h))
    (λ z. g z.0 z.1 (at_other address i va j z.0)) (set_at' page i e j p w)

-- a place that is not empty after another was emptied is as it was
pub left : (address page : List ℕ) (i j p : ℕ) → at (set page i 0) j ≡ suc p
    → (j ≢ i) × (at page j ≡ suc p) × (at (set address i 0) j ≡ at address j)
left address page i j p w = stored? address page i 0 0 j p w (λ _ z _. absurd (omega arith)) (λ n z a. (n, z, a))

-- ---- the mark and the value of a page

-- They may change if it is a data page of a guest; where there is no page, nothing changes.
pub rule2_page : {h : Shape} {mark value : List ℕ} {free : ℕ} (q : ℕ) {mark' value' : List ℕ} → (q < pages → GuestData h q)
    → ((p : ℕ) → p ≢ q → at mark' p ≡ at mark p) → ((p : ℕ) → p ≢ q → at value' p ≡ at value p)
    → Rule2 h.pages.owner h.pages.kind mark value free → Rule2 h.pages.owner h.pages.kind mark' value' free
rule2_page {h} q guest m v r =
    record {
      hosts = r.hosts;
      host = λ p hp e. let z = r.host p hp e in let n = owned p hp (omega arith) in (z.0, m p n ∙ z.1, v p n ∙ z.2);
      ownerless = λ p hp e. let z = r.ownerless p hp e in let n = owned p hp (omega arith) in (z.0, m p n ∙ z.1, v p n ∙ z.2);
      map = r.map;
      guest = r.guest;
      tables = λ p hp e.
          let z = r.tables p hp e in
          let n : p ≢ q = λ w. let d = (guest (omega arith)).is_data in omega (arith, ap (at h.pages.kind) w) in
          (m p n ∙ z.0, v p n ∙ z.1);
    }
  where
    owned : (p : ℕ) → p < pages → at h.pages.owner p < owner_guest 0 → p ≢ q
    owned p hp l w = let d = guest (omega arith) in omega (arith, ap (at h.pages.owner) w, d.owned)

pub memory_part : {s : State} → Core s → (q x : ℕ) → (q < pages → GuestData s.shape q) → x < value_bound
    → PagesPart s.shape.pages (set s.values.memory q x)
memory_part {s} c q x d hx =
    record {
      owner = c.sized.owner;
      kind = c.sized.kind;
      cacheable = c.sized.cacheable;
      entry = c.sized.entry;
      physical = c.sized.physical;
      value = size_set s.values.memory q x c.sized.memory;
      rule2 = rule2_page q d (λ p n. refl) (at_other s.values.memory q x) c.rule2;
      rule3 = c.rule3;
      rule4 = c.rule4;
      rule6 = c.rule6;
      ranges = c.rule10.pages;
      values = below_set s.values.memory q x hx c.rule10.values.memory;
    }
