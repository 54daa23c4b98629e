-- What code finds by a chain, in a list or among numbers, as a search.
-- Assumes nothing.
use mathlib.Core.Path.{◌≡◌, refl, sym, ap, ◌∙◌, subst}
use mathlib.Core.Bool.{Bool, true, false, true≢false, cond}
use mathlib.Core.List.{List, ◌∷◌}
use Prim.Native.Nat.{ℕ, zero, suc, ◌+◌, ◌≤◌, ◌<◌}
use native.Mathlib.Numerals.{add-one}
use native.Mathlib.Omega.{arith}
use lib.Dec.{ltb}
use lib.ListN.{length, get_or}
use borrow.Author.Tests.{ltb-true, lt-ltb, le-ltb}
use Rattle.std.specs.Prelude.{Option, Some, None}
use Rattle.std.specs.Option.{unwrap_or}
use Rattle.std.specs.List.{find, position_or_len, range_with_len}
use Rattle.std.proofs.lemmas.List.Recursion.{is_position_or_len}
use Rattle.laws.specs.Choice.{pick}
use Rattle.laws.specs.Search.{first_from, first_below}
use Rattle.laws.proofs.Cases.{below?}
use Rattle.model.specs.Sizes.{pages}
use Rattle.model.specs.State.{is_page}
use Rattle.numbers.specs.declared.Ma.{Ma}
use Rattle.numbers.specs.Lead.{ma, toward}
use Rattle.cache.specs.Sets.{if_below}

-- ---- in a list

-- a search from the next number on
first_next : (n i : ℕ) (f : ℕ → Bool) → first_from n (suc i) f ≡ suc (first_from n i (λ j. f (suc j)))
unfolding first_from
first_next zero i f = refl
first_next (suc n) i f = go (f (suc i)) (first_next n (suc i) f)
  where
    go : (b : Bool) → first_from n (suc (suc i)) f ≡ suc (first_from n (suc i) (λ j. f (suc j)))
        → elim b [ true ↦ suc i | false ↦ first_from n (suc (suc i)) f ] ≡ suc (elim b [ true ↦ i | false ↦ first_from n (suc i) (λ j. f (suc j)) ])
    go true e = refl
    go false e = e

module _ {A : Type 0} (test : A → Bool) (d : A) where
  first_in : (x : A) (l : List A) → first_below (length (x ∷ l)) (λ j. test (get_or (x ∷ l) j d)) ≡ cond (test x) 0 (1 + first_below (length l) (λ j. test (get_or l j d)))
  unfolding first_from
  first_in x l = go (test x) (first_next (length l) 0 (λ j. test (get_or (x ∷ l) j d)))
    where
      go : (b : Bool) → first_from (length l) 1 (λ j. test (get_or (x ∷ l) j d)) ≡ suc (first_below (length l) (λ j. test (get_or l j d)))
          → elim b [ true ↦ 0 | false ↦ first_from (length l) 1 (λ j. test (get_or (x ∷ l) j d)) ] ≡ cond b 0 (1 + first_below (length l) (λ j. test (get_or l j d)))
      go true e = refl
      go false e = e ∙ omega arith

  first_place : (l : List A) → first_below (length l) (λ j. test (get_or l j d)) ≡ position_or_len test l
  unfolding first_from
  first_place = is_position_or_len (λ l. first_below (length l) (λ j. test (get_or l j d))) test refl first_in

  pub position_below : (l : List A) (n : ℕ) → length l ≡ n
      → cond (ltb (position_or_len test l) (length l)) (Some (position_or_len test l)) None ≡ if_below n (first_below n (λ j. test (get_or l j d)))
  position_below l n e =
      let p = position_or_len test l in
      let q : p ≡ first_below n (λ j. test (get_or l j d)) = sym (first_place l) ∙ ap (λ (k : ℕ). first_below k (λ j. test (get_or l j d))) e in
      same (ltb p (length l)) (Some p) ∙ (λ i. pick (ltb (q i) (e i)) (Some (q i)) None)
    where
      same : (b : Bool) (x : Option ℕ) → cond b x None ≡ pick b x None
      same true x = refl
      same false x = refl

-- ---- among numbers

module _ (f : ℕ → Bool) where
  find_from : (n i : ℕ) → find f (range_with_len i n) ≡ if_below (i + n) (first_from n i f)
  unfolding first_from
  find_from zero i = sym (rw (le-ltb i (i + 0) (omega arith)))
  find_from (suc n) i = go (f i) (subst (λ (k : ℕ). find f (range_with_len (i + 1) n) ≡ if_below (k + n) (first_from n k f)) (add-one i) (find_from n (i + 1)))
    where
      go : (b : Bool) → find f (range_with_len (i + 1) n) ≡ if_below (suc i + n) (first_from n (suc i) f)
          → cond b (Some i) (find f (range_with_len (i + 1) n)) ≡ if_below (i + suc n) (elim b [ true ↦ i | false ↦ first_from n (suc i) f ])
      go true w = sym (rw (lt-ltb i (i + suc n) (omega arith)))
      go false w =
          let e : suc i + n ≡ i + suc n = omega arith in
          w ∙ ap (λ (k : ℕ). if_below k (first_from n (suc i) f)) e

  pub find_below : (n : ℕ) → find f (range_with_len 0 n) ≡ if_below n (first_below n f)
  find_below n =
      let e : 0 + n ≡ n = omega arith in
      find_from n 0 ∙ ap (λ (k : ℕ). if_below k (first_from n 0 f)) e

-- ---- what an answer says of what is found

module _ {A : Type 0} where
  pub picked_some : (b : Bool) (x y : A) → Some y ≡ pick b (Some x) None → (b ≡ true) × (y ≡ x)
  picked_some true x y e = (refl, cc)
  picked_some false x y e = absurd cc

  pub picked_none : (b : Bool) (x : A) → None ≡ pick b (Some x) None → b ≡ false
  picked_none true x e = cc
  picked_none false x e = refl

pub below_some : (n i w : ℕ) → Some w ≡ if_below n i → (w ≡ i) × (w < n)
below_some n i w e =
    let d = picked_some (ltb i n) i w e in
    let l = ltb-true i n d.0 in
    (d.1, omega (arith, d.1))

pub below_none : (n i : ℕ) → None ≡ if_below n i → n ≤ i
below_none n i e = below? i n (λ h. absurd (true≢false (sym (lt-ltb i n h) ∙ picked_none (ltb i n) i e))) (λ h. h)

pub below_else : (n i d : ℕ) → unwrap_or (if_below n i) d ≡ pick (ltb i n) i d
below_else n i d = below? i n (λ h. rw (lt-ltb i n h)) (λ h. rw (le-ltb i n h))

pub at_page : (p : ℕ) (q : Ma) → Some q ≡ toward p → (p < pages) × (q.0 ≡ p)
at_page p q e =
    let d = picked_some (is_page p) (ma p) q e in
    (ltb-true p pages d.0, ap (λ (x : Ma). x.0) d.1)
