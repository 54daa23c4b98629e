-- A list after a store, and a list made place by place.
-- Assumes nothing.
use mathlib.Core.Path.{◌≡◌, refl, sym, ap, ◌∙◌, subst}
use mathlib.Core.Logic.{◌⊎◌, inl, inr, ◌≢◌}
use mathlib.Core.List.{List, [], ◌∷◌, ◌++◌}
use Prim.Native.Nat.{ℕ, zero, suc, ◌+◌, ◌≤◌, ◌<◌}
use native.Mathlib.Nat.{add-zero, add-suc, suc-add, zero-add}
use native.Mathlib.Omega.{arith}
use lib.ListN.{length, get_or, set, get_or-eq_default}
use lib.Seq.{get_or-set_same, get_or-set_other, set_out, ext_get_or}
use Rattle.laws.specs.Choice.{at}
use Rattle.laws.specs.Search.{list_from, list_of}
use Rattle.laws.proofs.Cases.{same?, below?}

-- ---- a store

pub at_past : (l : List ℕ) (i : ℕ) → length l ≤ i → at l i ≡ 0
at_past l i h = get_or-eq_default l 0 h

pub at_same : (l : List ℕ) (i v : ℕ) → i < length l → at (set l i v) i ≡ v
at_same l i v h = get_or-set_same l i v 0 h

pub at_other : (l : List ℕ) (i v j : ℕ) → j ≢ i → at (set l i v) j ≡ at l j
at_other l i v j n = get_or-set_other l i j v 0 n

-- to show a fact of a place after a store
pub at_set {ℓ} : (P : ℕ → Type ℓ) (l : List ℕ) (i v j : ℕ) → i < length l → (j ≡ i → P v) → (j ≢ i → P (at l j)) → P (at (set l i v) j)
at_set P l i v j h f g =
    same? j i (λ e. subst (λ (k : ℕ). P (at (set l i v) k)) (sym e) (subst P (sym (at_same l i v h)) (f e)))
    (λ n. subst P (sym (at_other l i v j n)) (g n))

-- to use a fact of a place after a store
pub set_at : (l : List ℕ) (i v j x : ℕ) → i < length l → at (set l i v) j ≡ x → ((j ≡ i) × (v ≡ x)) ⊎ ((j ≢ i) × (at l j ≡ x))
set_at l i v j x h e =
    same? j i (λ q. inl (q, sym (at_same l i v h) ∙ ap (at (set l i v)) (sym q) ∙ e)) (λ n. inr (n, sym (at_other l i v j n) ∙ e))

-- a fact of both the stored number and the old one holds after the store, wherever it went
pub at_any {ℓ} : (P : ℕ → Type ℓ) (l : List ℕ) (i v j : ℕ) → P v → P (at l j) → P (at (set l i v) j)
at_any P l i v j f g =
    below? i (length l) (λ h. at_set P l i v j h (λ e. f) (λ n. g)) (λ h. subst (λ (m : List ℕ). P (at m j)) (sym (set_out l i v h)) g)

-- what stands at a place that is not empty was stored there, or stood there before, wherever the store went
pub set_at' : (l : List ℕ) (i v j p : ℕ) → at (set l i v) j ≡ suc p → ((j ≡ i) × (v ≡ suc p)) ⊎ ((j ≢ i) × (at l j ≡ suc p))
set_at' l i v j p e =
    below? i (length l) (λ h. set_at l i v j (suc p) h e)
    (λ h.
    let k : at l j ≡ suc p = subst (λ (m : List ℕ). at m j ≡ suc p) (set_out l i v h) e in
    inr ((λ q. let z : at l j ≡ 0 = at_past l j (omega arith) in omega arith), k))

-- ---- a list made place by place

module _ {ℓ} {A : Type ℓ} where
  pub length_list_from : (n i : ℕ) (f : ℕ → A) → length (list_from n i f) ≡ n
  unfolding list_from
  length_list_from zero i f = refl
  length_list_from (suc n) i f = ap suc (length_list_from n (suc i) f)

  get_or_list_from : (n i j : ℕ) (f : ℕ → A) (d : A) → j < n → get_or (list_from n i f) j d ≡ f (i + j)
  unfolding list_from
  get_or_list_from zero i j f d h = absurd (omega arith)
  get_or_list_from (suc n) i zero f d h = ap f (sym (add-zero i))
  get_or_list_from (suc n) i (suc j) f d h = get_or_list_from n (suc i) j f d (omega arith) ∙ ap f (suc-add i j ∙ sym (add-suc i j))

  pub length_list_of : (n : ℕ) (f : ℕ → A) → length (list_of n f) ≡ n
  length_list_of n f = length_list_from n 0 f

  pub get_or_list_of : (n : ℕ) (f : ℕ → A) (d : A) (j : ℕ) → j < n → get_or (list_of n f) j d ≡ f j
  get_or_list_of n f d j h = get_or_list_from n 0 j f d h ∙ ap f (zero-add j)

  -- the first m places and the n after them
  pub list_from_append : (m n i : ℕ) (f : ℕ → A) → list_from (m + n) i f ≡ list_from m i f ++ list_from n (i + m) f
  unfolding list_from
  list_from_append zero n i f = ap (λ (k : ℕ). list_from k i f) (zero-add n) ∙ ap (λ (k : ℕ). list_from n k f) (sym (add-zero i))
  list_from_append (suc m) n i f =
      ap (λ (k : ℕ). list_from k i f) (suc-add m n)
      ∙ ap (λ (l : List A). f i ∷ l)
      (list_from_append m n (suc i) f ∙ ap (λ (k : ℕ). list_from m (suc i) f ++ list_from n k f) (suc-add i m ∙ sym (add-suc i m)))

  pub list_from_shift : (n i : ℕ) (f : ℕ → A) → list_from n (suc i) f ≡ list_from n i (λ k. f (suc k))
  unfolding list_from
  list_from_shift zero i f = refl
  list_from_shift (suc n) i f = ap (λ (l : List A). f (suc i) ∷ l) (list_from_shift n (suc i) f)

  pub list_of_more : (n : ℕ) (f : ℕ → A) → list_of (suc n) f ≡ list_of n f ++ f n ∷ []
  unfolding list_from
  list_of_more n f =
      let e : suc n ≡ n + 1 = omega arith in
      ap (λ (k : ℕ). list_of k f) e ∙ list_from_append n 1 0 f ∙ ap (λ (k : ℕ). list_of n f ++ f k ∷ []) (zero-add n)

  pub list_of_same : (n : ℕ) {f g : ℕ → A} (d : A) → ((i : ℕ) → i < n → f i ≡ g i) → list_of n f ≡ list_of n g
  list_of_same n {f} {g} d h =
      ext_get_or d (list_of n f) (list_of n g) (length_list_of n f ∙ sym (length_list_of n g))
      (λ i k. let l : i < n = omega (arith, length_list_of n f) in get_or_list_of n f d i l ∙ h i l ∙ sym (get_or_list_of n g d i l))

-- ---- a list filled from its start on

-- one place more is stored
pub filled_more : (f : ℕ → ℕ) (xs : List ℕ) (i v : ℕ) → i < length xs → v ≡ f i → ((j : ℕ) → j < i → at xs j ≡ f j)
    → (j : ℕ) → j < i + 1 → at (set xs i v) j ≡ f j
filled_more f xs i v h e before j k = at_set (λ x. x ≡ f j) xs i v j h (λ q. e ∙ ap f (sym q)) (λ n. before j (omega arith))
