-- A flat list as rows of the same width: the place of a row and a column, and back.
-- Assumes nothing.
use mathlib.Core.Path.{◌≡◌, sym, ap, ◌∙◌, subst}
use mathlib.Core.Bool.{Bool}
use mathlib.Core.List.{List}
use Prim.Native.Nat.{ℕ, suc, ◌+◌, ◌*◌, ◌/◌, ◌%◌, ◌≤◌, ◌<◌}
use native.Mathlib.Nat.{add-zero, mul_comm, div-add-mod, mul-add-div, mul-add-mod_self_left, mod-eq_of_lt, mod-lt, div-eq_of_lt, div-lt_iff_lt-mul, mul-le-mul_left, mul-suc}
use native.Mathlib.Omega.{arith}
use lib.ListN.{length}
use Rattle.laws.specs.Choice.{at, ◌⇔◌}
use Rattle.laws.specs.Search.{some_in, all_in}
use Rattle.laws.proofs.Tests.{as⇔}
use Rattle.laws.proofs.Search.{some_in⇔, all_in⇔}

module _ (w : ℕ) (pos : 0 < w) where
  pub row_of_law : (r c : ℕ) → c < w → (w * r + c) / w ≡ r
  row_of_law r c h = mul-add-div pos r c ∙ ap (λ (x : ℕ). r + x) (div-eq_of_lt h) ∙ add-zero r

  pub column_of : (r c : ℕ) → c < w → (w * r + c) % w ≡ c
  column_of r c h = mul-add-mod_self_left w r c ∙ mod-eq_of_lt h

  pub column_below : (i : ℕ) → i % w < w
  column_below i = mod-lt i pos

  pub row_below : (n i : ℕ) → i < n * w → i / w < n
  row_below n i h = (div-lt_iff_lt-mul pos).1 h

  pub place_of : (i : ℕ) → w * (i / w) + i % w ≡ i
  place_of i = div-add-mod i w

  pub place_below : (n r c : ℕ) → r < n → c < w → w * r + c < n * w
  place_below n r c h k =
      let a : w * suc r ≤ w * n = mul-le-mul_left w h in omega (arith, mul-suc w r, mul_comm n w)

  module _ {ℓ} (n : ℕ) (l : List ℕ) (size : length l ≡ n * w) (f : ℕ → ℕ → ℕ → Bool) {P : ℕ → ℕ → Type ℓ}
      (h : (r c : ℕ) → r < n → c < w → f r c (at l (w * r + c)) ⇔ P r c) where
    each : (i : ℕ) → i < length l → f (i / w) (i % w) (at l i) ⇔ P (i / w) (i % w)
    each i b = rw (place_of i) at (h (i / w) (i % w) (row_below n i (subst (λ (k : ℕ). i < k) size b)) (column_below i))

    pub all_grid⇔ : all_in (λ i x. f (i / w) (i % w) x) l ⇔ ((r c : ℕ) → r < n → c < w → P r c)
    all_grid⇔ =
        as⇔ (all_in⇔ (λ i x. f (i / w) (i % w) x) 0 l each)
        (λ g r c hr hc. rw (row_of_law r c hc, column_of r c hc) at (g (w * r + c) (subst (λ (k : ℕ). w * r + c < k) (sym size) (place_below n r c hr hc))))
        (λ g i b. g (i / w) (i % w) (row_below n i (subst (λ (k : ℕ). i < k) size b)) (column_below i))

    pub some_grid⇔ : some_in (λ i x. f (i / w) (i % w) x) l ⇔ ((r : ℕ) × (c : ℕ) × (r < n) × (c < w) × P r c)
    some_grid⇔ =
        as⇔ (some_in⇔ (λ i x. f (i / w) (i % w) x) 0 l each)
        (λ g. (g.0 / w, g.0 % w, row_below n g.0 (subst (λ (k : ℕ). g.0 < k) size g.1), column_below g.0, g.2))
        (λ g. (
          w * g.0 + g.1,
          subst (λ (k : ℕ). w * g.0 + g.1 < k) (sym size) (place_below n g.0 g.1 g.2 g.3),
          rw (row_of_law g.0 g.1 g.3, column_of g.0 g.1 g.3) g.4,
        ))
