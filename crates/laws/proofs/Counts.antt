-- Counts and sums: one place changed, and numbers counted value by value.
-- Assumes nothing.
use mathlib.Core.Path.{◌≡◌, refl, sym, ap, ◌∙◌}
use mathlib.Core.Bool.{Bool}
use mathlib.Core.Logic.{◌≢◌}
use mathlib.Core.List.{List}
use Prim.Native.Nat.{ℕ, zero, suc, ◌+◌, ◌<◌}
use native.Mathlib.Omega.{arith}
use lib.Dec.{eqb}
use lib.ListN.{length, set}
use borrow.Author.Tests.{eq-eqb, ne_eqb}
use Rattle.laws.specs.Choice.{pick, at}
use Rattle.laws.specs.Search.{count_below, sum_below}
use Rattle.laws.proofs.Cases.{same?}
use Rattle.laws.proofs.Lists.{at_same, at_other}
use Rattle.laws.proofs.Search.{count_same}

-- ---- sums

pub sum_same : (n : ℕ) {f g : ℕ → ℕ} → ((i : ℕ) → i < n → f i ≡ g i) → sum_below n f ≡ sum_below n g
unfolding sum_below
sum_same zero h = refl
sum_same (suc n) {f} {g} h = rw (sum_same n {f = f} {g = g} (λ i l. h i (omega arith)), h n (omega arith))

-- a sum, the first number apart
pub sum_front : (n : ℕ) (f : ℕ → ℕ) → sum_below (suc n) f ≡ f 0 + sum_below n (λ i. f (suc i))
unfolding sum_below
sum_front zero f = omega arith
sum_front (suc n) f = let h = sum_front n f in omega arith

pub sum_add : (n : ℕ) (f g : ℕ → ℕ) → sum_below n (λ i. f i + g i) ≡ sum_below n f + sum_below n g
unfolding sum_below
sum_add zero f g = refl
sum_add (suc n) f g = let h = sum_add n f g in omega arith

pub sum_zero : (n : ℕ) (f : ℕ → ℕ) → ((i : ℕ) → i < n → f i ≡ 0) → sum_below n f ≡ 0
unfolding sum_below
sum_zero zero f h = refl
sum_zero (suc n) f h = let w = sum_zero n f (λ i l. h i (omega arith)) in let z = h n (omega arith) in omega arith

-- 1 at one number
sum_one : (n m : ℕ) → m < n → sum_below n (λ i. pick (eqb m i) 1 0) ≡ 1
unfolding sum_below
sum_one zero m h = absurd (omega arith)
sum_one (suc n) m h =
    same? m n
    (λ e.
    let z = sum_zero n (λ i. pick (eqb m i) 1 0) (λ i l. rw (ne_eqb m i (λ w. omega arith))) in
    rw (eq-eqb m n e) (omega arith))
    (λ d. let z = sum_one n m (omega arith) in rw (ne_eqb m n d) (omega arith))

-- ---- counts

-- numbers counted value by value are all counted
pub count_values : (n k : ℕ) (f : ℕ → ℕ) → ((i : ℕ) → i < n → f i < k) → sum_below k (λ v. count_below n (λ i. eqb (f i) v)) ≡ n
unfolding count_below
count_values zero k f h = sum_zero k (λ v. 0) (λ i l. refl)
count_values (suc n) k f h =
    let w = count_values n k f (λ i l. h i (omega arith)) in
    let z = sum_one k (f n) (h n (omega arith)) in
    sum_add k (λ v. count_below n (λ i. eqb (f i) v)) (λ v. pick (eqb (f n) v) 1 0) ∙ omega arith

-- two tests that agree below n but at i
pub count_but : (n : ℕ) (f g : ℕ → Bool) (i : ℕ) → i < n → ((j : ℕ) → j < n → j ≢ i → f j ≡ g j) → count_below n f + pick (g i) 1 0 ≡ count_below n g + pick (f i) 1 0
unfolding count_below
count_but zero f g i l h = absurd (omega arith)
count_but (suc n) f g i l h =
    same? i n
    (λ e.
    let w = count_same n {f = f} {g = g} (λ j b. h j (omega arith) (λ q. omega arith)) in
    rw (e, w) (omega arith))
    (λ d.
    let w = count_but n f g i (omega arith) (λ j b. h j (omega arith)) in
    rw (h n (omega arith) (λ q. d (sym q))) (omega arith))

-- how often x stands in a list after a store
pub count_set : (l : List ℕ) {n : ℕ} (i v x : ℕ) → i < n → length l ≡ n
    → count_below n (λ j. eqb (at (set l i v) j) x) + pick (eqb (at l i) x) 1 0 ≡ count_below n (λ j. eqb (at l j) x) + pick (eqb v x) 1 0
count_set l {n} i v x h size =
    rw (at_same l i v (omega arith)) at
    (count_but n (λ j. eqb (at (set l i v) j) x) (λ j. eqb (at l j) x) i h (λ j b d. ap (λ (y : ℕ). eqb y x) (at_other l i v j d)))
