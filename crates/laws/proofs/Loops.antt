-- Loops over numbers: whether each passes a test, or some does, one number more at a time.
-- Assumes nothing.
use mathlib.Core.Path.{◌≡◌, sym, ap, ◌∙◌, subst}
use mathlib.Core.List.{List}
use mathlib.Core.Bool.{Bool, true, false, ◌||◌, true≢false}
use mathlib.Core.Logic.{inl, inr, ⊎_elim}
use Prim.Native.Nat.{ℕ, ◌+◌, ◌<◌}
use native.Mathlib.Omega.{arith}
use lib.ListN.{length}
use Rattle.laws.specs.Choice.{at, ◌⇔◌}
use Rattle.laws.specs.Search.{all_below, some_below, all_in}
use Rattle.laws.proofs.Cases.{same?}
use Rattle.laws.proofs.Tests.{true⇔, or⇔, as⇔, not_so, agree}
use Rattle.laws.proofs.Search.{all⇔, some⇔, all_in⇔}

module _ (f : ℕ → Bool) where
  each : (n i : ℕ) → i < n → f i ⇔ (f i ≡ true)
  each n i h = true⇔ (f i)

  -- ---- each passes

  pub all_made : (n : ℕ) → ((i : ℕ) → i < n → f i ≡ true) → all_below n f ≡ true
  all_made n h = (all⇔ n (each n)).1 h

  pub all_holds : (n : ℕ) → all_below n f ≡ true → (i : ℕ) → i < n → f i ≡ true
  all_holds n e = (all⇔ n (each n)).0 e

  pub all_none : all_below 0 f ≡ true
  all_none = all_made 0 (λ i h. absurd (omega arith))

  pub all_more : (n : ℕ) → all_below n f ≡ true → f n ≡ true → all_below (n + 1) f ≡ true
  all_more n e p = all_made (n + 1) (λ i h. same? i n (λ q. ap f q ∙ p) (λ q. all_holds n e i (omega arith)))

  pub all_fails : (n i : ℕ) → i < n → f i ≡ false → all_below n f ≡ false
  all_fails n i h e = not_so (all⇔ n (each n)) (λ w. true≢false (sym (w i h) ∙ e))

  -- ---- some passes

  pub some_none : some_below 0 f ≡ false
  some_none = not_so (some⇔ 0 (each 0)) (λ w. omega (arith, w.1))

  pub some_found : (n i : ℕ) → i < n → f i ≡ true → some_below n f ≡ true
  some_found n i h e = (some⇔ n (each n)).1 (i, h, e)

  pub some_more : (n : ℕ) → some_below (n + 1) f ≡ (some_below n f || f n)
  some_more n =
      agree (some⇔ (n + 1) (each (n + 1)))
      (as⇔ (or⇔ (some⇔ n (each n)) (true⇔ (f n)))
      (λ w. ⊎_elim (λ x. (x.0, (omega (arith, x.1)), x.2)) (λ e. (n, (omega arith), e)) w)
      (λ w. same? w.0 n (λ q. inr (rw q at w.2)) (λ q. inl (w.0, (omega (arith, w.1)), w.2))))

  -- a loop that ends at the first that passes
  pub none_more : (n : ℕ) → some_below n f ≡ false → f n ≡ false → some_below (n + 1) f ≡ false
  none_more n e p = rw (some_more n, e, p)

  -- a loop that goes through all, and keeps whether one passed
  pub found_more : (n : ℕ) {x y z : Bool} → x ≡ some_below n f → y ≡ f n → z ≡ (x || y) → z ≡ some_below (n + 1) f
  found_more n {x} {y} {z} a b e = rw (some_more n, ← a, ← b) e

-- ---- two tests that agree below n

module _ (n : ℕ) {f g : ℕ → Bool} (same : (i : ℕ) → i < n → f i ≡ g i) where
  like : (i : ℕ) → i < n → g i ⇔ (f i ≡ true)
  like i l = ((λ e. same i l ∙ e), λ e. sym (same i l) ∙ e)

  pub all_same : all_below n f ≡ all_below n g
  all_same = agree (all⇔ n (each f n)) (all⇔ n like)

  pub some_same : some_below n f ≡ some_below n g
  some_same = agree (some⇔ n (each f n)) (some⇔ n like)

-- each place of a list of known length
pub all_places : (f : ℕ → ℕ → Bool) (l : List ℕ) (n : ℕ) → length l ≡ n → all_in f l ≡ all_below n (λ i. f i (at l i))
all_places f l n e =
    subst (λ (k : ℕ). all_in f l ≡ all_below k (λ i. f i (at l i))) e
    (agree (all_in⇔ f 0 l (λ i b. true⇔ (f i (at l i)))) (all⇔ (length l) (λ i b. true⇔ (f i (at l i)))))
