-- Digits of a number after one is marked or unmarked, the lowest marked digit, and how many are marked.
-- Assumes nothing.
use mathlib.Core.Path.{◌≡◌, refl, sym, ap, ap₂, ◌∙◌}
use mathlib.Core.Bool.{false}
use mathlib.Core.Logic.{◌≢◌}
use Prim.Native.Nat.{ℕ, zero, suc, ◌+◌, ◌-◌, ◌/◌, ◌%◌, ◌^◌, ◌≤◌, ◌<◌}
use native.Mathlib.Nat.{pow-suc, mul_comm, div-one, div-div-eq-div-mul}
use native.Mathlib.Omega.{arith}
use lib.Dec.{eqb}
use lib.Count.{count_trailing_zeros, under, ones, ones_step, trailing_le}
use borrow.Author.Tests.{eqb-true, eqb-false, eq-eqb, ne_eqb}
use Rattle.laws.specs.Search.{first_below, count_below}
use Rattle.laws.specs.Bits.{bit, marks, marked, unmarked}
use Rattle.laws.proofs.Cases.{split, same?, below?}
use Rattle.laws.proofs.Search.{first_below_is, first_below_none, count_front, count_same}

-- ---- a digit, by the digits of the half

pub bit_zero : (m : ℕ) → bit m 0 ≡ m % 2
unfolding bit
bit_zero m = ap (λ (x : ℕ). x % 2) (div-one m)

pub bit_suc : (m p : ℕ) → bit m (suc p) ≡ bit (m / 2) p
unfolding bit
bit_suc m p =
    ap (λ (x : ℕ). x % 2) (ap (λ (x : ℕ). m / x) (pow-suc 2 p ∙ mul_comm (2 ^ p) 2) ∙ sym (div-div-eq-div-mul m 2 (2 ^ p)))

pub bit_two : (m p : ℕ) → bit m p < 2
unfolding bit
bit_two m p = omega arith

pub bit_le : (m p : ℕ) → bit m p ≡ 1 → 2 ^ p ≤ m
bit_le m zero e = omega (arith, bit_zero m)
bit_le m (suc p) e = let h : 2 ^ p ≤ m / 2 = bit_le (m / 2) p (sym (bit_suc m p) ∙ e) in omega (arith, pow-suc 2 p)

-- no digit past the number's length is marked
pub bit_past : (m p : ℕ) → m < 2 ^ p → bit m p ≡ 0
bit_past m p h =
    same? (bit m p) 1 (λ e. let k = bit_le m p e in absurd (omega arith)) (λ n. let k = bit_two m p in omega arith)

-- ---- one digit taken off, or put on

clear_same : (m p : ℕ) → bit m p ≡ 1 → bit (m - 2 ^ p) p ≡ 0
clear_same m zero e = omega (arith, bit_zero m, bit_zero (m - 1))
clear_same m (suc p) e =
    let k = sym (bit_suc m p) ∙ e in
    let h : 2 ^ p ≤ m / 2 = bit_le (m / 2) p k in
    let g : (m - 2 ^ suc p) / 2 ≡ m / 2 - 2 ^ p = omega (arith, pow-suc 2 p) in
    bit_suc (m - 2 ^ suc p) p ∙ ap (λ (x : ℕ). bit x p) g ∙ clear_same (m / 2) p k

clear_other : (m p q : ℕ) → bit m p ≡ 1 → q ≢ p → bit (m - 2 ^ p) q ≡ bit m q
clear_other m zero zero e n = absurd (n refl)
clear_other m zero (suc q) e n =
    let z = bit_zero m in
    let g : (m - 2 ^ 0) / 2 ≡ m / 2 = omega arith in
    bit_suc (m - 2 ^ 0) q ∙ ap (λ (x : ℕ). bit x q) g ∙ sym (bit_suc m q)
clear_other m (suc p) zero e n =
    let h : 2 ^ p ≤ m / 2 = bit_le (m / 2) p (sym (bit_suc m p) ∙ e) in omega (arith, pow-suc 2 p, bit_zero m, bit_zero (m - 2 ^ suc p))
clear_other m (suc p) (suc q) e n =
    let k = sym (bit_suc m p) ∙ e in
    let h : 2 ^ p ≤ m / 2 = bit_le (m / 2) p k in
    let g : (m - 2 ^ suc p) / 2 ≡ m / 2 - 2 ^ p = omega (arith, pow-suc 2 p) in
    bit_suc (m - 2 ^ suc p) q ∙ ap (λ (x : ℕ). bit x q) g ∙ clear_other (m / 2) p q k (λ w. n (ap suc w)) ∙ sym (bit_suc m q)

put_same : (m p : ℕ) → bit m p ≡ 0 → bit (m + 2 ^ p) p ≡ 1
put_same m zero e = omega (arith, bit_zero m, bit_zero (m + 1))
put_same m (suc p) e =
    let g : (m + 2 ^ suc p) / 2 ≡ m / 2 + 2 ^ p = omega (arith, pow-suc 2 p) in
    bit_suc (m + 2 ^ suc p) p ∙ ap (λ (x : ℕ). bit x p) g ∙ put_same (m / 2) p (sym (bit_suc m p) ∙ e)

put_other : (m p q : ℕ) → bit m p ≡ 0 → q ≢ p → bit (m + 2 ^ p) q ≡ bit m q
put_other m zero zero e n = absurd (n refl)
put_other m zero (suc q) e n =
    let z = bit_zero m in
    let g : (m + 2 ^ 0) / 2 ≡ m / 2 = omega arith in
    bit_suc (m + 2 ^ 0) q ∙ ap (λ (x : ℕ). bit x q) g ∙ sym (bit_suc m q)
put_other m (suc p) zero e n = omega (arith, pow-suc 2 p, bit_zero m, bit_zero (m + 2 ^ suc p))
put_other m (suc p) (suc q) e n =
    let g : (m + 2 ^ suc p) / 2 ≡ m / 2 + 2 ^ p = omega (arith, pow-suc 2 p) in
    bit_suc (m + 2 ^ suc p) q ∙ ap (λ (x : ℕ). bit x q) g ∙ put_other (m / 2) p q (sym (bit_suc m p) ∙ e) (λ w. n (ap suc w)) ∙ sym (bit_suc m q)

put_below : (m p k : ℕ) → bit m p ≡ 0 → m < 2 ^ k → p < k → m + 2 ^ p < 2 ^ k
put_below m p zero e h l = absurd (omega arith)
put_below m zero (suc k) e h l = omega (arith, pow-suc 2 k, bit_zero m)
put_below m (suc p) (suc k) e h l =
    let w = put_below (m / 2) p k (sym (bit_suc m p) ∙ e) (omega (arith, pow-suc 2 k)) (omega arith) in omega (arith, pow-suc 2 k, pow-suc 2 p)

-- ---- marked and unmarked, whatever stood there

not_one : (m p : ℕ) → marks m p ≡ false → bit m p ≡ 0
not_one m p e = let k = bit_two m p in let n = eqb-false (bit m p) 1 e in omega arith

pub marked_same : (m p : ℕ) → bit (marked m p) p ≡ 1
unfolding marked
marked_same m p = split (marks m p) (λ e. rw e (eqb-true (bit m p) 1 e)) (λ e. rw e (put_same m p (not_one m p e)))

pub marked_other : (m p q : ℕ) → q ≢ p → bit (marked m p) q ≡ bit m q
unfolding marked
marked_other m p q n = split (marks m p) (λ e. rw e) (λ e. rw e (put_other m p q (not_one m p e) n))

pub unmarked_same : (m p : ℕ) → bit (unmarked m p) p ≡ 0
unfolding unmarked
unmarked_same m p = split (marks m p) (λ e. rw e (clear_same m p (eqb-true (bit m p) 1 e))) (λ e. rw e (not_one m p e))

pub unmarked_other : (m p q : ℕ) → q ≢ p → bit (unmarked m p) q ≡ bit m q
unfolding unmarked
unmarked_other m p q n = split (marks m p) (λ e. rw e (clear_other m p q (eqb-true (bit m p) 1 e) n)) (λ e. rw e)

pub marked_below : (m p k : ℕ) → m < 2 ^ k → p < k → marked m p < 2 ^ k
unfolding marked
marked_below m p k h l = split (marks m p) (λ e. rw e h) (λ e. rw e (put_below m p k (not_one m p e) h l))

pub unmarked_below : (m p k : ℕ) → m < k → unmarked m p < k
unfolding unmarked
unmarked_below m p k h = split (marks m p) (λ e. rw e (omega arith)) (λ e. rw e h)

-- what code does where the mark is known
pub marked_new : (m p : ℕ) → bit m p ≡ 0 → marked m p ≡ m + 2 ^ p
unfolding marked
marked_new m p e = rw (ne_eqb (bit m p) 1 (λ w. omega arith))

pub unmarked_old : (m p : ℕ) → bit m p ≡ 1 → unmarked m p ≡ m - 2 ^ p
unfolding unmarked
unmarked_old m p e = rw (eq-eqb (bit m p) 1 e)

-- ---- the lowest marked digit, by trailing zeros

trailing_set : (k m : ℕ) → count_trailing_zeros k m < k → bit m (count_trailing_zeros k m) ≡ 1
unfolding count_trailing_zeros
trailing_set zero m h = absurd (omega arith)
trailing_set (suc k) m h = go (trailing_set k (m / 2)) (m % 2) refl h
  where
    go : (count_trailing_zeros k (m / 2) < k → bit (m / 2) (count_trailing_zeros k (m / 2)) ≡ 1) → (d : ℕ) → m % 2 ≡ d → under d (count_trailing_zeros k (m / 2)) < suc k
        → bit m (under d (count_trailing_zeros k (m / 2))) ≡ 1
    go ih zero e l = bit_suc m (count_trailing_zeros k (m / 2)) ∙ ih (omega arith)
    go ih (suc d) e l = omega (arith, bit_zero m)

trailing_lower : (k m j : ℕ) → j < count_trailing_zeros k m → bit m j ≡ 0
unfolding count_trailing_zeros
trailing_lower zero m j h = absurd (omega arith)
trailing_lower (suc k) m j h = go (trailing_lower k (m / 2)) (m % 2) refl j h
  where
    go : ((i : ℕ) → i < count_trailing_zeros k (m / 2) → bit (m / 2) i ≡ 0) → (d : ℕ) → m % 2 ≡ d → (i : ℕ) → i < under d (count_trailing_zeros k (m / 2)) → bit m i ≡ 0
    go ih zero e zero l = bit_zero m ∙ e
    go ih zero e (suc i) l = bit_suc m i ∙ ih i (omega arith)
    go ih (suc d) e i l = absurd (omega arith)

pub trailing_lowest : (k m : ℕ) → count_trailing_zeros k m ≡ first_below k (marks m)
trailing_lowest k m =
    let lower : (j : ℕ) → j < count_trailing_zeros k m → marks m j ≡ false = λ j l. let z = trailing_lower k m j l in ne_eqb (bit m j) 1 (λ w. omega arith) in
    let t = trailing_le k m in
    below? (count_trailing_zeros k m) k
    (λ h. sym (first_below_is (marks m) k (count_trailing_zeros k m) h (eq-eqb (bit m (count_trailing_zeros k m)) 1 (trailing_set k m h)) lower))
    (λ h. let e : count_trailing_zeros k m ≡ k = omega arith in e ∙ sym (first_below_none (marks m) k (λ j l. lower j (omega arith))))

-- ---- how many are marked, by counting ones

-- the lowest digit, and the count of the half
count_half : (k m : ℕ) → count_below (suc k) (marks m) ≡ m % 2 + count_below k (marks (m / 2))
count_half k m =
    count_front k (marks m)
    ∙ ap₂ (λ (x y : ℕ). x + y)
    (split (marks m 0) (λ e. let z = eqb-true (bit m 0) 1 e in rw e (omega (arith, bit_zero m)))
    (λ e. let z = eqb-false (bit m 0) 1 e in rw e (omega (arith, bit_zero m))))
    (count_same k (λ i h. ap (λ (x : ℕ). eqb x 1) (bit_suc m i)))

none_set : ones 0 ≡ 0
unfolding ones
none_set = refl

pub ones_count : (k m : ℕ) → m < 2 ^ k → ones m ≡ count_below k (marks m)
unfolding count_below
ones_count zero m h = let z : m ≡ 0 = omega arith in ap ones z ∙ none_set
ones_count (suc k) m h = ones_step m ∙ ap (λ (x : ℕ). m % 2 + x) (ones_count k (m / 2) (omega (arith, pow-suc 2 k))) ∙ sym (count_half k m)
