-- A number of 64 digits as a row of marks, one for each page: the tests and sums by which code reads and changes it.
-- Assumes nothing.
use mathlib.Core.Path.{◌≡◌, sym, ◌∙◌}
use mathlib.Core.Bool.{true, false, true≢false}
use Prim.Native.Nat.{ℕ, ◌+◌, ◌-◌, ◌*◌, ◌%◌, ◌^◌, ◌≤◌, ◌<◌}
use native.Mathlib.Nat.{mod-eq_of_lt, one-mul, lt_of_lt_of_le}
use native.Mathlib.Omega.{arith}
use lib.Pow.{pow-lt, pow_mono}
use borrow.Author.Tests.{eqb-true, eqb-false, ne_eqb, lt-ltb, le-ltb}
use Rattle.laws.specs.Choice.{pick}
use Rattle.laws.specs.Bits.{bit, marks, marked, unmarked}
use Rattle.laws.proofs.Cases.{below?, pick_yes, pick_not}
use Rattle.laws.proofs.Bits.{bit_two, bit_le, bit_past, marked_new, marked_below, unmarked_old}
use Rattle.model.specs.Sizes.{pages}
use Rattle.model.specs.State.{is_page}

pub one_shift : (n : ℕ) → n < pages → (1 * 2 ^ n) % 2 ^ pages ≡ 2 ^ n
one_shift n h = rw one-mul (mod-eq_of_lt (pow-lt h))

-- ---- a mark

-- no page past the last is marked
pub marks_past : (m n : ℕ) → m < 2 ^ pages → pages ≤ n → marks m n ≡ false
marks_past m n h l = ne_eqb (bit m n) 1 (λ w. omega (arith, bit_past m n (lt_of_lt_of_le h (pow_mono l))))

pub marks_page : (m n : ℕ) → m < 2 ^ pages → marks m n ≡ true → n < pages
marks_page m n h e = below? n pages (λ l. l) (λ l. absurd (true≢false (sym e ∙ marks_past m n h l)))

pub marks_le : (m n : ℕ) → marks m n ≡ true → 2 ^ n ≤ m
marks_le m n e = bit_le m n (eqb-true (bit m n) 1 e)

none : (m n : ℕ) → marks m n ≡ false → bit m n ≡ 0
none m n e = let k = bit_two m n in let w = eqb-false (bit m n) 1 e in omega arith

-- ---- a mark put on, where there is a page

abbrev with : ℕ → ℕ → ℕ
with m n = pick (is_page n) (marked m n) m

pub with_below : (m n : ℕ) → m < 2 ^ pages → n < pages → marks m n ≡ false → m + 2 ^ n < 2 ^ pages
with_below m n h l e = omega (arith, marked_below m n pages h l, marked_new m n (none m n e))

pub with_new : (m n : ℕ) → n < pages → marks m n ≡ false → m + 2 ^ n ≡ with m n
with_new m n l e = sym (pick_yes (marked m n) m (lt-ltb n pages l) ∙ marked_new m n (none m n e))

pub with_old : (m n : ℕ) → n < pages → marks m n ≡ true → m ≡ with m n
unfolding marked
with_old m n l e = sym (pick_yes (marked m n) m (lt-ltb n pages l) ∙ pick_yes m (m + 2 ^ n) e)

pub with_past : (m n : ℕ) → pages ≤ n → m ≡ with m n
with_past m n l = sym (pick_not (marked m n) m (le-ltb n pages l))

-- ---- a mark taken off

pub without_old : (m n : ℕ) → marks m n ≡ true → m - 2 ^ n ≡ unmarked m n
without_old m n e = sym (unmarked_old m n (eqb-true (bit m n) 1 e))

pub without_none : (m n : ℕ) → marks m n ≡ false → m ≡ unmarked m n
unfolding unmarked
without_none m n e = sym (pick_not (m - 2 ^ n) m e)
