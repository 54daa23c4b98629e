-- A number in decimal: its powers of ten, how many digits it has, and that its digits say it.
-- Assumes nothing.
use mathlib.Core.Path.{◌≡◌, refl, sym, ap, ◌∙◌}
use mathlib.Core.Bool.{Bool}
use mathlib.Core.List.{List, [], ◌∷◌}
use Prim.Native.Nat.{ℕ, zero, suc, ◌+◌, ◌*◌, ◌-◌, ◌/◌, ◌%◌, ◌^◌, ◌≤◌, ◌<◌}
use native.Mathlib.Omega.{arith}
use native.Mathlib.Nat.{pow-suc, mul_comm, mod-one, mod-eq_of_lt}
use borrow.Author.Tests.{lt-ltb, le-ltb, ltb-true}
use lib.Dec.{ltb}
use lib.ListN.{length}
use lib.Arith.{mod-mul}
use Rattle.laws.specs.Choice.{at}
use Rattle.laws.specs.Search.{first_from, first_below}
use Rattle.laws.proofs.Cases.{below?}
use Rattle.laws.proofs.Tests.{eq⇔}
use Rattle.laws.proofs.Search.{all⇔, first_below_is, first_below_found, first_below_least}
use Rattle.print.specs.Text.{digits, places_of, decimal_of, value_of_digits}

-- ---- powers

abbrev pub powers : List ℕ
powers =
    1
    ∷ 10
    ∷ 100
    ∷ 1000
    ∷ 10000
    ∷ 100000
    ∷ 1000000
    ∷ 10000000
    ∷ 100000000
    ∷ 1000000000
    ∷ 10000000000
    ∷ 100000000000
    ∷ 1000000000000
    ∷ 10000000000000
    ∷ 100000000000000
    ∷ 1000000000000000
    ∷ 10000000000000000
    ∷ 100000000000000000
    ∷ 1000000000000000000
    ∷ 10000000000000000000
    ∷ []

pub power_at : (i : ℕ) → i < 20 → at powers i ≡ 10 ^ i
unfolding first_from
power_at i h = (all⇔ 20 (λ k l. eq⇔ (at powers k) (10 ^ k))).0 refl i h

pub power_more : (k : ℕ) → k < 10 ^ k
power_more zero = omega arith
power_more (suc k) = let h = power_more k in omega (arith, pow-suc 10 k)

-- ---- places

-- k digits are the fewest that hold n
module _ (n k : ℕ) (before : (j : ℕ) → suc j < suc k → 10 ^ suc j ≤ n) (holds : n < 10 ^ suc k) where
  low : k ≤ n
  low = go k before
    where
      go : (m : ℕ) → ((j : ℕ) → suc j < suc m → 10 ^ suc j ≤ n) → m ≤ n
      go zero b = omega arith
      go (suc m) b = let h = b m (omega arith) in let w = power_more (suc m) in omega arith

  places_are : suc k ≡ places_of n
  unfolding places_of
  places_are =
      ap suc (sym (first_below_is (λ i. ltb n (10 ^ suc i)) (suc n) k (omega (arith, low)) (lt-ltb n (10 ^ suc k) holds) (λ j h. le-ltb n (10 ^ suc j) (before j (omega arith)))))

pub fewest : (n k : ℕ) → 0 < k → ((j : ℕ) → suc j < k → 10 ^ suc j ≤ n) → n < 10 ^ k → k ≡ places_of n
fewest n zero z b h = absurd (omega arith)
fewest n (suc k) z b h = places_are n k b h

-- ---- digits

length_digits : (k n : ℕ) → length (digits k n) ≡ k
unfolding digits
length_digits zero n = refl
length_digits (suc k) n = ap suc (length_digits k n)

-- the last k digits say the number below 10 ^ k that is left
digits_say : (k n : ℕ) → value_of_digits (digits k n) ≡ n % 10 ^ k
unfolding digits
digits_say zero n = sym (mod-one n)
digits_say (suc k) n =
    let d = n / 10 ^ k % 10 in
    let c : 48 + d - 48 ≡ d = omega arith in
    (λ i. c i * 10 ^ length_digits k n i + digits_say k n i)
    ∙ sym (ap (λ (x : ℕ). n % x) (pow-suc 10 k ∙ mul_comm (10 ^ k) 10) ∙ mod-mul n (omega arith) (omega (arith, power_more k)))

-- a number below 10 ^ k has no more than k digits
pub length_decimal : (n k : ℕ) → n < 10 ^ suc k → length (decimal_of n) ≤ suc k
unfolding places_of
length_decimal n k h =
    let f : ℕ → Bool = λ i. ltb n (10 ^ suc i) in
    let l = first_below_least f (suc n) k (lt-ltb n (10 ^ suc k) h) in
    omega (arith, length_digits (places_of n) n)

enough : (n : ℕ) → n < 10 ^ places_of n
unfolding places_of
enough n =
    let f : ℕ → Bool = λ k. ltb n (10 ^ suc k) in
    let k = first_below (suc n) f in
    below? k (suc n) (λ h. ltb-true n (10 ^ suc k) (first_below_found f (suc n) h))
    (λ h. let w = power_more (suc k) in omega arith)

-- A number's digits say it: no two numbers are printed alike.
pub decimal_says : (n : ℕ) → value_of_digits (decimal_of n) ≡ n
decimal_says n = digits_say (places_of n) n ∙ mod-eq_of_lt (enough n)
