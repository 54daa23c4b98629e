-- Searches: the first number, or the first place of a list, that passes a test; and what is tested, counted and listed by them.
-- Assumes nothing.
use Rattle.std.specs.Prelude.{Bool, true, false, not, List, [], ◌∷◌, ℕ, zero, suc, ◌+◌, ltb, length}
use Rattle.laws.specs.Choice.{pick}

-- the first of the n numbers from i on that passes the test, or i + n
unfoldable pub first_from : ℕ → ℕ → (ℕ → Bool) → ℕ
first_from zero i f = i
first_from (suc n) i f = elim (f i) [ true ↦ i | false ↦ first_from n (suc i) f ]

-- the first number below n that passes the test, or n
abbrev pub first_below : ℕ → (ℕ → Bool) → ℕ
first_below n f = first_from n 0 f

abbrev pub some_below : ℕ → (ℕ → Bool) → Bool
some_below n f = ltb (first_below n f) n

abbrev pub all_below : ℕ → (ℕ → Bool) → Bool
all_below n f = not (some_below n (λ i. not (f i)))

-- the first place of the list, its places counted from i, that passes the test with what stands there, or i + its length
unfoldable pub seek_from {ℓ} : {A : Type ℓ} → (ℕ → A → Bool) → ℕ → List A → ℕ
seek_from f i [] = i
seek_from f i (x ∷ l) = elim (f i x) [ true ↦ i | false ↦ seek_from f (suc i) l ]

abbrev pub seek {ℓ} : {A : Type ℓ} → (ℕ → A → Bool) → List A → ℕ
seek f l = seek_from f 0 l

abbrev pub some_in {ℓ} : {A : Type ℓ} → (ℕ → A → Bool) → List A → Bool
some_in f l = ltb (seek f l) (length l)

abbrev pub all_in {ℓ} : {A : Type ℓ} → (ℕ → A → Bool) → List A → Bool
all_in f l = not (some_in (λ i x. not (f i x)) l)

-- how many numbers below n pass the test
unfoldable pub count_below : ℕ → (ℕ → Bool) → ℕ
count_below zero f = 0
count_below (suc n) f = count_below n f + pick (f n) 1 0

-- f 0 + .. + f (n - 1)
unfoldable pub sum_below : ℕ → (ℕ → ℕ) → ℕ
sum_below zero f = 0
sum_below (suc n) f = sum_below n f + f n

-- f i, f (i + 1), .., n of them
unfoldable pub list_from {ℓ} : {A : Type ℓ} → ℕ → ℕ → (ℕ → A) → List A
list_from zero i f = []
list_from (suc n) i f = f i ∷ list_from n (suc i) f

-- f 0, f 1, .., f (n - 1)
abbrev pub list_of {ℓ} : {A : Type ℓ} → ℕ → (ℕ → A) → List A
list_of n f = list_from n 0 f
