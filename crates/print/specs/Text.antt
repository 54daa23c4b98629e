-- Numbers in decimal, and bytes typed one after another into a lent buffer.
-- Assumes nothing.
use Rattle.std.specs.Prelude.{List, [], ◌∷◌, ℕ, zero, suc, ◌+◌, ◌*◌, ◌-◌, ◌/◌, ◌%◌, ◌^◌, ltb, length, set}
use Rattle.laws.specs.Choice.{pick}
use Rattle.laws.specs.Search.{first_below}

-- a buffer, and the place where the next byte goes
pub record Page : Type 0 where
  pub bytes : List ℕ
  pub place : ℕ

abbrev pub page : List ℕ → ℕ → Page
page b i = record { bytes = b; place = i }

-- a byte is typed, where there is room for it
abbrev pub typed : Page → ℕ → Page
typed p x =
    page (set p.bytes p.place x) (pick (ltb p.place (length p.bytes)) (p.place + 1) p.place)

unfoldable pub typed_all : Page → List ℕ → Page
typed_all p [] = p
typed_all p (x ∷ xs) = typed_all (typed p x) xs

-- ---- numbers

-- the digit of n at 10 ^ i, in ASCII
abbrev pub digit : ℕ → ℕ → ℕ
digit n i = 48 + n / 10 ^ i % 10

-- the last k digits of n, the most significant first
unfoldable pub digits : ℕ → ℕ → List ℕ
digits zero n = []
digits (suc k) n = digit n k ∷ digits k n

-- how many digits n has: the fewest that hold it, and one for 0
unfoldable pub places_of : ℕ → ℕ
places_of n = suc (first_below (suc n) (λ k. ltb n (10 ^ suc k)))

abbrev pub decimal_of : ℕ → List ℕ
decimal_of n = digits (places_of n) n

-- what digits in ASCII say
abbrev pub value_of_digits : List ℕ → ℕ
value_of_digits [] = 0
value_of_digits (x ∷ xs) = (x - 48) * 10 ^ length xs + value_of_digits xs
