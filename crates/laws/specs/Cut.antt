-- A list cut into consecutive parts of given sizes, and parts joined.
-- Assumes nothing.
use Rattle.std.specs.Prelude.{List, [], ◌∷◌, ◌++◌, ℕ, zero, suc, ◌+◌, get_or, take, drop}

abbrev pub cut : List ℕ → List ℕ → List (List ℕ)
cut [] xs = []
cut (n ∷ ns) xs = take n xs ∷ cut ns (drop n xs)

-- where part k begins, and how long it is
abbrev pub begin : List ℕ → ℕ → ℕ
begin [] k = 0
begin (n ∷ ns) zero = 0
begin (n ∷ ns) (suc k) = n + begin ns k

abbrev pub size : List ℕ → ℕ → ℕ
size ns k = get_or ns k 0

abbrev pub part : List (List ℕ) → ℕ → List ℕ
part ps k = get_or ps k []

-- part k changed
abbrev pub edit : ℕ → (List ℕ → List ℕ) → List (List ℕ) → List (List ℕ)
edit k f [] = []
edit zero f (p ∷ ps) = f p ∷ ps
edit (suc k) f (p ∷ ps) = p ∷ edit k f ps

abbrev pub total : List ℕ → ℕ
total [] = 0
total (n ∷ ns) = n + total ns

abbrev pub joined : List (List ℕ) → List ℕ
joined [] = []
joined (p ∷ ps) = p ++ joined ps
