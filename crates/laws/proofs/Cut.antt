-- A list cut and joined again, and parts joined and cut again.
-- Assumes nothing.
use mathlib.Core.Path.{◌≡◌, refl, sym, ap, ◌∙◌}
use mathlib.Core.List.{List, [], ◌∷◌, ◌++◌, map}
use Prim.Native.Nat.{ℕ, zero, suc, ◌+◌, ◌≤◌, ◌<◌}
use native.Mathlib.Nat.{zero-add, add_assoc, not-suc-le-zero}
use native.Mathlib.Omega.{arith}
use lib.ListN.{length, get_or, take, drop, length-append, length-drop}
use lib.Seq.{length-take-le, take-add, take_at, drop_at, get_or-take, get_or-drop}
use Rattle.laws.specs.Cut.{cut, begin, size, part, total, joined}

-- the parts of a list that is long enough have their sizes
pub cut_length : (ns : List ℕ) (k : ℕ) (xs : List ℕ) → total ns ≤ length xs → length (part (cut ns xs) k) ≡ size ns k
cut_length [] k xs h = refl
cut_length (n ∷ ns) zero xs h = length-take-le n xs (omega arith)
cut_length (n ∷ ns) (suc k) xs h = cut_length ns k (drop n xs) (omega (arith, length-drop n xs))

-- a read at place i of part k
pub cut_get : (ns : List ℕ) (k i : ℕ) (xs : List ℕ) → i < size ns k → get_or xs (begin ns k + i) 0 ≡ get_or (part (cut ns xs) k) i 0
cut_get [] k i xs h = absurd (not-suc-le-zero h)
cut_get (n ∷ ns) zero i xs h = rw (zero-add, get_or-take n xs i 0 h)
cut_get (n ∷ ns) (suc k) i xs h = rw (add_assoc, ← get_or-drop) (cut_get ns k i (drop n xs) h)

-- the parts together are the list
pub cut_joined : (ns : List ℕ) (xs : List ℕ) → joined (cut ns xs) ≡ take (total ns) xs
cut_joined [] xs = refl
cut_joined (n ∷ ns) xs = ap (λ (r : List ℕ). take n xs ++ r) (cut_joined ns (drop n xs)) ∙ sym (take-add n (total ns) xs)

-- and the list's parts are these
pub joined_cut : (ps : List (List ℕ)) → cut (map length ps) (joined ps) ≡ ps
joined_cut [] = refl
joined_cut (p ∷ ps) =
    (λ i. take_at p (joined ps) (length p) refl i ∷ cut (map length ps) (drop_at p (joined ps) (length p) refl i))
    ∙ ap (λ (r : List (List ℕ)). p ∷ r) (joined_cut ps)

pub length_joined : (ps : List (List ℕ)) → length (joined ps) ≡ total (map length ps)
length_joined [] = refl
length_joined (p ∷ ps) = length-append p (joined ps) ∙ ap (λ (n : ℕ). length p + n) (length_joined ps)
