-- What a store and a read at one place is of the parts of a list.
-- Assumes nothing.
use mathlib.Core.Path.{◌≡◌, refl, sym, ap, ◌∙◌}
use mathlib.Core.List.{List, [], ◌∷◌}
use Prim.Native.Nat.{ℕ, zero, suc, ◌+◌, ◌≤◌, ◌<◌}
use native.Mathlib.Nat.{zero-add, add_assoc}
use native.Mathlib.Omega.{arith}
use Rattle.model.specs.Records.{word_at}
use Rattle.laws.specs.Cut.{cut, begin, size, part, edit}
use Rattle.laws.proofs.Cut.{cut_get}
use Rattle.host.specs.Words.{set_word}
use lib.ListN.{length, get_or, take, drop, set, length-take, get_or-eq_default}
use lib.Seq.{set_out, take-set-lt, take-set-le, drop-set-lt, drop-set-add}

-- a store at place i of part k edits part k and no other
pub cut_set : (ns : List ℕ) (k i v : ℕ) (xs : List ℕ) → i < size ns k → cut ns (set xs (begin ns k + i) v) ≡ edit k (λ s. set s i v) (cut ns xs)
cut_set [] k i v xs h = refl
cut_set (n ∷ ns) zero i v xs h = rw (zero-add, take-set-lt n xs i v h, drop-set-lt n xs i v h)
cut_set (n ∷ ns) (suc k) i v xs h =
    let le : n ≤ n + (begin ns k + i) = omega arith in
    rw (add_assoc, take-set-le n xs (n + (begin ns k + i)) v le, drop-set-add)
    (ap (λ (r : List (List ℕ)). take n xs ∷ r) (cut_set ns k i v (drop n xs) h))

-- a part is no longer than its size, whatever the list
pub cut_le : (ns : List ℕ) (k : ℕ) (xs : List ℕ) → length (part (cut ns xs) k) ≤ size ns k
cut_le [] k xs = omega arith
cut_le (n ∷ ns) zero xs = omega (arith, length-take n xs)
cut_le (n ∷ ns) (suc k) xs = cut_le ns k (drop n xs)

-- past its size there is nothing to read or to store
pub cut_get_out : (ns : List ℕ) (k i : ℕ) (xs : List ℕ) → size ns k ≤ i → 0 ≡ get_or (part (cut ns xs) k) i 0
cut_get_out ns k i xs h = sym (get_or-eq_default (part (cut ns xs) k) 0 (omega (arith, cut_le ns k xs)))

edit_same : (k : ℕ) (f : List ℕ → List ℕ) (ps : List (List ℕ)) → f (part ps k) ≡ part ps k → edit k f ps ≡ ps
edit_same k f [] h = refl
edit_same zero f (p ∷ ps) h = ap (λ (q : List ℕ). q ∷ ps) h
edit_same (suc k) f (p ∷ ps) h = ap (λ (q : List (List ℕ)). p ∷ q) (edit_same k f ps h)

pub cut_set_out : (ns : List ℕ) (k i v : ℕ) (xs : List ℕ) → size ns k ≤ i → cut ns xs ≡ edit k (λ s. set s i v) (cut ns xs)
cut_set_out ns k i v xs h = sym (edit_same k (λ s. set s i v) (cut ns xs) (set_out (part (cut ns xs) k) i v (omega (arith, cut_le ns k xs))))

edit_edit : (k : ℕ) (f g : List ℕ → List ℕ) (ps : List (List ℕ)) → edit k f (edit k g ps) ≡ edit k (λ s. f (g s)) ps
edit_edit k f g [] = refl
edit_edit zero f g (p ∷ ps) = refl
edit_edit (suc k) f g (p ∷ ps) = ap (λ (q : List (List ℕ)). p ∷ q) (edit_edit k f g ps)

-- a store after other stores in the same part
more : (ns : List ℕ) (k i v : ℕ) (xs ys : List ℕ) (f : List ℕ → List ℕ) → i < size ns k → cut ns ys ≡ edit k f (cut ns xs)
    → cut ns (set ys (begin ns k + i) v) ≡ edit k (λ s. set (f s) i v) (cut ns xs)
more ns k i v xs ys f h e = cut_set ns k i v ys h ∙ ap (edit k (λ s. set s i v)) e ∙ edit_edit k (λ s. set s i v) f (cut ns xs)

-- a word stored at place a of part k
pub cut_set_word : (ns : List ℕ) (k a v : ℕ) (xs : List ℕ) → a + 4 ≤ size ns k → cut ns (set_word xs (begin ns k + a) v) ≡ edit k (λ s. set_word s a v) (cut ns xs)
cut_set_word ns k a v xs h =
    rw (add_assoc (begin ns k) a 1, add_assoc (begin ns k) a 2, add_assoc (begin ns k) a 3)
    (more ns k (a + 3) _ xs _ _ (omega arith) (more ns k (a + 2) _ xs _ _ (omega arith) (more ns k (a + 1) _ xs _ _ (omega arith) (cut_set ns k a _ xs (omega arith)))))

pub cut_get_word : (ns : List ℕ) (k a : ℕ) (xs : List ℕ) → a + 4 ≤ size ns k → word_at xs (begin ns k + a) ≡ word_at (part (cut ns xs) k) a
cut_get_word ns k a xs h =
    rw (
      add_assoc (begin ns k) a 1,
      add_assoc (begin ns k) a 2,
      add_assoc (begin ns k) a 3,
      cut_get ns k a xs (omega arith),
      cut_get ns k (a + 1) xs (omega arith),
      cut_get ns k (a + 2) xs (omega arith),
      cut_get ns k (a + 3) xs (omega arith),
    )
