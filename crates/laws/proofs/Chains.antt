-- Chains over the numbers below n: what `any`, `all` and `position` answer, as searches.
-- Assumes nothing.
use mathlib.Core.Path.{◌≡◌, sym, ap, ◌∙◌, subst}
use mathlib.Core.Bool.{Bool, true, false, ◌||◌, not}
use mathlib.Core.List.{List, [], ◌∷◌}
use Prim.Native.Nat.{ℕ, zero, suc, ◌+◌}
use native.Mathlib.Numerals.{add-one}
use native.Mathlib.Omega.{arith}
use lib.Dec.{ltb}
use borrow.Author.Tests.{lt-ltb, le-ltb}
use Rattle.std.specs.List.{list_any, list_all, range_with_len}
use Rattle.laws.specs.Search.{first_from, some_below, all_below}
use Rattle.laws.proofs.Cases.{split}

module _ (f : ℕ → Bool) where
  any_from : (n i : ℕ) → list_any f (range_with_len i n) ≡ ltb (first_from n i f) (i + n)
  unfolding first_from
  any_from zero i = sym (le-ltb i (i + 0) (omega arith))
  any_from (suc n) i = go (subst (λ (k : ℕ). list_any f (range_with_len (i + 1) n) ≡ ltb (first_from n k f) (k + n)) (add-one i) (any_from n (i + 1))) (f i)
    where
      go : list_any f (range_with_len (i + 1) n) ≡ ltb (first_from n (suc i) f) (suc i + n) → (b : Bool) → (b || list_any f (range_with_len (i + 1) n)) ≡ ltb (elim b [ true ↦ i | false ↦ first_from n (suc i) f ]) (i + suc n)
      go w true = sym (lt-ltb i (i + suc n) (omega arith))
      go w false =
          let e : suc i + n ≡ i + suc n = omega arith in
          w ∙ ap (λ (k : ℕ). ltb (first_from n (suc i) f) k) e

pub any_below : (f : ℕ → Bool) (n : ℕ) → list_any f (range_with_len 0 n) ≡ some_below n f
any_below f n =
    let e : 0 + n ≡ n = omega arith in
    any_from f n 0 ∙ ap (λ (k : ℕ). ltb (first_from n 0 f) k) e

not_all : (f : ℕ → Bool) (l : List ℕ) → list_all f l ≡ not (list_any (λ i. not (f i)) l)
not_all f [] = cc
not_all f (x ∷ l) = split (f x) (λ t. rw t (not_all f l)) (λ t. rw t)

pub all_below_law : (f : ℕ → Bool) (n : ℕ) → list_all f (range_with_len 0 n) ≡ all_below n f
all_below_law f n = not_all f (range_with_len 0 n) ∙ ap not (any_below (λ i. not (f i)) n)
