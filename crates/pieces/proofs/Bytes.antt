-- Lists of bytes: what is kept, written over what was, and how much of it is a begun record.
-- Assumes nothing.
use mathlib.Core.Path.{◌≡◌, refl, sym, ap, ◌∙◌}
use mathlib.Core.List.{List, [], ◌∷◌, ◌++◌, append-nil}
use Prim.Native.Nat.{ℕ, ◌+◌, ◌-◌, ◌≤◌}
use native.Mathlib.Omega.{arith}
use borrow.Rule.Slice.PartMut.{put_mid, mid_of}
use lib.ListN.{length, take, drop, set, replicate, length-append, length-take, length-drop, drop_of_length-le}
use lib.Seq.{take_all, take-length, take_at, length-take-le, take-append_seam, drop-append_seam, drop-append-add, drop-drop}
use Rattle.std.proofs.lemmas.List.{take-append-drop, drop-replicate}
use Rattle.std.proofs.lemmas.Slice.{take-put_mid, drop-put_mid}
use Rattle.laws.proofs.Cases.{below?}
use Rattle.model.specs.Sizes.{count_bytes, begun_most, kept_bytes}
use Rattle.model.specs.Pieces.{begun, begun_count}
use Rattle.pieces.specs.Promises.{begun_with, holds}

-- ---- written anew

-- both counts are stored
counts_stored : (k : List ℕ) (n m : ℕ) → count_bytes ≤ length k → set (set k 0 n) 1 m ≡ n ∷ m ∷ drop count_bytes k
counts_stored [] n m h = absurd (omega arith)
counts_stored (x ∷ []) n m h = absurd (omega arith)
counts_stored (x ∷ y ∷ k) n m h = refl

-- two parts that follow one another, over other bytes
pub parts_joined : (g m z : List ℕ) → length g ≤ length z → {x y : List ℕ} → x ≡ g → y ≡ m
    → put_mid (length g) (length z - length g) (x ++ drop (length g) z) y ≡ g ++ m
parts_joined g m z h {x} {y} e f =
    let d : drop (length z - length g) (drop (length g) z) ≡ [] =
    drop_of_length-le (drop (length g) z) {i = length z - length g} (omega (arith, length-drop (length g) z)) in
    (λ i. put_mid (length g) (length z - length g) (e i ++ drop (length g) z) (f i))
    ∙ (λ i. take-append_seam g (drop (length g) z) i ++ (m ++ drop (length z - length g) (drop-append_seam g (drop (length g) z) i)))
    ∙ ap (λ (l : List ℕ). g ++ (m ++ l)) d
    ∙ ap (λ (l : List ℕ). g ++ l) (append-nil m)

module _ (k : List ℕ) (stays : ℕ) (more : List ℕ) (w : length k ≡ kept_bytes) (h : stays + length more ≤ begun_most) where
  with_length : length (begun_with k stays more) ≡ stays + length more
  with_length =
      omega (arith, length-append (take stays (drop count_bytes k)) more, length-take-le stays (drop count_bytes k) (omega (arith, length-drop count_bytes k)))

  -- as code puts them together, over zeros
  module _ {g m b : List ℕ} (eg : g ≡ mid_of count_bytes (count_bytes + stays - count_bytes) k) (em : m ≡ more)
      (eb : b ≡ put_mid stays (stays + length more - stays) (g ++ drop stays (replicate begun_most 0)) m) where
    abbrev count : ℕ
    count = stays + length more

    abbrev zeros : List ℕ
    zeros = replicate begun_most 0

    first : g ≡ take stays (drop count_bytes k)
    first =
        let e : count_bytes + stays - count_bytes ≡ stays = omega arith in
        eg ∙ ap (λ (i : ℕ). take i (drop count_bytes k)) e

    first_length : length g ≡ stays
    first_length = ap length first ∙ length-take-le stays (drop count_bytes k) (omega (arith, length-drop count_bytes k))

    there : stays ≤ length (g ++ drop stays zeros)
    there = omega (arith, first_length, length-append g (drop stays zeros))

    begins : take count b ≡ begun_with k stays more
    begins =
        ap (take count) eb
        ∙ take-put_mid stays (count - stays) (g ++ drop stays zeros) m count (omega (arith, ap length em)) there
        ∙ (λ i. take_at g (drop stays zeros) stays first_length i ++ em i)
        ∙ ap (λ (l : List ℕ). l ++ more) first

    ends : drop count b ≡ replicate (begun_most - count) 0
    ends =
        let e : count ≡ length g + length more = omega (arith, first_length) in
        ap (drop count) eb
        ∙ drop-put_mid stays (count - stays) (g ++ drop stays zeros) m count (omega arith) there (omega (arith, ap length em))
        ∙ ap (λ (n : ℕ). drop n (g ++ drop stays zeros)) e
        ∙ drop-append-add g (drop stays zeros) (length more)
        ∙ drop-drop (length more) stays zeros
        ∙ drop-replicate (stays + length more) begun_most 0

    pub hold_law : (n : ℕ) → put_mid count_bytes begun_most (set (set k 0 n) 1 count) b ≡ holds k n stays more
    hold_law n =
        let d : drop begun_most (drop count_bytes k) ≡ [] = drop_of_length-le (drop count_bytes k) {i = begun_most} (omega (arith, length-drop count_bytes k)) in
        let y : b ≡ begun_with k stays more ++ replicate (begun_most - count) 0 = sym (take-append-drop count b) ∙ (λ i. begins i ++ ends i) in
        let padded = begun_with k stays more ++ replicate (begun_most - count) 0 in
        let stored : put_mid count_bytes begun_most (set (set k 0 n) 1 count) b ≡ n ∷ count ∷ (padded ++ []) =
        (λ i. put_mid count_bytes begun_most (counts_stored k n count (omega arith) i) (y i)) ∙ (λ i. n ∷ count ∷ (padded ++ d i)) in
        stored ∙ (λ i. n ∷ count ∷ append-nil padded i) ∙ (λ i. n ∷ sym with_length i ∷ (begun_with k stays more ++ replicate (begun_most - sym with_length i) 0))

-- ---- how many bytes of a begun record there are

pub begun_length : (k : List ℕ) → length k ≡ kept_bytes → length (begun k) ≤ begun_most
begun_length k w = omega (arith, length-take (begun_count k) (drop count_bytes k), length-drop count_bytes k)

-- so many of the bytes kept are the begun record
pub begun_again : (k : List ℕ) → take (length (begun k)) (drop count_bytes k) ≡ begun k
begun_again k =
    let x = drop count_bytes k in
    below? (begun_count k) (length x)
    (λ h. ap (λ (n : ℕ). take n x) (length-take-le (begun_count k) x (omega arith)))
    (λ h. let e = take_all (begun_count k) x h in ap (λ (l : List ℕ). take (length l) x) e ∙ take-length x ∙ sym e)
