-- A record whose value is blanked is refused for its form exactly if it was, and is the same write otherwise, but for the value.
-- Assumes nothing.
use mathlib.Core.Path.{◌≡◌, refl, sym, ◌∙◌}
use mathlib.Core.Bool.{Bool, true, false, ◌&&◌}
use mathlib.Core.Logic.{◌⊎◌, inl, inr}
use mathlib.Core.List.{List}
use mathlib.Core.Option.{none, some}
use Prim.Native.Nat.{ℕ}
use native.Mathlib.Omega.{arith}
use lib.Dec.{eqb}
use lib.ListN.{length}
use Rattle.laws.specs.Choice.{pick, at}
use Rattle.laws.specs.Search.{list_of}
use Rattle.laws.proofs.Cases.{split, below?, pick_yes, pick_not}
use Rattle.laws.proofs.Tests.{eq⇔, or⇔}
use Rattle.laws.proofs.Lists.{at_past, length_list_of, get_or_list_of}
use Rattle.model.specs.Sizes.{record_bytes}
use Rattle.model.specs.Records.{Action, write, write_hyper, fields, well_formed, word_at, has_value, decode}
use Rattle.secrecy.specs.Secrecy.{is_of_value, blanked}

blanked_length : (r : List ℕ) → length (blanked r) ≡ length r
unfolding blanked
blanked_length r = length_list_of (length r) (λ i. pick (is_of_value i) 0 (at r i))

-- the bytes before the value stay
blanked_other : (r : List ℕ) (i : ℕ) → is_of_value i ≡ false → at (blanked r) i ≡ at r i
unfolding blanked
blanked_other r i e =
    let f : ℕ → ℕ = λ j. pick (is_of_value j) 0 (at r j) in
    below? i (length r) (λ h. get_or_list_of (length r) f 0 i h ∙ pick_not 0 (at r i) e)
    (λ h. at_past (list_of (length r) f) i (omega (arith, length_list_of (length r) f)) ∙ sym (at_past r i h))

-- ---- writes, by their first four bytes

-- the bytes are those of a record, whatever the value is
abbrev fits : ℕ → ℕ → ℕ → ℕ → ℕ → Bool
fits n k a b c = eqb n record_bytes && well_formed (fields k a b c 0)

-- both are refused, or both write at one address
pub record Wrote (f : ℕ → ℕ → Action) (r q : List ℕ) : Type 0 where
  pub address : ℕ
  pub first : ℕ
  pub second : ℕ
  pub is_first : decode r ≡ some (f address first)
  pub is_second : decode q ≡ some (f address second)

abbrev Both : (ℕ → ℕ → Action) → List ℕ → List ℕ → Type 0
Both f r q = ((decode r ≡ none) × (decode q ≡ none)) ⊎ Wrote f r q

-- the action f is decoded from what fits, with the value
module _ (f : ℕ → ℕ → Action) (k : ℕ)
    (reads : (l : List ℕ) → at l 0 ≡ k → decode l ≡ pick (fits (length l) k (at l 1) (at l 2) (at l 3)) (some (f (at l 1) (word_at l 4))) none) where
  both_blanked : (r : List ℕ) → at r 0 ≡ k → Both f r (blanked r)
  both_blanked r e =
      let t = fits (length r) k (at r 1) (at r 2) (at r 3) in
      let q = blanked r in
      let same : decode q ≡ pick t (some (f (at r 1) (word_at q 4))) none =
      reads q (blanked_other r 0 refl ∙ e)
      ∙ rw (blanked_length r, blanked_other r 1 refl, blanked_other r 2 refl, blanked_other r 3 refl) in
      split t
      (λ y.
      inr
      (record {
        address = at r 1;
        first = word_at r 4;
        second = word_at q 4;
        is_first = reads r e ∙ pick_yes (some (f (at r 1) (word_at r 4))) none y;
        is_second = same ∙ pick_yes (some (f (at r 1) (word_at q 4))) none y;
      }))
      (λ y. inl (reads r e ∙ pick_not (some (f (at r 1) (word_at r 4))) none y, same ∙ pick_not (some (f (at r 1) (word_at q 4))) none y))

reads_write : (l : List ℕ) → at l 0 ≡ 3 → decode l ≡ pick (fits (length l) 3 (at l 1) (at l 2) (at l 3)) (some (write (at l 1) (word_at l 4))) none
unfolding decode
reads_write l e = rw e

reads_hyper : (l : List ℕ) → at l 0 ≡ 4 → decode l ≡ pick (fits (length l) 4 (at l 1) (at l 2) (at l 3)) (some (write_hyper (at l 1) (word_at l 4))) none
unfolding decode
reads_hyper l e = rw e

pub told_write : (r : List ℕ) → has_value (at r 0) ≡ true → Both write r (blanked r) ⊎ Both write_hyper r (blanked r)
told_write r e = go ((or⇔ (eq⇔ (at r 0) 3) (eq⇔ (at r 0) 4)).0 e)
  where
    go : (at r 0 ≡ 3) ⊎ (at r 0 ≡ 4) → Both write r (blanked r) ⊎ Both write_hyper r (blanked r)
    go (inl q) = inl (both_blanked write 3 reads_write r q)
    go (inr q) = inr (both_blanked write_hyper 4 reads_hyper r q)
