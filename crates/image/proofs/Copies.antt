-- Fields copied out of an image, and behind an image's head.
-- Assumes nothing.
use mathlib.Core.Path.{◌≡◌, sym, ap, ◌∙◌}
use mathlib.Core.Logic.{⊎_elim}
use mathlib.Core.List.{List, [], ◌∷◌, ◌++◌, append-nil}
use Prim.Native.Nat.{ℕ, suc, ◌-◌}
use native.Mathlib.Omega.{arith}
use lib.ListN.{length, drop, length-drop, drop_of_length-le}
use lib.Seq.{drop-cons, drop-length}
use borrow.Rule.Slice.PartMut.{put_mid}
use Rattle.laws.specs.Choice.{at}
use Rattle.laws.specs.Cut.{cut, begin}
use Rattle.model.specs.Sizes.{image_head_bytes}
use Rattle.model.specs.Fields.{state_of}
use Rattle.model.specs.Names.{write_back}
use Rattle.model.specs.Image.{first_version, version_written, version_in, lengths, head, Image, image_of, held}
use Rattle.model.proofs.Image.{fields_held, fields_first, fields_written}
use Rattle.host.specs.View.{sizes, policy_field, bytes, view, Whole}

-- ---- out of an image

module _ (xs i : List ℕ) (l : length xs ≡ bytes) (w : at xs (begin sizes policy_field) ≡ write_back) (m : Image i) where
  -- Of the first version nothing is taken at the last place, which was write-back.
  last_kept : version_in i ≡ first_version → drop (length (drop image_head_bytes i)) xs ≡ write_back ∷ []
  last_kept v =
      let e : length (drop image_head_bytes i) ≡ begin sizes policy_field = length-drop image_head_bytes i ∙ ap (λ (n : ℕ). n - image_head_bytes) (m.long ∙ ap (at lengths) v) in
      ap (λ (n : ℕ). drop n xs) e
      ∙ drop-cons xs (begin sizes policy_field) 0 (omega arith)
      ∙ (λ k. w k ∷ drop_of_length-le xs {i = suc (begin sizes policy_field)} (omega arith) k)

  none_kept : version_in i ≡ version_written → drop (length (drop image_head_bytes i)) xs ≡ []
  none_kept v =
      let e : length (drop image_head_bytes i) ≡ bytes = length-drop image_head_bytes i ∙ ap (λ (n : ℕ). n - image_head_bytes) (m.long ∙ ap (at lengths) v) in
      drop_of_length-le xs (omega arith)

  pub taken : view (drop image_head_bytes i ++ drop (length (drop image_head_bytes i)) xs) ≡ held i
  unfolding view held
  taken =
      ap (λ (x : List ℕ). state_of (cut sizes x))
      (⊎_elim
      (λ v. ap (λ (r : List ℕ). drop image_head_bytes i ++ r) (last_kept v) ∙ sym (fields_first i v))
      (λ v. ap (λ (r : List ℕ). drop image_head_bytes i ++ r) (none_kept v) ∙ append-nil (drop image_head_bytes i) ∙ sym (fields_written i v))
      m.version)

-- ---- into an image

-- the image of any host, valid or not: its bytes behind the head
pub image_bytes_law : (x : List ℕ) → Whole x → image_of (view x) ≡ head ++ x
unfolding image_of view
image_bytes_law x w = ap (λ (r : List ℕ). head ++ r) (fields_held x w.long w.small)

pub put_law : (w r x : List ℕ) → w ≡ head → put_mid image_head_bytes (length (w ++ r) - image_head_bytes) (w ++ r) x ≡ head ++ x
put_law w r x e =
    let n : length (head ++ r) - image_head_bytes ≡ length r = omega arith in
    rw e (ap (λ (y : List ℕ). head ++ y) (ap (λ (m : ℕ). x ++ drop m r) n ∙ ap (λ (y : List ℕ). x ++ y) (drop-length r) ∙ append-nil x))
