-- Images: mark, version and length; a state and its image there and back; an image of the first version, as the next one has it.
-- Assumes nothing.
use mathlib.Core.Path.{◌≡◌, refl, sym, ap, subst, ◌∙◌}
use mathlib.Core.Logic.{◌⊎◌, inl, inr, ⊎_elim}
use mathlib.Core.List.{List, [], ◌∷◌, ◌++◌, append-nil}
use Prim.Native.Nat.{ℕ, zero, suc, ◌+◌, ◌≤◌, ◌<◌}
use native.Mathlib.Omega.{arith}
use lib.Dec.{eqb}
use lib.ListN.{length, drop, length-drop, length-append}
use lib.Seq.{take_all, get_or-drop}
use Rattle.laws.specs.Choice.{at}
use Rattle.laws.specs.Cut.{cut, total, joined}
use Rattle.laws.proofs.Cases.{split}
use Rattle.laws.proofs.Cut.{cut_joined, joined_cut, length_joined}
use Rattle.model.specs.Sizes.{byte_bound, mark_bytes, image_head_bytes}
use Rattle.model.specs.Names.{write_back}
use Rattle.model.specs.State.{State}
use Rattle.model.specs.Records.{Bytes}
use Rattle.model.specs.Valid.{Sized, Valid}
use Rattle.model.specs.Fields.{field_sizes, Small, state_of, state_fields}
use Rattle.model.specs.Image.{mark, first_version, lengths, version_written, image_bytes, version_in, head, Image, image_of, fields_in, held}
use Rattle.model.proofs.Bytes.{any_byte}
use Rattle.model.proofs.Fields.{state_back, fields_sized, state_fields_back}
pub use Rattle.model.proofs.Formed.{image⇔}

-- ---- mark, version and length

-- its bytes, by the version
pub image_length : (i : List ℕ) → Image i → (length i ≡ at lengths first_version) ⊎ (length i ≡ image_bytes)
image_length i m = ⊎_elim (λ v. inl (m.long ∙ ap (at lengths) v)) (λ v. inr (m.long ∙ ap (at lengths) v)) m.version

-- ---- there and back

-- where the head stands first, it and what follows it are all
pub head_rest : (i : List ℕ) → ((k : ℕ) → k < image_head_bytes → at i k ≡ at head k) → image_head_bytes ≤ length i → i ≡ head ++ drop image_head_bytes i
head_rest [] f l = absurd (omega arith)
head_rest (a ∷ []) f l = absurd (omega arith)
head_rest (a ∷ b ∷ []) f l = absurd (omega arith)
head_rest (a ∷ b ∷ c ∷ []) f l = absurd (omega arith)
head_rest (a ∷ b ∷ c ∷ d ∷ []) f l = absurd (omega arith)
head_rest (a ∷ b ∷ c ∷ d ∷ e ∷ r) f l =
    λ k. f 0 (omega arith) k ∷ f 1 (omega arith) k ∷ f 2 (omega arith) k ∷ f 3 (omega arith) k ∷ f 4 (omega arith) k ∷ r

-- in an image of the version that is written
written_begins : (i : List ℕ) → Bytes i → Image i → version_in i ≡ version_written → (k : ℕ) → k < image_head_bytes → at i k ≡ at head k
written_begins i w m v zero h = m.marked 0 (omega arith)
written_begins i w m v (suc zero) h = m.marked 1 (omega arith)
written_begins i w m v (suc (suc zero)) h = m.marked 2 (omega arith)
written_begins i w m v (suc (suc (suc zero))) h = omega (arith, any_byte i w 3)
written_begins i w m v (suc (suc (suc (suc zero)))) h = omega (arith, any_byte i w 3)
written_begins i w m v (suc (suc (suc (suc (suc k))))) h = absurd (omega arith)

-- the fields of an image, joined, are its bytes behind the head
pub fields_held : (xs : List ℕ) → length xs ≡ total field_sizes → Small xs → joined (state_fields (state_of (cut field_sizes xs))) ≡ xs
fields_held xs l h = ap joined (state_fields_back xs l h) ∙ cut_joined field_sizes xs ∙ take_all (total field_sizes) xs (omega arith)

-- ---- the bytes of an image's fields

-- what the first version has not is write-back, which is 0, as what is read past the end
pub fields_at : (i : List ℕ) (k : ℕ) → at (fields_in i) k ≡ at i (image_head_bytes + k)
fields_at i k =
    split (eqb (version_in i) first_version)
    (λ e. rw e (zero_behind (drop image_head_bytes i) k ∙ get_or-drop image_head_bytes i k 0))
    (λ e. rw (e, append-nil (drop image_head_bytes i)) (get_or-drop image_head_bytes i k 0))
  where
    zero_behind : (l : List ℕ) (j : ℕ) → at (l ++ (write_back ∷ [])) j ≡ at l j
    zero_behind [] zero = refl
    zero_behind [] (suc j) = refl
    zero_behind (x ∷ l) zero = refl
    zero_behind (x ∷ l) (suc j) = zero_behind l j

pub rest_small : (i : List ℕ) → Bytes i → Small (fields_in i)
rest_small i b k = subst (λ (x : ℕ). x < byte_bound) (sym (fields_at i k)) (any_byte i b (image_head_bytes + k))

pub fields_first : (i : List ℕ) → version_in i ≡ first_version → fields_in i ≡ drop image_head_bytes i ++ (write_back ∷ [])
fields_first i v = rw v

pub fields_written : (i : List ℕ) → version_in i ≡ version_written → fields_in i ≡ drop image_head_bytes i
fields_written i v = rw v (append-nil (drop image_head_bytes i))

pub rest_long : (i : List ℕ) → Image i → length (fields_in i) ≡ total field_sizes
rest_long i m =
    ⊎_elim
    (λ v. ap length (fields_first i v) ∙ length-append (drop image_head_bytes i) (write_back ∷ [])
    ∙ (let l : length i ≡ at lengths first_version = m.long ∙ ap (at lengths) v in omega (arith, length-drop image_head_bytes i)))
    (λ v. ap length (fields_written i v)
    ∙ (let l : length i ≡ image_bytes = m.long ∙ ap (at lengths) v in omega (arith, length-drop image_head_bytes i)))
    m.version

-- whatever follows the head, it stands first
pub head_begins : (r : List ℕ) (k : ℕ) → k < image_head_bytes → at (head ++ r) k ≡ at head k
head_begins r zero h = refl
head_begins r (suc zero) h = refl
head_begins r (suc (suc zero)) h = refl
head_begins r (suc (suc (suc zero))) h = refl
head_begins r (suc (suc (suc (suc zero)))) h = refl
head_begins r (suc (suc (suc (suc (suc k))))) h = absurd (omega arith)

pub mark_begins : (r : List ℕ) (k : ℕ) → k < mark_bytes → at (head ++ r) k ≡ at mark k
mark_begins r zero h = refl
mark_begins r (suc zero) h = refl
mark_begins r (suc (suc zero)) h = refl
mark_begins r (suc (suc (suc k))) h = absurd (omega arith)

-- what is saved of what an image holds: its fields, behind the head that is written
pub held_written : (i : List ℕ) → Bytes i → Image i → image_of (held i) ≡ head ++ fields_in i
unfolding image_of held
held_written i b m = ap (λ (r : List ℕ). head ++ r) (fields_held (fields_in i) (rest_long i m) (rest_small i b))

pub held_image : (i : List ℕ) → Bytes i → Image i → version_in i ≡ version_written → image_of (held i) ≡ i
held_image i b m v =
    let l : length i ≡ image_bytes = m.long ∙ ap (at lengths) v in
    held_written i b m ∙ ap (λ (r : List ℕ). head ++ r) (fields_written i v) ∙ sym (head_rest i (written_begins i b m v) (omega arith))

pub image_held : (s : State) → Valid s → held (image_of s) ≡ s
unfolding image_of held
image_held s v =
    ap (λ (r : List ℕ). state_of (cut field_sizes r)) (append-nil (joined (state_fields s)))
    ∙ ap (λ (ns : List ℕ). state_of (cut ns (joined (state_fields s)))) (sym (fields_sized s v.sized))
    ∙ ap state_of (joined_cut (state_fields s))
    ∙ state_back s v

pub image_is : (s : State) → Sized s → Image (image_of s)
unfolding image_of
image_is s z =
    record {
      marked = mark_begins (joined (state_fields s));
      version = inr refl;
      long = let e : length (joined (state_fields s)) ≡ total field_sizes = length_joined (state_fields s) ∙ ap total (fields_sized s z) in omega arith;
    }

-- equal images are those of equal states
pub image_inj : (s t : State) → Valid s → Valid t → image_of s ≡ image_of t → s ≡ t
image_inj s t v w e = sym (image_held s v) ∙ ap held e ∙ image_held t w
