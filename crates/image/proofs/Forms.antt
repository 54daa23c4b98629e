-- Head and length are those of a version.
-- Assumes nothing.
use mathlib.Core.Path.{◌≡◌, refl, sym, ap, ◌∙◌}
use mathlib.Core.Bool.{Bool, true, false, ◌&&◌, ◌||◌}
use mathlib.Core.Logic.{◌⊎◌, inl, inr, ⊎_elim}
use mathlib.Core.List.{List, [], ◌∷◌}
use Prim.Native.Nat.{ℕ, zero, suc, ◌<◌}
use native.Mathlib.Omega.{arith}
use lib.Dec.{eqb}
use lib.ListN.{length}
use Rattle.std.specs.List.{starts_with}
use Rattle.laws.specs.Choice.{at}
use Rattle.laws.proofs.Cases.{split}
use Rattle.laws.proofs.Tests.{eq⇔, true⇔, and⇔, as⇔, agree}
use Rattle.model.specs.Sizes.{mark_bytes, image_head_bytes}
use Rattle.model.specs.Image.{mark, first_version, lengths, version_written, image_bytes, version_in, is_image, Image}
use Rattle.model.proofs.Image.{image⇔, image_length}

-- the head of a version, of which the second byte is 0
abbrev head_of : ℕ → List ℕ
head_of v = 82 ∷ 80 ∷ 83 ∷ v ∷ 0 ∷ []

-- no image is shorter than its head
short : (i : List ℕ) (v : ℕ) → (v ≡ first_version) ⊎ (v ≡ version_written) → length i ≡ at lengths v → length i < image_head_bytes → ⊥
short i v h l s = ⊎_elim (λ p. let z = ap (at lengths) p in omega arith) (λ p. let z = ap (at lengths) p in omega arith) h

same_version : (v w : ℕ) → (v ≡ first_version) ⊎ (v ≡ version_written) → (w ≡ first_version) ⊎ (w ≡ version_written) → at lengths v ≡ at lengths w → w ≡ v
same_version v w h k e =
    ⊎_elim
    (λ p. ⊎_elim (λ q. q ∙ sym p) (λ q. let z = ap (at lengths) p in let y = ap (at lengths) q in absurd (omega arith)) k)
    (λ p. ⊎_elim (λ q. let z = ap (at lengths) p in let y = ap (at lengths) q in absurd (omega arith)) (λ q. q ∙ sym p) k)
    h

pub form_law : (v : ℕ) → (v ≡ first_version) ⊎ (v ≡ version_written) → (i : List ℕ) → length i ≡ at lengths v → starts_with eqb i (head_of v) ≡ is_image i
form_law v h [] l = absurd (short [] v h l (omega arith))
form_law v h (a ∷ []) l = absurd (short (a ∷ []) v h l (omega arith))
form_law v h (a ∷ b ∷ []) l = absurd (short (a ∷ b ∷ []) v h l (omega arith))
form_law v h (a ∷ b ∷ c ∷ []) l = absurd (short (a ∷ b ∷ c ∷ []) v h l (omega arith))
form_law v h (a ∷ b ∷ c ∷ d ∷ []) l = absurd (short (a ∷ b ∷ c ∷ d ∷ []) v h l (omega arith))
form_law v h (a ∷ b ∷ c ∷ d ∷ e ∷ t) l =
    agree
    (as⇔ (and⇔ (eq⇔ 82 a) (and⇔ (eq⇔ 80 b) (and⇔ (eq⇔ 83 c) (and⇔ (eq⇔ v d) (and⇔ (eq⇔ 0 e) (true⇔ true)))))) is_one has_head)
    (image⇔ (a ∷ b ∷ c ∷ d ∷ e ∷ t))
  where
    marked : 82 ≡ a → 80 ≡ b → 83 ≡ c → (k : ℕ) → k < mark_bytes → at (a ∷ b ∷ c ∷ d ∷ e ∷ t) k ≡ at mark k
    marked x y z zero q = sym x
    marked x y z (suc zero) q = sym y
    marked x y z (suc (suc zero)) q = sym z
    marked x y z (suc (suc (suc k))) q = absurd (omega arith)

    is_one : (82 ≡ a) × ((80 ≡ b) × ((83 ≡ c) × ((v ≡ d) × ((0 ≡ e) × (true ≡ true))))) → Image (a ∷ b ∷ c ∷ d ∷ e ∷ t)
    is_one (x, (y, (z, (w, (u, o))))) =
        let q : version_in (a ∷ b ∷ c ∷ d ∷ e ∷ t) ≡ v = omega arith in
        record {
          marked = marked x y z;
          version = ⊎_elim (λ p. inl (q ∙ p)) (λ p. inr (q ∙ p)) h;
          long = l ∙ ap (at lengths) (sym q);
        }

    has_head : Image (a ∷ b ∷ c ∷ d ∷ e ∷ t) → (82 ≡ a) × ((80 ≡ b) × ((83 ≡ c) × ((v ≡ d) × ((0 ≡ e) × (true ≡ true)))))
    has_head m =
        let q : version_in (a ∷ b ∷ c ∷ d ∷ e ∷ t) ≡ v = same_version v (version_in (a ∷ b ∷ c ∷ d ∷ e ∷ t)) h m.version (sym l ∙ m.long) in
        let b = h in
        (sym (m.marked 0 (omega arith)), (sym (m.marked 1 (omega arith)), (sym (m.marked 2 (omega arith)), (⊎_elim (λ p. omega arith) (λ p. omega arith) h, (⊎_elim (λ p. omega arith) (λ p. omega arith) h, refl)))))

-- ---- the test of a version, as code asks it

abbrev pub tested : List ℕ → ℕ → List ℕ → Bool
tested i size head = eqb (length i) size && starts_with eqb i head

tested_one : (v : ℕ) (h : (v ≡ first_version) ⊎ (v ≡ version_written)) (i : List ℕ) → length i ≡ at lengths v → is_image i ≡ true
    → tested i (at lengths v) (head_of v) ≡ true
tested_one v h i l t = rw ((eq⇔ (length i) (at lengths v)).1 l) (form_law v h i l ∙ t)

tested_none : (v : ℕ) (h : (v ≡ first_version) ⊎ (v ≡ version_written)) (i : List ℕ) → is_image i ≡ false
    → tested i (at lengths v) (head_of v) ≡ false
tested_none v h i n =
    split (eqb (length i) (at lengths v)) (λ y. rw y (form_law v h i ((eq⇔ (length i) (at lengths v)).0 y) ∙ n)) (λ y. rw y)

pub either_version : (i : List ℕ)
    → (tested i (at lengths first_version) (head_of first_version) || (tested i image_bytes (head_of version_written) || false)) ≡ is_image i
either_version i =
    split (is_image i)
    (λ t. ⊎_elim
    (λ l. (λ k. tested_one first_version (inl refl) i l t k || (tested i image_bytes (head_of version_written) || false)) ∙ sym t)
    (λ l. rw (tested_one version_written (inr refl) i l t) (split (tested i (at lengths first_version) (head_of first_version)) (λ y. rw y (sym t)) (λ y. rw y (sym t))))
    (image_length i ((image⇔ i).0 t)))
    (λ n. (λ k. tested_none first_version (inl refl) i n k || (tested_none version_written (inr refl) i n k || false)) ∙ sym n)
