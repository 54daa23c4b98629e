-- Numbers of four bytes in a list: stored, read back, and fixed by each other.
-- Assumes nothing.
use mathlib.Core.Path.{◌≡◌, refl, sym, ap}
use mathlib.Core.List.{List, [], ◌∷◌}
use Prim.Native.Nat.{ℕ, zero, suc, ◌+◌, ◌*◌, ◌/◌, ◌%◌, ◌≤◌, ◌<◌}
use native.Mathlib.Nat.{not-suc-le-zero, le_of_suc-le-suc, add_assoc}
use native.Mathlib.Omega.{arith}
use lib.ListN.{length, get_or, drop, set, get_or-eq_default}
use lib.Seq.{get_or-drop}
use Rattle.model.specs.Records.{word_at}
use Rattle.model.specs.Fields.{words}
use Rattle.host.specs.Words.{set_word}

pub length_words : (n : ℕ) (s : List ℕ) → length (words n s) ≡ n
unfolding words
length_words zero s = refl
length_words (suc n) s = ap suc (length_words n (drop 4 s))

word_at_tail : (a b c d i : ℕ) (r : List ℕ) → word_at (a ∷ b ∷ c ∷ d ∷ r) (suc i * 4) ≡ word_at r (i * 4)
word_at_tail a b c d i r =
    let e0 : suc i * 4 ≡ suc (suc (suc (suc (i * 4)))) = omega arith in
    let e1 : suc i * 4 + 1 ≡ suc (suc (suc (suc (i * 4 + 1)))) = omega arith in
    let e2 : suc i * 4 + 2 ≡ suc (suc (suc (suc (i * 4 + 2)))) = omega arith in
    let e3 : suc i * 4 + 3 ≡ suc (suc (suc (suc (i * 4 + 3)))) = omega arith in
    rw (e1, e2, e3, e0)

set_word_tail : (a b c d i v : ℕ) (r : List ℕ) → set_word (a ∷ b ∷ c ∷ d ∷ r) (suc i * 4) v ≡ a ∷ b ∷ c ∷ d ∷ set_word r (i * 4) v
set_word_tail a b c d i v r =
    let e0 : suc i * 4 ≡ suc (suc (suc (suc (i * 4)))) = omega arith in
    let e1 : suc i * 4 + 1 ≡ suc (suc (suc (suc (i * 4 + 1)))) = omega arith in
    let e2 : suc i * 4 + 2 ≡ suc (suc (suc (suc (i * 4 + 2)))) = omega arith in
    let e3 : suc i * 4 + 3 ≡ suc (suc (suc (suc (i * 4 + 3)))) = omega arith in
    rw (e1, e2, e3, e0)

-- a word that was stored is read back
pub bytes_of : (v : ℕ) → v % 256 + 256 * (v / 256 % 256) + 65536 * (v / 65536 % 256) + 16777216 * (v / 16777216) ≡ v
bytes_of v = omega arith

pub words_set : (n i v : ℕ) (s : List ℕ) → i < n → n * 4 ≤ length s → words n (set_word s (i * 4) v) ≡ set (words n s) i v
unfolding words
words_set zero i v s h l = absurd (not-suc-le-zero h)
words_set (suc n) i v [] h l = absurd (omega arith)
words_set (suc n) i v (a ∷ []) h l = absurd (omega arith)
words_set (suc n) i v (a ∷ b ∷ []) h l = absurd (omega arith)
words_set (suc n) i v (a ∷ b ∷ c ∷ []) h l = absurd (omega arith)
words_set (suc n) zero v (a ∷ b ∷ c ∷ d ∷ r) h l = ap (λ (x : ℕ). x ∷ words n r) (bytes_of v)
words_set (suc n) (suc i) v (a ∷ b ∷ c ∷ d ∷ r) h l =
    rw (set_word_tail a b c d i v r) (ap (λ (x : List ℕ). word_at (a ∷ b ∷ c ∷ d ∷ r) 0 ∷ x) (words_set n i v r (le_of_suc-le-suc h) (omega arith)))

word_at_drop : (a : ℕ) (s : List ℕ) → word_at (drop 4 s) a ≡ word_at s (4 + a)
word_at_drop a s =
    rw (get_or-drop 4 s a 0, get_or-drop 4 s (a + 1) 0, get_or-drop 4 s (a + 2) 0, get_or-drop 4 s (a + 3) 0, ← add_assoc 4 a 1, ← add_assoc 4 a 2, ← add_assoc 4 a 3)

pub two_words : (s : List ℕ) → words 2 s ≡ word_at s 0 ∷ word_at s 4 ∷ []
unfolding words
two_words s = ap (λ (x : ℕ). word_at s 0 ∷ x ∷ []) (word_at_drop 0 s)

pub words_get : (n i : ℕ) (s : List ℕ) → i < n → word_at s (i * 4) ≡ get_or (words n s) i 0
unfolding words
words_get zero i s h = absurd (not-suc-le-zero h)
words_get (suc n) zero s h = refl
words_get (suc n) (suc i) s h =
    let e : suc i * 4 ≡ 4 + i * 4 = omega arith in
    rw (e, ← word_at_drop (i * 4) s) (words_get n i (drop 4 s) (le_of_suc-le-suc h))

pub words_out : (n i : ℕ) (s : List ℕ) → n ≤ i → 0 ≡ get_or (words n s) i 0
words_out n i s h = sym (get_or-eq_default (words n s) 0 (omega (arith, length_words n s)))
