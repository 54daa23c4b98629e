-- Numbers that are no byte of a list, in the view of bytes: the values of pages and lines, the active guest and the mode, the policy, and the map of
-- free pages. What a read and a store of each is of the state.
-- Assumes nothing.
use mathlib.Core.Path.{◌≡◌, refl, sym, ap, ◌∙◌}
use mathlib.Core.List.{List, [], ◌∷◌}
use Prim.Native.Nat.{ℕ, ◌+◌, ◌*◌, ◌/◌, ◌%◌, ◌^◌, ◌≤◌, ◌<◌}
use native.Mathlib.Omega.{arith}
use lib.ListN.{length, set, length-set}
use lib.Seq.{set_out}
use Rattle.laws.specs.Choice.{at}
use Rattle.laws.proofs.Lists.{at_same}
use Rattle.laws.proofs.Cut.{cut_get, cut_length}
use Rattle.model.specs.Sizes.{byte_bound}
use Rattle.model.specs.State.{State}
use Rattle.model.specs.Records.{word_at}
use Rattle.host.specs.declared.values.Values.{Values}
use Rattle.host.specs.declared.values.Values.TheVariants.{Memory, Lines}
use Rattle.host.specs.Values.{values_number, extent_of}
use Rattle.laws.specs.Cut.{cut, begin, size, part, edit}
use Rattle.host.specs.Words.{set_word}
use Rattle.model.specs.Fields.{words, state_of, long}
use Rattle.host.specs.View.{sizes, free_field, active_field, mode_field, memory_field, policy_field, bytes, view, worded, put_memory, put_line, put_word, put_active, put_mode, put_policy, put_free}
use Rattle.host.proofs.Cut.{cut_set, cut_set_word, cut_get_word}
use Rattle.host.proofs.Words.{length_words, words_set, words_get, words_out, two_words}
use Rattle.host.proofs.View.{ends_below}

-- ---- the lists of values, and the field that each is

abbrev field_of : Values → ℕ
field_of k = memory_field + values_number k

starts : (k : Values) → (extent_of k).start ≡ begin sizes (field_of k)
starts Memory = refl
starts Lines = refl

counts : (k : Values) → (extent_of k).size * 4 ≡ size sizes (field_of k)
counts Memory = refl
counts Lines = refl

-- the state with other values
abbrev with_words : Values → State → List ℕ → State
with_words Memory s l = record { shape = s.shape; values = record { memory = l; line = s.values.line } }
with_words Lines s l = record { shape = s.shape; values = record { memory = s.values.memory; line = l } }

words_part : (k : Values) (xs : List ℕ) → worded (values_number k) (view xs) ≡ words (extent_of k).size (part (cut sizes xs) (field_of k))
unfolding view
words_part Memory xs = refl
words_part Lines xs = refl

words_edit : (k : Values) (xs : List ℕ) (f : List ℕ → List ℕ)
    → state_of (edit (field_of k) f (cut sizes xs)) ≡ with_words k (view xs) (words (extent_of k).size (f (part (cut sizes xs) (field_of k))))
unfolding view
words_edit Memory xs f = refl
words_edit Lines xs f = refl

words_put : (k : Values) (s : State) (i v : ℕ) → with_words k s (set (worded (values_number k) s) i v) ≡ put_word (values_number k) s i v
unfolding put_memory put_line
words_put Memory s i v = refl
words_put Lines s i v = refl

words_same : (k : Values) (s : State) → s ≡ with_words k s (worded (values_number k) s)
words_same Memory s = refl
words_same Lines s = refl

-- ---- laws

-- a number of the table ends within the bytes
pub word_ends : (k : Values) (i : ℕ) → i < (extent_of k).size → (extent_of k).start + i * 4 + 4 ≤ bytes
word_ends k i h = omega (arith, starts k, counts k, ends_below (field_of k))

pub word_get : (k : Values) (i : ℕ) (xs : List ℕ) → i < (extent_of k).size → word_at xs ((extent_of k).start + i * 4) ≡ at (worded (values_number k) (view xs)) i
word_get k i xs h =
    ap (λ (a : ℕ). word_at xs (a + i * 4)) (starts k)
    ∙ cut_get_word sizes (field_of k) (i * 4) xs (omega (arith, counts k))
    ∙ words_get (extent_of k).size i (part (cut sizes xs) (field_of k)) h
    ∙ ap (λ (l : List ℕ). at l i) (sym (words_part k xs))

pub word_out : (k : Values) (i : ℕ) (xs : List ℕ) → (extent_of k).size ≤ i → 0 ≡ at (worded (values_number k) (view xs)) i
word_out k i xs h = words_out (extent_of k).size i (part (cut sizes xs) (field_of k)) h ∙ ap (λ (l : List ℕ). at l i) (sym (words_part k xs))

pub word_put : (k : Values) (i v : ℕ) (xs : List ℕ) → length xs ≡ bytes → i < (extent_of k).size
    → view (set_word xs ((extent_of k).start + i * 4) v) ≡ put_word (values_number k) (view xs) i v
unfolding view
word_put k i v xs l h =
    let p = part (cut sizes xs) (field_of k) in
    let z : length p ≡ size sizes (field_of k) = cut_length sizes (field_of k) xs (omega arith) in
    ap (λ (a : ℕ). view (set_word xs (a + i * 4) v)) (starts k)
    ∙ ap state_of (cut_set_word sizes (field_of k) (i * 4) v xs (omega (arith, counts k)))
    ∙ words_edit k xs (λ s. set_word s (i * 4) v)
    ∙ ap (with_words k (view xs)) (words_set (extent_of k).size i v p h (omega (arith, counts k)) ∙ ap (λ (l : List ℕ). set l i v) (sym (words_part k xs)))
    ∙ words_put k (view xs) i v

pub word_kept : (k : Values) (i v : ℕ) (xs : List ℕ) → (extent_of k).size ≤ i → view xs ≡ put_word (values_number k) (view xs) i v
word_kept k i v xs h =
    words_same k (view xs)
    ∙ ap (with_words k (view xs)) (sym (set_out (worded (values_number k) (view xs)) i v (omega (arith, ap length (words_part k xs), length_words (extent_of k).size (part (cut sizes xs) (field_of k))))))
    ∙ words_put k (view xs) i v

-- ---- the active guest, the mode and the policy: a byte each

-- a store in such a field: F is the state by what its byte is
byte_put : (f v : ℕ) (xs : List ℕ) → 0 < size sizes f → length xs ≡ bytes → (F : ℕ → State)
    → state_of (edit f (λ s. set s 0 v) (cut sizes xs)) ≡ F (at (set (part (cut sizes xs) f) 0 v) 0) → view (set xs (begin sizes f + 0) v) ≡ F v
unfolding view
byte_put f v xs h l F e =
    ap state_of (cut_set sizes f 0 v xs h) ∙ e
    ∙ ap F (at_same (part (cut sizes xs) f) 0 v (omega (arith, cut_length sizes f xs (omega arith))))

pub active_get : (xs : List ℕ) → at xs (begin sizes active_field) ≡ (view xs).shape.guests.active
unfolding view
active_get xs = cut_get sizes active_field 0 xs (omega arith)

pub active_put : (v : ℕ) (xs : List ℕ) → length xs ≡ bytes → view (set xs (begin sizes active_field) v) ≡ put_active (view xs) v
unfolding view put_active
active_put v xs l = byte_put active_field v xs (omega arith) l (put_active (view xs)) refl

pub mode_get : (xs : List ℕ) → at xs (begin sizes mode_field) ≡ (view xs).shape.guests.mode
unfolding view
mode_get xs = cut_get sizes mode_field 0 xs (omega arith)

pub mode_put : (v : ℕ) (xs : List ℕ) → length xs ≡ bytes → view (set xs (begin sizes mode_field) v) ≡ put_mode (view xs) v
unfolding view put_mode
mode_put v xs l = byte_put mode_field v xs (omega arith) l (put_mode (view xs)) refl

pub policy_get : (xs : List ℕ) → at xs (begin sizes policy_field) ≡ (view xs).shape.policy
unfolding view
policy_get xs = cut_get sizes policy_field 0 xs (omega arith)

pub policy_put : (v : ℕ) (xs : List ℕ) → length xs ≡ bytes → view (set xs (begin sizes policy_field) v) ≡ put_policy (view xs) v
unfolding view put_policy
policy_put v xs l = byte_put policy_field v xs (omega arith) l (put_policy (view xs)) refl

-- ---- the map of free pages: eight bytes

abbrev half : ℕ
half = byte_bound ^ 4

pub free_get : (xs : List ℕ) → word_at xs (begin sizes free_field) + half * word_at xs (begin sizes free_field + 4) ≡ (view xs).shape.pages.free
unfolding view
free_get xs = cc (cut_get_word sizes free_field 0 xs (omega arith), cut_get_word sizes free_field 4 xs (omega arith))

-- eight bytes stored are read back
long_set : (p : List ℕ) (v : ℕ) → length p ≡ 8 → long (set_word (set_word p 0 (v % half)) 4 (v / half)) ≡ v
long_set p v l =
    let lo = v % half in
    let hi = v / half in
    let q = set_word p 0 lo in
    let a : words 2 q ≡ set (words 2 p) 0 lo = words_set 2 0 lo p (omega arith) (omega arith) in
    let b : words 2 (set_word q 4 hi) ≡ set (words 2 q) 1 hi = words_set 2 1 hi q (omega arith) (simp length-set (omega arith)) in
    let e : word_at (set_word q 4 hi) 0 ∷ word_at (set_word q 4 hi) 4 ∷ [] ≡ lo ∷ hi ∷ [] =
    sym (two_words (set_word q 4 hi)) ∙ b ∙ ap (λ (x : List ℕ). set x 1 hi) a ∙ ap (λ (x : List ℕ). set (set x 0 lo) 1 hi) (two_words p) in
    let e0 : word_at (set_word q 4 hi) 0 ≡ lo = cc in
    let e1 : word_at (set_word q 4 hi) 4 ≡ hi = cc in
    omega (arith, e0, e1)

pub free_put : (xs : List ℕ) (v : ℕ) → length xs ≡ bytes
    → view (set_word (set_word xs (begin sizes free_field) (v % half)) (begin sizes free_field + 4) (v / half)) ≡ put_free (view xs) v
unfolding view put_free
free_put xs v l =
    let lo = v % half in
    let hi = v / half in
    ap state_of
    (cut_set_word sizes free_field 4 hi (set_word xs (begin sizes free_field) lo) (omega arith) ∙ ap (edit free_field (λ s. set_word s 4 hi)) (cut_set_word sizes free_field 0 lo xs (omega arith)))
    ∙ ap (put_free (view xs)) (long_set (part (cut sizes xs) free_field) v (cut_length sizes free_field xs (omega arith)))
