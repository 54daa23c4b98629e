-- The fields of a state as bytes: numbers and their bytes there and back, a state from its fields, and the fields of the state that bytes are.
-- Assumes nothing.
use mathlib.Core.Path.{◌≡◌, refl, sym, ap, ◌∙◌}
use mathlib.Core.List.{List, [], ◌∷◌, ◌++◌, map}
use Prim.Native.Nat.{ℕ, zero, suc, ◌+◌, ◌*◌, ◌/◌, ◌%◌, ◌<◌}
use native.Mathlib.Nat.{div-add-mod}
use native.Mathlib.Omega.{arith}
use lib.ListN.{length, take, drop, length-take}
use lib.Seq.{get_or-take, get_or-drop}
use Rattle.laws.specs.Choice.{at}
use Rattle.laws.specs.Cut.{cut, size, part, total}
use Rattle.laws.proofs.Cases.{below?}
use Rattle.laws.proofs.Lists.{at_past}
use Rattle.laws.proofs.Cut.{cut_length}
use Rattle.model.specs.Sizes.{pages, lines, value_bound}
use Rattle.model.specs.State.{State}
use Rattle.model.specs.Records.{word_bytes, word_at}
use Rattle.model.specs.Rules.{Below}
use Rattle.model.specs.Valid.{Sized, Valid}
use Rattle.model.proofs.Records.{word_back, word_forth}
use Rattle.model.specs.Fields.{field_sizes, Small, words, words_bytes, long, long_bytes, state_of, state_fields}

-- every number of the list has four bytes; past its end there is 0
abbrev pub Valued : List ℕ → Type 0
Valued l = (i : ℕ) → at l i < value_bound

below_all : (l : List ℕ) {n : ℕ} → length l ≡ n → Below l n value_bound → Valued l
below_all l {n} e h i = below? i n (λ k. h i k) (λ k. let z = at_past l i (omega arith) in omega arith)

-- the parts of bytes are bytes
pub cut_bytes : (ns : List ℕ) (k : ℕ) (xs : List ℕ) → Small xs → Small (part (cut ns xs) k)
cut_bytes [] k xs b i = omega arith
cut_bytes (n ∷ ns) zero xs b i =
    below? i n (λ h. rw (get_or-take n xs i 0 h) (b i)) (λ h. let z = at_past (take n xs) i (omega (arith, length-take n xs)) in omega arith)
cut_bytes (n ∷ ns) (suc k) xs b i = cut_bytes ns k (drop n xs) (λ j. rw (get_or-drop n xs j 0) (b (n + j))) i

-- ---- numbers of four bytes

pub words_back : (vs : List ℕ) → Valued vs → words (length vs) (words_bytes vs) ≡ vs
unfolding words words_bytes
words_back [] h = refl
words_back (v ∷ vs) h = λ i. word_back v (h 0) i ∷ words_back vs (λ j. h (suc j)) i

pub length_words_bytes : (vs : List ℕ) → length (words_bytes vs) ≡ length vs * 4
unfolding words_bytes
length_words_bytes [] = refl
length_words_bytes (v ∷ vs) = let e = length_words_bytes vs in omega arith

pub words_bytes_back : (n : ℕ) (s : List ℕ) → length s ≡ n * 4 → Small s → words_bytes (words n s) ≡ s
unfolding words words_bytes
words_bytes_back zero [] l h = refl
words_bytes_back zero (a ∷ s) l h = absurd (omega arith)
words_bytes_back (suc n) [] l h = absurd (omega arith)
words_bytes_back (suc n) (a ∷ []) l h = absurd (omega arith)
words_bytes_back (suc n) (a ∷ b ∷ []) l h = absurd (omega arith)
words_bytes_back (suc n) (a ∷ b ∷ c ∷ []) l h = absurd (omega arith)
words_bytes_back (suc n) (a ∷ b ∷ c ∷ d ∷ s) l h =
    λ i. word_forth a b c d (h 0) (h 1) (h 2) (h 3) i ++ words_bytes_back n s (omega arith) (λ j. h (suc (suc (suc (suc j))))) i

-- ---- numbers of eight bytes

pub long_back : (v : ℕ) → v < value_bound * value_bound → long (long_bytes v) ≡ v
long_back v h =
    let low = word_back (v % value_bound) (omega arith) in
    let high = word_back (v / value_bound) (omega arith) in
    (λ i. low i + value_bound * high i) ∙ parts (v % value_bound) (v / value_bound) (div-add-mod v value_bound)
  where
    parts : (r q : ℕ) → value_bound * q + r ≡ v → r + value_bound * q ≡ v
    parts r q e = omega arith

-- the two halves of a number
low_half : (x y : ℕ) → x < value_bound → (x + value_bound * y) % value_bound ≡ x
low_half x y h = omega arith

high_half : (x y : ℕ) → x < value_bound → (x + value_bound * y) / value_bound ≡ y
high_half x y h = omega arith

pub word_below : (s : List ℕ) → Small s → (a : ℕ) → word_at s a < value_bound
word_below s b a = omega (arith, b a, b (a + 1), b (a + 2), b (a + 3))

second_word : (s : List ℕ) → word_at (drop 4 s) 0 ≡ word_at s 4
second_word s = rw (get_or-drop 4 s 0 0, get_or-drop 4 s 1 0, get_or-drop 4 s 2 0, get_or-drop 4 s 3 0)

pub eight_back : (s : List ℕ) → length s ≡ 8 → Small s → long_bytes (long s) ≡ s
unfolding words words_bytes
eight_back s l h =
    let k : word_at s 0 < value_bound = word_below s h 0 in
    ap (λ (x : ℕ). word_bytes x ++ word_bytes (long s / value_bound)) (low_half (word_at s 0) (word_at s 4) k)
    ∙ ap (λ (x : ℕ). word_bytes (word_at s 0) ++ word_bytes x) (high_half (word_at s 0) (word_at s 4) k)
    ∙ ap (λ (x : ℕ). word_bytes (word_at s 0) ++ word_bytes x) (sym (second_word s))
    ∙ words_bytes_back 2 s l h

-- ---- bytes

word_small : (v : ℕ) (r : List ℕ) → Small r → Small (word_bytes v ++ r)
word_small v r h zero = omega arith
word_small v r h (suc zero) = omega arith
word_small v r h (suc (suc zero)) = omega arith
word_small v r h (suc (suc (suc zero))) = omega arith
word_small v r h (suc (suc (suc (suc i)))) = h i

pub words_small : (vs : List ℕ) → Small (words_bytes vs)
unfolding words_bytes
words_small [] i = omega arith
words_small (v ∷ vs) i = word_small v (words_bytes vs) (words_small vs) i

pub long_small : (v : ℕ) → Small (long_bytes v)
long_small v = word_small (v % value_bound) (word_bytes (v / value_bound)) (word_small (v / value_bound) [] (λ i. omega arith))

-- ---- a state and its fields

-- one byte
one_back : (s : List ℕ) → length s ≡ 1 → at s 0 ∷ [] ≡ s
one_back [] l = absurd (omega arith)
one_back (a ∷ []) l = refl
one_back (a ∷ b ∷ s) l = absurd (omega arith)

-- the state of a state's fields is that state
pub state_back : (s : State) → Valid s → state_of (state_fields s) ≡ s
state_back s v =
    let free = long_back s.shape.pages.free (omega (arith, v.rule10.pages.free)) in
    let memory : words pages (words_bytes s.values.memory) ≡ s.values.memory =
    ap (λ (n : ℕ). words n (words_bytes s.values.memory)) (sym v.sized.memory) ∙ words_back s.values.memory (below_all s.values.memory v.sized.memory v.rule10.values.memory) in
    let line : words lines (words_bytes s.values.line) ≡ s.values.line =
    ap (λ (n : ℕ). words n (words_bytes s.values.line)) (sym v.sized.line) ∙ words_back s.values.line (below_all s.values.line v.sized.line v.rule10.values.line) in
    λ i.
    record {
      shape =
          record {
            pages =
                record {
                  owner = s.shape.pages.owner;
                  kind = s.shape.pages.kind;
                  cacheable = s.shape.pages.cacheable;
                  entry = s.shape.pages.entry;
                  physical = s.shape.pages.physical;
                  free = free i;
                };
            guests = s.shape.guests;
            cache = s.shape.cache;
            tlb = s.shape.tlb;
            policy = s.shape.policy;
          };
      values = record { memory = memory i; line = line i };
    }

-- their sizes
pub fields_sized : (s : State) → Sized s → map length (state_fields s) ≡ field_sizes
fields_sized s z =
    let m : length (words_bytes s.values.memory) ≡ pages * 4 = length_words_bytes s.values.memory ∙ ap (λ (n : ℕ). n * 4) z.memory in
    let l : length (words_bytes s.values.line) ≡ lines * 4 = length_words_bytes s.values.line ∙ ap (λ (n : ℕ). n * 4) z.line in
    λ i.
    z.owner i ∷ z.kind i ∷ z.cacheable i ∷ z.entry i ∷ z.physical i ∷ 8 ∷ z.current i ∷ z.call i ∷ z.call_a i ∷ z.call_b i ∷ 1 ∷ 1
    ∷ z.line_address i ∷ z.line_page i ∷ z.history i ∷ z.slot_address i ∷ z.slot_page i ∷ m i ∷ l i ∷ 1 ∷ []

-- the fields of the state that bytes are, are those bytes
pub state_fields_back : (xs : List ℕ) → length xs ≡ total field_sizes → Small xs → state_fields (state_of (cut field_sizes xs)) ≡ cut field_sizes xs
state_fields_back xs l h =
    let p : ℕ → List ℕ = part (cut field_sizes xs) in
    let z : (k : ℕ) → length (p k) ≡ size field_sizes k = λ k. cut_length field_sizes k xs (omega arith) in
    let b : (k : ℕ) → Small (p k) = λ k. cut_bytes field_sizes k xs h in
    λ i.
    p 0 ∷ p 1 ∷ p 2 ∷ p 3 ∷ p 4 ∷ eight_back (p 5) (z 5) (b 5) i ∷ p 6 ∷ p 7 ∷ p 8 ∷ p 9 ∷ one_back (p 10) (z 10) i ∷ one_back (p 11) (z 11) i ∷ p 12
    ∷ p 13 ∷ p 14 ∷ p 15 ∷ p 16 ∷ words_bytes_back pages (p 17) (z 17) (b 17) i ∷ words_bytes_back lines (p 18) (z 18) (b 18) i
    ∷ one_back (p 19) (z 19) i ∷ []
