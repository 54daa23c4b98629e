-- The state fixes every byte: its lists have their sizes, its numbers are bytes and 32-bit values, and equal states come from equal bytes.
-- Assumes nothing.
use mathlib.Core.Path.{◌≡◌, sym, ap, ◌∙◌}
use mathlib.Core.List.{List}
use Prim.Native.Nat.{ℕ, ◌*◌, ◌^◌, ◌<◌}
use native.Mathlib.Omega.{arith}
use lib.ListN.{length}
use Rattle.laws.proofs.Cases.{below?}
use Rattle.laws.proofs.Cut.{cut_length}
use Rattle.model.specs.Sizes.{pages, lines, byte_bound}
use Rattle.model.specs.State.{State}
use Rattle.model.specs.Valid.{Sized}
use Rattle.laws.specs.Cut.{cut, size, part, joined}
use Rattle.model.proofs.Image.{fields_held}
use Rattle.model.proofs.Fields.{Valued, cut_bytes, word_below}
use Rattle.model.specs.Fields.{words, long, state_fields, Small}
use Rattle.host.specs.View.{sizes, bytes, view, Whole}
use Rattle.host.proofs.Words.{length_words, words_get, words_out}

part_length : (xs : List ℕ) → length xs ≡ bytes → (k : ℕ) → length (part (cut sizes xs) k) ≡ size sizes k
part_length xs h k = cut_length sizes k xs (omega (arith, h))

part_small : (xs : List ℕ) → Whole xs → (k : ℕ) → Small (part (cut sizes xs) k)
part_small xs h k = cut_bytes sizes k xs h.small

-- any numbers, as many as a state has bytes
pub long_sized : (xs : List ℕ) → length xs ≡ bytes → Sized (view xs)
unfolding view
long_sized xs h =
    let l : (k : ℕ) → length (part (cut sizes xs) k) ≡ size sizes k = part_length xs h in
    record {
      owner = l 0;
      kind = l 1;
      cacheable = l 2;
      entry = l 3;
      physical = l 4;
      current = l 6;
      call = l 7;
      call_a = l 8;
      call_b = l 9;
      line_address = l 12;
      line_page = l 13;
      history = l 14;
      slot_address = l 15;
      slot_page = l 16;
      memory = length_words pages (part (cut sizes xs) 17);
      line = length_words lines (part (cut sizes xs) 18);
    }

pub view_sized : (xs : List ℕ) → Whole xs → Sized (view xs)
view_sized xs h = long_sized xs h.long

-- ---- numbers in range

words_valued : (n : ℕ) (s : List ℕ) → Small s → Valued (words n s)
words_valued n s b i =
    below? i n (λ h. omega (arith, words_get n i s h, word_below s b (i * 4))) (λ h. omega (arith, words_out n i s h))

pub long_below : (s : List ℕ) → Small s → long s < 2 ^ 64
long_below s b = omega (arith, word_below s b 0, word_below s b 4)

-- every number of a state that comes from bytes is a byte or a value, and the map has 64 bits
pub record Bounded (s : State) : Type 0 where
  pub owner : Small s.shape.pages.owner
  pub kind : Small s.shape.pages.kind
  pub cacheable : Small s.shape.pages.cacheable
  pub entry : Small s.shape.pages.entry
  pub physical : Small s.shape.pages.physical
  pub free : s.shape.pages.free < 2 ^ 64
  pub current : Small s.shape.guests.current
  pub call : Small s.shape.guests.call
  pub call_a : Small s.shape.guests.call_a
  pub call_b : Small s.shape.guests.call_b
  pub active : s.shape.guests.active < byte_bound
  pub mode : s.shape.guests.mode < byte_bound
  pub line_address : Small s.shape.cache.line_address
  pub line_page : Small s.shape.cache.line_page
  pub history : Small s.shape.cache.history
  pub slot_address : Small s.shape.tlb.slot_address
  pub slot_page : Small s.shape.tlb.slot_page
  pub memory : Valued s.values.memory
  pub line : Valued s.values.line
  pub policy : s.shape.policy < byte_bound

pub view_bytes : (xs : List ℕ) → Whole xs → Bounded (view xs)
unfolding view
view_bytes xs h =
    let b : (k : ℕ) → Small (part (cut sizes xs) k) = part_small xs h in
    record {
      owner = b 0;
      kind = b 1;
      cacheable = b 2;
      entry = b 3;
      physical = b 4;
      free = long_below (part (cut sizes xs) 5) (b 5);
      current = b 6;
      call = b 7;
      call_a = b 8;
      call_b = b 9;
      active = b 10 0;
      mode = b 11 0;
      line_address = b 12;
      line_page = b 13;
      history = b 14;
      slot_address = b 15;
      slot_page = b 16;
      memory = words_valued pages (part (cut sizes xs) 17) (b 17);
      line = words_valued lines (part (cut sizes xs) 18) (b 18);
      policy = b 19 0;
    }

-- ---- equal states, equal bytes

pub view_inj : (xs ys : List ℕ) → Whole xs → Whole ys → view xs ≡ view ys → xs ≡ ys
unfolding view
view_inj xs ys h k e =
    sym (fields_held xs h.long h.small) ∙ ap (λ (s : State). joined (state_fields s)) e ∙ fields_held ys k.long k.small
