-- How long a line is at most.
-- Assumes nothing.
use mathlib.Core.Path.{◌≡◌, refl, ap, subst}
use mathlib.Core.Bool.{Bool, true}
use mathlib.Core.List.{List, [], ◌∷◌, ◌++◌}
use Prim.Native.Nat.{ℕ, suc, ◌+◌, ◌-◌, ◌/◌, ◌%◌, ◌^◌, ◌≤◌, ◌<◌}
use native.Mathlib.Omega.{arith}
use borrow.Author.Tests.{leb-true}
use lib.Dec.{leb}
use lib.ListN.{length, get_or, length-append, get_or-eq_default}
use Rattle.laws.specs.Search.{first_from, seek_from, all_in}
use Rattle.laws.proofs.Cases.{below?}
use Rattle.laws.proofs.Tests.{true⇔}
use Rattle.laws.proofs.Search.{all⇔, at_entry}
use Rattle.model.specs.Sizes.{physicals, addresses, ways, stealth_set, byte_bound}
use Rattle.print.specs.Text.{digits, places_of, decimal_of}
use Rattle.print.proofs.Decimal.{length_decimal}
use Rattle.words.specs.Words.{guest_word, page_word, set_word, slot_word, physical_word, address_word, way_word, history_word, holds_word, broken_word, line_end, space, field_names, Form, a_guest, a_page, a_physical, an_entry, a_way, a_slot, a_stealth_way, the_stealth_history, a_number, no_form, forms, form_of, words_of, holds_line, broken_line, longest_line}
use Rattle.words.proofs.Rows.{past}

-- the most bytes of a word and a number of m digits behind it
counted_most : (w : List ℕ) (n m : ℕ) → n < 10 ^ suc m → length (w ++ decimal_of n) ≤ length w + suc m
counted_most w n m h = omega (arith, length-append w (decimal_of n), length_decimal n m h)

paired_most : (v w : List ℕ) (n m k l : ℕ) → n < 10 ^ suc k → m < 10 ^ suc l
    → length (v ++ decimal_of n ++ w ++ decimal_of m) ≤ length v + suc k + length w + suc l
paired_most v w n m k l h j =
    omega (arith, counted_most v n k h, length-append (v ++ decimal_of n) w, counted_most (v ++ decimal_of n ++ w) m l j)

-- ---- the words for a place

most : Form → ℕ
most a_guest = 11
most a_page = 10
most a_physical = 22
most an_entry = 20
most a_way = 15
most a_slot = 10
most a_stealth_way = 15
most the_stealth_history = 13
most (a_number f) = length (get_or field_names f []) + 6
most no_form = 0

words_most : (f : Form) (i : ℕ) → i < 2 ^ 16 → length (words_of f i) ≤ most f
unfolding words_of most
words_most a_guest i h = counted_most guest_word i 4 (omega arith)
words_most a_page i h = counted_most page_word i 4 (omega arith)
words_most a_physical i h = paired_most guest_word physical_word (i / physicals) (i % physicals) 3 1 (omega arith) (omega arith)
words_most an_entry i h = paired_most page_word address_word (i / addresses) (i % addresses) 3 1 (omega arith) (omega arith)
words_most a_way i h = paired_most set_word way_word (i / ways) (i % ways) 4 0 (omega arith) (omega arith)
words_most a_slot i h = counted_most slot_word i 4 (omega arith)
words_most a_stealth_way i h = paired_most set_word way_word stealth_set i 0 4 (omega arith) (omega arith)
words_most the_stealth_history i h =
    omega (arith, counted_most set_word stealth_set 0 (omega arith), length-append (set_word ++ decimal_of stealth_set) history_word)
words_most (a_number f) i h =
    omega (arith, length-append (get_or field_names f []) (space ∷ decimal_of i), length_decimal i 4 (omega arith))
words_most no_form i h = omega arith

-- ---- the table of forms: one test of all its entries

-- what a rule's number and the words for a place may have, beside the word and the line's end
abbrev room : ℕ
room = longest_line - suc (length broken_word)

fits : ℕ → Form → Bool
fits n f = leb (length (decimal_of n) + most f) room

all_fit : (n : ℕ) → n < length forms → all_in (λ k f. fits n f) (get_or forms n []) ≡ true
unfolding most fits first_from seek_from digits places_of
all_fit = (all⇔ (length forms) (λ n h. true⇔ (all_in (λ k f. fits n f) (get_or forms n [])))).0 refl

module _ (n : ℕ) (small : n < byte_bound) where
  none_fits : (f : Form) → no_form ≡ f → length (decimal_of n) + most f ≤ room
  unfolding most
  none_fits f e = subst (λ (g : Form). length (decimal_of n) + most g ≤ room) e (omega (arith, length_decimal n 2 (omega arith)))

  form_fits : (k : ℕ) → length (decimal_of n) + most (form_of n k) ≤ room
  unfolding form_of fits
  form_fits k =
      below? k (length (get_or forms n []))
      (λ h. below? n (length forms) (λ l. leb-true _ _ (at_entry (λ k f. fits n f) no_form (get_or forms n []) (all_fit n l) k h))
      (λ l. absurd (omega (arith, ap length (get_or-eq_default forms [] l)))))
      (λ h. none_fits (form_of n k) (past (get_or forms n []) k h))

  -- ---- the lines

  -- three digits, the word and the line's end
  pub holds_room : length (holds_line n) ≤ 10
  holds_room =
      omega (arith, length-append (decimal_of n ++ holds_word) (line_end ∷ []), length-append (decimal_of n) holds_word, length_decimal n 2 (omega arith))

  pub broken_room : (k i : ℕ) → i < 2 ^ 16 → length (broken_line n k i) ≤ longest_line
  broken_room k i h =
      let w = words_of (form_of n k) i in
      omega (arith, length-append (decimal_of n ++ broken_word ++ w) (line_end ∷ []), length-append (decimal_of n ++ broken_word) w, length-append (decimal_of n) broken_word, words_most (form_of n k) i h, form_fits k)

-- no smaller bound holds
pub longest_met : length (broken_line 3 0 65535) ≡ longest_line
unfolding first_from digits places_of form_of words_of
longest_met = refl
