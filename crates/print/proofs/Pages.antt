-- Typing on the page of the code: text after text, and what is left to type.
-- Assumes nothing.
use mathlib.Core.Path.{◌≡◌, refl, sym, ap, ◌∙◌}
use mathlib.Core.List.{List, [], ◌∷◌, ◌++◌, append_assoc}
use Prim.Native.Nat.{ℕ, zero, suc, ◌+◌, ◌-◌, ◌≤◌, ◌<◌}
use native.Mathlib.Omega.{arith}
use lib.ListN.{length, drop, drop_of_length-le}
use Rattle.laws.specs.Choice.{at}
use Rattle.std.specs.Borrow.{MutBor}
use Rattle.print.specs.Text.{page, typed_all, digit, digits}
use Rattle.print.specs.declared.Page.{Page}
use Rattle.print.specs.Pages.{blank, begun, seen, showing, typed_on, typed_all_on}
use Rattle.print.proofs.Typing.{typed_append, typed_rest, typed_whole}

-- text after text
module _ (p : Page) where
  pub none_on : typed_all_on p [] ≡ p
  unfolding typed_all typed_all_on
  none_on = refl

  pub more_on : (xs ys : List ℕ) → typed_all_on (typed_all_on p xs) ys ≡ typed_all_on p (xs ++ ys)
  unfolding typed_all_on
  more_on xs ys = ap (showing p) (typed_append (seen p) xs ys)

  pub byte_on : (x : ℕ) → typed_on p x ≡ typed_all_on p (x ∷ [])
  unfolding typed_all typed_on typed_all_on
  byte_on x = refl

-- what a function proves that types one after another: `#[tactic(auto, using(print::proofs::Pages::typing))]`
pub ruleset typing = (none_on, more_on, byte_on, append_assoc)

-- what is read in the end of a page that was begun at a place: the lent buffer, and the place after the text
pub text_from : (o : MutBor (List ℕ)) (i : ℕ) (xs : List ℕ) {p q : Page} → p ≡ begun o i → q ≡ typed_all_on p xs
    → page q.out.now q.place ≡ typed_all (page o.now i) xs
unfolding typed_all_on
text_from o i xs b e = ap seen (e ∙ ap (λ (t : Page). typed_all_on t xs) b)

-- of a new page: the lent buffer, and how many bytes are typed
module _ (o : MutBor (List ℕ)) (xs : List ℕ) {p q : Page} (b : p ≡ blank o) (e : q ≡ typed_all_on p xs) where
  pub text_on : page q.out.now q.place ≡ typed_all (page o.now 0) xs
  text_on = text_from o 0 xs b e

  -- the text is as long as the buffer
  pub whole_on : length o.now ≡ length xs → q.out.now ≡ xs
  whole_on h = typed_whole o.now xs q.out.now q.place h text_on

-- what is left to type
module _ (p : Page) where
  -- byte i of s is typed, and then the rest of s
  pub on_byte : {q r : Page} (s : List ℕ) (i : ℕ) → i < length s → q ≡ typed_on p (at s i) → typed_all_on p (drop i s) ≡ r → typed_all_on q (drop (i + 1) s) ≡ r
  unfolding typed_on typed_all_on
  on_byte s i h e f = ap (λ (t : Page). typed_all_on t (drop (i + 1) s)) e ∙ sym (ap (showing p) (typed_rest (seen p) s i h)) ∙ f

  pub on_end : {r : Page} (s : List ℕ) (i : ℕ) → length s ≤ i → typed_all_on p (drop i s) ≡ r → p ≡ r
  on_end s i h f = sym (none_on p) ∙ sym (ap (typed_all_on p) (drop_of_length-le s {i = i} h)) ∙ f

  -- the first of i digits, and then the others
  pub on_digit : {q : Page} (n i : ℕ) → 0 < i → q ≡ typed_on p (digit n (i - 1)) → typed_all_on q (digits (i - 1) n) ≡ typed_all_on p (digits i n)
  unfolding typed_all typed_on typed_all_on digits
  on_digit n zero h e = absurd (omega arith)
  on_digit n (suc k) h e =
      let l : suc k - 1 ≡ k = omega arith in
      ap (λ (t : Page). typed_all_on t (digits (suc k - 1) n)) e
      ∙ ap (λ (j : ℕ). typed_all_on (typed_on p (digit n j)) (digits j n)) l

  pub no_digit : (n i : ℕ) → i ≡ 0 → p ≡ typed_all_on p (digits i n)
  unfolding digits
  no_digit n i e = sym (ap (λ (k : ℕ). typed_all_on p (digits k n)) e ∙ none_on p)
