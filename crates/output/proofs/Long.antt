-- An input with more whole records than a journal may have does and prints the same as its first bytes, and ends with the same status: both are refused
-- alike. So is an image with more bytes than one may have.
-- Assumes nothing.
use Rattle.std.proofs.Common.{◌≡◌, ℕ, suc, ◌+◌, ◌*◌, ◌≤◌, Bool, true, false, not, ◌≢◌, List, length, take, sym, refl, ap, ◌∙◌, ⊎_elim, arith, length-take-le, get_or-take}
use Rattle.laws.specs.Choice.{pick}
use Rattle.laws.proofs.Cases.{split}
use Rattle.laws.proofs.Tests.{not_so, fails}
use Rattle.model.specs.Sizes.{header_bytes, record_bytes, record_limit}
use Rattle.model.specs.State.{State}
use Rattle.model.specs.Valid.{valid?}
use Rattle.model.specs.Journal.{has_header, form_refusal, journal_refusal, After, away, journal}
use Rattle.model.specs.Image.{not_image, image_bytes, loaded}
use Rattle.model.proofs.Journal.{either}
use Rattle.model.proofs.Image.{image_length}
use Rattle.model.proofs.Saving.{load_other}
use Rattle.journal.proofs.Header.{header⇔}
use Rattle.journal.proofs.Limits.{no_journal, too_long}
use Rattle.output.specs.Output.{printed, status_of}

-- ---- journals

-- the header and one record more than a journal may have
abbrev pub enough : ℕ
enough = header_bytes + record_bytes * suc record_limit

module _ (j : List ℕ) (h : enough ≤ length j) where
  cut_length : length (take enough j) ≡ enough
  cut_length = length-take-le enough j h

  cut_header : has_header (take enough j) ≡ has_header j
  cut_header =
      split (has_header j)
      (λ e. let t = (header⇔ j).0 e in
      (header⇔ (take enough j)).1 (omega (arith, cut_length), λ i l. get_or-take enough j i 0 (omega arith) ∙ t.1 i l) ∙ sym e)
      (λ e. not_so (header⇔ (take enough j)) (λ t. fails (header⇔ j) e (omega arith, λ i l. sym (get_or-take enough j i 0 (omega arith)) ∙ t.1 i l)) ∙ sym e)

-- 13 or 14, by its header
abbrev form_number : Bool → ℕ
form_number t = pick t 14 13

form_long : (t : Bool) (n m : ℕ) → enough ≤ n → form_refusal t n m ≡ form_number t
form_long true n m h = sym (too_long true n m refl (omega arith))
form_long false n m h = sym (no_journal false n m refl)

-- 1 before these, by the state
abbrev long_number : Bool → Bool → ℕ
long_number v t = pick (not v) 1 (form_number t)

long_refused : (v t : Bool) → long_number v t ≢ 0
long_refused false t e = omega arith
long_refused true true e = omega arith
long_refused true false e = omega arith

module _ (s : State) (j b : List ℕ) (h : enough ≤ length j) where
  refusal_long : journal_refusal s j b ≡ long_number (valid? s) (has_header j)
  unfolding journal_refusal
  refusal_long = ap (pick (not (valid? s)) 1) (form_long (has_header j) (length j) (length b) h)

  journal_long : journal s j b ≡ away s b (long_number (valid? s) (has_header j))
  journal_long =
      either (λ (a : After). a ≡ away s b (long_number (valid? s) (has_header j))) s j b
      (λ e. absurd (long_refused (valid? s) (has_header j) (sym refusal_long ∙ e)))
      (λ n. ap (away s b) refusal_long)

pub cut_same : (s : State) (j b : List ℕ) → enough ≤ length j → journal s j b ≡ journal s (take enough j) b
cut_same s j b h =
    journal_long s j b h
    ∙ ap (λ (t : Bool). away s b (long_number (valid? s) t)) (sym (cut_header j h))
    ∙ sym (journal_long s (take enough j) b (omega (arith, cut_length j h)))

pub cut_alike : (s : State) (j b : List ℕ) → enough ≤ length j → printed (journal s j b) ≡ printed (journal s (take enough j) b)
cut_alike s j b h = ap printed (cut_same s j b h)

pub cut_status : (s : State) (j b : List ℕ) → enough ≤ length j → status_of (journal s j b).verdict ≡ status_of (journal s (take enough j) b).verdict
cut_status s j b h = ap (λ (a : After). status_of a.verdict) (cut_same s j b h)

-- ---- images

-- one byte more than an image has
abbrev pub image_enough : ℕ
image_enough = suc image_bytes

no_image : (s : State) (i : List ℕ) → image_enough ≤ length i → loaded s i ≡ record { answer = not_image; state = s }
no_image s i h = load_other s i (λ m. ⊎_elim (λ l. omega arith) (λ l. omega arith) (image_length i m))

pub cut_image : (s : State) (i : List ℕ) → image_enough ≤ length i → loaded s i ≡ loaded s (take image_enough i)
cut_image s i h = no_image s i h ∙ sym (no_image s (take image_enough i) (omega (arith, length-take-le image_enough i h)))
