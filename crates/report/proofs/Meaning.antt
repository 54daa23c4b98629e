-- What the status and the text of a report say: all rules hold exactly if the state is valid; an image passes exactly if it could be loaded; and what is
-- no image is told apart from every image.
-- Assumes nothing.
use mathlib.Core.Path.{◌≡◌, refl, sym, ap, ◌∙◌, subst}
use mathlib.Core.Bool.{Bool, true, false, false≢true}
use mathlib.Core.Logic.{◌↔◌}
use mathlib.Core.List.{List, [], ◌∷◌}
use Prim.Native.Nat.{ℕ, zero, suc, ◌-◌, ◌≤◌, ◌<◌}
use native.Mathlib.Omega.{arith}
use lib.Dec.{ltb}
use lib.ListN.{length, length-append, get_or-append}
use Rattle.laws.specs.Choice.{pick, at, ◌⇔◌}
use Rattle.laws.specs.Search.{first_from}
use Rattle.laws.proofs.Cases.{split, same?, pick_both, pick_yes, pick_not}
use Rattle.laws.proofs.Tests.{and⇔, as⇔, not_so}
use Rattle.model.specs.State.{State}
use Rattle.model.specs.Valid.{Sized, Valid}
use Rattle.model.specs.Image.{is_image, Image, held, done, Read, loaded}
use Rattle.model.specs.Broken.{RulePart, places_in, first_failing, parts_of, last_rule, Finding, holds, broken, no_rule, broken_from, first_broken, is_holds}
use Rattle.model.proofs.Image.{image⇔}
use Rattle.model.proofs.Saving.{load_valid, load_done}
use Rattle.findings.proofs.Told.{told_valid}
use Rattle.print.specs.Text.{digit, digits, places_of}
use Rattle.report.specs.Report.{finding_line, rule_lines, all_hold, hold_status, broken_status, state_lines, state_status, no_image_line, image_lines, image_status}
use Rattle.report.proofs.Held.{held_sized}

-- ---- the status

holds⇔ : (f : Finding) → is_holds f ⇔ (f ≡ holds)
holds⇔ holds = ((λ e. refl), λ e. refl)
holds⇔ (broken k i) = ((λ e. absurd (false≢true e)), λ e. ap is_holds e)
holds⇔ no_rule = ((λ e. absurd (false≢true e)), λ e. ap is_holds e)

-- rules 1 to n
all⇔ : (n : ℕ) (s : State) → all_hold n s ⇔ ((m : ℕ) → 1 ≤ m → m ≤ n → first_broken m s ≡ holds)
unfolding all_hold
all⇔ zero s = ((λ e m h l. absurd (omega arith)), λ w. refl)
all⇔ (suc n) s =
    as⇔ (and⇔ (all⇔ n s) (holds⇔ (first_broken (suc n) s)))
    (λ w m h l. same? m (suc n) (λ e. subst (λ (x : ℕ). first_broken x s ≡ holds) (sym e) w.1) (λ e. w.0 m h (omega arith)))
    (λ w. ((λ m h l. w m h (omega arith)), w (suc n) (omega arith) (omega arith)))

status⇔ : (b : Bool) → (pick b hold_status broken_status ≡ hold_status) ↔ (b ≡ true)
status⇔ true = ((λ e. refl), λ e. refl)
status⇔ false = ((λ e. absurd (omega arith)), λ e. absurd (false≢true e))

pub holds_valid : (s : State) → Sized s → (state_status s ≡ hold_status) ↔ Valid s
holds_valid s z =
    let t = all⇔ last_rule s in
    let v = told_valid s z in
    let u = status⇔ (all_hold last_rule s) in (
      (λ e. v.1 (λ n k. t.0 (u.0 e) n k.some k.last)),
      λ w. u.1 (t.1 (λ n h l. v.0 w n (record { some = h; last = l }))),
    )

-- ---- images

pub image_told : (i : List ℕ) → Image i → (image_lines i ≡ state_lines (held i)) × (image_status i ≡ state_status (held i))
image_told i m =
    let e = (image⇔ i).1 m in (pick_yes (state_lines (held i)) no_image_line e, pick_yes (state_status (held i)) broken_status e)

-- as by loading it on any state
pub checks_loads : (s : State) (i : List ℕ) → (image_status i ≡ hold_status) ↔ ((loaded s i).answer ≡ done)
checks_loads s i = (
  (λ e. split (is_image i)
      (λ y. let m = (image⇔ i).0 y in
      ap (λ (r : Read). r.answer) (load_valid s i m ((holds_valid (held i) (held_sized i m)).0 (sym (image_told i m).1 ∙ e))))
      (λ y. absurd (apart (sym (pick_not (state_status (held i)) broken_status y) ∙ e)))),
  λ e. let w = load_done s i e in (image_told i w.0).1 ∙ (holds_valid (held i) w.1.sized).1 w.1,
)
  where
    apart : broken_status ≡ hold_status → ⊥
    apart e = omega arith

-- ---- what is no image

-- a text that starts with the number of the first rule
record FirstRule (l : List ℕ) : Type 0 where
  pub some : 0 < length l
  pub starts : at l 0 ≡ digit 1 0

line_starts : (k : ℕ) (ps : List RulePart) → FirstRule (finding_line 1 (broken_from k ps))
unfolding first_from digits places_of broken_from
line_starts k [] = record { some = omega arith; starts = refl }
line_starts k (p ∷ ps) =
    pick_both (λ (f : Finding). FirstRule (finding_line 1 f)) (ltb (first_failing p) (places_in p)) (λ e. record { some = omega arith; starts = refl })
    (λ e. line_starts (suc k) ps)

lines_start : (n : ℕ) (s : State) → FirstRule (rule_lines (suc n) s)
unfolding rule_lines first_broken
lines_start zero s = line_starts 0 (parts_of 1 s)
lines_start (suc n) s =
    let h = lines_start n s in
    let l = finding_line (suc (suc n)) (first_broken (suc (suc n)) s) in
    record {
      some = omega (arith, length-append (rule_lines (suc n) s) l, h.some);
      starts = get_or-append (rule_lines (suc n) s) l 0 0 h.some ∙ h.starts;
    }

-- the line of what is no image is printed of nothing else
pub refused_alone : (i : List ℕ) → (image_lines i ≡ no_image_line) ↔ (Image i → ⊥)
refused_alone i = (
  (λ e m. apart (sym (lines_start (last_rule - 1) (held i)).starts ∙ ap (λ (l : List ℕ). at l 0) (sym (image_told i m).0 ∙ e))),
  λ h. pick_not (state_lines (held i)) no_image_line (not_so (image⇔ i) h),
)
  where
    apart : digit 1 0 ≡ at no_image_line 0 → ⊥
    apart e = omega arith
