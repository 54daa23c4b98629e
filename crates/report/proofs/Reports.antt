-- The lines of the rules typed one after another, with whether they all hold; and what is reported of an image that was opened.
-- Assumes nothing.
use mathlib.Core.Path.{◌≡◌, refl, sym, ap, ◌∙◌}
use mathlib.Core.Bool.{Bool, true, false, ◌&&◌}
use mathlib.Core.Logic.{◌≢◌}
use mathlib.Core.List.{List}
use Prim.Native.Nat.{ℕ, zero, suc, ◌+◌, ◌-◌, ◌<◌}
use native.Mathlib.Omega.{arith}
use Rattle.laws.specs.Choice.{pick}
use Rattle.laws.proofs.Cases.{split}
use Rattle.model.specs.State.{State}
use Rattle.model.specs.Image.{is_image, held, image_number, opened}
use Rattle.model.specs.Broken.{Finding, first_broken, is_holds}
use Rattle.numbers.specs.Refusals.{code_of}
use Rattle.image.specs.Promises.{Answer, answer_to}
use Rattle.image.proofs.Promised.{number_is}
use Rattle.print.specs.Text.{page, typed_all}
use Rattle.print.specs.declared.Page.{Page}
use Rattle.print.specs.declared.status.Printed.{Printed}
use Rattle.print.specs.Status.{digit_of}
use Rattle.print.specs.Pages.{typed_all_on}
use Rattle.print.proofs.Pages.{none_on, more_on}
use Rattle.report.specs.Report.{finding_line, rule_lines, all_hold, broken_status, state_lines, state_status, no_image_line, image_lines, image_status}
use Rattle.report.specs.Promises.{ReportsHost, ReportsImage}

-- ---- rule by rule

-- the rules of s below n are gone through: their lines are typed behind p, and a says whether they all hold
pub record Through (p : Page) (s : State) (n : ℕ) (q : Page) (a : Bool) : Type 0 where
  pub some : 0 < n
  pub lines : q ≡ typed_all_on p (rule_lines (n - 1) s)
  pub all : a ≡ all_hold (n - 1) s

pub no_rules : (p : Page) (s : State) → Through p s 1 p true
unfolding rule_lines all_hold
no_rules p s = record { some = omega arith; lines = sym (none_on p); all = refl }

-- the next rule
pub one_more : (p : Page) (s : State) (n : ℕ) {q r : Page} {a b : Bool} {f : Finding} → Through p s n q a → f ≡ first_broken n s → b ≡ is_holds f
    → r ≡ typed_all_on q (finding_line n f)
    → Through p s (n + 1) r (a && b)
unfolding rule_lines all_hold
one_more p s zero h e g t = absurd (omega (arith, h.some))
one_more p s (suc n) {q} {a = a} {f = f} h e g t =
    let m : suc n - 1 ≡ n = omega arith in
    let w : suc n + 1 - 1 ≡ suc n = omega arith in
    record {
      some = omega arith;
      lines =
          t
          ∙ (λ i. typed_all_on ((h.lines ∙ ap (λ (k : ℕ). typed_all_on p (rule_lines k s)) m) i) (finding_line (suc n) (e i)))
          ∙ more_on p (rule_lines n s) (finding_line (suc n) (first_broken (suc n) s))
          ∙ sym (ap (λ (k : ℕ). typed_all_on p (rule_lines k s)) w);
      all = (λ i. (h.all ∙ ap (λ (k : ℕ). all_hold k s) m) i && (g ∙ ap is_holds e) i) ∙ sym (ap (λ (k : ℕ). all_hold k s) w);
    }

-- ---- images

opened_is : (s : State) (i : List ℕ) → image_number (opened s i).answer ≡ 0 → (is_image i ≡ true) × ((opened s i).state ≡ held i)
unfolding opened
opened_is s i = split (is_image i) (λ e. rw e (λ z. (refl, refl))) (λ e. rw e (λ z. absurd (omega arith)))

opened_not : (s : State) (i : List ℕ) → image_number (opened s i).answer ≢ 0 → is_image i ≡ false
unfolding opened
opened_not s i = split (is_image i) (λ e. rw e (λ z. absurd (z refl))) (λ e. rw e (λ z. refl))

-- what is said of an image and of what is none
module _ (i d : List ℕ) {b : Bool} (o : is_image i ≡ b) where
  same_lines_law : typed_all (page d 0) (pick b (state_lines (held i)) no_image_line) ≡ typed_all (page d 0) (image_lines i)
  same_lines_law = ap (λ (x : Bool). typed_all (page d 0) (pick x (state_lines (held i)) no_image_line)) (sym o)

  same_status : pick b (state_status (held i)) broken_status ≡ image_status i
  same_status = ap (λ (x : Bool). pick x (state_status (held i)) broken_status) (sym o)

-- by the answer a
module _ (s : State) (i d : List ℕ) {a : Answer} (w : a ≡ answer_to (opened s i).answer) where
  number_opened : code_of a ≡ image_number (opened s i).answer
  number_opened = number_is (opened s i).answer w refl

  pub opened_reports : code_of a ≡ 0 → {t : State} → t ≡ (opened s i).state → {p : Printed} {c : List ℕ} → ReportsHost t d p c → ReportsImage i d p c
  opened_reports z v r =
      let o = opened_is s i (sym number_opened ∙ z) in
      let q = v ∙ o.1 in
      record {
        output = r.output ∙ ap (λ (u : State). typed_all (page d 0) (state_lines u)) q ∙ same_lines_law i d o.0;
        status = r.status ∙ ap state_status q ∙ same_status i d o.0;
      }

  pub other_reports : code_of a ≢ 0 → {p : Printed} {c : List ℕ} → (page c p.bytes ≡ typed_all (page d 0) no_image_line) × (digit_of p.status ≡ broken_status)
      → ReportsImage i d p c
  other_reports z r =
      let o = opened_not s i (λ q. z (number_opened ∙ q)) in
      record { output = r.0 ∙ same_lines_law i d o; status = r.1 ∙ same_status i d o }
