-- A buffer of report_bytes bytes holds all that is printed.
-- Assumes nothing.
use mathlib.Core.Path.{◌≡◌}
use mathlib.Core.Bool.{◌&&◌}
use mathlib.Core.List.{List, [], ◌∷◌, ◌++◌}
use Prim.Native.Nat.{ℕ, zero, suc, ◌*◌, ◌^◌, ◌≤◌, ◌<◌}
use native.Mathlib.Omega.{arith}
use borrow.Author.Rules.{rules}
use borrow.Author.Tests.{ltb-true}
use lib.Dec.{leb, ltb}
use lib.ListN.{length, drop, length-append}
use Rattle.laws.proofs.Cases.{pick_both}
use Rattle.laws.proofs.Search.{Each}
use Rattle.model.specs.Sizes.{byte_bound}
use Rattle.model.specs.State.{State}
use Rattle.model.specs.RuleTests.{columns}
use Rattle.model.specs.Valid.{Sized}
use Rattle.model.specs.Image.{is_image, held, not_image, image_number}
use Rattle.model.specs.Broken.{RulePart, places_in, first_failing, number_parts, rule_parts, parts_of, last_rule, Finding, broken_from, first_broken}
use Rattle.model.proofs.Image.{image⇔}
use Rattle.print.specs.Text.{decimal_of}
use Rattle.print.proofs.Typing.{typed_inside, whole_text}
use Rattle.print.proofs.Decimal.{length_decimal}
use Rattle.words.specs.Words.{line_end, longest_line}
use Rattle.words.proofs.Room.{holds_room, broken_room}
use Rattle.report.specs.Report.{finding_line, rule_lines, state_lines, refused_word, no_image_line, image_lines, report_bytes}
use Rattle.print.specs.declared.status.Printed.{Printed}
use Rattle.report.specs.Promises.{ReportsHost, ReportsImage}
use Rattle.report.proofs.Held.{held_sized}

-- ---- a line

-- a part whose places have their room in a line
abbrev Few : RulePart → Type 0
Few p = places_in p ≤ 2 ^ 16

parts_few : (n : ℕ) (s : State) → Sized s → Each Few (parts_of n s)
unfolding rule_parts number_parts columns
parts_few zero s z = tt
parts_few (suc zero) s z = search rules
parts_few (suc (suc zero)) s z = search rules
parts_few (suc (suc (suc zero))) s z = search rules
parts_few (suc (suc (suc (suc zero)))) s z = search rules
parts_few (suc (suc (suc (suc (suc zero))))) s z = search rules
parts_few (suc (suc (suc (suc (suc (suc zero)))))) s z = search rules
parts_few (suc (suc (suc (suc (suc (suc (suc zero))))))) s z = search rules
parts_few (suc (suc (suc (suc (suc (suc (suc (suc zero)))))))) s z = search rules
parts_few (suc (suc (suc (suc (suc (suc (suc (suc (suc zero))))))))) s z = search rules
parts_few (suc (suc (suc (suc (suc (suc (suc (suc (suc (suc zero)))))))))) s z = search rules
parts_few (suc (suc (suc (suc (suc (suc (suc (suc (suc (suc (suc zero))))))))))) s z = search rules
parts_few (suc (suc (suc (suc (suc (suc (suc (suc (suc (suc (suc (suc n)))))))))))) s z = tt

-- of the parts, counted from k
from_room : (n : ℕ) → n < byte_bound → (k : ℕ) (ps : List RulePart) → Each Few ps → length (finding_line n (broken_from k ps)) ≤ longest_line
unfolding broken_from
from_room n h k [] w = omega (arith, holds_room n h)
from_room n h k (p ∷ ps) w =
    pick_both (λ (f : Finding). length (finding_line n f) ≤ longest_line) (ltb (first_failing p) (places_in p))
    (λ e. broken_room n h k (first_failing p) (omega (arith, ltb-true (first_failing p) (places_in p) e, w.0)))
    (λ e. from_room n h (suc k) ps w.1)

-- ---- the lines

module _ (s : State) (z : Sized s) where
  line_room : (n : ℕ) → n < byte_bound → length (finding_line n (first_broken n s)) ≤ longest_line
  unfolding first_broken
  line_room n h =
      pick_both (λ (f : Finding). length (finding_line n f) ≤ longest_line) (leb 1 n && ltb n (suc last_rule)) (λ e. from_room n h 0 (parts_of n s) (parts_few n s z))
      (λ e. omega arith)

  rules_room : (n : ℕ) → n < byte_bound → length (rule_lines n s) ≤ n * longest_line
  unfolding rule_lines
  rules_room zero h = omega arith
  rules_room (suc n) h =
      omega (arith, length-append (rule_lines n s) (finding_line (suc n) (first_broken (suc n) s)), line_room (suc n) h, rules_room n (omega arith))

  pub state_fits : length (state_lines s) ≤ report_bytes
  state_fits = rules_room last_rule (omega arith)

-- the word, two digits and the line's end
no_image_room : length no_image_line ≤ report_bytes
no_image_room =
    let m = decimal_of (image_number not_image) in
    omega (arith, length-append (refused_word ++ m) (line_end ∷ []), length-append refused_word m, length_decimal (image_number not_image) 1 (omega arith))

-- of any bytes whatever
pub image_fits : (i : List ℕ) → length (image_lines i) ≤ report_bytes
image_fits i =
    pick_both (λ (l : List ℕ). length l ≤ report_bytes) (is_image i) (λ e. state_fits (held i) (held_sized i ((image⇔ i).0 e))) (λ e. no_image_room)

-- ---- the output buffer starts with the text, and its rest stays

pub host_whole : (s : State) (d : List ℕ) {p : Printed} {e : List ℕ} → ReportsHost s d p e → Sized s → report_bytes ≤ length d
    → (p.bytes ≡ length (state_lines s)) × (e ≡ state_lines s ++ drop (length (state_lines s)) d)
host_whole s d {p} {e} w z h = whole_text d (state_lines s) p.bytes e (omega (arith, state_fits s z)) w.output

pub image_whole : (i d : List ℕ) {p : Printed} {e : List ℕ} → ReportsImage i d p e → report_bytes ≤ length d
    → (p.bytes ≡ length (image_lines i)) × (e ≡ image_lines i ++ drop (length (image_lines i)) d)
image_whole i d {p} {e} w h = whole_text d (image_lines i) p.bytes e (omega (arith, image_fits i)) w.output

-- what was typed lies in the buffer, whatever room it has
pub image_inside : (i d : List ℕ) {p : Printed} {e : List ℕ} → ReportsImage i d p e → p.bytes ≤ length e
image_inside i d {p} {e} w = typed_inside d (image_lines i) e p.bytes w.output
