-- Each rule by its own parts; a number that is none of theirs is no rule's.
-- Assumes nothing.
use Rattle.std.proofs.Common.{rules, tests}
use mathlib.Core.Path.{◌≡◌, refl, ap, ◌∙◌}
use Prim.Native.Nat.{◌*◌, ◌/◌, ◌%◌}
use Rattle.model.specs.Sizes.{guests, pages, addresses, lines, slots}
use Rattle.model.specs.Broken.{rule_parts, part1, part2, part4, part5, part7, part8, part11, first_broken}
use Rattle.findings.proofs.Told.{known}
use Rattle.host.specs.View.{view}
use Rattle.host.proofs.Inverse.{view_sized}
use Rattle.places.specs.Places.{call_kept, page_kept, current_table}
use Rattle.lines.specs.Lines.{lined, slotted, through}
use Rattle.entries.specs.Entries.{own_at}
use Rattle.broken.specs.declared.Finding.TheVariants.{NoRule}
use Rattle.broken.specs.Findings.{Entries, finding_of, finding_to, part_for}
use Rattle.broken.proofs.Chains.{one_part}
use Rattle.broken.proofs.Parts.{size_for_law}
use Rattle.broken.proofs.PlaceTests.{calls_is, pages_is, entries_is, tables_is, lines_is, slots_is, through_is_law}
use Rattle.broken.proofs.Readings.{found_to, told_of}
use Rattle.broken.proofs.Sequence.{of_known, of_others}
use Rattle.broken.proofs.first_broken.Goals.{in-1, in-2, in-3, in-4, in-5, in-6, in-7, in-8, in-9, in-10, in-11}
use Rattle.broken.proofs.first_broken.Goals as goal

pub returns-in_default : goal.returns-in_default
returns-in_default c = found_to NoRule _ (of_others c.args.rule (view c.args.h.now) c.in_default.in_default-own.rest)

pub returns : goal.returns
unfolding rule_parts part_for
returns c =
    let a = c.args in
    let s = view a.h.now in
    let z = view_sized a.h.now c.whole.ensures in
    let e : finding_of c.match-rule.found ≡ first_broken a.rule s = elim c.match-rule.branch [
      | in-1 w ↦ ap finding_of w.found-is ∙ of_known 1 a.rule s w.in-1.is (known 1 refl) (one_part (part1 s) guests (call_kept s) refl (λ i h. (calls_is s) i) 0 (cc) w.position.ensures.ran (λ i b q k. search (rules, tests)) w.in_part-found.ensures)
      | in-2 w ↦ ap finding_of w.found-is ∙ of_known 2 a.rule s w.in-2.is (known 2 refl) (one_part (part2 s) pages (page_kept s) refl (λ i h. (pages_is s) i) 0 (cc) w.position-in-2.ensures.ran (λ i b q k. search (rules, tests)) w.in_part-found-in-2.ensures)
      | in-3 w ↦ ap finding_of w.found-is ∙ of_known 3 a.rule s w.in-3.is (known 3 refl) w.in_third-found.ensures
      | in-4 w ↦ ap finding_of w.found-is ∙ of_known 4 a.rule s w.in-4.is (known 4 refl) (one_part (part4 s) (pages * addresses) (λ i. own_at s (i / addresses) (i % addresses)) (size_for_law Entries s z) (λ i h. (entries_is s) i) 0 (cc) w.position-in-4.ensures.ran (λ i b q k. search (rules, tests)) w.in_part-found-in-4.ensures)
      | in-5 w ↦ ap finding_of w.found-is ∙ of_known 5 a.rule s w.in-5.is (known 5 refl) (one_part (part5 s) guests (current_table s) refl (λ i h. (tables_is s) i) 0 (cc) w.position-in-5.ensures.ran (λ i b q k. search (rules, tests)) w.in_part-found-in-5.ensures)
      | in-6 w ↦ ap finding_of w.found-is ∙ of_known 6 a.rule s w.in-6.is (known 6 refl) w.in_sixth-found.ensures
      | in-7 w ↦ ap finding_of w.found-is ∙ of_known 7 a.rule s w.in-7.is (known 7 refl) (one_part (part7 s) lines (lined s) refl (λ i h. (lines_is s) i) 0 (cc) w.position-in-7.ensures.ran (λ i b q k. search (rules, tests)) w.in_part-found-in-7.ensures)
      | in-8 w ↦ ap finding_of w.found-is ∙ of_known 8 a.rule s w.in-8.is (known 8 refl) (one_part (part8 s) slots (slotted s) refl (λ i h. (slots_is s) i) 0 (cc) w.position-in-8.ensures.ran (λ i b q k. search (rules, tests)) w.in_part-found-in-8.ensures)
      | in-9 w ↦ ap finding_of w.found-is ∙ of_known 9 a.rule s w.in-9.is (known 9 refl) w.in_ninth-found.ensures
      | in-10 w ↦ ap finding_of w.found-is ∙ of_known 10 a.rule s w.in-10.is (known 10 refl) w.in_tenth-found.ensures
      | in-11 w ↦ ap finding_of w.found-is ∙ of_known 11 a.rule s w.in-11.is (known 11 refl) (one_part (part11 s) lines (through s) refl (λ i h. (through_is_law s) i) 0 (cc) w.position-in-11.ensures.ran (λ i b q k. search (rules, tests)) w.in_part-found-in-11.ensures)
    ] in
    told_of _ _ c.map_or.ensures (λ y q. search (rules, tests)) ∙ ap finding_to e
