-- The test at each place; the map of free pages and the values are in range in any buffer.
-- Assumes nothing.
use Rattle.std.proofs.Common.{rules, tests}
use Prim.Native.Nat.{◌*◌}
use native.Mathlib.Omega.{arith}
use Rattle.laws.specs.Search.{all_below}
use Rattle.model.specs.Sizes.{guests, physicals, pages, addresses, lines, sets, slots}
use Rattle.host.specs.View.{view}
use Rattle.host.proofs.Inverse.{view_sized, view_bytes}
use Rattle.ranges.specs.Ranges.{page_in_range, place_in_range, guest_in_range, line_in_range, set_in_range, slot_in_range, entry_in_range}
use Rattle.rules.proofs.Chains.{all_numbers, all_rows}
use Rattle.rules.proofs.Ranges.{rule10_is}
use Rattle.rules.proofs.rule10.Goals as goal

pub returns : goal.returns
returns c =
    let h = c.args.h.now in
    let w = c.whole.ensures in
    let s = view h in
    rw (
      all_numbers (λ m. all_below addresses (entry_in_range s m)) pages (cc) c.all-7.ensures.ran (λ x b q k. search (rules, tests)),
      all_rows pages addresses (omega arith) (entry_in_range s),
      all_numbers (slot_in_range s) slots (cc) c.all-6.ensures.ran (λ x b q k. search (rules, tests)),
      all_numbers (set_in_range s) sets (cc) c.all-5.ensures.ran (λ x b q k. search (rules, tests)),
      all_numbers (line_in_range s) lines (cc) c.all-4.ensures.ran (λ x b q k. search (rules, tests)),
      all_numbers (guest_in_range s) guests (cc) c.all-3.ensures.ran (λ x b q k. search (rules, tests)),
      all_numbers (place_in_range s) (guests * physicals) (cc) c.all-2.ensures.ran (λ x b q k. search (rules, tests)),
      all_numbers (page_in_range s) pages (cc) c.all.ensures.ran (λ x b q k. search (rules, tests)),
      c.policy.ensures,
      c.mode.ensures,
      c.active-a.ensures,
    )
    (rule10_is s (view_sized h w) (view_bytes h w))
