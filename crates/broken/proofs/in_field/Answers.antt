-- The numbers of the field.
-- Assumes nothing.
use Rattle.std.proofs.Common.{rules, tests}
use Rattle.laws.specs.Choice.{at}
use Rattle.host.specs.View.{view}
use Rattle.host.proofs.Inverse.{view_sized, view_bytes}
use Rattle.ranges.specs.Ranges.{number_in_range}
use Rattle.broken.specs.Findings.{Numbers, column_sizes, numbers_of, part_for}
use Rattle.broken.proofs.Chains.{one_part}
use Rattle.broken.proofs.Parts.{size_for_law, number_is}
use Rattle.broken.proofs.in_field.Goals as goal

pub returns : goal.returns
unfolding part_for
returns c =
    let h = c.args.h.now in
    let s = view h in
    let k = c.args.k in
    let w = c.whole.ensures in
    one_part (numbers_of k s) (at column_sizes k) (number_in_range s k) (size_for_law (Numbers k) s (view_sized h w)) (λ i l. number_is k i s (view_bytes h w) l) k (cc) c.position-number.ensures.ran (λ i b q t. search (rules, tests))
    c.in_part.ensures
