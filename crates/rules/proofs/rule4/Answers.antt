-- The test at each entry.
-- Assumes nothing.
use Rattle.std.proofs.Common.{rules, tests}
use mathlib.Core.Path.{◌∙◌}
use native.Mathlib.Omega.{arith}
use Rattle.laws.specs.Search.{all_below}
use Rattle.model.specs.Sizes.{pages, addresses}
use Rattle.host.specs.View.{view}
use Rattle.host.proofs.Inverse.{view_sized}
use Rattle.entries.specs.Entries.{own_at}
use Rattle.rules.proofs.Chains.{all_numbers, all_rows}
use Rattle.rules.proofs.Rules.{rule4_is}
use Rattle.rules.proofs.rule4.Goals as goal

pub returns : goal.returns
returns c =
    let s = view c.args.h.now in
    all_numbers (λ m. all_below addresses (own_at s m)) pages (cc) c.all.ensures.ran (λ x b q k. search (rules, tests))
    ∙ all_rows pages addresses (omega arith) (own_at s)
    ∙ rule4_is s (view_sized c.args.h.now c.whole.ensures)
