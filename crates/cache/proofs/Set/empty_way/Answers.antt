-- The first way that is empty.
-- Assumes nothing.
use Rattle.std.proofs.Common.{rules, tests, arith, ◌∙◌}
use Rattle.std.proofs.lemmas.Iterator.{YieldsList-from_slice}
use Rattle.std.proofs.lemmas.Iterator.Search.{position_from_yields_List}
use Rattle.model.specs.Sizes.{ways}
use Rattle.cache.specs.Sets.{empty_line, is_empty_in, empty_way}
use Rattle.cache.proofs.Found.{position_below}
use Rattle.cache.proofs.Set.empty_way.Goals as goal

pub returns : goal.returns
unfolding empty_way
returns c =
    let a = c.args in
    position_from_yields_List is_empty_in _ _ c.position.result c.position.ensures.ran (YieldsList-from_slice a.self.ways (cc)) (λ x b q k. search (rules, tests))
    ∙ position_below is_empty_in empty_line a.self.ways ways (omega arith)
