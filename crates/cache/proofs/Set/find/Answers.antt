-- The first way that has the key.
-- Assumes nothing.
use Rattle.std.proofs.Common.{rules, tests, arith, ◌∙◌}
use Rattle.std.proofs.lemmas.Iterator.{YieldsList-from_slice}
use Rattle.std.proofs.lemmas.Iterator.Search.{position_from_yields_List}
use Rattle.model.specs.Sizes.{ways}
use Rattle.cache.specs.Sets.{empty_line, has_key_in, find_in}
use Rattle.cache.proofs.Found.{position_below}
use Rattle.cache.proofs.Set.find.Goals as goal

pub returns : goal.returns
unfolding find_in
returns c =
    let a = c.args in
    position_from_yields_List (λ l. has_key_in l a.a.0 a.p.0) _ _ c.position.result c.position.ensures.ran (YieldsList-from_slice a.self.ways (cc)) (λ x b q k. search (rules, tests))
    ∙ position_below (λ l. has_key_in l a.a.0 a.p.0) empty_line a.self.ways ways (omega arith)
