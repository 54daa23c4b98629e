-- The first line that is of the page.
-- Assumes nothing.
use Rattle.std.proofs.Common.{rules, tests, arith, ℕ, sym, ◌∙◌}
use Rattle.std.proofs.lemmas.Iterator.Adapters.{option_map_id}
use Rattle.std.proofs.lemmas.Iterator.{YieldsList-from_range}
use Rattle.std.proofs.lemmas.Iterator.Search.{find_from_yields_List}
use Rattle.model.specs.Sizes.{lines}
use Rattle.model.specs.State.{line_of_page}
use Rattle.host.specs.View.{view}
use Rattle.cache.specs.Lines.{is_of}
use Rattle.cache.proofs.Found.{find_below}
use Rattle.cache.proofs.lines.line_of_page.Goals as goal

pub returns : goal.returns
unfolding line_of_page
returns c =
    let a = c.args in
    let f = λ (i : ℕ). is_of (view a.h.now).shape a.p.0 i in
    sym (option_map_id c.find.result) ∙ find_from_yields_List f _ _ c.find.result c.find.ensures.ran (YieldsList-from_range 0 lines lines (cc) (omega arith)) (λ x b q k. search (rules, tests))
    ∙ find_below f lines
