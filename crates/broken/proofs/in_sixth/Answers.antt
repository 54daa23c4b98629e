-- Where rule 6 holds, no page fails.
-- Assumes nothing.
use Rattle.std.proofs.Common.{rules, tests}
use mathlib.Core.Path.{refl, sym, ◌∙◌}
use Rattle.model.specs.Sizes.{pages}
use Rattle.model.specs.Broken.{rule_parts, part6}
use Rattle.model.proofs.RuleTests.{rule6⇔}
use Rattle.findings.specs.Findings.{statements}
use Rattle.findings.proofs.Told.{known}
use Rattle.host.specs.View.{view}
use Rattle.host.proofs.Inverse.{view_sized}
use Rattle.entries.specs.Entries.{page_unshared}
use Rattle.broken.proofs.Chains.{one_part}
use Rattle.broken.proofs.PlaceTests.{unshared_is}
use Rattle.broken.proofs.Sequence.{rule_holds}
use Rattle.broken.proofs.in_sixth.Goals as goal

pub returns-then-rule6 : goal.returns-then-rule6
unfolding statements
returns-then-rule6 c =
    let h = c.args.h.now in
    let z = view_sized h c.whole.ensures in
    rule_holds 6 (known 6 refl) (view h) z ((rule6⇔ (view h).shape.pages.kind (view h).shape.pages.cacheable (view h).shape.pages.entry z.entry).0 (sym c.rule6.ensures ∙ c.if-rule6.true))

pub returns : goal.returns
unfolding rule_parts
returns c =
    let s = view c.args.h.now in
    one_part (part6 s) pages (page_unshared s) refl (λ i h. unshared_is s i (view_sized c.args.h.now c.whole.ensures) h) 0 (cc) c.position.ensures.ran (λ i b q k. search (rules, tests)) c.in_part.ensures
