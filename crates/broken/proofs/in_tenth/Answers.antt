-- Where rule 10 holds, no place fails.
-- Assumes nothing.
use mathlib.Core.Path.{refl, sym, ◌∙◌}
use mathlib.Core.List.{[], ◌∷◌, ◌++◌}
use Prim.Native.Nat.{◌+◌}
use Rattle.model.specs.RuleTests.{columns}
use Rattle.model.specs.Broken.{rule_parts, number_parts, part10_calls, part10_lines, part10_slots}
use Rattle.model.proofs.RuleTests.{rule10⇔}
use Rattle.findings.specs.Findings.{statements}
use Rattle.findings.proofs.Told.{known}
use Rattle.host.specs.View.{view}
use Rattle.host.proofs.Inverse.{view_sized}
use Rattle.broken.specs.Findings.{field_parts}
use Rattle.broken.proofs.Sequence.{rule_holds, then_parts}
use Rattle.broken.proofs.in_tenth.Goals as goal

pub returns-then-rule10 : goal.returns-then-rule10
unfolding statements
returns-then-rule10 c =
    let h = c.args.h.now in
    let z = view_sized h c.whole.ensures in
    rule_holds 10 (known 10 refl) (view h) z ((rule10⇔ (view h) z).0 (sym c.rule10.ensures ∙ c.if-rule10.true))

pub returns : goal.returns
unfolding rule_parts number_parts columns
returns c =
    let s = view c.args.h.now in
    let ps = number_parts (columns s) in
    then_parts (ps ++ (part10_calls s ∷ part10_lines s ∷ [])) (part10_slots s ∷ []) 0 (field_parts + 2) _ _ refl
    (then_parts (ps ++ (part10_calls s ∷ [])) (part10_lines s ∷ []) 0 (field_parts + 1) _ _ refl (then_parts ps (part10_calls s ∷ []) 0 field_parts _ _ refl c.in_fields.ensures c.or_else.ensures (λ p. p)) c.or_else-2.ensures (λ p. p))
    c.or_else-3.ensures
    (λ p. p)
