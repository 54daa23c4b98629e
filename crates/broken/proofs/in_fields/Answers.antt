-- The fields passed so far hold; one that is broken ends the loop.
-- Assumes nothing.
use mathlib.Core.Path.{◌≡◌, sym, ap, ◌∙◌}
use Prim.Native.Nat.{ℕ}
use lib.ListN.{drop}
use native.Mathlib.Omega.{arith}
use Rattle.model.specs.RuleTests.{columns}
use Rattle.model.specs.Broken.{number_parts, broken_from}
use Rattle.host.specs.View.{view}
use Rattle.broken.specs.Findings.{field_parts}
use Rattle.broken.proofs.Sequence.{field_breaks, field_holds, fields_end}
use Rattle.broken.proofs.in_fields.Goals as goal

pub returns-then-is_some : goal.returns-then-is_some
returns-then-is_some c =
    let l = c.loop-k in
    field_breaks l.k (view c.args.h.now) _ (omega arith) (sym c.is_some.ensures ∙ c.if-is_some.true) c.in_field-found.ensures ∙ sym l.invariant

pub loop-k-preserved : goal.loop-k-preserved
loop-k-preserved c =
    let l = c.loop-k in
    l.invariant ∙ field_holds l.k (view c.args.h.now) _ (omega arith) (sym c.is_some.ensures ∙ c.if-is_some.false) c.in_field-found.ensures

pub returns : goal.returns
returns c =
    let l = c.loop-k in
    let n : l.k ≡ field_parts = omega arith in
    sym (l.invariant ∙ ap (λ (k : ℕ). broken_from k (drop k (number_parts (columns (view c.args.h.now))))) n ∙ fields_end (view c.args.h.now))
