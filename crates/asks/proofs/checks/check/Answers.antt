-- The row's refusal, and if it has none the action's own.
-- Assumes nothing.
use Rattle.std.proofs.Common.{rules, ◌∙◌}
use Rattle.host.specs.View.{view}
use Rattle.asks.proofs.Row.{refused_row, refused_own}
use Rattle.asks.proofs.checks.check.Goals as goal

pub returns-in_err-of_row : goal.returns-in_err-of_row
returns-in_err-of_row c =
    let a = c.args in
    let e = refused_row (view a.h.now).shape a.x c.of_row.ensures c.in_err-of_row.field-0.0 c.in_err-of_row.was in
    search (rules, e)

pub returns : goal.returns
returns c =
    let a = c.args in
    c.own_check.ensures ∙ refused_own (view a.h.now).shape a.x c.of_row.ensures c.in_ok-of_row.field-0 c.in_ok-of_row.was
