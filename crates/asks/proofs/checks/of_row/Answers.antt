-- The mode, then the call, of the action's row.
-- Assumes nothing.
use mathlib.Core.Path.{refl}
use Rattle.model.specs.Checks.{asked}
use Rattle.host.specs.View.{view}
use Rattle.asks.proofs.Row.{mode_law, call_law}
use Rattle.asks.proofs.checks.of_row.Goals as goal

pub returns-then-wrong_call : goal.returns-then-wrong_call
returns-then-wrong_call c =
    let q = asked (view c.args.h.now).shape in
    let e = mode_law q c.args.x c.kind_of.ensures c.row_of-row.ensures c.wrong_mode.ensures in
    let f = call_law q c.args.x c.kind_of.ensures c.row_of-row.ensures c.wrong_call.ensures in
    rw (← e, ← f, c.if-wrong_mode.false, c.if-wrong_call.true) refl

pub returns : goal.returns
returns c =
    let q = asked (view c.args.h.now).shape in
    let e = mode_law q c.args.x c.kind_of.ensures c.row_of-row.ensures c.wrong_mode.ensures in
    let f = call_law q c.args.x c.kind_of.ensures c.row_of-row.ensures c.wrong_call.ensures in
    rw (← e, ← f, c.if-wrong_mode.false, c.if-wrong_call.false) refl
