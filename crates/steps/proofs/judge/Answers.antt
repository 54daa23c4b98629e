-- The record of an action.
-- Assumes nothing.
use Rattle.host.specs.View.{view}
use Rattle.steps.proofs.Judging.{judged_is}
use Rattle.steps.proofs.judge.Goals as goal

pub returns : goal.returns
returns c =
    let a = c.args in
    judged_is (view a.h.now) _ a.bytes.now c.decode.result c.decode.ensures c.in_ok-x.x c.in_ok-x.ensures.ok_part c.act.result
    c.act.ensures.answer c.act.ensures.state
