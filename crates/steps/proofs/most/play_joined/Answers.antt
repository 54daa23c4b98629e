-- No record was put together; or nothing is run; or it is judged, and the others behind it.
-- Assumes nothing.
use native.Mathlib.Omega.{arith}
use Rattle.host.specs.View.{view}
use Rattle.steps.proofs.Joining.{is_none, is_one, none_together, one_together, first_most, room_behind, played_most, none_joined, nothing_joined, behind_first}
use Rattle.steps.proofs.most.play_joined.Goals as goal

pub play-requires : goal.play-requires
play-requires c =
    let a = c.args in
    let e = none_together a.first.now (is_none c.args.first.now c.is_empty.ensures c.if-is_empty.true) in
    record { records = omega arith; room = omega arith }

pub returns-then-is_empty : goal.returns-then-is_empty
returns-then-is_empty c =
    let a = c.args in
    none_joined (view a.h.now) a.first.now a.j.now a.start a.out.now (is_none c.args.first.now c.is_empty.ensures c.if-is_empty.true) c.play.ensures

pub returns-then-n-eq0 : goal.returns-then-n-eq0
returns-then-n-eq0 c =
    let a = c.args in
    nothing_joined (view a.h.now) a.first.now a.j.now a.start a.out.now (is_one c.args.first.now c.is_empty.ensures c.if-is_empty.false) c.if-n-eq0.true

pub play-accepted-requires : goal.play-accepted-requires
play-accepted-requires c =
    let a = c.args in
    let e = one_together a.first.now (is_one c.args.first.now c.is_empty.ensures c.if-is_empty.false) in
    record { records = omega arith; room = room_behind a.n c.judge_first-counted.ensures (omega arith) }

pub overflow_add-result : goal.overflow_add-result
overflow_add-result c =
    let k = played_most c.play-accepted.ensures in
    let e = first_most c.judge_first-counted.ensures in
    omega arith

pub returns : goal.returns
returns c =
    let a = c.args in
    behind_first (view a.h.now) a.first.now a.j.now a.start a.out.now (is_one c.args.first.now c.is_empty.ensures c.if-is_empty.false) c.if-n-eq0.false (omega arith) c.judge_first-counted.ensures
    c.play-accepted.ensures
