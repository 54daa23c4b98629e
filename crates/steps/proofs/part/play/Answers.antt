-- After i turns the first i records are played, and the reader stands behind them.
-- Assumes nothing.
use mathlib.Core.Path.{◌≡◌, ap, subst, ◌∙◌}
use Prim.Native.Nat.{ℕ}
use native.Mathlib.Omega.{arith}
use Rattle.host.specs.View.{view}
use Rattle.reader.specs.declared.Reader.{Reader}
use Rattle.steps.specs.Turns.{Plays}
use Rattle.steps.proofs.Running.{none_played, played_length, finds, moves, turned_most, one_more}
use Rattle.steps.proofs.part.play.Goals as goal

pub loop-i-init : goal.loop-i-init
loop-i-init c =
    let a = c.args in
    let e = c.new-reader.ensures in record {
      in_range = omega arith;
      reads = ap (λ (r : Reader). r.journal.now) e;
      stands = ap (λ (r : Reader). r.position) e ∙ omega arith;
      counted = omega arith;
      played = none_played (view a.h.now) a.j.now a.start a.out.now;
    }

pub judge_found-accepted-requires : goal.judge_found-accepted-requires
judge_found-accepted-requires c =
    let a = c.args in
    let i = c.loop-i.invariant in
    let e = played_length (view a.h.now) a.j.now a.start a.out.now (omega arith) i.played in
    let f = finds c.loop-i.reader a.j.now _ i.reads i.stands (omega arith) c.found.ensures in
    record { is = f.0; «record» = omega arith; room = omega arith }

pub overflow_add-accepted : goal.overflow_add-accepted
overflow_add-accepted c =
    let r = turned_most c.judge_found-accepted.ensures in omega arith

pub loop-i-preserved : goal.loop-i-preserved
loop-i-preserved c =
    let a = c.args in
    let i = c.loop-i.invariant in
    let f = finds c.loop-i.reader a.j.now _ i.reads i.stands (omega arith) c.found.ensures in
    let m = moves c.loop-i.reader a.j.now _ i.reads i.stands (omega arith) c.moved-reader.ensures in
    let r = turned_most c.judge_found-accepted.ensures in record {
      in_range = omega arith;
      reads = m.0;
      stands = omega arith;
      counted = omega arith;
      played = one_more (view a.h.now) a.j.now a.start a.out.now (omega arith) i.played f.1 c.judge_found-accepted.ensures;
    }

pub shape_of-out : goal.shape_of-out
shape_of-out c =
    let a = c.args in
    let e = played_length (view a.h.now) a.j.now a.start a.out.now (omega arith) c.loop-i.invariant.played in
    omega arith

pub returns : goal.returns
returns c =
    let a = c.args in
    let e : c.loop-i.i ≡ a.n = omega arith in
    subst (λ (m : ℕ). Plays (view a.h.now) a.j.now a.start m a.out.now c.loop-i.accepted (view c.loop-i.h) c.loop-i.out) e c.loop-i.invariant.played
