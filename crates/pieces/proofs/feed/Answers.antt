-- Refused by the piece, or run, or refused by the state.
-- Assumes nothing.
use mathlib.Core.List.{◌++◌}
use Rattle.std.proofs.lemmas.Result.{err_from_is_err_and}
use Rattle.host.specs.View.{view}
use Rattle.pieces.proofs.Feeding.{feed_refused, feed_ran, feed_invalid}
use Rattle.pieces.proofs.feed.Goals as goal

pub returns-in-Err : goal.returns-in-Err
returns-in-Err c =
    let a = c.args in
    feed_refused (view a.h.now) a.k.now a.piece.now a.allowance a.last a.out.now c.in-Err.refusal c.in-Err.ensures c.refuse.ensures

pub returns-in_err-records : goal.returns-in_err-records
returns-in_err-records c =
    let a = c.args in
    let p = err_from_is_err_and c.from_residual.result c.from_residual.ensures.1 in
    rw (p.1, p.2)
    (feed_invalid (view a.h.now) a.k.now a.piece.now a.allowance a.last a.out.now c.in_default.ensures
    (λ i. c.at_hand.ensures.0 i ++ c.at_hand.ensures.1 i) c.run.ensures c.in_err-records.was)

pub returns : goal.returns
returns c =
    let a = c.args in
    feed_ran (view a.h.now) a.k.now a.piece.now a.allowance a.last a.out.now c.in_default.ensures
    (λ i. c.at_hand.ensures.0 i ++ c.at_hand.ensures.1 i) c.run.ensures c.in_ok-records.was c.keep-bytes.ensures
