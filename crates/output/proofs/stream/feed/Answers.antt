-- The call, and its lines.
-- Assumes nothing.
use Rattle.std.proofs.Common.{refl, rules}
use Rattle.host.specs.View.{view}
use Rattle.steps.proofs.Refusals.{some_number}
use Rattle.print.specs.Pages.{typed_all_on}
use Rattle.output.proofs.Streaming.{room_for_lines, streams_ran, streams_refused}
use Rattle.output.proofs.stream.feed.Goals as goal

pub first_answers-ran-requires : goal.first_answers-ran-requires
first_answers-ran-requires c =
    let a = c.args in
    room_for_lines (view a.h.now) a.k.now a.piece.now a.last a.answers.now c.in-Ok.ensures

pub returns-in-Ok : goal.returns-in-Ok
unfolding typed_all_on
returns-in-Ok c =
    let a = c.args in
    streams_ran (view a.h.now) a.k.now a.piece.now a.last a.answers.now a.told a.out.now c.in-Ok.ensures refl c.is_short-short.ensures c.first_answers-ran.ensures (search rules) c.ran_lines-told.ensures.told

pub returns-in-Err : goal.returns-in-Err
unfolding typed_all_on
returns-in-Err c =
    let a = c.args in
    streams_refused (view a.h.now) a.k.now a.piece.now a.last a.answers.now a.told a.out.now c.in-Err.ensures (some_number c.in-Err.refusal) (search rules) c.turned_away-status.ensures.status
