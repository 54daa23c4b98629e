-- The piece is no journal's; or there is no room; or neither.
-- Assumes nothing.
use Rattle.std.proofs.Common.{rules, tests, sym}
use native.Mathlib.Omega.{arith}
use Rattle.model.proofs.Pieces.{no_journal, no_room, fits}
use Rattle.pieces.proofs.AtHand.{whole_law}
use Rattle.pieces.proofs.check_piece.Goals as goal

pub returns-then-not-is_journal : goal.returns-then-not-is_journal
returns-then-not-is_journal c =
    let a = c.args in sym (no_journal a.k.now a.piece.now a.allowance a.last a.room (search (rules, tests)))

pub returns-then-room-min : goal.returns-then-room-min
returns-then-room-min c =
    let a = c.args in
    let w = whole_law a.k.now a.piece.now c.told-k c.at_hand.ensures c.whole.ensures in
    sym (no_room a.k.now a.piece.now a.allowance a.last a.room (search (rules, tests)) (omega arith))

pub returns : goal.returns
returns c =
    let a = c.args in
    let w = whole_law a.k.now a.piece.now c.told-k c.at_hand.ensures c.whole.ensures in
    sym (fits a.k.now a.piece.now a.allowance a.last a.room (search (rules, tests)) (omega arith))
