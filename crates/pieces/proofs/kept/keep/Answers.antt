-- What stays and what follows, behind the counts.
-- Assumes nothing.
use Rattle.std.proofs.Common.{rules, tests, ◌≡◌, ◌∙◌}
use Prim.Native.Nat.{◌+◌, ◌*◌, ◌-◌}
use lib.Dec.{eqb}
use lib.ListN.{length}
use Rattle.laws.specs.Choice.{pick}
use Rattle.model.specs.Sizes.{record_bytes}
use Rattle.model.specs.Pieces.{header_count, header_part, begun, bytes_taken}
use Rattle.pieces.proofs.AtHand.{whole_law, keeps}
use Rattle.pieces.proofs.kept.keep.Goals as goal

pub returns : goal.returns
returns c =
    let a = c.args in
    let k = a.k.now in
    let s : c.if-n-eq0.stays ≡ pick (eqb a.n 0) (length (begun k)) 0 = search (rules, tests) in
    let f : c.header_bytes-start.result + c.behind.result ≡ header_part k a.piece.now + (record_bytes * a.n - length (begun k)) = search (rules, tests) in
    let w = whole_law k a.piece.now c.told-k c.at_hand-hand.ensures c.whole.ensures in
    let e : c.if-n-whole.end ≡ bytes_taken k a.piece.now a.n = search (rules, tests) in
    let r : c.from.result + c.header_bytes-start.result ≡ header_count k + header_part k a.piece.now = search (rules, tests) in
    (e, c.hold.ensures ∙ keeps k a.piece.now c.told-k a.n c.requires s f e r)
