-- No begun record, or one that stays one, or one that is completed.
-- Assumes nothing.
use Prim.Native.Nat.{◌-◌}
use native.Mathlib.Omega.{arith}
use lib.ListN.{length, take, replicate}
use Rattle.model.specs.Sizes.{record_bytes}
use Rattle.host.specs.View.{view}
use Rattle.pieces.proofs.Bytes.{parts_joined}
use Rattle.pieces.proofs.AtHand.{runs_none_begun, runs_nothing, runs_begun}
use Rattle.pieces.proofs.hand.Hand.run.Goals as goal

pub returns-then-held-eq0 : goal.returns-then-held-eq0
returns-then-held-eq0 c =
    let a = c.args in
    runs_none_begun a.allowance (view a.h.now) a.out.now a.self.now.begun.now a.self.now.rest.now c.if-held-eq0.true c.run_most.ensures

pub returns-then-self-missing : goal.returns-then-self-missing
returns-then-self-missing c =
    let a = c.args in
    runs_nothing a.allowance (view a.h.now) a.out.now a.self.now.begun.now a.self.now.rest.now c.if-self-missing.true c.run_most-then-self-missing.ensures

pub returns : goal.returns
returns c =
    let a = c.args in
    runs_begun a.allowance (view a.h.now) a.out.now a.self.now.begun.now a.self.now.rest.now c.requires c.if-self-missing.false
    (parts_joined a.self.now.begun.now (take (record_bytes - length a.self.now.begun.now) a.self.now.rest.now) (replicate record_bytes 0) (omega arith) c.copy_from_slice.ensures.after c.copy_from_slice-2.ensures.after)
    c.run_most-2.ensures
