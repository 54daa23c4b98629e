-- Eight bytes in their place.
-- Assumes nothing.
use mathlib.Core.Path.{◌≡◌, ap}
use Prim.Native.Nat.{◌+◌, ◌-◌}
use native.Mathlib.Omega.{arith}
use lib.ListN.{length, drop, length-take, length-drop}
use Rattle.model.specs.Sizes.{answer_bytes}
use Rattle.steps.proofs.Storing.{stored}
use Rattle.steps.proofs.part.put.Goals as goal

pub returns : goal.returns
returns c =
    let a = c.args in
    let e = c.copy_from_slice.ensures in
    let n : length a.bytes ≡ answer_bytes = omega (arith, ap length e.after, e.len, length-take (a.at + answer_bytes - a.at) (drop a.at a.out.now), length-drop a.at a.out.now) in
    stored a.out.now a.at _ a.bytes c.requires (omega arith) n e.after
