-- The ones of a number are its marks.
-- Assumes nothing.
use Prim.Native.Nat.{◌^◌, ◌<◌}
use native.Mathlib.Omega.{arith}
use Rattle.laws.proofs.Bits.{ones_count}
use Rattle.model.specs.Sizes.{pages}
use Rattle.marks.proofs.count.Goals as goal

pub returns : goal.returns
returns c =
    let m = c.args.m in
    let h : m < 2 ^ pages = omega arith in
    ones_count pages m h
