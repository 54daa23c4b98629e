-- After i turns the lines of the first i answers are typed.
-- Assumes nothing.
use Rattle.std.proofs.Common.{arith}
use Rattle.std.specs.List.{concat}
use Rattle.output.proofs.Chunks.{no_line, one_more_line}
use Rattle.output.proofs.record_lines.Goals as goal

pub loop-i-init : goal.loop-i-init
loop-i-init c = no_line c.args.page.now c.args.«before» (concat c.args.answers.now)

pub loop-i-preserved : goal.loop-i-preserved
loop-i-preserved c =
    let a = c.args in
    one_more_line a.answers.now c.told-answers c.loop-i.i (omega arith) a.page.now a.«before» c.loop-i.invariant c.record_line.ensures
