-- Title, records, left over, report.
-- Assumes nothing.
use Rattle.std.proofs.Common.{arith}
use Rattle.print.proofs.Pages.{typing}
use Rattle.output.proofs.Chunks.{lines_of_all}
use Rattle.output.proofs.report_lines.Goals as goal

pub returns : goal.returns
returns c =
    let a = c.args in
    let l = lines_of_all a.r.taken a.answers.now c.requires (omega arith) c.first_answers.ensures in
    grind (arith, typing, l)
