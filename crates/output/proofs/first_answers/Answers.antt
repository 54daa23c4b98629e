-- The first n of all.
-- Assumes nothing.
use Rattle.std.proofs.Common.{◌/◌, length, take, ap, ◌∙◌, arith}
use Rattle.model.specs.Sizes.{answer_bytes}
use Rattle.output.proofs.Chunks.{first_of_first}
use Rattle.output.proofs.first_answers.Goals as goal

pub returns : goal.returns
returns c =
    let a = c.args in
    ap (take a.n) c.as_chunks.ensures.front ∙ first_of_first answer_bytes a.n (length a.answers.now / answer_bytes) a.answers.now (omega arith)
