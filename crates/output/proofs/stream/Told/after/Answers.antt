-- The accepted, and the others.
-- Assumes nothing.
use Rattle.std.proofs.Common.{◌≡◌, eqb, length, refl, ◌∙◌, rules}
use Rattle.std.specs.List.{concat, count_by}
use Rattle.laws.specs.Choice.{at}
use Rattle.output.proofs.Calls.{counted}
use Rattle.output.proofs.Chunks.{done_among}
use Rattle.output.proofs.stream.Told.after.Goals as goal

pub returns : goal.returns
returns c =
    let a = c.args in
    let n : c.count-accepted.result ≡ count_by (λ x. eqb (at x 0) 0) a.answers.now = search rules in
    counted a.self (length a.answers.now) (concat a.answers.now) (n ∙ done_among a.answers.now c.told-answers) refl refl
