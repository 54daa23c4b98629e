-- The report of the state that the image holds, or the line of what is none.
-- Assumes nothing.
use mathlib.Core.Path.{◌≡◌, refl}
use Prim.Native.Nat.{ℕ}
use native.Mathlib.Omega.{arith}
use Rattle.std.specs.Prelude.{Ok, Err}
use Rattle.numbers.proofs.Answers.{one_code}
use Rattle.report.proofs.Reports.{opened_reports, other_reports}
use Rattle.report.proofs.of_image.Goals as goal

pub returns-in-Ok : goal.returns-in-Ok
returns-in-Ok c =
    let a = c.args in
    opened_reports _ a.image.now a.out.now c.in-Ok.ensures.answer refl c.in-Ok.ensures.state c.of_host.ensures

pub returns-in-Err : goal.returns-in-Err
returns-in-Err c =
    let a = c.args in
    other_reports _ a.image.now a.out.now c.in-Err.ensures.answer
    (λ z. let f = one_code 0 (Err c.in-Err.field-0) (Ok tt) z refl in let y : ◌≡◌ {A = ℕ} 0 1 = cc f in omega arith)
    c.of_no_image.ensures
