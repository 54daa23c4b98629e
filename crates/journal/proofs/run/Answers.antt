-- Refused by its form or its state, or run by `steps`.
-- Assumes nothing.
use mathlib.Core.Path.{◌≡◌, sym, subst, ◌∙◌}
use Rattle.std.proofs.Common.{rules}
use Rattle.std.specs.Prelude.{Result, Err}
use Rattle.numbers.specs.declared.refusal.Refusal.{Refusal}
use Rattle.host.specs.View.{view}
use Rattle.journal.specs.declared.Report.{Report}
use Rattle.journal.specs.Promises.{Runs}
use Rattle.journal.proofs.Reports.{turned_by_form, turned_by_state, form_fits, took_taken, ran_took, ran_refused}
use Rattle.journal.proofs.run.Goals as goal

pub returns-then-valid : goal.returns-then-valid
returns-then-valid c =
    let a = c.args in
    turned_by_form (view a.h.now) a.j.now a.out.now c.in-Err.refusal c.in-Err.ensures (sym c.valid.ensures ∙ c.if-valid.true)

pub returns-in-Err : goal.returns-in-Err
returns-in-Err c =
    let a = c.args in
    turned_by_state (view a.h.now) a.j.now a.out.now (sym c.valid.ensures ∙ c.if-valid.false)

pub returns-in_err-taken : goal.returns-in_err-taken
returns-in_err-taken c =
    let a = c.args in
    let e : Err c.in_err-taken.field-0.0 ≡ c.from_residual.result = search rules in
    subst (λ (v : Result Report Refusal). Runs (view a.h.now) a.j.now a.out.now v (view c.run.new.h) c.run.new.out) e
    (ran_refused (view a.h.now) a.j.now a.out.now (sym c.in_default.ensures) c.run.ensures c.in_err-taken.was)

pub overflow_sub-result : goal.overflow_sub-result
overflow_sub-result c =
    let a = c.args in
    (took_taken (view a.h.now) a.j.now a.out.now (sym c.in_default.ensures) c.run.ensures c.in_ok-taken.was).1

pub left_over-requires : goal.left_over-requires
left_over-requires c =
    let a = c.args in
    let z = sym c.in_default.ensures in
    ((took_taken (view a.h.now) a.j.now a.out.now z c.run.ensures c.in_ok-taken.was).0, (form_fits a.j.now a.out.now z).0)

pub returns : goal.returns
returns c =
    let a = c.args in
    ran_took (view a.h.now) a.j.now a.out.now (sym c.in_default.ensures) c.run.ensures c.in_ok-taken.was c.left_over.ensures
