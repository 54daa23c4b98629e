-- At most one answer, and one content of the lent buffer, meets each promise.
-- Assumes nothing.
use mathlib.Core.Path.{◌≡◌, sym, ◌∙◌}
use mathlib.Core.List.{List}
use Prim.Native.Nat.{ℕ}
use Rattle.model.specs.State.{State}
use Rattle.print.specs.Text.{page, typed_all}
use Rattle.print.proofs.Answers.{one_page, one_status}
use Rattle.report.specs.Report.{state_lines, image_lines}
use Rattle.print.specs.declared.status.Printed.{Printed}
use Rattle.report.specs.Promises.{ReportsHost, ReportsImage}

pub one_host : (s : State) (d : List ℕ) {p q : Printed} {x y : List ℕ} → ReportsHost s d p x → ReportsHost s d q y → (p ≡ q) × (x ≡ y)
one_host s d {p} {q} {x} {y} v w =
    let t = one_page (typed_all (page d 0) (state_lines s)) x y p.bytes q.bytes v.output w.output in
    let u = one_status p.status q.status (v.status ∙ sym w.status) in
    ((λ i. record { bytes = t.1 i; status = u i }), t.0)

pub one_image : (i d : List ℕ) {p q : Printed} {x y : List ℕ} → ReportsImage i d p x → ReportsImage i d q y → (p ≡ q) × (x ≡ y)
one_image i d {p} {q} {x} {y} v w =
    let t = one_page (typed_all (page d 0) (image_lines i)) x y p.bytes q.bytes v.output w.output in
    let u = one_status p.status q.status (v.status ∙ sym w.status) in
    ((λ k. record { bytes = t.1 k; status = u k }), t.0)
