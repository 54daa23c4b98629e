-- At most one answer, and one content of what was lent, meets each promise.
-- Assumes nothing.
use Rattle.std.proofs.Common.{◌≡◌, ℕ, Bool, List, sym, ◌∙◌}
use Rattle.model.specs.State.{State}
use Rattle.model.specs.Image.{loaded}
use Rattle.model.specs.Journal.{journal}
use Rattle.host.specs.View.{view, Whole}
use Rattle.host.proofs.Inverse.{view_inj}
use Rattle.print.specs.Text.{page, typed_all}
use Rattle.print.proofs.Answers.{one_page, one_status}
use Rattle.output.specs.Output.{printed, load_lines}
use Rattle.output.specs.Stream.{piece_lines}
use Rattle.print.specs.declared.status.Printed.{Printed}
use Rattle.output.specs.declared.stream.Told.{Told}
use Rattle.output.specs.declared.stream.Streamed.{Streamed}
use Rattle.output.specs.Promises.{Prints, PrintsLoad, fed, Streams}

pub one_output : (s : State) (j b d : List ℕ) {n m : Printed} {g h c e x y : List ℕ} → Whole g → Whole h → Prints s j b d n (view g) c x
    → Prints s j b d m (view h) e y
    → (n ≡ m) × (g ≡ h) × (c ≡ e) × (x ≡ y)
one_output s j b d {n} {m} {g} {h} {x = x} {y = y} v w p q =
    let t = one_page (typed_all (page d 0) (printed (journal s j b))) x y n.bytes m.bytes p.output q.output in
    let u = one_status n.status m.status (p.status ∙ sym q.status) in
    ((λ i. record { bytes = t.1 i; status = u i }), view_inj g h v w (p.state ∙ sym q.state), p.answers ∙ sym q.answers, t.0)

pub one_load : (s : State) (i d : List ℕ) {n m : Printed} {g h x y : List ℕ} → Whole g → Whole h → PrintsLoad s i d n (view g) x
    → PrintsLoad s i d m (view h) y
    → (n ≡ m) × (g ≡ h) × (x ≡ y)
one_load s i d {n} {m} {g} {h} {x} {y} v w p q =
    let t = one_page (typed_all (page d 0) (load_lines (loaded s i).answer)) x y n.bytes m.bytes p.output q.output in
    let u = one_status n.status m.status (p.status ∙ sym q.status) in
    ((λ k. record { bytes = t.1 k; status = u k }), view_inj g h v w (p.state ∙ sym q.state), t.0)

pub one_call : (s : State) (k : List ℕ) (t : Told) (piece : List ℕ) (last : Bool) (b d : List ℕ) {n m : Streamed} {g h l o c e x y : List ℕ} → Whole g
    → Whole h → Streams s k t piece last b d n (view g) l c x → Streams s k t piece last b d m (view h) o e y
    → (n ≡ m) × (g ≡ h) × (l ≡ o) × (c ≡ e) × (x ≡ y)
one_call s k t piece last b d {n} {m} {g} {h} {x = x} {y = y} v w p q =
    let a = one_page (typed_all (page d 0) (piece_lines k t piece last (fed s k piece last b))) x y n.bytes m.bytes p.output q.output in
    let u = one_status n.status m.status (p.status ∙ sym q.status) in
    let j = p.taken ∙ sym q.taken in
    let z = p.told ∙ sym q.told in
    ((λ i. record { bytes = a.1 i; status = u i; taken = j i; told = z i }), view_inj g h v w (p.state ∙ sym q.state), p.kept ∙ sym q.kept, p.answers ∙ sym q.answers, a.0)
