-- A journal that was run has room for its answers; what is typed of its verdict and its buffer is what the model prints, and so is what is typed of an
-- image.
-- Assumes nothing.
use Rattle.std.proofs.Common.{◌≡◌, ℕ, ◌*◌, ◌≤◌, eqb, List, [], length, refl, ap, ◌∙◌, arith}
use Rattle.std.specs.Prelude.{Result, Ok, Err}
use Rattle.laws.specs.Choice.{pick}
use Rattle.laws.proofs.Cases.{split}
use Rattle.laws.proofs.Lists.{length_list_of}
use Rattle.model.specs.Sizes.{answer_bytes}
use Rattle.model.specs.State.{State}
use Rattle.model.specs.Valid.{valid?}
use Rattle.model.specs.Step.{step}
use Rattle.model.specs.Run.{run}
use Rattle.model.specs.Journal.{taken, record_at, records_of, has_header, form_refusal, journal_refusal, report_of, journal}
use Rattle.model.specs.Journal as model
use Rattle.model.specs.Image.{loaded}
use Rattle.model.proofs.Run.{run_length}
use Rattle.model.proofs.Journal.{either}
use Rattle.steps.proofs.Storing.{length_pasted}
use Rattle.journal.specs.declared.Report.{Report}
use Rattle.journal.specs.Promises.{verdict_from, Runs}
use Rattle.journal.proofs.Reports.{form_fits}
use Rattle.image.specs.Promises.{Answer, Loads}
use Rattle.image.proofs.Promised.{number_is}
use Rattle.numbers.specs.declared.refusal.Refusal.{Refusal}
use Rattle.numbers.specs.Refusals.{code_of}
use Rattle.print.proofs.Typing.{typed_inside}
use Rattle.print.specs.Text.{page, typed_all}
use Rattle.print.specs.Status.{digit_of}
use Rattle.output.specs.Output.{refused_line, lines_of, printed, load_lines, ran_status, refused_status, status_of}
use Rattle.print.specs.declared.status.Printed.{Printed}
use Rattle.output.specs.Promises.{taken_in, Prints, PrintsLoad}

module _ (s : State) (j b : List ℕ) where
  pub form_passes : journal_refusal s j b ≡ 0 → form_refusal (has_header j) (length j) (length b) ≡ 0
  unfolding journal_refusal
  form_passes = split (valid? s) (λ e. rw e (λ z. z)) (λ e. rw e (λ z. absurd (omega arith)))

  answered : length (run s (records_of j)).answers ≡ taken j
  answered = run_length step s (records_of j) ∙ length_list_of (taken j) (record_at j)

  -- the records whose answers are printed
  abbrev printed_in : model.Verdict → ℕ
  printed_in v = (report_of v).taken

  room : answer_bytes * printed_in (journal s j b).verdict ≤ length (journal s j b).buffer
  room =
      either (λ a. answer_bytes * printed_in a.verdict ≤ length a.buffer) s j b
      (λ e. let f = form_fits j b (form_passes e) in
      let n = answered in
      let p = length_pasted (run s (records_of j)).answers b (omega arith) in
      omega arith)
      (λ n. omega arith)

  taken_is : (v : Result Report Refusal) → taken_in v ≡ printed_in (verdict_from v)
  taken_is (Ok r) = refl
  taken_is (Err e) = refl

  module _ {v : Result Report Refusal} {t : State} {c : List ℕ} (w : Runs s j b v t c) where
    pub room_for : answer_bytes * taken_in v ≤ length c
    room_for =
        let p = taken_is v ∙ ap printed_in w.verdict in
        let q : length c ≡ length (journal s j b).buffer = ap length w.buffer in
        omega (arith, room)

pub prints : (s : State) (j b d : List ℕ) {v : Result Report Refusal} {t : State} {c e : List ℕ} {p : Printed} → Runs s j b v t c
    → page e p.bytes ≡ typed_all (page d 0) (lines_of (verdict_from v) c) → digit_of p.status ≡ status_of (verdict_from v) → Prints s j b d p t c e
prints s j b d w f g =
    record {
      state = w.state;
      answers = w.buffer;
      output = f ∙ (λ i. typed_all (page d 0) (lines_of (w.verdict i) (w.buffer i)));
      status = g ∙ ap status_of w.verdict;
    }

pub prints_load : (s : State) (i d : List ℕ) {a : Answer} {t : State} {e : List ℕ} {p : Printed} → Loads s i a t
    → page e p.bytes ≡ typed_all (page d 0) (pick (eqb (code_of a) 0) [] (refused_line (code_of a)))
    → digit_of p.status ≡ pick (eqb (code_of a) 0) ran_status refused_status
    → PrintsLoad s i d p t e
prints_load s i d w f g =
    let n = number_is (loaded s i).answer w.answer refl in
    record {
      state = w.state;
      output = f ∙ ap (λ (m : ℕ). typed_all (page d 0) (pick (eqb m 0) [] (refused_line m))) n;
      status = g ∙ ap (λ (m : ℕ). pick (eqb m 0) ran_status refused_status) n;
    }

-- ---- what was printed lies in the buffer

pub printed_inside : (s : State) (j b d : List ℕ) {p : Printed} {t : State} {c e : List ℕ} → Prints s j b d p t c e → p.bytes ≤ length e
printed_inside s j b d {p} {e = e} w = typed_inside d (printed (journal s j b)) e p.bytes w.output

pub load_inside : (s : State) (i d : List ℕ) {p : Printed} {t : State} {e : List ℕ} → PrintsLoad s i d p t e → p.bytes ≤ length e
load_inside s i d {p} {e = e} w = typed_inside d (load_lines (loaded s i).answer) e p.bytes w.output
