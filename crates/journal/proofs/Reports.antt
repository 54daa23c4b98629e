-- What code makes of a journal is the model's: turned away by its form or its state, or run and reported.
-- Assumes nothing.
use mathlib.Core.Path.{◌≡◌, refl, sym, ap, subst, ◌∙◌}
use mathlib.Core.Bool.{true, false}
use mathlib.Core.Logic.{◌≢◌}
use mathlib.Core.List.{List}
use Prim.Native.Nat.{ℕ, ◌+◌, ◌*◌, ◌-◌, ◌≤◌}
use native.Mathlib.Omega.{arith}
use lib.ListN.{length}
use Rattle.laws.proofs.Cases.{split, below?, pick_yes, pick_not}
use Rattle.model.specs.Sizes.{answer_bytes, header_bytes, record_limit}
use Rattle.model.specs.State.{State}
use Rattle.model.specs.Valid.{valid?}
use Rattle.model.specs.Step.{Answer}
use Rattle.model.specs.Run.{run}
use Rattle.model.specs.Run as model
use Rattle.model.specs.Journal.{taken, left_over, whole_records, records_of, has_header, form_refusal, accepted_in, refused_in, pasted, Report, report_of, ran, turned_away, After, journal_refusal, played, away, journal}
use Rattle.model.proofs.Journal.{either, accepted_and_refused}
use Rattle.std.specs.Prelude.{Result, Ok, Err}
use Rattle.numbers.specs.declared.refusal.Refusal.{Refusal}
use Rattle.numbers.specs.declared.refusal.Refusal.TheVariants.{NotValid}
use Rattle.numbers.specs.Refusals.{refusal_number}
use Rattle.steps.specs.declared.Ran.{Ran}
use Rattle.steps.specs.Parts.{runnable, records_from, took_of}
use Rattle.steps.specs.Parts as part
use Rattle.steps.proofs.Refusals.{some_number}
use Rattle.steps.proofs.Joining.{whole_runnable}
use Rattle.journal.specs.Promises.{Runs}
use Rattle.journal.proofs.Header.{header⇔}
use Rattle.journal.proofs.Limits.{no_journal, too_long, no_room}

abbrev pub form : List ℕ → List ℕ → ℕ
form j b = form_refusal (has_header j) (length j) (length b)

pub form_header : (j b : List ℕ) → form j b ≡ 0 → has_header j ≡ true
form_header j b e =
    split (has_header j) (λ h. h) (λ h. let f = no_journal (has_header j) (length j) (length b) h in absurd (omega arith))

-- what has no refusal by its form: header, limit and room
pub form_fits : (j b : List ℕ) → form j b ≡ 0 → (header_bytes ≤ length j) × (whole_records (length j) ≤ record_limit) × (answer_bytes * whole_records (length j) ≤ length b)
form_fits j b e =
    let h = form_header j b e in
    let k = ((header⇔ j).0 h).0 in
    below? record_limit (whole_records (length j))
    (λ q. let f = too_long (has_header j) (length j) (length b) h q in absurd (omega arith))
    (λ q. below? (length b) (answer_bytes * whole_records (length j))
    (λ r. let f = no_room (has_header j) (length j) (length b) h q r in absurd (omega arith))
    (λ r. (k, q, r)))

module _ (s : State) (j b : List ℕ) where
  refusal_valid : valid? s ≡ true → journal_refusal s j b ≡ form j b
  unfolding journal_refusal
  refusal_valid e = rw e

  refusal_invalid : valid? s ≡ false → journal_refusal s j b ≡ 1
  unfolding journal_refusal
  refusal_invalid e = rw e

  -- no refusal at all: of the state and of the form
  pub no_refusal : journal_refusal s j b ≡ 0 → (valid? s ≡ true) × (form j b ≡ 0)
  no_refusal e =
      split (valid? s) (λ v. (v, sym (refusal_valid v) ∙ e)) (λ v. let f = refusal_invalid v in absurd (omega arith))

  pub played_journal : valid? s ≡ true → form j b ≡ 0 → journal s j b ≡ played (run s (records_of j)) j b
  played_journal v e =
      either (λ (a : After). a ≡ played (run s (records_of j)) j b) s j b (λ q. refl) (λ q. absurd (q (refusal_valid v ∙ e)))

  -- ---- turned away

  turned_away_law : journal_refusal s j b ≢ 0 → journal s j b ≡ away s b (journal_refusal s j b)
  turned_away_law z = either (λ (a : After). a ≡ away s b (journal_refusal s j b)) s j b (λ q. absurd (z q)) (λ q. refl)

  turned : (r : Refusal) → journal_refusal s j b ≡ refusal_number r → Runs s j b (Err r) s b
  turned r e =
      let q = sym (turned_away_law (λ z. some_number r (sym e ∙ z))) in
      record {
        verdict = ap turned_away (sym e) ∙ ap (λ (a : After). a.verdict) q;
        state = ap (λ (a : After). a.state) q;
        buffer = ap (λ (a : After). a.buffer) q;
      }

  pub turned_by_form : (r : Refusal) → refusal_number r ≡ form j b → valid? s ≡ true → Runs s j b (Err r) s b
  turned_by_form r f e = turned r (refusal_valid e ∙ sym f)

  pub turned_by_state : valid? s ≡ false → Runs s j b (Err NotValid) s b
  turned_by_state e = turned NotValid (refusal_invalid e)

  -- ---- run

  pub all_runnable : form j b ≡ 0 → runnable j header_bytes b ≡ taken j
  all_runnable e = let f = form_fits j b e in sym (whole_runnable j header_bytes b (omega arith))

  module _ (e : form j b ≡ 0) where
    abbrev played_records : model.Ran
    played_records = run s (records_from j header_bytes (runnable j header_bytes b))

    same_records : records_from j header_bytes (runnable j header_bytes b) ≡ records_of j
    same_records = ap (records_from j header_bytes) (all_runnable e)

    abbrev answers : List Answer
    answers = (run s (records_of j)).answers

    refused_rest : valid? s ≡ true → taken j - accepted_in answers ≡ refused_in answers
    refused_rest v =
        let q = ap (λ (a : After). report_of a.verdict) (played_journal v e) in
        let r : accepted_in answers + refused_in answers ≡ taken j =
        subst (λ (x : Report). x.accepted + x.refused ≡ x.taken) q (accepted_and_refused s j b) in
        omega arith

    -- on a valid state all records are taken; on another the run is refused
    module _ {r : Result Ran Refusal} {t : State} {c : List ℕ} (w : part.Runs s j header_bytes b r t c) where
      took : valid? s ≡ true → r ≡ Ok (took_of (run s (records_of j)) (taken j))
      took v =
          w.result
          ∙ pick_yes (Ok (took_of played_records (runnable j header_bytes b))) (Err NotValid) v
          ∙ ap (λ (n : ℕ). Ok (took_of (run s (records_from j header_bytes n)) n)) (all_runnable e)

      took_not : valid? s ≡ false → r ≡ Err NotValid
      took_not v = w.result ∙ pick_not (Ok (took_of played_records (runnable j header_bytes b))) (Err NotValid) v

      -- which of the two it was
      valid_if : {q : Ran} → r ≡ Ok q → valid? s ≡ true
      valid_if {q} f =
          split (valid? s) (λ v. v) (λ v. let g = took_not v in let z : ◌≡◌ {A = ℕ} 0 1 = cc in absurd (omega arith))

      invalid_if : {m : Refusal} → r ≡ Err m → valid? s ≡ false
      invalid_if f =
          split (valid? s) (λ v. let g = took v in let z : ◌≡◌ {A = ℕ} 0 1 = cc in absurd (omega arith)) (λ v. v)

      took_is : {q : Ran} → r ≡ Ok q → q ≡ took_of (run s (records_of j)) (taken j)
      took_is f = let g = took (valid_if f) in cc

      pub took_taken : {q : Ran} → r ≡ Ok q → (q.taken ≡ taken j) × (q.accepted ≤ q.taken)
      took_taken {q} f =
          let v = valid_if f in
          let p = took_is f in
          let n : q.taken ≡ taken j = ap (λ (x : Ran). x.taken) p in
          let k : q.accepted ≡ accepted_in answers = ap (λ (x : Ran). x.accepted) p in
          let z = ap (λ (a : After). report_of a.verdict) (played_journal v e) in
          let y : accepted_in answers + refused_in answers ≡ taken j =
          subst (λ (x : Report). x.accepted + x.refused ≡ x.taken) z (accepted_and_refused s j b) in
          (n, omega arith)

      pub ran_took : {q : Ran} {l : ℕ} → r ≡ Ok q → l ≡ left_over j
          → Runs s j b (Ok (record { taken = q.taken; accepted = q.accepted; refused = q.taken - q.accepted; left_over = l })) t c
      ran_took {q} {l} f g =
          let v = valid_if f in
          let p = took_is f in
          let o = sym (played_journal v e) in
          let d : (q.taken - q.accepted) ≡ refused_in answers = ap (λ (x : Ran). x.taken - x.accepted) p ∙ refused_rest v in
          record {
            verdict =
                (λ i. ran (record { taken = (p i).taken; accepted = (p i).accepted; refused = d i; left_over = g i }))
                ∙ ap (λ (a : After). a.verdict) o;
            state = w.state ∙ pick_yes played_records.state s v ∙ ap (λ (x : List (List ℕ)). (run s x).state) same_records ∙ ap (λ (a : After). a.state) o;
            buffer =
                w.buffer
                ∙ pick_yes (pasted played_records.answers b) b v
                ∙ ap (λ (x : List (List ℕ)). pasted (run s x).answers b) same_records
                ∙ ap (λ (a : After). a.buffer) o;
          }

      pub ran_refused : {m : Refusal} → r ≡ Err m → Runs s j b (Err m) t c
      ran_refused {m} f =
          let v = invalid_if f in
          let g = took_not v in
          let o : m ≡ NotValid = cc in
          let q = turned_by_state v in
          record {
            verdict = ap (λ (x : Refusal). turned_away (refusal_number x)) o ∙ q.verdict;
            state = w.state ∙ pick_not played_records.state s v ∙ q.state;
            buffer = w.buffer ∙ pick_not (pasted played_records.answers b) b v ∙ q.buffer;
          }
