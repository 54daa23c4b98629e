-- A journal's first k records: answers and state after them are those of the journal that has these records alone.
-- Assumes nothing.
use mathlib.Core.Path.{◌≡◌, sym, ap, ◌∙◌}
use mathlib.Core.Bool.{true}
use mathlib.Core.List.{List, [], ◌++◌, append_assoc}
use Prim.Native.Nat.{ℕ, ◌+◌, ◌*◌, ◌-◌, ◌≤◌}
use native.Mathlib.Omega.{arith}
use lib.ListN.{length, take, drop}
use lib.Seq.{take-add, take_at, drop_at, take-take, length-take-le, get_or-take}
use Rattle.laws.specs.Search.{list_from, list_of}
use Rattle.laws.proofs.Lists.{length_list_of, list_from_append, list_of_same}
use Rattle.model.specs.Sizes.{record_bytes, answer_bytes, header_bytes}
use Rattle.model.specs.State.{State}
use Rattle.model.specs.Valid.{valid?}
use Rattle.model.specs.Step.{Answer, step}
use Rattle.model.specs.Run.{Ran, run}
use Rattle.model.specs.Journal.{taken, record_at, records_of, has_header, written, journal_refusal, Verdict, ran, report_of, reported, played, journal, After}
use Rattle.model.specs.Journal as model
use Rattle.model.proofs.Run.{and_then, run_append, run_length}
use Rattle.model.proofs.Journal.{either, written_more, length_written}
use Rattle.journal.specs.declared.Report.{Report}
use Rattle.std.specs.Prelude.{Result, Ok}
use Rattle.numbers.specs.declared.refusal.Refusal.{Refusal}
use Rattle.journal.specs.Promises.{report_from, Runs}
use Rattle.journal.proofs.Header.{header⇔}
use Rattle.journal.proofs.Limits.{fits}
use Rattle.journal.proofs.Reports.{form, form_header, form_fits, no_refusal, played_journal}
use Rattle.journal.proofs.Answers.{report_in, report_of_law}

-- ---- lists

-- n elements from place p on, of the first q
part_of_first : (p n q : ℕ) (l : List ℕ) → p + n ≤ q → q ≤ length l → take n (drop p (take q l)) ≡ take n (drop p l)
part_of_first p n q l h k =
    let e : p + (q - p) ≡ q = omega arith in
    ap (λ (x : ℕ). take n (drop p (take x l))) (sym e)
    ∙ ap (λ (x : List ℕ). take n (drop p x)) (take-add p (q - p) l)
    ∙ ap (take n) (drop_at (take p l) (take (q - p) (drop p l)) p (length-take-le p l (omega arith)))
    ∙ take-take n (q - p) (drop p l) (omega arith)

-- ---- the first k records

-- the journal cut after record k, counted from 1
abbrev pub first_of : ℕ → List ℕ → List ℕ
first_of k j = take (header_bytes + record_bytes * k) j

-- the records after these
abbrev pub rest_of : ℕ → List ℕ → List (List ℕ)
rest_of k j = list_from (taken j - k) k (record_at j)

module _ (j b : List ℕ) (k : ℕ) (e : form j b ≡ 0) (h : k ≤ taken j) where
  cut_length : length (first_of k j) ≡ header_bytes + record_bytes * k
  cut_length = let f = form_fits j b e in length-take-le (header_bytes + record_bytes * k) j (omega arith)

  cut_taken : taken (first_of k j) ≡ k
  cut_taken = let l = cut_length in omega arith

  cut_records : records_of (first_of k j) ≡ list_of k (record_at j)
  cut_records =
      let f = form_fits j b e in
      ap (λ (n : ℕ). list_of n (record_at (first_of k j))) cut_taken
      ∙ list_of_same k []
      (λ i l. part_of_first (header_bytes + record_bytes * i) record_bytes (header_bytes + record_bytes * k) j (omega arith) (omega arith))

  whole_records_law : records_of j ≡ records_of (first_of k j) ++ rest_of k j
  whole_records_law =
      let s : k + (taken j - k) ≡ taken j = omega arith in
      ap (λ (n : ℕ). list_of n (record_at j)) (sym s)
      ∙ list_from_append k (taken j - k) 0 (record_at j)
      ∙ ap (λ (n : ℕ). list_of k (record_at j) ++ list_from (taken j - k) n (record_at j)) (omega arith)
      ∙ ap (λ (l : List (List ℕ)). l ++ rest_of k j) (sym cut_records)

  cut_header : has_header (first_of k j) ≡ true
  cut_header =
      let l = cut_length in
      (header⇔ (first_of k j)).1
      (omega arith, λ i g. get_or-take (header_bytes + record_bytes * k) j i 0 (omega arith) ∙ ((header⇔ j).0 (form_header j b e)).1 i g)

  pub cut_fits : form (first_of k j) b ≡ 0
  cut_fits =
      let f = form_fits j b e in
      let l = cut_length in
      sym (fits (has_header (first_of k j)) (length (first_of k j)) (length b) cut_header (omega arith) (omega arith))

  -- ---- run

  module _ (s : State) (v : valid? s ≡ true) where
    abbrev cut : Ran
    cut = run s (records_of (first_of k j))

    abbrev rest : Ran
    rest = run cut.state (rest_of k j)

    runs_on : run s (records_of j) ≡ and_then cut rest
    runs_on = ap (run s) whole_records_law ∙ run_append step s (records_of (first_of k j)) (rest_of k j)

    cut_answers : length cut.answers ≡ k
    cut_answers = run_length step s (records_of (first_of k j)) ∙ length_list_of (taken (first_of k j)) (record_at (first_of k j)) ∙ cut_taken

    cut_written : length (written cut.answers) ≡ answer_bytes * k
    cut_written = length_written cut.answers ∙ ap (λ (n : ℕ). answer_bytes * n) cut_answers

    first_bytes : (ys : List Answer) (c : List ℕ) → take (answer_bytes * k) (written (cut.answers ++ ys) ++ c) ≡ written cut.answers
    first_bytes ys c =
        ap (λ (l : List ℕ). take (answer_bytes * k) (l ++ c)) (written_more cut.answers ys)
        ∙ ap (take (answer_bytes * k)) (append_assoc (written cut.answers) (written ys) c)
        ∙ take_at (written cut.answers) (written ys ++ c) (answer_bytes * k) cut_written

    abbrev whole : After
    whole = journal s j b

    abbrev part : After
    part = journal s (first_of k j) b

    part_is : part ≡ played cut (first_of k j) b
    part_is = played_journal s (first_of k j) b v cut_fits

    whole_is : whole ≡ played (and_then cut rest) j b
    whole_is = played_journal s j b v e ∙ ap (λ (r : Ran). played r j b) runs_on

    pub same_answers : take (answer_bytes * k) whole.buffer ≡ take (answer_bytes * k) part.buffer
    same_answers =
        ap (λ (a : After). take (answer_bytes * k) a.buffer) whole_is
        ∙ first_bytes rest.answers (drop (answer_bytes * length (cut.answers ++ rest.answers)) b)
        ∙ sym (take_at (written cut.answers) (drop (answer_bytes * length cut.answers) b) (answer_bytes * k) cut_written)
        ∙ sym (ap (λ (a : After). take (answer_bytes * k) a.buffer) part_is)

    pub goes_on : whole.state ≡ (run part.state (rest_of k j)).state
    goes_on =
        ap (λ (a : After). a.state) whole_is
        ∙ sym (ap (λ (a : After). (run a.state (rest_of k j)).state) part_is)

    pub part_verdict : part.verdict ≡ ran (reported (first_of k j) cut.answers)
    part_verdict = ap (λ (a : After). a.verdict) part_is

-- ---- at exit

-- after a journal that was run: of its first k records alone, the same answers, so many taken, and the state from which the others went on
module _ (s : State) (j b : List ℕ) {r : Report} {t : State} {c : List ℕ} (p : Runs s j b (Ok r) t c) where
  was_run : journal_refusal s j b ≡ 0
  was_run =
      either (λ (a : After). ran (report_from r) ≡ a.verdict → journal_refusal s j b ≡ 0) s j b (λ q f. q)
      (λ q f. let z : ◌≡◌ {A = ℕ} 0 1 = cc f in absurd (omega arith)) p.verdict

  pub run_valid : valid? s ≡ true
  run_valid = (no_refusal s j b was_run).0

  pub run_form : form j b ≡ 0
  run_form = (no_refusal s j b was_run).1

  pub all_taken_law : r.taken ≡ taken j
  all_taken_law = ap (λ (v : Verdict). (report_of v).taken) (p.verdict ∙ ap (λ (a : After). a.verdict) (played_journal s j b run_valid run_form))

  module _ (k : ℕ) (h : k ≤ r.taken) {v : Result Report Refusal} {u : State} {d : List ℕ} (q : Runs s (first_of k j) b v u d) where
    up_to : k ≤ taken j
    up_to = omega (arith, all_taken_law)

    pub first_answers : take (answer_bytes * k) c ≡ take (answer_bytes * k) d
    first_answers =
        ap (take (answer_bytes * k)) p.buffer
        ∙ same_answers j b k run_form up_to s run_valid
        ∙ sym (ap (take (answer_bytes * k)) q.buffer)

    pub first_state : t ≡ (run u (rest_of k j)).state
    first_state =
        p.state ∙ goes_on j b k run_form up_to s run_valid ∙ sym (ap (λ (x : State). (run x (rest_of k j)).state) q.state)

    pub first_taken : (report_in v).taken ≡ k
    first_taken =
        ap (λ (x : model.Report). x.taken) (report_of_law v)
        ∙ ap (λ (x : Verdict). (report_of x).taken) (q.verdict ∙ part_verdict j b k run_form up_to s run_valid)
        ∙ cut_taken j b k run_form up_to
