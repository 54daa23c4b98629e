-- A call goes on from what the calls before it took; and any calls since begin.
-- Assumes nothing.
use mathlib.Core.Path.{◌≡◌, refl, sym, ap, subst, subst₂, subst₃, ◌∙◌}
use mathlib.Core.Bool.{Bool, true, false, ◌||◌, false≢true, or-false, or_assoc}
use mathlib.Core.List.{List, [], ◌∷◌, ◌++◌, append_assoc, append-nil}
use Prim.Native.Nat.{ℕ, ◌*◌}
use lib.Dec.{eqb}
use lib.ListN.{length, take, drop}
use lib.Seq.{take_at}
use Rattle.laws.specs.Choice.{pick}
use Rattle.laws.specs.Search.{list_from}
use Rattle.laws.proofs.Lists.{length_list_of}
use Rattle.model.specs.Sizes.{record_bytes, answer_bytes}
use Rattle.model.specs.State.{State}
use Rattle.model.specs.Step.{Answer, step}
use Rattle.model.specs.Run.{Ran, run_by, run}
use Rattle.model.specs.Journal.{records_of, written, pasted}
use Rattle.model.specs.Pieces.{beginning, stop, is_journal, at_hand, records_in, to_run, Fed, AfterCall, sent_back, feed, Feeds}
use Rattle.model.proofs.Run.{and_then, run_append, run_length}
use Rattle.model.proofs.Journal.{written_more, length_written}
use Rattle.model.proofs.Pieces.{number, fed_on, either, not_refused, fed_valid}
use Rattle.stream.specs.Calls.{Call, Calls, taken_by, answers_by, stopped_by}
use Rattle.stream.specs.Streamed.{Streamed}
use Rattle.stream.proofs.Call.{journal_parts, promised}
use Rattle.stream.proofs.Taken.{kept_by, all_taken, now_records, now_kept, now_begins}

-- the answers to n records stand at the start of a buffer
pub answers_first : (s : State) (rs : List (List ℕ)) (b : List ℕ) (n : ℕ) → length rs ≡ n
    → take (answer_bytes * n) (pasted (run s rs).answers b) ≡ written (run s rs).answers
answers_first s rs b n e =
    let xs : List Answer = (run s rs).answers in
    take_at (written xs) (drop (answer_bytes * length xs) b) (answer_bytes * n)
    (length_written xs ∙ ap (λ (i : ℕ). answer_bytes * i) (run_length step s rs ∙ e))

-- ---- a call

module _ (s : State) (j a piece : List ℕ) where
  -- what is to be shown of a call's end
  abbrev On : Bool → AfterCall → Type 0
  On z o =
      Streamed s (j ++ take o.fed.bytes piece) (a ++ take (answer_bytes * o.fed.records) o.buffer) (z || eqb o.fed.number 13) o.state
      o.kept

  -- refused: all stays, but 13 is remembered
  stays : {u : State} (z : Bool) (b : List ℕ) (n : ℕ) → Streamed s j a z u (kept_by z j) → On z (sent_back u (kept_by z j) b n)
  stays {u} z b n p =
      subst₂ (λ (x y : List ℕ). Streamed s x y (z || eqb n 13) u (pick (eqb n 13) (stop (kept_by z j)) (kept_by z j))) (sym (append-nil j))
      (sym (append-nil a)) record { begins = p.begins; state = p.state; answers = p.answers; kept = kept z (eqb n 13) }
    where
      kept : (z c : Bool) → pick c (stop (kept_by z j)) (kept_by z j) ≡ kept_by (z || c) j
      kept true true = refl
      kept true false = refl
      kept false true = refl
      kept false false = refl

  module _ (allowance : ℕ) (last : Bool) where
    abbrev n : ℕ
    n = to_run (kept_by false j) piece allowance

    abbrev records : List (List ℕ)
    records = records_in (at_hand (kept_by false j) piece) n

    abbrev before : Ran
    before = run s (records_of j)

    ran_on_law : run s (records_of (all_taken j piece allowance)) ≡ and_then before (run before.state records)
    ran_on_law = ap (run s) (now_records j piece allowance) ∙ run_append step s (records_of j) records

    -- not refused: 13 was not given before
    goes_on : {u : State} (z : Bool) (b : List ℕ) → Streamed s j a z u (kept_by z j) → is_journal (kept_by z j) piece last ≡ true
        → On z (fed_on u (kept_by z j) piece allowance last b)
    goes_on true b p g = absurd (false≢true g)
    goes_on {u} false b p g =
        let k = kept_by false j in
        let several = length_list_of n (λ i. take record_bytes (drop (record_bytes * i) (at_hand k piece))) in
        record {
          begins = now_begins j piece allowance p.begins (journal_parts k piece last g).1;
          state = ap (λ (x : State). (run x records).state) p.state ∙ sym (ap (λ (r : Ran). r.state) ran_on_law);
          answers =
              (λ i. p.answers i ++ answers_first u records b n several i)
              ∙ ap (λ (x : State). written before.answers ++ written (run x records).answers) p.state
              ∙ sym (written_more before.answers (run before.state records).answers)
              ∙ sym (ap (λ (r : Ran). written r.answers) ran_on_law);
          kept = now_kept j piece allowance;
        }

-- one call more
pub streams_on : {s : State} {j a : List ℕ} {z : Bool} {u : State} {k : List ℕ} → Streamed s j a z u k
    → {piece : List ℕ} {allowance : ℕ} {last : Bool} {b : List ℕ} {f : Fed} {t : State} {l c : List ℕ} → Feeds u k piece allowance last b f t l c
    → Streamed s (j ++ take f.bytes piece) (a ++ take (answer_bytes * f.records) c) (z || eqb f.number 13) t l
streams_on {s} {j} {a} {z} {u} {k} p {piece} {allowance} {last} {b} g =
    let q : Streamed s j a z u (kept_by z j) = record { begins = p.begins; state = p.state; answers = p.answers; kept = refl } in
    subst (On s j a piece z)
    (ap (λ (x : List ℕ). feed u x piece allowance last b) (sym p.kept) ∙ sym (promised g))
    (either u (kept_by z j) piece allowance last b (On s j a piece z)
    (λ e.
    let m = not_refused (kept_by z j) piece allowance last (length b) (fed_valid u (kept_by z j) piece allowance last b e).1 in
    goes_on s j a piece allowance last z b q m.0)
    (λ e. stays s j a piece z b (number u (kept_by z j) piece allowance last b) q))

-- ---- any calls

nothing_yet : (s : State) → Streamed s [] [] false s beginning
unfolding run_by list_from
nothing_yet s = record { begins = refl; state = refl; answers = refl; kept = refl }

-- calls one after another
pub calls_on : {s : State} {j a : List ℕ} {z : Bool} {u : State} {k : List ℕ} → Streamed s j a z u k → (xs : List Call) {t : State} {l : List ℕ}
    → Calls u k xs t l → Streamed s (j ++ taken_by xs) (a ++ answers_by xs) (z || stopped_by xs) t l
calls_on {s} {j} {a} {z} p [] {t} {l} (e, f) =
    subst₃ (λ (x y : List ℕ) (c : Bool). Streamed s x y c t l) (sym (append-nil j)) (sym (append-nil a)) (sym (or-false z))
    record { begins = p.begins; state = e ∙ p.state; answers = p.answers; kept = f ∙ p.kept }
calls_on {s} {j} {a} {z} p (x ∷ xs) {t} {l} (u, m, g, c) =
    subst₃ (λ (x y : List ℕ) (c : Bool). Streamed s x y c t l) (append_assoc j (take x.fed.bytes x.piece) (taken_by xs))
    (append_assoc a (take (answer_bytes * x.fed.records) x.after) (answers_by xs))
    (or_assoc z (eqb x.fed.number 13) (stopped_by xs))
    (calls_on {s = s} {j = j ++ take x.fed.bytes x.piece} {a = a ++ take (answer_bytes * x.fed.records) x.after} {z = z || eqb x.fed.number 13}
    {u = u} {k = m} (streams_on p g) xs c)

-- The theorem to quote: any calls since begin.
pub streamed : (s t : State) (l : List ℕ) (xs : List Call) → Calls s beginning xs t l → Streamed s (taken_by xs) (answers_by xs) (stopped_by xs) t l
streamed s t l xs c = calls_on (nothing_yet s) xs c
