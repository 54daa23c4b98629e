-- A run, turn by turn; and on a valid state it is the model's.
-- Assumes nothing.
use mathlib.Core.Path.{◌≡◌, refl, sym, ap, subst, ◌∙◌}
use mathlib.Core.Bool.{true}
use mathlib.Core.List.{List, [], ◌∷◌, ◌++◌}
use Prim.Native.Nat.{ℕ, suc, ◌+◌, ◌*◌, ◌-◌, ◌≤◌}
use native.Mathlib.Omega.{arith}
use native.Mathlib.Numerals.{add-one}
use borrow.Author.Tests.{le-ltb}
use lib.Dec.{eqb}
use lib.ListN.{length, take, drop}
use Rattle.laws.specs.Search.{list_from}
use Rattle.laws.proofs.Cases.{pick_both}
use Rattle.laws.proofs.Lists.{length_list_of, list_of_more}
use Rattle.laws.proofs.Search.{Each, each_list_from}
use Rattle.model.specs.Sizes.{record_bytes, answer_bytes}
use Rattle.model.specs.State.{State}
use Rattle.model.specs.Records.{Bytes}
use Rattle.model.specs.Valid.{Valid, valid?}
use Rattle.model.specs.Step.{Answer, number_of, Outcome, judge}
use Rattle.model.specs.Run.{Ran, run_by, run}
use Rattle.model.specs.Journal.{pasted, accepted_in}
use Rattle.model.proofs.Valid.{valid⇔}
use Rattle.model.proofs.Bytes.{part_bytes}
use Rattle.model.proofs.Run.{run_append, run_length}
use Rattle.keeps.proofs.Keeps.{judge_keeps, run_judges}
use Rattle.steps.specs.Acting.{judged}
use Rattle.steps.specs.Parts.{record_from, records_from}
use Rattle.steps.specs.Turns.{Turns, Plays, answer_at, counts}
use Rattle.reader.specs.declared.Reader.{Reader}
use Rattle.reader.specs.declared.Found.{Found}
use Rattle.reader.specs.declared.Found.TheVariants.{Record}
use Rattle.reader.specs.Walk.{found_at, moved_at, moved_of, is_record, number_in}
use Rattle.steps.proofs.Judging.{judged_valid}
use Rattle.steps.proofs.Storing.{accepted_more, length_pasted, pasted_more}

-- ---- one turn

-- a reader that stands at a record
module _ (r : Reader) (j : List ℕ) (p : ℕ) (e : r.journal.now ≡ j) (q : r.position ≡ p) (h : p + record_bytes ≤ length j) where
  pub finds : {f : Found} → f ≡ found_at (length r.journal.now) r.position → (is_record f ≡ true) × (number_in f ≡ p)
  finds {f} g =
      let o : f ≡ Record p = g ∙ (λ i. found_at (length (e i)) (q i)) ∙ rw (le-ltb (length j - p) record_bytes (omega arith)) in
      (ap is_record o, ap number_in o)

  pub moves : {m : Reader} → m ≡ moved_of r → (m.journal.now ≡ j) × (m.position ≡ p + record_bytes)
  moves {m} g =
      let o : moved_at (length r.journal.now) r.position ≡ p + record_bytes =
      (λ i. moved_at (length (e i)) (q i)) ∙ rw (le-ltb (length j - p) record_bytes (omega arith)) in
      (ap (λ (x : Reader). x.journal.now) g ∙ e, ap (λ (x : Reader). x.position) g ∙ o)

pub counts_most : (x : Answer) → counts x ≤ 1
counts_most x = pick_both (λ (k : ℕ). k ≤ 1) (eqb (number_of x) 0) (λ e. omega arith) (λ e. omega arith)

pub turned_most : {s : State} {j : List ℕ} {p : ℕ} {b : List ℕ} {i k : ℕ} {t : State} {c : List ℕ} → Turns s j p b i k t c → k ≤ 1
turned_most {s} {j} {p} q = let e = counts_most (judged s (take record_bytes (drop p j))).answer in omega (arith, q.counted)

-- ---- turn by turn

module _ (s : State) (j : List ℕ) (start : ℕ) (b : List ℕ) where
  abbrev ran : ℕ → Ran
  ran n = run_by judged s (records_from j start n)

  answers_length : (n : ℕ) → length (ran n).answers ≡ n
  answers_length n = run_length judged s (records_from j start n) ∙ length_list_of n (record_from j start)

  pub none_played : Plays s j start 0 b 0 s b
  unfolding run_by list_from
  none_played = record { counted = refl; state = refl; buffer = refl }

  -- a run of one record more
  abbrev last : ℕ → Outcome
  last n = judged (ran n).state (record_from j start n)

  abbrev more : ℕ → Ran
  more n = record { answers = (ran n).answers ++ (last n).answer ∷ []; state = (last n).state }

  ran_more : (n : ℕ) → ran (suc n) ≡ more n
  unfolding run_by
  ran_more n =
      ap (run_by judged s) (list_of_more n (record_from j start))
      ∙ run_append judged s (records_from j start n) (record_from j start n ∷ [])

  pub played_length : {n k : ℕ} {t : State} {c : List ℕ} → answer_bytes * n ≤ length b → Plays s j start n b k t c → length c ≡ length b
  played_length {n} h p =
      let e = answers_length n in ap length p.buffer ∙ length_pasted (ran n).answers b (omega arith)

  pub one_more : {n k : ℕ} {t : State} {c : List ℕ} → answer_bytes * n + answer_bytes ≤ length b → Plays s j start n b k t c
      → {m y : ℕ} {u : State} {d : List ℕ} → y ≡ start + record_bytes * n → Turns t j y c n m u d
      → Plays s j start (n + 1) b (k + m) u d
  one_more {n} {k} {t} {c} h p {m} {y} {u} {d} w x =
      let r : ran (n + 1) ≡ more n = ap ran (add-one n) ∙ ran_more n in
      let q = subst (λ (z : ℕ). Turns t j z c n m u d) w x in
      let e = answers_length n in
      let o : judged t (record_from j start n) ≡ last n = ap (λ (x : State). judged x (record_from j start n)) p.state in
      record {
        counted =
            ap (λ (x : ℕ). x + m) p.counted
            ∙ ap (λ (x : ℕ). accepted_in (ran n).answers + x) (q.counted ∙ ap (λ (x : Outcome). counts x.answer) o)
            ∙ sym (accepted_more (ran n).answers (last n).answer)
            ∙ sym (ap (λ (x : Ran). accepted_in x.answers) r);
        state = q.state ∙ ap (λ (x : Outcome). x.state) o ∙ sym (ap (λ (x : Ran). x.state) r);
        buffer =
            q.buffer
            ∙ ap (λ (x : Outcome). answer_at c n x.answer) o
            ∙ ap (λ (x : List ℕ). answer_at x n (last n).answer) p.buffer
            ∙ ap (λ (i : ℕ). answer_at (pasted (ran n).answers b) i (last n).answer) (sym e)
            ∙ pasted_more (ran n).answers b (last n).answer (omega arith)
            ∙ sym (ap (λ (x : Ran). pasted x.answers b) r);
      }

-- ---- on a valid state

pub records_from_bytes : (j : List ℕ) → Bytes j → (start n : ℕ) → Each Bytes (records_from j start n)
records_from_bytes j w start n =
    each_list_from Bytes (record_from j start) (λ i. part_bytes j w (start + record_bytes * i) record_bytes) n 0

run_judged : {s : State} → Valid s → (rs : List (List ℕ)) → Each Bytes rs → run_by judged s rs ≡ run_by judge s rs
unfolding run_by
run_judged v [] b = refl
run_judged {s} v (r ∷ rs) b =
    ap (λ (o : Outcome). after o (run_by judged o.state rs)) (judged_valid v r b.0)
    ∙ ap (after (judge s r)) (run_judged {s = (judge s r).state} (judge_keeps v r b.0) rs b.1)
  where
    after : Outcome → Ran → Ran
    after o t = record { answers = o.answer ∷ t.answers; state = t.state }

pub run_as_judged : (s : State) → valid? s ≡ true → (rs : List (List ℕ)) → Each Bytes rs → run_by judged s rs ≡ run s rs
run_as_judged s e rs y = let v = (valid⇔ s).0 e in run_judged v rs y ∙ sym (run_judges v rs y)
