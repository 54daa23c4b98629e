-- The policy changes no answer of `journal::run`, nor of a journal in pieces: on two hosts that are alike, and so on two fresh machines.
-- Assumes nothing.
use mathlib.Core.Path.{◌≡◌, sym, ap, subst, ◌∙◌}
use mathlib.Core.List.{List}
use Prim.Native.Nat.{ℕ, ◌<◌}
use Rattle.laws.proofs.Search.{Each}
use Rattle.model.specs.Sizes.{policies}
use Rattle.model.specs.State.{State}
use Rattle.model.specs.Fresh.{fresh_with}
use Rattle.model.specs.Records.{Bytes}
use Rattle.model.specs.Valid.{Valid}
use Rattle.model.specs.Run.{Ran, run}
use Rattle.model.specs.Journal.{records_of, written}
use Rattle.model.specs.Pieces.{beginning}
use Rattle.model.proofs.Bytes.{records_bytes}
use Rattle.stream.specs.Calls.{Call, Calls, taken_by, answers_by}
use Rattle.stream.proofs.Streamed.{streamed}
use Rattle.stream.proofs.Outcomes.{taken_bytes}
use Rattle.keeps.proofs.Fresh.{fresh_valid}
use Rattle.history.specs.Policies.{Alike}
use Rattle.history.proofs.Policies.{alike_runs, alike_journals, fresh_alike}
use Rattle.host.specs.View.{view}
use Rattle.std.specs.Prelude.{Result}
use Rattle.numbers.specs.declared.refusal.Refusal.{Refusal}
use Rattle.journal.specs.declared.Report.{Report}
use Rattle.journal.specs.Promises.{Runs}
use Rattle.journal.proofs.Answers.{one_verdict_from}
use Rattle.guarantee.specs.Policies.{SameAnswers}

-- two states that are alike, by other words for each
alike_as : {s t u w : State} → u ≡ s → w ≡ t → Alike s t → Alike u w
alike_as {s} {t} {u} e f a = subst (Alike u) (sym f) (subst (λ (x : State). Alike x t) (sym e) a)

-- any journal, run or refused, with any buffer
pub same_journal : (x y z t j b : List ℕ) {v w : Result Report Refusal} {c d : List ℕ} → Valid (view x) → Valid (view z) → Alike (view x) (view z) → Bytes j
    → Runs (view x) j b v (view y) c → Runs (view z) j b w (view t) d → SameAnswers x y z t v w c d
same_journal x y z t j b {v} {w} m n l bytes p q =
    let u = alike_journals m n l j b bytes in
    record {
      verdict = one_verdict_from w v (q.verdict ∙ u.verdict ∙ sym p.verdict);
      buffer = q.buffer ∙ u.buffer ∙ sym p.buffer;
      alike = alike_as p.state q.state u.alike;
      first_policy = ap (λ (s : State). s.shape.policy) p.state ∙ u.first_policy;
      second_policy = ap (λ (s : State). s.shape.policy) q.state ∙ u.second_policy;
    }

-- The theorem to quote: one journal of any bytes on two fresh machines, with any policies.
pub fresh_same : (first second : ℕ) → first < policies → second < policies → (x y z t j b : List ℕ) {v w : Result Report Refusal} {c d : List ℕ}
    → view x ≡ fresh_with first → view z ≡ fresh_with second → Bytes j → Runs (view x) j b v (view y) c → Runs (view z) j b w (view t) d
    → SameAnswers x y z t v w c d
fresh_same first second f s x y z t j b e g =
    same_journal x y z t j b (subst Valid (sym e) (fresh_valid first f)) (subst Valid (sym g) (fresh_valid second s))
    (alike_as e g (fresh_alike first second))

-- calls of feed since begin, on each, however cut, that took the same bytes in all
pub same_fed : (s t : State) (xs ys : List Call) {u w : State} (l m : List ℕ) → Valid s → Valid t → Alike s t → Each (λ c. Bytes c.piece) xs
    → Calls s beginning xs u l → Calls t beginning ys w m → taken_by ys ≡ taken_by xs → (answers_by ys ≡ answers_by xs) × Alike u w
same_fed s t xs ys {u} {w} l m v n a b c d e =
    let p = streamed s u l xs c in
    let q = streamed t w m ys d in
    let r = alike_runs v n a (records_of (taken_by xs)) (records_bytes (taken_by xs) (taken_bytes xs b)) in
    let f : run t (records_of (taken_by ys)) ≡ run t (records_of (taken_by xs)) = ap (λ (j : List ℕ). run t (records_of j)) e in (
      q.answers ∙ ap (λ (o : Ran). written o.answers) f ∙ ap written r.answers ∙ sym p.answers,
      alike_as p.state (q.state ∙ ap (λ (o : Ran). o.state) f) r.alike,
    )
