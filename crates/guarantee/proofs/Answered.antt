-- Records that are run on a state to which a past led: what their answers in a buffer say is guaranteed.
-- Assumes nothing.
use mathlib.Core.Path.{◌≡◌, sym, ap, subst, ◌∙◌}
use mathlib.Core.List.{List, map}
use Prim.Native.Nat.{ℕ}
use lib.ListN.{length}
use Rattle.laws.proofs.Lists.{length_list_of}
use Rattle.model.specs.State.{State}
use Rattle.model.specs.Records.{Bytes}
use Rattle.model.specs.Step.{Answer, number_of, value_of, step}
use Rattle.model.specs.Run.{run}
use Rattle.model.specs.Journal.{pasted}
use Rattle.model.proofs.Run.{run_length}
use Rattle.history.specs.Past.{Book, Past, past_after, values_after}
use Rattle.history.specs.Rations.{Kept}
use Rattle.history.proofs.Rations.{rations_on}
use Rattle.steps.specs.Parts.{record_from, records_from}
use Rattle.steps.proofs.Running.{records_from_bytes}
use Rattle.guarantee.specs.Guarantee.{numbers_in, values_in, Guarantee}
use Rattle.guarantee.proofs.Reading.{run_below, numbers_back, values_back}

module _ {b : Book} {s : State} {past : Past} {u : State} (k : Kept b s past u) (j : List ℕ) (w : Bytes j) (start n : ℕ) (buffer : List ℕ) where
  abbrev rs : List (List ℕ)
  rs = records_from j start n

  abbrev answers : List Answer
  answers = (run u rs).answers

  so_many : length answers ≡ n
  so_many = run_length step u rs ∙ length_list_of n (record_from j start)

  numbers : numbers_in (pasted answers buffer) n ≡ map number_of answers
  numbers = ap (numbers_in (pasted answers buffer)) (sym so_many) ∙ numbers_back answers buffer

  values : values_in (pasted answers buffer) n ≡ map value_of answers
  values =
      ap (values_in (pasted answers buffer)) (sym so_many)
      ∙ values_back answers buffer (run_below k.valid rs (records_from_bytes j w start n))

  pub answered : {t : State} {c : List ℕ} → t ≡ (run u rs).state → c ≡ pasted answers buffer → Guarantee b s past j start n t c
  answered {t} {c} e f =
      let q = rations_on k rs (records_from_bytes j w start n) in
      let d : numbers_in c n ≡ map number_of answers = ap (λ (l : List ℕ). numbers_in l n) f ∙ numbers in
      record {
        kept =
            subst (λ (l : List ℕ). Kept b s (past_after past rs l) t) (sym d)
            (subst (λ (x : State). Kept b s (past_after past rs (map number_of answers)) x) (sym e) q.kept);
        answers =
            ap (λ (l : List ℕ). values_in l n) f ∙ values ∙ q.answers ∙ ap (values_after b past rs) (sym d);
      }
