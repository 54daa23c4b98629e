-- Two hosts that are alike but for the policy and the values in memory answer alike, and stay alike. What is refused and what the shapes become turn on
-- no value and on no policy; and the values are what one history says of both, by demand 3.
-- Assumes nothing.
use mathlib.Core.Path.{◌≡◌, refl, sym, ap, ◌∙◌}
use mathlib.Core.List.{List}
use Prim.Native.Nat.{ℕ, ◌<◌}
use lib.ListN.{length}
use Rattle.laws.proofs.Search.{Each}
use Rattle.model.specs.Sizes.{policies}
use Rattle.model.specs.State.{State, line_of_page, present}
use Rattle.model.specs.Fresh.{fresh_with}
use Rattle.model.specs.Records.{Bytes}
use Rattle.model.specs.Valid.{Valid}
use Rattle.model.specs.Step.{Answer}
use Rattle.model.specs.Run.{run}
use Rattle.model.specs.Journal.{records_of, reported, ran, turned_away, pasted, has_header, form_refusal, journal_refusal, played, away, journal}
use Rattle.model.proofs.Valid.{valid⇔}
use Rattle.model.proofs.Bytes.{records_bytes}
use Rattle.model.proofs.Journal.{either}
use Rattle.keeps.proofs.Fresh.{fresh_valid}
use Rattle.history.specs.Policies.{Alike, SameRuns, SameJournal}
pub use Rattle.history.proofs.Alike.{run_policy, alike_agrees, alike_runs}

pub fresh_alike : (p q : ℕ) → Alike (fresh_with p) (fresh_with q)
unfolding fresh_with present line_of_page
fresh_alike p q = record { shape = refl; line = refl; present = λ r. refl }

pub policies_agree : (p q : ℕ) → p < policies → q < policies → (rs : List (List ℕ)) → Each Bytes rs → SameRuns (fresh_with p) (fresh_with q) rs
policies_agree p q hp hq = alike_runs (fresh_valid p hp) (fresh_valid q hq) (fresh_alike p q)

-- ---- journals

-- on a valid state the form alone refuses a journal
form_alone : {s : State} → Valid s → (j b : List ℕ) → journal_refusal s j b ≡ form_refusal (has_header j) (length j) (length b)
unfolding journal_refusal
form_alone {s} v j b = rw ((valid⇔ s).1 v)

pub alike_journals : {s t : State} → Valid s → Valid t → Alike s t → (j b : List ℕ) → Bytes j → SameJournal s t (journal s j b) (journal t j b)
alike_journals {s} {t} v w l j b bytes =
    either (λ o. SameJournal s t o (journal t j b)) s j b
    (λ z. either (SameJournal s t (played (run s (records_of j)) j b)) t j b (λ _. both) (λ n. absurd (n (turned ∙ z))))
    (λ n. either (SameJournal s t (away s b (journal_refusal s j b))) t j b (λ z. absurd (n (sym turned ∙ z)))
    (λ _. record { verdict = ap turned_away turned; buffer = refl; alike = l; first_policy = refl; second_policy = refl }))
  where
    turned : journal_refusal t j b ≡ journal_refusal s j b
    turned = form_alone w j b ∙ sym (form_alone v j b)

    both : SameJournal s t (played (run s (records_of j)) j b) (played (run t (records_of j)) j b)
    both =
        let u = alike_runs v w l (records_of j) (records_bytes j bytes) in
        record {
          verdict = ap (λ (xs : List Answer). ran (reported j xs)) u.answers;
          buffer = ap (λ (xs : List Answer). pasted xs b) u.answers;
          alike = u.alike;
          first_policy = u.first_policy;
          second_policy = u.second_policy;
        }
