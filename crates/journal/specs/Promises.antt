-- What the run of a journal promises: the report or the refusal, the state and every byte of the answer buffer at exit.
-- Assumes nothing.
use Rattle.std.specs.Prelude.{◌≡◌, List, ℕ, Result, Ok, Err}
use Rattle.numbers.specs.declared.refusal.Refusal.{Refusal}
use Rattle.numbers.specs.Refusals.{refusal_number}
use Rattle.model.specs.State.{State}
use Rattle.model.specs.Journal.{ran, turned_away, journal}
use Rattle.model.specs.Journal as model
use Rattle.journal.specs.declared.Report.{Report}

-- code's reports and verdicts as the model's
abbrev pub report_from : Report → model.Report
report_from r = record { taken = r.taken; accepted = r.accepted; refused = r.refused; left_over = r.left_over }

abbrev pub verdict_from : Result Report Refusal → model.Verdict
verdict_from (Ok r) = ran (report_from r)
verdict_from (Err r) = turned_away (refusal_number r)

-- the run of a journal: journal j on state s, with the answer buffer b
pub record Runs (s : State) (j b : List ℕ) (v : Result Report Refusal) (t : State) (c : List ℕ) : Type 0 where
  pub verdict : verdict_from v ≡ (journal s j b).verdict
  pub state : t ≡ (journal s j b).state
  pub buffer : c ≡ (journal s j b).buffer
