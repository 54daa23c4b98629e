-- Demand 3 of any calls of feed since begin, from any state to which a past led.
-- Assumes nothing.
use mathlib.Core.Path.{◌≡◌, sym, ap, ◌∙◌}
use mathlib.Core.List.{List, [], ◌++◌, append-nil}
use Prim.Native.Nat.{ℕ, ◌*◌}
use lib.ListN.{length}
use lib.Seq.{drop-nil}
use Rattle.laws.proofs.Search.{Each}
use Rattle.model.specs.Sizes.{answer_bytes, header_bytes}
use Rattle.model.specs.State.{State}
use Rattle.model.specs.Records.{Bytes}
use Rattle.model.specs.Step.{Answer}
use Rattle.model.specs.Run.{run}
use Rattle.model.specs.Journal.{taken, records_of, written, pasted}
use Rattle.model.specs.Pieces.{beginning}
use Rattle.stream.specs.Calls.{Call, Calls, taken_by, answers_by}
use Rattle.stream.proofs.Streamed.{streamed}
use Rattle.stream.proofs.Outcomes.{taken_bytes}
use Rattle.history.specs.Past.{Book, Past}
use Rattle.history.specs.Rations.{Kept}
use Rattle.guarantee.specs.Guarantee.{Guarantee}
use Rattle.guarantee.proofs.Answered.{answered}

-- answers alone, as in a buffer that has nothing else
alone : (xs : List Answer) → written xs ≡ pasted xs []
alone xs =
    sym (ap (λ (l : List ℕ). written xs ++ l) (drop-nil (answer_bytes * length xs)) ∙ append-nil (written xs))

pub fed_on_law : {b : Book} {s : State} {past : Past} {u : State} → Kept b s past u → (xs : List Call) → Each (λ x. Bytes x.piece) xs
    → {t : State} (l : List ℕ) → Calls u beginning xs t l
    → Guarantee b s past (taken_by xs) header_bytes (taken (taken_by xs)) t (answers_by xs)
fed_on_law {u = u} k xs w {t} l c =
    let p = streamed u t l xs c in
    let j = taken_by xs in
    answered k j (taken_bytes xs w) header_bytes (taken j) [] p.state (p.answers ∙ alone (run u (records_of j)).answers)
