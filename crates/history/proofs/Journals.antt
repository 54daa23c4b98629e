-- Demand 3 of a journal.
-- Assumes nothing.
use mathlib.Core.Path.{◌≡◌}
use mathlib.Core.List.{List}
use Prim.Native.Nat.{ℕ, ◌<◌}
use Rattle.model.specs.Sizes.{policies}
use Rattle.model.specs.State.{State}
use Rattle.model.specs.Fresh.{fresh_with}
use Rattle.model.specs.Records.{Bytes}
use Rattle.model.specs.Valid.{Valid}
use Rattle.model.specs.Journal.{records_of, journal_refusal, journal}
use Rattle.model.proofs.Bytes.{records_bytes}
use Rattle.model.proofs.Journal.{either}
use Rattle.keeps.proofs.Fresh.{fresh_valid}
use Rattle.history.specs.Past.{Book, fresh_book}
use Rattle.history.specs.Agrees.{Agrees}
use Rattle.history.specs.Rations.{past_of, Kept, Rations}
use Rattle.history.proofs.Fresh.{fresh_agrees}
use Rattle.history.proofs.Rations.{rations}

-- ---- a journal that is run

module _ {s : State} (v : Valid s) {b : Book} (a : Agrees s b) (j : List ℕ) (w : Bytes j) where
  pub journal_rations : Rations b s (records_of j)
  journal_rations = rations v a (records_of j) (records_bytes j w)

  -- the state that it leads to is kept; a journal that is refused leaves the state as it was
  pub journal_kept : (buffer : List ℕ) → journal_refusal s j buffer ≡ 0 → Kept b s (past_of s (records_of j)) (journal s j buffer).state
  journal_kept buffer e =
      either (λ t. Kept b s (past_of s (records_of j)) t.state) s j buffer (λ _. journal_rations.kept) (λ n. absurd (n e))

pub fresh_journal : (p : ℕ) → p < policies → (j : List ℕ) → Bytes j → Rations fresh_book (fresh_with p) (records_of j)
fresh_journal p h = journal_rations (fresh_valid p h) (fresh_agrees p)
