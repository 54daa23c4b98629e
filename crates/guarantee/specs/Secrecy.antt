-- What two journals show beside a guest's secret, by the answer buffers and the host's bytes that `journal::run` leaves.
-- Assumes nothing.
use Rattle.std.specs.Prelude.{◌≡◌, List, [], ◌∷◌, ℕ, suc}
use Rattle.laws.specs.Choice.{pick}
use Rattle.model.specs.State.{State}
use Rattle.model.specs.Step.{step}
use Rattle.model.specs.Journal.{records_of, number_at, value_at}
use Rattle.secrecy.specs.Secrecy.{is_active, hidden, hide, seen}
use Rattle.host.specs.View.{view}

-- an answer as the buffer has it: its number, and its value unless g was active
pub record Reply : Type 0 where
  pub number : ℕ
  pub value : ℕ

-- The replies to the records of a run from s, hidden ones left out. The answer to the first record is number i of the buffer.
unfoldable pub replies_from : ℕ → State → List (List ℕ) → ℕ → List ℕ → List Reply
replies_from g s [] i c = []
replies_from g s (r ∷ rs) i c =
    let rest = replies_from g (step s r).state rs (suc i) c in
    pick (hidden g s r) rest (record { number = number_at c i; value = pick (is_active g s) 0 (value_at c i) } ∷ rest)

-- to the records of journal j on the host's bytes x
abbrev pub replies : ℕ → List ℕ → List ℕ → List ℕ → List Reply
replies g x j c = replies_from g (view x) (records_of j) 0 c

-- Journal j led one host from the bytes x to y, with the answer buffer c, and journal k another from z to t, with d: the replies are the same, so is what
-- is seen of the states between, and the hosts at the end look the same.
pub record KeepsSecret (g : ℕ) (x j c y z k d t : List ℕ) : Type 0 where
  pub replies : replies g x j c ≡ replies g z k d
  pub between : seen g (view x) (records_of j) ≡ seen g (view z) (records_of k)
  pub left : hide g (view y) ≡ hide g (view t)
