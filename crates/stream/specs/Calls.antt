-- Calls of feed, one after another, each with any piece, allowance and buffer: what they took, and what they answered.
-- Assumes nothing.
use Rattle.std.specs.Prelude.{◌≡◌, Bool, false, ◌||◌, List, [], ◌∷◌, ◌++◌, ℕ, ◌*◌, ◌<◌, eqb, take, drop}
use Rattle.model.specs.Sizes.{answer_bytes}
use Rattle.model.specs.State.{State}
use Rattle.model.specs.Pieces.{Fed, Feeds}

-- a call: what it was given beside the state and what is kept, what it answered, and its answer buffer after it
pub record Call : Type 0 where
  pub piece : List ℕ
  pub allowance : ℕ
  pub last : Bool
  pub before : List ℕ
  pub fed : Fed
  pub after : List ℕ

-- feed on each, as it promises: from the state s and what is kept, k, to t and l
abbrev pub Calls : State → List ℕ → List Call → State → List ℕ → Type 0
Calls s k [] t l = (t ≡ s) × (l ≡ k)
Calls s k (x ∷ xs) t l =
    (u : State)
    × (m : List ℕ)
    × Feeds s k x.piece x.allowance x.last x.before x.fed u m x.after
    × Calls u m xs t l

-- the bytes that they took
abbrev pub taken_by : List Call → List ℕ
taken_by [] = []
taken_by (x ∷ xs) = take x.fed.bytes x.piece ++ taken_by xs

-- the answers that they gave, each call's from the start of its buffer
abbrev pub answers_by : List Call → List ℕ
answers_by [] = []
answers_by (x ∷ xs) = take (answer_bytes * x.fed.records) x.after ++ answers_by xs

-- one of them gave 13
abbrev pub stopped_by : List Call → Bool
stopped_by [] = false
stopped_by (x ∷ xs) = eqb x.fed.number 13 || stopped_by xs

-- a caller who goes on: each call has an allowance, is offered what those before it left, and is not refused
abbrev pub Offered : List ℕ → List Call → Type 0
Offered rest [] = Unit {0}
Offered rest (x ∷ xs) = (x.piece ≡ rest) × (0 < x.allowance) × (x.fed.number ≡ 0) × Offered (drop x.fed.bytes rest) xs
