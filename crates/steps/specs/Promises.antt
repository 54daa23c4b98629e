-- What the functions of this crate promise: the answer, and the state that the lent bytes are at exit.
-- Assumes nothing.
use Rattle.std.specs.Prelude.{◌≡◌, List, ℕ, Result, Ok, Err}
use Rattle.numbers.specs.declared.refusal.Refusal.{Refusal}
use Rattle.numbers.specs.Refusals.{refusal_number}
use Rattle.model.specs.State.{State}
use Rattle.model.specs.Records.{Action}
use Rattle.model.specs.Step.{Answer, Outcome, done, refused, step}
use Rattle.steps.specs.Acting.{answered, performed}

-- code's answers as the model's: done with a value, or refused with a number
abbrev pub answer_from : Result ℕ Refusal → Answer
answer_from (Ok v) = done v
answer_from (Err r) = refused (refusal_number r)

-- the same of an answer that has its refusal as a number, whatever the number is
abbrev pub numbered : Result ℕ ℕ → Answer
numbered (Ok v) = done v
numbered (Err n) = refused n

-- an answer with its refusal as a number
abbrev pub by_number : Result ℕ Refusal → Result ℕ ℕ
by_number (Ok v) = Ok v
by_number (Err r) = Err (refusal_number r)

-- answer a and state t are those of outcome o
pub record Gives (o : Outcome) (a : Result ℕ Refusal) (t : State) : Type 0 where
  pub answer : answer_from a ≡ o.answer
  pub state : t ≡ o.state

-- value v and state t are those of action x on s
pub record Performs (s : State) (x : Action) (v : ℕ) (t : State) : Type 0 where
  pub value : v ≡ answered s x
  pub state : t ≡ performed s x

-- the step: any bytes l on any state s
abbrev pub Steps : State → List ℕ → Result ℕ Refusal → State → Type 0
Steps s l a t = Gives (step s l) a t
