-- What opening, loading and saving promise: the answer, and the state or every byte of the buffer at exit.
-- Assumes nothing.
use Rattle.std.specs.Prelude.{◌≡◌, List, ℕ, Result, Ok, Err}
use Rattle.model.specs.State.{State}
use Rattle.model.specs.Image.{ImageAnswer, done, not_valid, not_image, opened, loaded, saved}
use Rattle.numbers.specs.declared.refusal.Refusal.{Refusal}
use Rattle.numbers.specs.declared.refusal.Refusal.TheVariants.{NotValid, NotImage}

-- what code answers, and the model's answer in code
abbrev pub Answer : Type 0
Answer = Result (Unit {0}) Refusal

abbrev pub answer_to : ImageAnswer → Answer
answer_to done = Ok tt
answer_to not_valid = Err NotValid
answer_to not_image = Err NotImage

-- the image i opened, or loaded, on the state s: the answer, and the state t after it
pub record Opens (s : State) (i : List ℕ) (a : Answer) (t : State) : Type 0 where
  pub answer : a ≡ answer_to (opened s i).answer
  pub state : t ≡ (opened s i).state

pub record Loads (s : State) (i : List ℕ) (a : Answer) (t : State) : Type 0 where
  pub answer : a ≡ answer_to (loaded s i).answer
  pub state : t ≡ (loaded s i).state

-- the state s saved to the buffer b: the answer, and the buffer c after it
pub record Saves (s : State) (b : List ℕ) (a : Answer) (c : List ℕ) : Type 0 where
  pub answer : a ≡ answer_to (saved s b).answer
  pub buffer : c ≡ (saved s b).buffer
