-- What a read promises: the value that is found once the line is there, and the model's step.
-- Assumes nothing.
use Rattle.std.specs.Prelude.{◌≡◌, ℕ}
use Rattle.laws.specs.Choice.{pick}
use Rattle.model.specs.State.{State, is_page}
use Rattle.model.specs.Read.{read_step}
use Rattle.cache.specs.Lines.{found}

-- 0 and nothing where p is no page
pub record Reads (s : State) (va p v : ℕ) (t : State) : Type 0 where
  pub value : v ≡ pick (is_page p) (found (read_step s va p) va p) 0
  pub state : t ≡ pick (is_page p) (read_step s va p) s
