-- write, write_hyper.
-- Assumes nothing.
use Rattle.std.specs.Prelude.{◌&&◌, not, ℕ, set}
use Rattle.laws.specs.Choice.{pick}
use Rattle.model.specs.State.{State, is_cacheable, is_through, no_line, line_of, nowhere}
use Rattle.model.specs.Read.{read_step}

-- The line, or memory if the page is not cacheable, holds the value. On a cacheable write memory holds it too under write-through, and is not written
-- otherwise.
unfoldable pub store : State → ℕ → ℕ → ℕ → State
store s va p v =
    record {
      shape = s.shape;
      values =
          record {
            memory = set s.values.memory (pick (is_cacheable s.shape p && not (is_through s.shape)) nowhere p) v;
            line = set s.values.line (pick (is_cacheable s.shape p) (line_of s.shape va p) no_line) v;
          };
    }

unfoldable pub write_step : State → ℕ → ℕ → ℕ → State
write_step s va p v = store (read_step s va p) va p v
