-- del and new on any state whatever. A damaged line may hold a number past the last page, which the model takes for the line of no page;
-- here no page has no line. On a valid state it is the same: `deleted_valid` and `created_valid` in proofs/Damage.antt.
-- Assumes nothing.
use Rattle.std.specs.Prelude.{ℕ, suc}
use Rattle.laws.specs.Choice.{pick}
use Rattle.model.specs.State.{Shape, State, is_page, mapped, table, no_line}
use Rattle.model.specs.Parts.{shaped, set_entry, lose_mark, forget, clear_call, take_out, take_out_page}
use Rattle.model.specs.New.{old_line, is_shared}

-- the line of va and the page that the table in force has there, or none
abbrev pub former_line : Shape → ℕ → ℕ
former_line h va = pick (is_page (mapped h va)) (old_line h va) no_line

-- the table in force holds e at va, and the TLB entry for va goes
unfoldable pub remapped : State → ℕ → ℕ → State
remapped s va e = shaped s (forget (set_entry s.shape (table s.shape) va e) va)

-- a page that is mapped elsewhere too: its line is taken out and it loses its cacheable mark
unfoldable pub shared : State → ℕ → ℕ → State
shared s va p = pick (is_shared s.shape va p) (shaped (take_out_page s p) (lose_mark (take_out_page s p).shape p)) s

abbrev pub idle : State → State
idle s = shaped s (clear_call s.shape)

unfoldable pub deleted : State → ℕ → State
deleted s va = idle (remapped (take_out s (former_line s.shape va)) va 0)

unfoldable pub created : State → ℕ → ℕ → State
created s va p = idle (shared (remapped (take_out s (former_line s.shape va)) va (suc p)) va p)
