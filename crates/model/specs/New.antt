-- new.
-- Assumes nothing.
use Rattle.std.specs.Prelude.{Bool, ◌||◌, not, List, [], ◌∷◌, ℕ, suc, eqb}
use Rattle.laws.specs.Choice.{pick}
use Rattle.model.specs.Sizes.{stealth, reserved}
use Rattle.model.specs.State.{Shape, State, nowhere, mapped, table, is_mapped, line_of}
use Rattle.model.specs.Checks.{Asked, Check}
use Rattle.model.specs.Parts.{shaped, set_entry, lose_mark, forget, clear_call, take_out, take_out_page}

abbrev pub new_checks : Asked → ℕ → ℕ → List Check
new_checks q va pa =
    (5, reserved va || eqb va stealth) ∷ (7, not (q.registered pa)) ∷ (8, not (q.is_data pa)) ∷ (9, q.stealthy pa) ∷ []

-- the line of va and the page that this table has there
abbrev pub old_line : Shape → ℕ → ℕ
old_line h va = line_of h va (mapped h va)

-- some table maps the page at another address than va
abbrev pub is_shared : Shape → ℕ → ℕ → Bool
is_shared h va p = is_mapped h (λ v. not (eqb v va)) p

-- A shared page's line is taken out and it loses its cacheable mark.
unfoldable pub share : State → ℕ → ℕ → State
share s va p =
    let q = pick (is_shared s.shape va p) p nowhere in
    let t = take_out_page s q in
    shaped t (lose_mark t.shape q)

-- The old line for va is taken out; the table maps va to the page; the TLB entry for va goes; then the page may be shared. Call cleared.
unfoldable pub new_step : State → ℕ → ℕ → State
new_step s va p =
    let t = take_out s (old_line s.shape va) in
    let u = share (shaped t (forget (set_entry t.shape (table t.shape) va (suc p)) va)) va p in
    shaped u (clear_call u.shape)
