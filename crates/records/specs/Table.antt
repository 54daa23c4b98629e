-- The model's table of kinds, as the code's.
-- Assumes nothing.
use Rattle.std.specs.Prelude.{[], ◌∷◌, ℕ, zero, suc, get_or}
use Rattle.model.specs.Records.{Need, nothing, exactly, active_idle, named_idle, named_pending}
use Rattle.model.specs.Records as records
use Rattle.records.specs.declared.Mode.{Mode}
use Rattle.records.specs.declared.Mode.TheVariants.{Any, Waiting, Running}
use Rattle.records.specs.declared.Need as code
use Rattle.records.specs.declared.Need.TheVariants.{Nothing, New, Del, Lswitch, Pin, Unpin, ActiveIdle, NamedIdle, NamedPending}
use Rattle.records.specs.declared.Row.{Row}

-- 0 waiting, 1 running, any number past them either
abbrev pub mode_of : ℕ → Mode
mode_of zero = Waiting
mode_of (suc zero) = Running
mode_of (suc (suc m)) = Any

-- the call of a number; one past the last is none
abbrev pub call_needed : ℕ → code.Need
call_needed c = get_or (Nothing ∷ New ∷ Del ∷ Lswitch ∷ Pin ∷ Unpin ∷ []) c Nothing

abbrev pub need_of : Need → code.Need
need_of nothing = Nothing
need_of (exactly c) = call_needed c
need_of active_idle = ActiveIdle
need_of named_idle = NamedIdle
need_of named_pending = NamedPending

abbrev pub row_to : records.Row → Row
row_to r =
    record { mode = mode_of r.mode; need = need_of r.need; a_from = r.a_from; a_below = r.a_below; b_from = r.b_from; b_below = r.b_below }
