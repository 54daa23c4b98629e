-- docs/HOST.md, "Records and answers" and "Steps": the refusal, the value and the next state of every action; the answer to any bytes on any state.
-- Assumes nothing.
use Rattle.std.specs.Prelude.{true, false, List, [], ℕ, eqb}
use Rattle.std.proofs.Math.Option.{none, some}
use Rattle.model.specs.State.{Shape, State, mapped, here, present}
use Rattle.model.specs.Records.{Action, silent, read, read_hyper, write, write_hyper, new, new_sm, del, switch, lswitch, hcall, ret_ctrl, chmod, pin, unpin, drop, decode}
use Rattle.model.specs.Valid.{valid?}
use Rattle.model.specs.Checks.{Asked, asked, Check, first, row_checks, lowest_free}
use Rattle.model.specs.Read.{access_checks, read_step}
use Rattle.model.specs.Write.{write_step}
use Rattle.model.specs.New.{new_checks, new_step}
use Rattle.model.specs.NewSm.{new_sm_checks, new_sm_step}
use Rattle.model.specs.Del.{del_checks, del_step}
use Rattle.model.specs.Switch.{switch_step}
use Rattle.model.specs.Lswitch.{lswitch_checks, lswitch_step}
use Rattle.model.specs.Hcall.{hcall_step}
use Rattle.model.specs.RetCtrl.{ret_ctrl_step}
use Rattle.model.specs.Chmod.{chmod_step}
use Rattle.model.specs.Pin.{pin_checks, pin_step}
use Rattle.model.specs.Unpin.{unpin_checks, unpin_step}
use Rattle.model.specs.Drop.{drop_step}

-- ---- refusals

-- the checks of an action from 5 on
unfoldable pub own_checks : Asked → Action → List Check
own_checks q silent = []
own_checks q (read va) = access_checks q va
own_checks q (read_hyper va) = access_checks q va
own_checks q (write va v) = access_checks q va
own_checks q (write_hyper va v) = access_checks q va
own_checks q (new va pa) = new_checks q va pa
own_checks q (new_sm pa) = new_sm_checks q pa
own_checks q (del va) = del_checks q va
own_checks q (switch g) = []
own_checks q (lswitch pa) = lswitch_checks q pa
own_checks q (hcall c a b) = []
own_checks q ret_ctrl = []
own_checks q chmod = []
own_checks q (pin pa k) = pin_checks q pa
own_checks q (unpin pa) = unpin_checks q pa
own_checks q (drop g) = []

-- from 3 on
abbrev pub checks : Asked → Action → List Check
checks q x = row_checks q x (own_checks q x)

unfoldable pub refusal : Shape → Action → ℕ
refusal h x = first (checks (asked h) x)

-- ---- steps

unfoldable pub next : State → Action → State
next s silent = s
next s (read va) = read_step s va (mapped s.shape va)
next s (read_hyper va) = read_step s va (mapped s.shape va)
next s (write va v) = write_step s va (mapped s.shape va) v
next s (write_hyper va v) = write_step s va (mapped s.shape va) v
next s (new va pa) = new_step s va (here s.shape pa)
next s (new_sm pa) = new_sm_step s (here s.shape pa)
next s (del va) = del_step s va
next s (switch g) = switch_step s g
next s (lswitch pa) = lswitch_step s pa
next s (hcall c a b) = hcall_step s c a b
next s ret_ctrl = ret_ctrl_step s
next s chmod = chmod_step s
next s (pin pa k) = pin_step s pa k (lowest_free s.shape.pages.free)
next s (unpin pa) = unpin_step s pa (here s.shape pa)
next s (drop g) = drop_step s g

-- An accepted read returns the page's present value, every other action 0. A page not cacheable has no line: its value is memory's.
unfoldable pub value : State → Action → ℕ
value s silent = 0
value s (read va) = present s (mapped s.shape va)
value s (read_hyper va) = present s (mapped s.shape va)
value s (write va v) = 0
value s (write_hyper va v) = 0
value s (new va pa) = 0
value s (new_sm pa) = 0
value s (del va) = 0
value s (switch g) = 0
value s (lswitch pa) = 0
value s (hcall c a b) = 0
value s ret_ctrl = 0
value s chmod = 0
value s (pin pa k) = 0
value s (unpin pa) = 0
value s (drop g) = 0

-- ---- answers

-- done with a value, or refused with a number
pub data Answer : Type 0 where
  done : ℕ → Answer
  refused : ℕ → Answer

abbrev pub number_of : Answer → ℕ
number_of (done v) = 0
number_of (refused n) = n

abbrev pub value_of : Answer → ℕ
value_of (done v) = v
value_of (refused n) = 0

pub record Outcome : Type 0 where
  pub answer : Answer
  pub state : State

-- A refusal leaves the state as it was.
abbrev pub refuse : State → ℕ → Outcome
refuse s n = record { answer = refused n; state = s }

-- checks from 3 on, and the step
unfoldable pub act : State → Action → Outcome
act s x =
    elim (eqb (refusal s.shape x) 0) [
      | true ↦ record { answer = done (value s x); state = next s x }
      | false ↦ refuse s (refusal s.shape x)
    ]

-- check 2 before them: any bytes, on a state that is taken for valid
unfoldable pub judge : State → List ℕ → Outcome
judge s l = elim (decode l) [ none ↦ refuse s 2 | some x ↦ act s x ]

-- and check 1 first: any bytes on any state
unfoldable pub step : State → List ℕ → Outcome
step s l = elim (valid? s) [ true ↦ judge s l | false ↦ refuse s 1 ]
