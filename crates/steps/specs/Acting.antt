-- What code does with an action on any state whatever, damaged ones too, where the model's steps speak of numbers past the tables.
-- On a valid state it is the model's: `judged_valid` in proofs/Judging.antt.
-- Assumes nothing.
use Rattle.std.specs.Prelude.{true, false, List, ℕ, eqb}
use Rattle.std.proofs.Math.Option.{none, some}
use Rattle.laws.specs.Choice.{pick}
use Rattle.model.specs.State.{State, is_page, mapped, here}
use Rattle.model.specs.Records.{Action, silent, read, read_hyper, write, write_hyper, new, new_sm, del, switch, lswitch, hcall, ret_ctrl, chmod, pin, unpin, drop, decode}
use Rattle.model.specs.Read.{read_step}
use Rattle.model.specs.Write.{write_step}
use Rattle.model.specs.NewSm.{new_sm_step}
use Rattle.model.specs.Switch.{switch_step}
use Rattle.model.specs.Lswitch.{lswitch_step}
use Rattle.model.specs.Hcall.{hcall_step}
use Rattle.model.specs.RetCtrl.{ret_ctrl_step}
use Rattle.model.specs.Chmod.{chmod_step}
use Rattle.model.specs.Unpin.{unpin_step}
use Rattle.model.specs.Drop.{drop_step}
use Rattle.model.specs.Step.{done, refusal, Outcome, refuse}
use Rattle.cache.specs.Lines.{found}
use Rattle.acts.specs.Pinned.{pinned}
use Rattle.acts.specs.Mapped.{deleted, created}

-- f at page p, and nothing where p is none
abbrev pub on_page : ℕ → (ℕ → State) → State → State
on_page p f s = pick (is_page p) (f p) s

unfoldable pub performed : State → Action → State
performed s silent = s
performed s (read va) = on_page (mapped s.shape va) (read_step s va) s
performed s (read_hyper va) = on_page (mapped s.shape va) (read_step s va) s
performed s (write va v) = on_page (mapped s.shape va) (λ p. write_step s va p v) s
performed s (write_hyper va v) = on_page (mapped s.shape va) (λ p. write_step s va p v) s
performed s (new va pa) = on_page (here s.shape pa) (created s va) s
performed s (new_sm pa) = on_page (here s.shape pa) (new_sm_step s) s
performed s (del va) = deleted s va
performed s (switch g) = switch_step s g
performed s (lswitch pa) = lswitch_step s pa
performed s (hcall c a b) = hcall_step s c a b
performed s ret_ctrl = ret_ctrl_step s
performed s chmod = chmod_step s
performed s (pin pa k) = pinned s pa k
performed s (unpin pa) = on_page (here s.shape pa) (unpin_step s pa) s
performed s (drop g) = drop_step s g

-- what is read at an address, once the line is there: 0 where the table in force leads nowhere
abbrev pub read_at : State → ℕ → ℕ
read_at s va = let p = mapped s.shape va in pick (is_page p) (found (read_step s va p) va p) 0

unfoldable pub answered : State → Action → ℕ
answered s silent = 0
answered s (read va) = read_at s va
answered s (read_hyper va) = read_at s va
answered s (write va v) = 0
answered s (write_hyper va v) = 0
answered s (new va pa) = 0
answered s (new_sm pa) = 0
answered s (del va) = 0
answered s (switch g) = 0
answered s (lswitch pa) = 0
answered s (hcall c a b) = 0
answered s ret_ctrl = 0
answered s chmod = 0
answered s (pin pa k) = 0
answered s (unpin pa) = 0
answered s (drop g) = 0

unfoldable pub acted : State → Action → Outcome
acted s x =
    elim (eqb (refusal s.shape x) 0) [
      | true ↦ record { answer = done (answered s x); state = performed s x }
      | false ↦ refuse s (refusal s.shape x)
    ]

unfoldable pub judged : State → List ℕ → Outcome
judged s l = elim (decode l) [ none ↦ refuse s 2 | some x ↦ acted s x ]
