-- Actions that change no page: a call stored or declined, control taken or given.
-- Assumes nothing.
use Prim.Native.Nat.{ℕ}
use Rattle.model.specs.State.{State, line_of_page, present}
use Rattle.model.specs.Hcall.{hcall_step}
use Rattle.model.specs.RetCtrl.{ret_ctrl_step}
use Rattle.model.specs.Chmod.{chmod_step}
use Rattle.model.specs.Drop.{drop_step}
use Rattle.history.specs.Past.{Book}
use Rattle.history.specs.Agrees.{Agrees}

module _ {s : State} {b : Book} (a : Agrees s b) where
  pub hcall_agrees : (c x y : ℕ) → Agrees (hcall_step s c x y) b
  unfolding hcall_step present line_of_page
  hcall_agrees c x y = record { chart = a.chart; value = a.value }

  pub ret_ctrl_agrees : Agrees (ret_ctrl_step s) b
  unfolding ret_ctrl_step present line_of_page
  ret_ctrl_agrees = record { chart = a.chart; value = a.value }

  pub chmod_agrees : Agrees (chmod_step s) b
  unfolding chmod_step present line_of_page
  chmod_agrees = record { chart = a.chart; value = a.value }

  pub drop_agrees : (g : ℕ) → Agrees (drop_step s g) b
  unfolding drop_step present line_of_page
  drop_agrees g = record { chart = a.chart; value = a.value }
