-- Nothing but values depends on values: the next shape is a function of the shape, as the refusal is by its type. And nothing but values depends on the
-- policy, which stays.
-- Assumes nothing.
use mathlib.Core.Path.{◌≡◌, refl, ap}
use Prim.Native.Nat.{ℕ}
use Rattle.model.specs.State.{Shape, Values, State, table, hit_way}
use Rattle.model.specs.Records.{Action, silent, read, read_hyper, write, write_hyper, new, new_sm, del, switch, lswitch, hcall, ret_ctrl, chmod, pin, unpin, drop}
use Rattle.model.specs.Checks.{has_entries, asked}
use Rattle.model.specs.Parts.{with_policy, take_out, take_out_page, enter, way_for, load_stealth}
use Rattle.model.specs.Read.{access_way, miss_line, access_history, read_step}
use Rattle.model.specs.Write.{store, write_step}
use Rattle.model.specs.New.{share, new_step}
use Rattle.model.specs.NewSm.{new_sm_step}
use Rattle.model.specs.Del.{del_step}
use Rattle.model.specs.Switch.{switch_step}
use Rattle.model.specs.Lswitch.{lswitch_step}
use Rattle.model.specs.Hcall.{hcall_step}
use Rattle.model.specs.RetCtrl.{ret_ctrl_step}
use Rattle.model.specs.Chmod.{chmod_step}
use Rattle.model.specs.Pin.{pin_step}
use Rattle.model.specs.Unpin.{unpin_step}
use Rattle.model.specs.Drop.{drop_step}
use Rattle.model.specs.Step.{refusal, next}

-- the state of a shape with these values
abbrev pub filled : Shape → Values → State
filled h v = record { shape = h; values = v }

pub shape_alone : (h : Shape) (v w : Values) (x : Action) → (next (filled h v) x).shape ≡ (next (filled h w) x).shape
unfolding take_out take_out_page enter load_stealth access_history read_step store write_step share new_step new_sm_step del_step switch_step lswitch_step hcall_step ret_ctrl_step chmod_step pin_step unpin_step drop_step next
shape_alone h v w silent = refl
shape_alone h v w (read va) = refl
shape_alone h v w (read_hyper va) = refl
shape_alone h v w (write va x) = refl
shape_alone h v w (write_hyper va x) = refl
shape_alone h v w (new va pa) = refl
shape_alone h v w (new_sm pa) = refl
shape_alone h v w (del va) = refl
shape_alone h v w (switch g) = refl
shape_alone h v w (lswitch pa) = refl
shape_alone h v w (hcall c a b) = refl
shape_alone h v w ret_ctrl = refl
shape_alone h v w chmod = refl
shape_alone h v w (pin pa k) = refl
shape_alone h v w (unpin pa) = refl
shape_alone h v w (drop g) = refl

-- ---- the policy

-- The refusal, and the next shape but for the policy, are the same under any policy.
pub refusal_alone : (h : Shape) (p : ℕ) (x : Action) → refusal (with_policy h p) x ≡ refusal h x
unfolding table has_entries asked refusal
refusal_alone h p x = refl

pub policy_alone : (h : Shape) (v : Values) (p : ℕ) (x : Action) → (next (filled (with_policy h p) v) x).shape ≡ with_policy (next (filled h v) x).shape p
unfolding table hit_way take_out take_out_page enter way_for load_stealth access_way miss_line access_history read_step store write_step share new_step new_sm_step del_step switch_step lswitch_step hcall_step ret_ctrl_step chmod_step pin_step unpin_step drop_step next
policy_alone h v p silent = refl
policy_alone h v p (read va) = refl
policy_alone h v p (read_hyper va) = refl
policy_alone h v p (write va x) = refl
policy_alone h v p (write_hyper va x) = refl
policy_alone h v p (new va pa) = refl
policy_alone h v p (new_sm pa) = refl
policy_alone h v p (del va) = refl
policy_alone h v p (switch g) = refl
policy_alone h v p (lswitch pa) = refl
policy_alone h v p (hcall c a b) = refl
policy_alone h v p ret_ctrl = refl
policy_alone h v p chmod = refl
policy_alone h v p (pin pa k) = refl
policy_alone h v p (unpin pa) = refl
policy_alone h v p (drop g) = refl

pub policy_stays : (s : State) (x : Action) → (next s x).shape.policy ≡ s.shape.policy
policy_stays s x = ap (λ (h : Shape). h.policy) (policy_alone s.shape s.values s.shape.policy x)
