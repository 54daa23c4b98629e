-- How many pages a guest owns: one more after its pin, one less after its unpin, the same after every other action.
-- Assumes nothing.
use mathlib.Core.Path.{◌≡◌, sym, ◌∙◌}
use mathlib.Core.Bool.{Bool, true, false}
use mathlib.Core.List.{◌∷◌}
use Prim.Native.Nat.{ℕ, ◌+◌}
use native.Mathlib.Omega.{arith}
use lib.Dec.{eqb}
use borrow.Author.Tests.{eq-eqb, ne_eqb}
use Rattle.laws.specs.Choice.{pick}
use Rattle.laws.proofs.Cases.{same?}
use Rattle.laws.proofs.Counts.{count_set}
use Rattle.model.specs.Names.{owner_none, owner_guest}
use Rattle.model.specs.State.{State, active, here}
use Rattle.model.specs.Records.{Action, silent, read, read_hyper, write, write_hyper, new, new_sm, del, switch, lswitch, hcall, ret_ctrl, chmod, pin, unpin, drop, InRange}
use Rattle.model.specs.Parts.{take_out, take_out_page, enter, load_stealth}
use Rattle.model.specs.Read.{access_history, read_step}
use Rattle.model.specs.Write.{store, write_step}
use Rattle.model.specs.New.{share, new_step}
use Rattle.model.specs.NewSm.{new_sm_step}
use Rattle.model.specs.Del.{del_step}
use Rattle.model.specs.Switch.{switch_step}
use Rattle.model.specs.Lswitch.{lswitch_step}
use Rattle.model.specs.Hcall.{hcall_step}
use Rattle.model.specs.RetCtrl.{ret_ctrl_step}
use Rattle.model.specs.Chmod.{chmod_step}
use Rattle.model.specs.Pin.{pin_step}
use Rattle.model.specs.Unpin.{unpin_step}
use Rattle.model.specs.Drop.{drop_step}
use Rattle.model.specs.Valid.{Valid}
use Rattle.model.specs.Checks.{lowest_free}
use Rattle.model.specs.Step.{next}
use Rattle.keeps.specs.Allowed.{Allowed}
use Rattle.keeps.proofs.Core.{core_of, here_owned}
use Rattle.keeps.proofs.Allowed.{is_here}
use Rattle.keeps.proofs.Keeps.{lowest_free_law}
use Rattle.history.specs.Past.{Past, Book, active_in, pins_in, unpins_in}
use Rattle.history.specs.Rations.{owned}

-- 1 if the test passes
abbrev one : Bool → ℕ
one t = pick t 1 0

one_yes : {t : Bool} → t ≡ true → one t ≡ 1
one_yes e = rw e

one_not : {t : Bool} → t ≡ false → one t ≡ 0
one_not e = rw e

-- a page counts for its guest alone
one_guest : (a g h : ℕ) → h ≡ a → one (eqb (owner_guest a) (owner_guest g)) ≡ one (eqb g h)
one_guest a g h e =
    same? g a (λ w. one_yes (eq-eqb (owner_guest a) (owner_guest g) (omega arith)) ∙ sym (one_yes (eq-eqb g h (w ∙ sym e))))
    (λ d. one_not (ne_eqb (owner_guest a) (owner_guest g) (λ w. d (omega arith))) ∙ sym (one_not (ne_eqb g h (λ w. d (w ∙ e)))))

-- and one without owner for none
one_none : (g : ℕ) → one (eqb owner_none (owner_guest g)) ≡ 0
one_none g = one_not (ne_eqb owner_none (owner_guest g) (λ w. omega arith))

module _ {s : State} (v : Valid s) (b : Book) (past : Past) (is : active_in b past ≡ active s.shape) (n g : ℕ)
    (so : owned s.shape g + unpins_in b past g ≡ n + pins_in b past g) where
  pin_counted : (pa k : ℕ) → InRange (pin pa k) → Allowed s.shape (pin pa k)
      → owned (next s (pin pa k)).shape g + unpins_in b (pin pa k ∷ past) g ≡ n + pins_in b (pin pa k ∷ past) g
  unfolding next pin_step pins_in unpins_in
  pin_counted pa k r w =
      let p = lowest_free s.shape.pages.free in
      let f = lowest_free_law v w.is_page w.marked in
      let o = (v.rule2.map p f.0).0 f.1 in
      let c = rw o at (count_set s.shape.pages.owner p (owner_guest (active s.shape)) (owner_guest g) f.0 v.sized.owner) in
      let x = one_guest (active s.shape) g (active_in b past) is in
      let y = one_none g in
      omega arith

  unpin_counted : (pa : ℕ) → InRange (unpin pa) → Allowed s.shape (unpin pa)
      → owned (next s (unpin pa)).shape g + unpins_in b (unpin pa ∷ past) g ≡ n + pins_in b (unpin pa ∷ past) g
  unfolding next unpin_step pins_in unpins_in
  unpin_counted pa r w =
      let p = here s.shape pa in
      let h = is_here w.there in
      let o = (here_owned (core_of v) pa r h).1 in
      let c = rw o at (count_set s.shape.pages.owner p owner_none (owner_guest g) h v.sized.owner) in
      let x = one_guest (active s.shape) g (active_in b past) is in
      let y = one_none g in
      omega arith

  pub next_counted : (x : Action) → InRange x → Allowed s.shape x
      → owned (next s x).shape g + unpins_in b (x ∷ past) g ≡ n + pins_in b (x ∷ past) g
  unfolding next read_step access_history write_step store new_step share new_sm_step del_step switch_step lswitch_step hcall_step ret_ctrl_step chmod_step drop_step take_out take_out_page enter load_stealth pins_in unpins_in
  next_counted silent r w = so
  next_counted (read va) r w = so
  next_counted (read_hyper va) r w = so
  next_counted (write va x) r w = so
  next_counted (write_hyper va x) r w = so
  next_counted (new va pa) r w = so
  next_counted (new_sm pa) r w = so
  next_counted (del va) r w = so
  next_counted (switch h) r w = so
  next_counted (lswitch pa) r w = so
  next_counted (hcall c x y) r w = so
  next_counted ret_ctrl r w = so
  next_counted chmod r w = so
  next_counted (pin pa k) r w = pin_counted pa k r w
  next_counted (unpin pa) r w = unpin_counted pa r w
  next_counted (drop h) r w = so
