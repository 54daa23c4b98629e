-- Nothing but the TLB and values depends on the TLB or on values: the refusal, and the next shape but for its TLB, are functions of the shape without it.
-- And the TLB's next slots, but for that of the stealth address, turn on no value and on no page in that slot.
-- Assumes nothing.
use mathlib.Core.Path.{◌≡◌, refl, sym, ap, ◌∙◌}
use Prim.Native.Nat.{ℕ, suc}
use native.Mathlib.Omega.{arith}
use lib.Dec.{eqb}
use lib.ListN.{length, set}
use Rattle.laws.specs.Choice.{pick, at}
use Rattle.laws.proofs.Cases.{same?, pick_both}
use Rattle.model.specs.Sizes.{slots, slot_of, stealth}
use Rattle.model.specs.State.{Shape, Tlb, Values, table, hit_way, mapped, here}
use Rattle.model.specs.Records.{Action, silent, read, read_hyper, write, write_hyper, new, new_sm, del, switch, lswitch, hcall, ret_ctrl, chmod, pin, unpin, drop}
use Rattle.model.specs.Checks.{has_entries, asked}
use Rattle.model.specs.Parts.{with_tlb, emptied, take_out, take_out_page, enter, way_for, load_stealth}
use Rattle.model.specs.Read.{access_way, miss_line, access_history, read_step}
use Rattle.model.specs.Write.{store, write_step}
use Rattle.model.specs.New.{share, new_step}
use Rattle.model.specs.NewSm.{new_sm_step}
use Rattle.model.specs.Del.{del_step}
use Rattle.model.specs.Switch.{switch_step}
use Rattle.model.specs.Lswitch.{lswitch_step}
use Rattle.model.specs.Hcall.{hcall_step}
use Rattle.model.specs.RetCtrl.{ret_ctrl_step}
use Rattle.model.specs.Chmod.{chmod_step}
use Rattle.model.specs.Pin.{pin_step}
use Rattle.model.specs.Unpin.{unpin_step}
use Rattle.model.specs.Drop.{drop_step}
use Rattle.model.specs.Step.{refusal, next}
use Rattle.model.proofs.Shape.{filled}
use Rattle.secrecy.specs.Secrecy.{slot_hidden}
use Rattle.secrecy.proofs.Hide.{slot_same, address_same, slot_hidden_law, slot_none}

pub tlb_refusal : (h : Shape) (t : Tlb) (x : Action) → refusal (with_tlb h t) x ≡ refusal h x
unfolding table has_entries asked refusal
tlb_refusal h t x = refl

-- with any TLBs, and any values
pub tlb_alone : (h : Shape) (t u : Tlb) (v w : Values) (x : Action)
    → emptied (next (filled (with_tlb h t) v) x).shape ≡ emptied (next (filled (with_tlb h u) w) x).shape
unfolding table hit_way take_out take_out_page enter way_for load_stealth access_way miss_line access_history read_step store write_step share new_step new_sm_step del_step switch_step lswitch_step hcall_step ret_ctrl_step chmod_step pin_step unpin_step drop_step next
tlb_alone h t u v w silent = refl
tlb_alone h t u v w (read va) = refl
tlb_alone h t u v w (read_hyper va) = refl
tlb_alone h t u v w (write va x) = refl
tlb_alone h t u v w (write_hyper va x) = refl
tlb_alone h t u v w (new va pa) = refl
tlb_alone h t u v w (new_sm pa) = refl
tlb_alone h t u v w (del va) = refl
tlb_alone h t u v w (switch g) = refl
tlb_alone h t u v w (lswitch pa) = refl
tlb_alone h t u v w (hcall c a b) = refl
tlb_alone h t u v w ret_ctrl = refl
tlb_alone h t u v w chmod = refl
tlb_alone h t u v w (pin pa k) = refl
tlb_alone h t u v w (unpin pa) = refl
tlb_alone h t u v w (drop g) = refl

-- ---- slots

pub record SizedTlb (t : Tlb) : Type 0 where
  pub slot_address : length t.slot_address ≡ slots
  pub slot_page : length t.slot_page ≡ slots

-- what `forget` stores, and where
abbrev forgets : Tlb → ℕ → Tlb
forgets t va =
    let i = pick (eqb (at t.slot_address (slot_of va)) va) (slot_of va) slots in
    record { slot_address = set t.slot_address i 0; slot_page = set t.slot_page i 0 }

-- an address whose slot is hidden is forgotten there or nowhere
forgets_hidden : (t : Tlb) → SizedTlb t → (va : ℕ) → slot_of va ≡ slot_of stealth → slot_hidden (forgets t va) ≡ slot_hidden t
forgets_hidden t z va e =
    pick_both (λ (i : ℕ). slot_hidden (record { slot_address = set t.slot_address i 0; slot_page = set t.slot_page i 0 }) ≡ slot_hidden t)
    (eqb (at t.slot_address (slot_of va)) va)
    (λ _. rw e (slot_hidden_law t 0 0)) (λ _. ap slot_hidden (slot_none t slots 0 0 (omega (arith, z.slot_address)) (omega (arith, z.slot_page))))

module _ {t u : Tlb} (z : SizedTlb t) (y : SizedTlb u) (e : slot_hidden t ≡ slot_hidden u) where
  forgets_same : (va : ℕ) → slot_hidden (forgets t va) ≡ slot_hidden (forgets u va)
  forgets_same va =
      same? (slot_of va) (slot_of stealth) (λ q. forgets_hidden t z va q ∙ e ∙ sym (forgets_hidden u y va q))
      (λ n.
      let a = address_same t u e (slot_of va) n in
      slot_same t u e (pick (eqb (at t.slot_address (slot_of va)) va) (slot_of va) slots) 0 0
      ∙ ap (λ (x : ℕ). slot_hidden (record { slot_address = set u.slot_address (pick (eqb x va) (slot_of va) slots) 0; slot_page = set u.slot_page (pick (eqb x va) (slot_of va) slots) 0 })) a)

  pub slots_alone : (h : Shape) (v w : Values) (x : Action)
      → slot_hidden (next (filled (with_tlb h t) v) x).shape.tlb ≡ slot_hidden (next (filled (with_tlb h u) w) x).shape.tlb
  unfolding table hit_way take_out take_out_page enter load_stealth access_history read_step store write_step share new_step new_sm_step del_step switch_step lswitch_step hcall_step ret_ctrl_step chmod_step pin_step unpin_step drop_step next
  slots_alone h v w silent = e
  slots_alone h v w (read va) = slot_same t u e (slot_of va) va (suc (mapped h va))
  slots_alone h v w (read_hyper va) = slot_same t u e (slot_of va) va (suc (mapped h va))
  slots_alone h v w (write va x) = slot_same t u e (slot_of va) va (suc (mapped h va))
  slots_alone h v w (write_hyper va x) = slot_same t u e (slot_of va) va (suc (mapped h va))
  slots_alone h v w (new va pa) = forgets_same va
  slots_alone h v w (new_sm pa) = slot_same t u e (slot_of stealth) stealth (suc (here h pa))
  slots_alone h v w (del va) = forgets_same va
  slots_alone h v w (switch g) = refl
  slots_alone h v w (lswitch pa) = refl
  slots_alone h v w (hcall c a b) = e
  slots_alone h v w ret_ctrl = e
  slots_alone h v w chmod = e
  slots_alone h v w (pin pa k) = e
  slots_alone h v w (unpin pa) = e
  slots_alone h v w (drop g) = e
