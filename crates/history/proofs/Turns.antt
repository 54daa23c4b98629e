-- switch and lswitch: another table is in force, and what every page holds stays while the stealth line is saved and loaded.
-- Assumes nothing.
use mathlib.Core.Path.{◌≡◌, sym, subst}
use Prim.Native.Nat.{ℕ, ◌<◌}
use native.Mathlib.Omega.{arith}
use borrow.Author.Tests.{lt-ltb, le-ltb}
use Rattle.laws.specs.Choice.{at}
use Rattle.laws.proofs.Cases.{below?}
use Rattle.model.specs.Sizes.{guests, physicals, pages, stealth}
use Rattle.model.specs.Names.{waiting, kind_table}
use Rattle.model.specs.State.{State, here, mapped, stealth_line}
use Rattle.model.specs.Parts.{shaped, set_active, set_current, clear_call, take_out, enter, save_stealth, load_stealth}
use Rattle.model.specs.Switch.{switch_step}
use Rattle.model.specs.Lswitch.{lswitch_step}
use Rattle.model.specs.Valid.{Valid}
use Rattle.keeps.proofs.Core.{Core, core_of, leads_here}
use Rattle.keeps.proofs.Parts.{guests_core}
use Rattle.keeps.proofs.Calls.{clear_core}
use Rattle.keeps.proofs.Mode.{control_part}
use Rattle.keeps.proofs.Lines.{enter_none}
use Rattle.keeps.proofs.Stealth.{Unloaded, saved, saved_core, enters}
use Rattle.keeps.proofs.Lswitch.{current_part}
use Rattle.history.specs.Past.{Book}
use Rattle.history.specs.Agrees.{Agrees}
use Rattle.history.proofs.Holds.{HoldsIn, holds_present, take_out_holds, enter_holds}
use Rattle.history.proofs.Charts.{has_page, active_chart, turned, current_chart, retabled}
use Rattle.history.proofs.Access.{value_holds}

load_holds : {s : State} → Core s → Unloaded s.shape.cache → {q x : ℕ} → HoldsIn s q x → HoldsIn (load_stealth s) q x
unfolding load_stealth
load_holds {s} c u {q} {x} h =
    let p = mapped s.shape stealth in
    below? p pages (λ b. rw (lt-ltb p pages b) (enter_holds c (enters c u (leads_here c stealth b)) u.empty h))
    (λ b. rw (le-ltb p pages b) (subst (λ (t : State). HoldsIn t q x) (sym (enter_none c stealth p)) h))

module _ {s : State} (v : Valid s) {b : Book} (a : Agrees s b) where
  pub switch_agrees : (g : ℕ) → g < guests → s.shape.guests.mode ≡ waiting → Agrees (switch_step s g) (turned b g)
  unfolding switch_step load_stealth enter take_out
  switch_agrees g hg w =
      let c = core_of v in
      let t : Core (shaped (save_stealth s) (set_active (save_stealth s).shape g)) =
      guests_core (saved_core v) (control_part c hg v.rule10.guests.mode (λ r _. omega arith)) in
      record {
        chart = active_chart g a.chart;
        value = λ h pa p i d. holds_present (switch_step s g)
            (load_holds t (saved v) (take_out_holds c stealth_line (has_page c i) (value_holds v a i d)));
      }

  pub lswitch_agrees : (pa : ℕ) → pa < physicals → here s.shape pa < pages → at s.shape.pages.kind (here s.shape pa) ≡ kind_table
      → Agrees (lswitch_step s pa) (retabled b pa)
  unfolding lswitch_step load_stealth enter take_out
  lswitch_agrees pa ha hp k =
      let c = core_of v in
      let t : Core (shaped (save_stealth s) (clear_call (set_current (save_stealth s).shape pa))) =
      clear_core (guests_core (saved_core v) (current_part v pa ha hp k)) in
      record {
        chart = current_chart c a.chart pa;
        value = λ g qa p i d. holds_present (lswitch_step s pa)
            (load_holds t (saved v) (take_out_holds c stealth_line (has_page c i) (value_holds v a i d)));
      }
