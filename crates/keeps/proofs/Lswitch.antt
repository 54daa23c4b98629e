-- lswitch leads from valid states to valid states: a table of the active guest fits as its current one.
-- Assumes nothing.
use mathlib.Core.Path.{◌≡◌, sym, subst}
use Prim.Native.Nat.{ℕ, ◌<◌}
use native.Mathlib.Omega.{arith}
use lib.ListN.{set}
use Rattle.laws.specs.Choice.{at}
use Rattle.laws.proofs.Lists.{at_set}
use Rattle.model.specs.Sizes.{physicals, pages}
use Rattle.model.specs.Names.{kind_table}
use Rattle.model.specs.State.{State, active, here}
use Rattle.model.specs.Parts.{set_current, take_out}
use Rattle.model.specs.Lswitch.{lswitch_step}
use Rattle.model.specs.Rules.{Registered, Rule5}
use Rattle.model.specs.Valid.{Valid}
use Rattle.keeps.proofs.Core.{core_of, here_owned}
use Rattle.keeps.proofs.Parts.{GuestsOf, guests_core}
use Rattle.keeps.proofs.Stores.{size_set, below_set}
use Rattle.keeps.proofs.Calls.{clear_core}
use Rattle.keeps.proofs.Stealth.{saved, saved_core, loaded}

module _ {s : State} (v : Valid s) (pa : ℕ) (h : pa < physicals) (page : here s.shape pa < pages)
    (is_table : at s.shape.pages.kind (here s.shape pa) ≡ kind_table) where
  registered : Registered s.shape.pages.owner s.shape.pages.kind s.shape.pages.physical (active s.shape) pa (here s.shape pa)
  registered =
      let o = here_owned (core_of v) pa h page in record { page = page; registered = o.0; is_table = is_table; own = o.1 }

  current_rule5 : Rule5 s.shape.pages.owner s.shape.pages.kind s.shape.pages.physical (set s.shape.guests.current (active s.shape) pa)
  current_rule5 =
      let P = s.shape.pages in
      let a = active s.shape in
      let current = s.shape.guests.current in
      record {
        in_range = below_set current a pa h v.rule5.in_range;
        currents = λ g hg. at_set (λ (x : ℕ). (m : ℕ) × Registered P.owner P.kind P.physical g x m) current a pa g
            (omega (arith, v.sized.current, v.rule10.guests.active))
            (λ e. (here s.shape pa, subst (λ (k : ℕ). Registered P.owner P.kind P.physical k pa (here s.shape pa)) (sym e) registered))
            (λ n. v.rule5.currents g hg);
      }

  pub current_part : GuestsOf s.shape (set_current s.shape pa).guests
  current_part =
      record {
        current = size_set s.shape.guests.current (active s.shape) pa v.sized.current;
        call = v.sized.call;
        call_a = v.sized.call_a;
        call_b = v.sized.call_b;
        rule1 = v.rule1;
        rule5 = current_rule5;
        ranges =
            record {
              current = current_rule5.in_range;
              call = v.rule10.guests.call;
              call_a = v.rule10.guests.call_a;
              call_b = v.rule10.guests.call_b;
              arguments = v.rule10.guests.arguments;
              active = v.rule10.guests.active;
              mode = v.rule10.guests.mode;
            };
      }

  pub lswitch_step_valid : Valid (lswitch_step s pa)
  unfolding lswitch_step take_out
  lswitch_step_valid = loaded (clear_core (guests_core (saved_core v) current_part)) (saved v)
