-- del leads from valid states to valid states. At the stealth address the line of the stealth set goes with the entry.
-- Assumes nothing.
use mathlib.Core.Path.{◌≡◌, refl, sym, subst}
use mathlib.Core.Bool.{false}
use Prim.Native.Nat.{ℕ, ◌+◌, ◌*◌, ◌<◌}
use native.Mathlib.Omega.{arith}
use lib.ListN.{set}
use Rattle.laws.specs.Choice.{at}
use Rattle.laws.proofs.Cases.{same?, below?}
use Rattle.laws.proofs.Lists.{at_same, at_any}
use Rattle.model.specs.Sizes.{pages, addresses, stealth, reserved}
use Rattle.model.specs.State.{State, table, mapped, stealth_line}
use Rattle.model.specs.Parts.{shaped, set_entry, take_out}
use Rattle.model.specs.New.{old_line}
use Rattle.model.specs.Del.{del_step}
use Rattle.model.specs.Valid.{Valid}
use Rattle.keeps.proofs.Core.{core_of, valid_of, mapped_is, in_force, leads_here}
use Rattle.keeps.proofs.Sets.{line_is_law}
use Rattle.keeps.proofs.Calls.{clear_valid}
use Rattle.keeps.proofs.Stealth.{taken_out, none_nine}
use Rattle.keeps.proofs.Entries.{removable, entry_core, entry_rule8, entry_valid}
use Rattle.keeps.proofs.Detach.{detached, detached_core, detached_lines, detached_eight, detached_slots, detached_valid}

-- va detached, and its entry removed
abbrev unmapped : State → ℕ → State
unmapped s va = shaped (detached s va) (set_entry (detached s va).shape (table (detached s va).shape) va 0)

-- ---- the stealth address

module _ {s : State} (v : Valid s) where
  -- if the table maps it, the stealth line is the one taken out; if not, there was none
  line_gone : at (set s.shape.cache.line_page (old_line s.shape stealth) 0) stealth_line ≡ 0
  line_gone =
      let h = s.shape in
      let p = mapped h stealth in
      let c = core_of v in
      below? p pages
      (λ b.
      let k = v.rule9.held p (leads_here c stealth b) in
      rw (line_is_law c (omega arith) k.0 k.1) (at_same h.cache.line_page stealth_line 0 (omega (arith, v.sized.line_page))))
      (λ b. at_any (λ (x : ℕ). x ≡ 0) h.cache.line_page (old_line h stealth) 0 stealth_line refl
      (v.rule9.empty (λ q l. let z = mapped_is h stealth q l.page l.holds in let y = l.page in omega arith)))

  -- the table maps it no more
  entry_gone : at (set s.shape.pages.entry (addresses * table s.shape + stealth) 0) (addresses * table s.shape + stealth) ≡ 0
  entry_gone =
      at_same s.shape.pages.entry (addresses * table s.shape + stealth) 0 (omega (arith, v.sized.entry, (in_force (core_of v)).page))

  -- so the stealth set is empty
  unmapped_stealth : Valid (unmapped s stealth)
  unfolding detached take_out table
  unmapped_stealth =
      let c = core_of v in
      let m = table (detached s stealth).shape in
      let d = entry_core m stealth 0 (omega arith) (removable (detached s stealth).shape.pages m stealth) (detached_lines c stealth) (detached_core c stealth) in
      valid_of d (entry_rule8 m stealth 0 (omega arith) (detached_slots c stealth v.rule8) (detached_eight c stealth v.rule8))
      (none_nine d (taken_out v (old_line s.shape stealth) line_gone) (rw entry_gone (omega arith)))

unmapped_valid : {s : State} → Valid s → (va : ℕ) → va < addresses → reserved va ≡ false → Valid (unmapped s va)
unmapped_valid {s} v va h r =
    same? va stealth (λ e. subst (λ (x : ℕ). Valid (unmapped s x)) (sym e) (unmapped_stealth v))
    (λ n. entry_valid va 0 h n (removable (detached s va).shape.pages (table (detached s va).shape) va) (detached_lines (core_of v) va)
    (detached_slots (core_of v) va v.rule8) (detached_valid va r n v))

pub del_step_valid : {s : State} → Valid s → (va : ℕ) → va < addresses → reserved va ≡ false → Valid (del_step s va)
unfolding del_step detached take_out table
del_step_valid v va h r = clear_valid (unmapped_valid v va h r)
