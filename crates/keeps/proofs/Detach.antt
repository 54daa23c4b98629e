-- The line and the TLB entry for an address go while the table in force still maps it: what may be stored there afterwards meets neither.
-- At the stealth address this breaks rule 9 until the entry goes too; the other rules hold.
-- Assumes nothing.
use mathlib.Core.Path.{◌≡◌, sym, ap, ◌∙◌}
use mathlib.Core.Bool.{false}
use mathlib.Core.Logic.{◌≢◌}
use Prim.Native.Nat.{ℕ}
use Rattle.model.specs.Sizes.{stealth, reserved}
use Rattle.model.specs.State.{State, table, mapped, line_of}
use Rattle.model.specs.Parts.{shaped, forget, take_out}
use Rattle.model.specs.New.{old_line}
use Rattle.model.specs.Valid.{Valid}
use Rattle.keeps.proofs.Core.{Core, Eight, mapped_is}
use Rattle.keeps.proofs.Stores.{left}
use Rattle.keeps.proofs.Sets.{stealth_only, found_outside, line_is_law}
use Rattle.keeps.proofs.Lines.{take_out_core, take_out_valid}
use Rattle.keeps.proofs.Tlb.{forget_core, forget_eight, forget_gone, forget_valid}
use Rattle.keeps.proofs.Entries.{NoLine, NoSlot}

-- the line of va and its page in this table, and the TLB entry for va, gone
unfoldable pub detached : State → ℕ → State
detached s va =
    let t = take_out s (old_line s.shape va) in
    shaped t (forget t.shape va)

module _ {s : State} (c : Core s) (va : ℕ) where
  pub detached_core : Core (detached s va)
  unfolding detached
  detached_core = forget_core (take_out_core c (old_line s.shape va)) va

  pub detached_lines : NoLine (detached s va).shape (table (detached s va).shape) va
  unfolding detached take_out table
  detached_lines j p hj e a x =
      let h = s.shape in
      let d = left h.cache.line_address h.cache.line_page (old_line h va) j p e in
      let q = mapped_is h va p (c.rule7.line j p hj d.1).page x in
      d.0 (sym (line_is_law c hj d.1 (sym d.2 ∙ a)) ∙ ap (line_of h va) (sym q))

  pub detached_eight : Eight s.shape → Eight (detached s va).shape
  unfolding detached take_out table
  detached_eight r = forget_eight (take_out_core c (old_line s.shape va)) va r

  pub detached_slots : Eight s.shape → NoSlot (detached s va).shape (table (detached s va).shape) va
  unfolding detached take_out table
  detached_slots r j p hj e a x = forget_gone s.shape va r j p hj e a

-- at another address the line is one of another set
pub detached_valid : {s : State} (va : ℕ) → reserved va ≡ false → va ≢ stealth → Valid s → Valid (detached s va)
unfolding detached
detached_valid {s} va r n v =
    forget_valid (take_out_valid v (old_line s.shape va) (found_outside s.shape va (mapped s.shape va) (λ e. n (stealth_only va r e)))) va
