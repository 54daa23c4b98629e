-- new leads from valid states to valid states: va's line and TLB entry go, then, if the page is shared from now on, the page's lines and its mark,
-- and at last the entry is stored. The step stores first; the parts touch different lists, so the state is the same.
-- Assumes nothing.
use mathlib.Core.Path.{◌≡◌}
use mathlib.Core.Bool.{false}
use mathlib.Core.Logic.{◌≢◌}
use Prim.Native.Nat.{ℕ, suc, ◌+◌, ◌*◌, ◌<◌}
use native.Mathlib.Omega.{arith}
use lib.ListN.{set}
use Rattle.laws.specs.Choice.{pick, at, ◌⇔◌}
use Rattle.laws.proofs.Cases.{split, same?}
use Rattle.laws.proofs.Tests.{eq⇔, not⇔, fails}
use Rattle.laws.proofs.Lists.{at_same}
use Rattle.model.specs.Sizes.{physicals, pages, addresses, stealth, reserved}
use Rattle.model.specs.Names.{owner_guest, kind_data}
use Rattle.model.specs.State.{Shape, State, nowhere, active, table, here, present, line_of_page}
use Rattle.model.specs.Rules.{Maps}
use Rattle.model.specs.Parts.{shaped, set_entry, take_out, take_out_page}
use Rattle.model.specs.New.{is_shared, share, new_step}
use Rattle.model.specs.Valid.{Valid}
use Rattle.model.proofs.RuleTests.{maps_page⇔}
use Rattle.keeps.proofs.Core.{core_of, mapped_page, here_owned}
use Rattle.keeps.proofs.Stores.{size_set}
use Rattle.keeps.proofs.Calls.{clear_valid}
use Rattle.keeps.proofs.Entries.{Mappable, storable, NoLine, NoSlot, maps_kept, entry_here, entry_valid}
use Rattle.keeps.proofs.Detach.{detached, detached_lines, detached_slots, detached_valid}
use Rattle.keeps.proofs.Share.{uncached, uncached_valid, uncached_lines}

-- the page that is shared once va leads to p, or nowhere
abbrev shared_page : Shape → ℕ → ℕ → ℕ
shared_page h va p = pick (is_shared (set_entry h (table h) va (suc p)) va p) p nowhere

-- a page that is shared loses its lines and its mark, and the table in force gets the page
abbrev remapped : State → ℕ → ℕ → State
remapped s va p =
    let u = uncached s (shared_page s.shape va p) in
    shaped u (set_entry u.shape (table u.shape) va (suc p))

module _ {s : State} (v : Valid s) (va p : ℕ) (address : va < addresses) (allowed : reserved va ≡ false) (other : va ≢ stealth) (page : p < pages)
    (is_data : at s.shape.pages.kind p ≡ kind_data) (own : at s.shape.pages.owner p ≡ owner_guest (active s.shape))
    (apart : (m : ℕ) → Maps s.shape.pages.kind s.shape.pages.entry m stealth p → ⊥)
    (no_line : NoLine s.shape (table s.shape) va) (no_slot : NoSlot s.shape (table s.shape) va) where
  -- the test for sharing, on the entries after the store
  shared⇔ : is_shared (set_entry s.shape (table s.shape) va (suc p)) va p
      ⇔ ((m : ℕ) × (vb : ℕ) × (vb ≢ va) × Maps s.shape.pages.kind (set s.shape.pages.entry (addresses * table s.shape + va) (suc p)) m vb p)
  shared⇔ =
      maps_page⇔ s.shape.pages.kind (set s.shape.pages.entry (addresses * table s.shape + va) (suc p)) (λ vb. not⇔ (eq⇔ vb va)) p
      (size_set s.shape.pages.entry (addresses * table s.shape + va) (suc p) v.sized.entry)

  shared_valid : Valid (uncached s (shared_page s.shape va p))
  shared_valid =
      split (is_shared (set_entry s.shape (table s.shape) va (suc p)) va p)
      (λ e. rw e (uncached_valid p (λ b. record { page = page; is_data = is_data; guest = active s.shape; known = v.rule10.guests.active; owned = own }) apart v))
      (λ e. rw e (uncached_valid nowhere (λ b. absurd (omega arith)) (λ m a. let z = (mapped_page (core_of v) a).page in omega arith) v))

  -- a page that keeps its mark is mapped at va alone
  alone : at (set s.shape.pages.cacheable (shared_page s.shape va p) 0) p ≡ 1 → (n vb : ℕ)
      → Maps s.shape.pages.kind s.shape.pages.entry n vb p → vb ≡ va
  alone c n vb a =
      split (is_shared (set_entry s.shape (table s.shape) va (suc p)) va p)
      (λ e.
      let z : at (set s.shape.pages.cacheable p 0) p ≡ 1 = rw e at c in
      absurd (omega (arith, at_same s.shape.pages.cacheable p 0 (omega (arith, v.sized.cacheable)))))
      (λ e. same? vb va (λ w. w)
      (λ d. absurd (fails shared⇔ e (n, vb, d, maps_kept (addresses * table s.shape + va) (suc p) (λ w. let z = a.address in d (omega arith)) a))))

  mappable : Mappable (uncached s (shared_page s.shape va p)).shape.pages (table (uncached s (shared_page s.shape va p)).shape) va p
  unfolding uncached take_out_page table
  mappable =
      record { allowed = entry_here (core_of v) allowed page is_data own; alone = alone; stealthy = λ e. absurd (other e) }

  remapped_valid : Valid (remapped s va p)
  unfolding uncached take_out_page table
  remapped_valid =
      entry_valid va (suc p) address other (storable mappable) (uncached_lines s (shared_page s.shape va p) va no_line) no_slot shared_valid

pub new_step_valid : {s : State} → Valid s → (va pa : ℕ) → va < addresses → pa < physicals → reserved va ≡ false → va ≢ stealth
    → here s.shape pa < pages → at s.shape.pages.kind (here s.shape pa) ≡ kind_data
    → ((m : ℕ) → Maps s.shape.pages.kind s.shape.pages.entry m stealth (here s.shape pa) → ⊥) → Valid (new_step s va (here s.shape pa))
unfolding new_step share take_out_page take_out detached uncached present line_of_page table
new_step_valid {s} v va pa address physical allowed other page is_data apart =
    let c = core_of v in
    clear_valid
    (remapped_valid (detached_valid va allowed other v) va (here s.shape pa) address allowed other page is_data (here_owned c pa physical page).1 apart
    (detached_lines c va) (detached_slots c va v.rule8))
