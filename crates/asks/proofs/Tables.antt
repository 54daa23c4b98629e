-- The table in force and what it leads to, as answers.
-- Assumes nothing.
use mathlib.Core.Path.{◌≡◌, ◌∙◌}
use mathlib.Core.Bool.{◌&&◌}
use mathlib.Core.List.{List}
use Prim.Native.Nat.{ℕ, ◌+◌, ◌*◌, ◌≤◌, ◌<◌}
use native.Mathlib.Omega.{arith}
use lib.Dec.{eqb, ltb}
use borrow.Author.Tests.{lt-ltb, le-ltb}
use Rattle.laws.specs.Choice.{pick, at}
use Rattle.laws.proofs.Cases.{split, below?, pick_both}
use Rattle.model.specs.Sizes.{physicals, pages}
use Rattle.model.specs.Names.{kind_table}
use Rattle.model.specs.State.{Shape, lead, nowhere, active, table_at, table}
use Rattle.std.specs.Prelude.{None}
use Rattle.numbers.specs.Lead.{toward, lead_of}
use Rattle.numbers.proofs.Leads.{toward_page, toward_none, lead_le}
use Rattle.asks.specs.Leads.{only_table}

-- the table among a page and nowhere
table_toward : (kind : List ℕ) (n : ℕ) → only_table kind (toward n) ≡ toward (pick (eqb (at kind n) kind_table) n nowhere)
table_toward kind n =
    below? n pages
    (λ b. rw (toward_page n b) (split (eqb (at kind n) kind_table) (λ e. rw (e, toward_page n b)) (λ e. rw e)))
    (λ b. rw (toward_none n b) (split (eqb (at kind n) kind_table) (λ e. rw (e, toward_none n b)) (λ e. rw e)))

module _ (kind physical : List ℕ) (g pa : ℕ) where
  pub table_in_law : pa < physicals → only_table kind (lead_of (at physical (physicals * g + pa))) ≡ toward (table_at kind physical g pa)
  table_in_law h = table_toward kind (lead (at physical (physicals * g + pa))) ∙ rw (lt-ltb pa physicals h)

  pub table_out : physicals ≤ pa → None ≡ toward (table_at kind physical g pa)
  table_out h = rw (le-ltb pa physicals h)

  pub table_le : table_at kind physical g pa ≤ nowhere
  table_le =
      pick_both (λ (n : ℕ). n ≤ nowhere) (ltb pa physicals && eqb (at kind (lead (at physical (physicals * g + pa)))) kind_table)
      (λ e. lead_le (at physical (physicals * g + pa))) (λ e. omega arith)

-- the guest that is active, and its current address
pub in_force_law : (h : Shape) (g a : ℕ) → g ≡ active h → a ≡ at h.guests.current g → table_at h.pages.kind h.pages.physical g a ≡ table h
unfolding table
in_force_law h g a e f = rw (f, e)

pub table_below : (h : Shape) → table h ≤ nowhere
unfolding table
table_below h = table_le h.pages.kind h.pages.physical (active h) (at h.guests.current (active h))
