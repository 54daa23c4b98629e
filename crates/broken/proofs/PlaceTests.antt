-- At each place the test that the code asks is the model's.
-- Assumes nothing.
use mathlib.Core.Path.{◌≡◌, refl}
use Prim.Native.Nat.{ℕ, ◌/◌, ◌%◌, ◌<◌}
use Rattle.model.specs.Sizes.{pages, addresses}
use Rattle.model.specs.State.{State}
use Rattle.model.specs.Valid.{Sized}
use Rattle.model.specs.Broken.{passes_at, part1, part2, part3_addresses, part3_pages, part4, part5, part6, part7, part8}
use Rattle.places.specs.Places.{held_once, registered_at, current_table, call_kept, page_of, page_kept}
use Rattle.lines.specs.Lines.{lined, slotted, through}
use Rattle.entries.specs.Entries.{own_at, page_unshared}
use Rattle.entries.proofs.Twice.{page_is}
use Rattle.broken.specs.Findings.{Through, part_for}
use Rattle.rules.proofs.Rules.{address_is, registered_is, entry_is_law, line_is_law, slot_is_law}

module _ (s : State) (i : ℕ) where
  pub calls_is : call_kept s i ≡ passes_at (part1 s) i
  unfolding call_kept
  calls_is = refl

  pub pages_is : page_kept s i ≡ passes_at (part2 s) i
  unfolding page_kept page_of
  pages_is = refl

  pub addresses_is : held_once s i ≡ passes_at (part3_addresses s) i
  addresses_is = address_is s i

  pub reached_is : i < pages → registered_at s i ≡ passes_at (part3_pages s) i
  reached_is h = registered_is s i h

  pub entries_is : own_at s (i / addresses) (i % addresses) ≡ passes_at (part4 s) i
  entries_is = entry_is_law s i

  pub tables_is : current_table s i ≡ passes_at (part5 s) i
  unfolding current_table
  tables_is = refl

  pub unshared_is : Sized s → i < pages → page_unshared s i ≡ passes_at (part6 s) i
  unshared_is size h = page_is s size i h

  pub lines_is : lined s i ≡ passes_at (part7 s) i
  lines_is = line_is_law s i

  pub slots_is : slotted s i ≡ passes_at (part8 s) i
  slots_is = slot_is_law s i

  pub through_is_law : through s i ≡ passes_at (part_for Through s) i
  unfolding through part_for
  through_is_law = refl
