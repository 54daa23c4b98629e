-- Some table maps the page exactly if a scan, table by table, finds it.
-- Assumes nothing.
use mathlib.Core.Path.{◌≡◌, refl, sym, ◌∙◌}
use mathlib.Core.Bool.{Bool, true, false, ◌&&◌, not, true≢false}
use Prim.Native.Nat.{ℕ, suc, ◌+◌, ◌*◌, ◌<◌}
use native.Mathlib.Omega.{arith}
use lib.Dec.{eqb}
use lib.ListN.{length}
use borrow.Author.Tests.{ne_eqb}
use Rattle.laws.specs.Choice.{at, ◌⇔◌}
use Rattle.laws.specs.Search.{some_below}
use Rattle.laws.proofs.Cases.{below?}
use Rattle.laws.proofs.Lists.{at_past}
use Rattle.laws.proofs.Tests.{eq⇔, true⇔, and⇔, not⇔, as⇔, not_so, agree}
use Rattle.laws.proofs.Search.{some⇔}
use Rattle.laws.proofs.Grid.{some_grid⇔}
use Rattle.model.specs.Sizes.{pages, addresses}
use Rattle.model.specs.Names.{kind_table}
use Rattle.model.specs.State.{Shape, is_page, is_mapped, maps_page}
use Rattle.model.specs.Checks.{has_entries}
use Rattle.asks.specs.Maps.{maps_page_of, entry_is, entry_maps, row_maps, table_maps, entry_there, only_at, but_at}

-- ---- all tables

-- of a page it is the model's question
pub maps_page_law : (h : Shape) (f : ℕ → Bool) (p : ℕ) → is_page p ≡ true → maps_page_of h f p ≡ is_mapped h f p
maps_page_law h f p e = rw e

module _ (h : Shape) (f : ℕ → Bool) (p : ℕ) (size : length h.pages.entry ≡ pages * addresses) where
  abbrev Hit : ℕ → ℕ → Type 0
  Hit t v = ((is_page p ≡ true) × (at h.pages.entry (addresses * t + v) ≡ suc p)) × (f v ≡ true)

  row⇔ : (t : ℕ) → row_maps h f p t ⇔ ((v : ℕ) × (v < addresses) × Hit t v)
  unfolding row_maps entry_maps
  row⇔ t =
      some⇔ addresses (λ v b. and⇔ (and⇔ (true⇔ (is_page p)) (eq⇔ (at h.pages.entry (addresses * t + v)) (suc p))) (true⇔ (f v)))

  tables⇔ : some_below pages (table_maps h f p) ⇔ ((t : ℕ) × (t < pages) × ((at h.pages.kind t ≡ kind_table) × ((v : ℕ) × (v < addresses) × Hit t v)))
  unfolding table_maps
  tables⇔ = some⇔ pages (λ t b. and⇔ (eq⇔ (at h.pages.kind t) kind_table) (row⇔ t))

  mapped⇔ : maps_page_of h f p ⇔ ((is_page p ≡ true) × ((t : ℕ) × (v : ℕ) × (t < pages) × (v < addresses) × (((at h.pages.entry (addresses * t + v) ≡ suc p) × (f v ≡ true)) × (at h.pages.kind t ≡ kind_table))))
  unfolding maps_page
  mapped⇔ =
      and⇔ (true⇔ (is_page p))
      (some_grid⇔ addresses (omega arith) pages h.pages.entry size (λ t v e. eqb e (suc p) && f v && eqb (at h.pages.kind t) kind_table)
      (λ t v ht hv. and⇔ (and⇔ (eq⇔ (at h.pages.entry (addresses * t + v)) (suc p)) (true⇔ (f v))) (eq⇔ (at h.pages.kind t) kind_table)))

  pub by_tables : some_below pages (table_maps h f p) ≡ maps_page_of h f p
  by_tables =
      agree tables⇔
      (as⇔ mapped⇔
      (λ w. let u = w.1 in (u.0, u.2, (u.4.1, (u.1, u.3, ((w.0, u.4.0.0), u.4.0.1)))))
      (λ w. let k = w.2.1 in (k.2.0.0, (w.0, k.0, w.1, k.1, ((k.2.0.1, k.2.1), w.2.0)))))

  pub mapped_past : ((v : ℕ) → v < addresses → f v ≡ false) → false ≡ maps_page_of h f p
  mapped_past n = sym (not_so mapped⇔ (λ w. true≢false (sym w.1.4.0.1 ∙ n w.1.1 w.1.3)))

-- one address
pub row_at : (h : Shape) (p t a : ℕ) → a < addresses → entry_is h p t a ≡ row_maps h (only_at a) p t
unfolding row_maps entry_maps
row_at h p t a b =
    agree (true⇔ (entry_is h p t a))
    (as⇔ (some⇔ addresses (λ v c. and⇔ (true⇔ (entry_is h p t v)) (eq⇔ v a)))
    (λ w. rw w.2.1 at w.2.0)
    (λ e. (a, b, (e, refl))))

-- every address
pub any_address : (h : Shape) (p : ℕ) → length h.pages.entry ≡ pages * addresses → maps_page_of h (but_at addresses) p ≡ maps_page_of h (λ v. true) p
any_address h p size =
    agree (mapped⇔ h (but_at addresses) p size)
    (as⇔ (mapped⇔ h (λ v. true) p size)
    (λ w. let u = w.1 in (w.0, (u.0, u.1, u.2, u.3, ((u.4.0.0, rw (ne_eqb u.1 addresses (λ e. omega (arith, u.3)))), u.4.1))))
    (λ w. let u = w.1 in (w.0, (u.0, u.1, u.2, u.3, ((u.4.0.0, refl), u.4.1)))))

-- ---- the entries of one page

pub by_row : (h : Shape) (m : ℕ) → length h.pages.entry ≡ pages * addresses → some_below addresses (entry_there h m) ≡ has_entries h.pages.entry m
unfolding has_entries entry_there
by_row h m size =
    agree (some⇔ addresses (λ v b. not⇔ (eq⇔ (at h.pages.entry (addresses * m + v)) 0)))
    (as⇔
    (some_grid⇔ addresses (omega arith) pages h.pages.entry size (λ r v e. not (eqb e 0) && eqb r m)
    (λ r v hr hv. and⇔ (not⇔ (eq⇔ (at h.pages.entry (addresses * r + v)) 0)) (eq⇔ r m)))
    (λ w. (w.1, w.3, rw w.4.1 at w.4.0))
    (λ w. below? m pages (λ b. (m, w.0, b, w.1, (w.2, refl)))
    (λ b. absurd (w.2 (at_past h.pages.entry (addresses * m + w.0) (omega arith))))))
