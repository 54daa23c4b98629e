-- The fresh machine, with any policy, and the fresh book agree, and each guest owns one page.
-- Assumes nothing.
use mathlib.Core.Path.{◌≡◌, refl, sym, ap, ◌∙◌}
use mathlib.Core.Bool.{true}
use mathlib.Core.Option.{none-ne-some}
use Prim.Native.Nat.{ℕ, suc, ◌+◌, ◌*◌, ◌<◌}
use native.Mathlib.Omega.{arith}
use lib.Dec.{eqb}
use lib.ListN.{replicate, length-replicate, get_or-replicate}
use borrow.Author.Tests.{ne_eqb, lt-ltb}
use Rattle.laws.specs.Choice.{pick, at}
use Rattle.laws.specs.Search.{first_from, count_below, list_from, all_below}
use Rattle.laws.proofs.Cases.{same?, below?}
use Rattle.laws.proofs.Tests.{eq⇔}
use Rattle.laws.proofs.Lists.{at_past, get_or_list_of}
use Rattle.laws.proofs.Search.{all⇔}
use Rattle.laws.proofs.Grid.{row_of_law, column_of, place_below}
use Rattle.model.specs.Sizes.{guests, physicals, pages, addresses, first_host_page}
use Rattle.model.specs.Names.{kind_table}
use Rattle.model.specs.Fresh.{fresh_kind, fresh_physical, fresh_pages, fresh_guests, fresh_with}
use Rattle.history.specs.Past.{fresh_book}
use Rattle.history.specs.Agrees.{Has, Agrees}
use Rattle.history.specs.Rations.{owned}

-- ---- the lists of the fresh machine

at_zeros : (n i : ℕ) → at (replicate n 0) i ≡ 0
at_zeros n i = below? i n (λ h. get_or-replicate n i 0 0 h) (λ h. at_past (replicate n 0) i (omega (arith, length-replicate {A = ℕ} n 0)))

physical_at : (g pa : ℕ) → g < guests → pa < physicals → at fresh_pages.physical (physicals * g + pa) ≡ pick (eqb pa 0) (suc g) 0
unfolding fresh_pages
physical_at g pa hg ha =
    get_or_list_of (guests * physicals) fresh_physical 0 (physicals * g + pa) (place_below physicals (omega arith) guests g pa hg ha)
    ∙ rw (row_of_law physicals (omega arith) g pa ha, column_of physicals (omega arith) g pa ha)

-- a guest has one page, of its own number, at its physical 0
fresh_has : {g pa p : ℕ} → Has fresh_pages.physical g pa p → (pa ≡ 0) × (p ≡ g)
fresh_has {g} {pa} {p} h =
    let e = sym (physical_at g pa h.guest h.address) ∙ h.holds in
    same? pa 0 (λ z. let w : suc g ≡ suc p = rw z at e in (z, omega arith))
    (λ d. let w : 0 ≡ suc p = rw (ne_eqb pa 0 d) at e in absurd (omega arith))

kind_at : (g : ℕ) → g < guests → at fresh_pages.kind g ≡ kind_table
unfolding fresh_pages
kind_at g h = get_or_list_of pages fresh_kind 0 g (omega arith) ∙ rw (lt-ltb g first_host_page h)

entry_at : (i : ℕ) → at fresh_pages.entry i ≡ 0
unfolding fresh_pages
entry_at i = at_zeros (pages * addresses) i

current_at : (g : ℕ) → at fresh_guests.current g ≡ 0
unfolding fresh_guests
current_at g = at_zeros guests g

-- ---- agreement

active_is : 0 ≡ fresh_guests.active
unfolding fresh_guests
active_is = refl

pub fresh_agrees : (p : ℕ) → Agrees (fresh_with p) fresh_book
unfolding fresh_with
fresh_agrees p =
    record {
      chart =
          record {
            active = active_is;
            current = λ g hg. sym (current_at g);
            kind = λ g pa q h. let w = fresh_has h in rw (w.0, w.1) (sym (kind_at g h.guest));
            none = λ g pa hg ha e. same? pa 0
                (λ z. let w : suc g ≡ 0 = rw z at (sym (physical_at g pa hg ha) ∙ e) in absurd (omega arith))
                (λ d. rw (ne_eqb pa 0 d));
            link = λ g pt va pa hg ht hv. (
              (λ e. absurd (none-ne-some pa e)),
              λ l. absurd (omega (arith, l.holds, entry_at (addresses * l.table + va))),
            );
          };
      value = λ g pa q h d. let w = fresh_has h in absurd (omega (arith, d, kind_at g h.guest, ap (at fresh_pages.kind) w.1));
    }

-- ---- one page each

each_one : (p : ℕ) → all_below guests (λ g. eqb (owned (fresh_with p).shape g) 1) ≡ true
unfolding first_from count_below list_from fresh_with fresh_pages
each_one p = refl

pub fresh_owned : (p g : ℕ) → g < guests → owned (fresh_with p).shape g ≡ 1
fresh_owned p = (all⇔ guests (λ g h. eq⇔ (owned (fresh_with p).shape g) 1)).0 (each_one p)
