-- What rule 4 tests at one entry, and rule 6 at one page and of two entries.
-- Assumes nothing.
use Rattle.std.specs.Prelude.{Bool, ◌&&◌, not, ℕ, ◌+◌, ◌*◌, ◌/◌, ◌%◌, ltb, eqb}
use Rattle.laws.specs.Choice.{pick, at, ◌⇒◌}
use Rattle.laws.specs.Search.{some_below, all_below}
use Rattle.model.specs.Sizes.{guests, pages, addresses, stealth, reserved}
use Rattle.model.specs.Names.{owner_guest, kind_data, kind_table}
use Rattle.model.specs.State.{State, lead, is_page, nowhere}
use Rattle.model.specs.RuleTests.{leads_to}
use Rattle.asks.specs.Maps.{maps_page_of}

-- 4, at an entry
unfoldable pub own_by : State → ℕ → ℕ → ℕ → Bool
own_by s m va p =
    let P = s.shape.pages in
    eqb (at P.kind m) kind_table && not (reserved va) && eqb (at P.kind p) kind_data && ltb (at P.owner m) (owner_guest guests)
    && eqb (at P.owner p) (at P.owner m)

unfoldable pub own_at : State → ℕ → ℕ → Bool
own_at s m va = leads_to (at s.shape.pages.entry (addresses * m + va)) (own_by s m va)

-- 6, at a page: some table maps it at a, and some table at another address; this at some address; and what is asked of the page
unfoldable pub shared_at : State → ℕ → ℕ → Bool
shared_at s p a = maps_page_of s.shape (λ v. eqb v a) p && maps_page_of s.shape (λ v. not (eqb v a)) p

abbrev pub mapped_twice : State → ℕ → Bool
mapped_twice s p = some_below addresses (shared_at s p)

unfoldable pub page_unshared : State → ℕ → Bool
page_unshared s p =
    let P = s.shape.pages in
    pick (eqb (at P.cacheable p) 1) (eqb (at P.kind p) kind_data ⇒ not (mapped_twice s p)) (not (maps_page_of s.shape (λ v. eqb v stealth) p))

-- 6: the page that a table maps there, if it is cacheable data, else nowhere
unfoldable pub counted : State → ℕ → ℕ → ℕ
counted s m va =
    let P = s.shape.pages in
    let p = lead (at P.entry (addresses * m + va)) in
    pick (eqb (at P.kind m) kind_table && is_page p && eqb (at P.kind p) kind_data && eqb (at P.cacheable p) 1) p nowhere

abbrev pub counted_at : State → ℕ → ℕ
counted_at s i = counted s (i / addresses) (i % addresses)

-- no two entries map one such page at different addresses
unfoldable pub unshared : State → Bool
unshared s =
    all_below (pages * addresses) (λ i. all_below (pages * addresses) (λ j.
    is_page (counted_at s i) && eqb (counted_at s i) (counted_at s j) ⇒ eqb (i % addresses) (j % addresses)))
