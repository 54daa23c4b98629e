-- Which page an entry leads to, and which tables map a page: what the scans of tables decide, table by table.
-- Assumes nothing.
use Rattle.std.specs.Prelude.{Bool, ◌&&◌, not, ℕ, suc, ◌+◌, ◌*◌, eqb}
use Rattle.laws.specs.Choice.{at}
use Rattle.laws.specs.Search.{some_below}
use Rattle.model.specs.Sizes.{addresses}
use Rattle.model.specs.Names.{kind_table}
use Rattle.model.specs.State.{Shape, is_page, is_mapped}

-- some table maps the page at an address that passes the test: the model's question, asked of a page. No table maps a number past the last page.
abbrev pub maps_page_of : Shape → (ℕ → Bool) → ℕ → Bool
maps_page_of h f p = is_page p && is_mapped h f p

-- table t leads from address v to page p
abbrev pub entry_is : Shape → ℕ → ℕ → ℕ → Bool
entry_is h p t v = is_page p && eqb (at h.pages.entry (addresses * t + v)) (suc p)

-- the same at an address that passes the test
unfoldable pub entry_maps : Shape → (ℕ → Bool) → ℕ → ℕ → ℕ → Bool
entry_maps h f p t v = entry_is h p t v && f v

-- some address of page t that passes the test leads to page p
unfoldable pub row_maps : Shape → (ℕ → Bool) → ℕ → ℕ → Bool
row_maps h f p t = some_below addresses (entry_maps h f p t)

-- page t is a table that maps page p so
unfoldable pub table_maps : Shape → (ℕ → Bool) → ℕ → ℕ → Bool
table_maps h f p t = eqb (at h.pages.kind t) kind_table && row_maps h f p t

-- entry v of page m is there
unfoldable pub entry_there : Shape → ℕ → ℕ → Bool
entry_there h m v = not (eqb (at h.pages.entry (addresses * m + v)) 0)

-- the test that only address a passes
abbrev pub only_at : ℕ → ℕ → Bool
only_at a v = eqb v a

-- the test that every address passes but a
abbrev pub but_at : ℕ → ℕ → Bool
but_at a v = not (eqb v a)
