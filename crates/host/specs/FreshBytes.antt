-- The bytes of the fresh machine, each by its place. Where a field begins is asked of `sizes`; a place that no line names holds 0.
-- Assumes nothing.
use Rattle.std.specs.Prelude.{ℕ, ◌-◌, ◌/◌, ltb, eqb}
use Rattle.laws.specs.Choice.{pick}
use Rattle.model.specs.Sizes.{first_free_page, byte_bound}
use Rattle.model.specs.Names.{running}
use Rattle.model.specs.Fresh.{fresh_owner, fresh_kind, fresh_physical}
use Rattle.laws.specs.Cut.{begin}
use Rattle.host.specs.View.{sizes, kind_field, cacheable_field, entry_field, physical_field, current_field}

abbrev pub map_field : ℕ
map_field = 5

abbrev pub mode_field : ℕ
mode_field = 11

-- Byte k of the map of free pages. It is a byte of zeros or of ones because the first free page is a multiple of 8 and the pages are 64.
abbrev pub fresh_map : ℕ → ℕ
fresh_map k = pick (ltb k (first_free_page / 8)) 0 (byte_bound - 1)

-- from the physical places on
abbrev pub later_byte : ℕ → ℕ
later_byte i =
    pick (ltb i (begin sizes map_field)) (fresh_physical (i - begin sizes physical_field))
    (pick (ltb i (begin sizes current_field)) (fresh_map (i - begin sizes map_field))
    (pick (eqb i (begin sizes mode_field)) running 0))

unfoldable pub fresh_byte : ℕ → ℕ
fresh_byte i =
    pick (ltb i (begin sizes kind_field)) (fresh_owner i)
    (pick (ltb i (begin sizes cacheable_field)) (fresh_kind (i - begin sizes kind_field))
    (pick (ltb i (begin sizes entry_field)) 1
    (pick (ltb i (begin sizes physical_field)) 0 (later_byte i))))
