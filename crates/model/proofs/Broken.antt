-- The table of findings, by computation.
-- Assumes nothing.
use mathlib.Core.Path.{◌≡◌, refl}
use Rattle.laws.specs.Search.{first_from, seek_from, list_from}
use Rattle.laws.specs.Bits.{bit, marked, unmarked}
use Rattle.model.specs.State.{table, maps_page}
use Rattle.model.specs.Fresh.{fresh_pages, fresh_guests, fresh_cache, fresh_with, fresh}
use Rattle.model.specs.RuleTests.{maps_twice, columns}
use Rattle.model.specs.Damage.{changed}
use Rattle.model.specs.Broken.{number_parts, rule_parts, broken_from, first_broken}
use Rattle.model.specs.BrokenSamples.{found_places, told, expected}

pub places_found : told fresh found_places ≡ expected found_places
unfolding first_from seek_from list_from bit marked unmarked table maps_page fresh_pages fresh_guests fresh_cache fresh_with maps_twice columns changed number_parts rule_parts broken_from first_broken found_places told expected
places_found = refl
