-- The two lists of values, as code names them.
-- Assumes nothing.
use Rattle.std.specs.Prelude.{ℕ}
use Rattle.laws.specs.Cut.{begin}
use Rattle.model.specs.Sizes.{pages, lines}
use Rattle.host.specs.View.{sizes, memory_field, line_field}
use Rattle.host.specs.declared.Field.{Field}
use Rattle.host.specs.declared.values.Values.{Values}
use Rattle.host.specs.declared.values.Values.TheVariants.{Memory, Lines}

-- counted from memory_field
abbrev pub values_number : Values → ℕ
values_number Memory = 0
values_number Lines = 1

-- where a list begins, and how many numbers it has
abbrev pub extent_of : Values → Field
extent_of Memory = record { start = begin sizes memory_field; size = pages }
extent_of Lines = record { start = begin sizes line_field; size = lines }
