-- A page or nowhere, as an answer of code: whether it is a table.
-- Assumes nothing.
use Rattle.std.specs.Prelude.{List, ℕ, eqb, Option, Some, None}
use Rattle.laws.specs.Choice.{pick, at}
use Rattle.model.specs.Names.{kind_table}
use Rattle.numbers.specs.declared.Ma.{Ma}

-- the page if it is a table
abbrev pub only_table : List ℕ → Option Ma → Option Ma
only_table kind (Some p) = pick (eqb (at kind p.0) kind_table) (Some p) None
only_table kind None = None
