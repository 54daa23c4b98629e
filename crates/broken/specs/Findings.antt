-- What this crate's findings are, and the parts of the model's rules by their names.
-- Assumes nothing.
use Rattle.std.specs.Prelude.{Option, Some, None, List, [], ◌∷◌, ℕ, ◌*◌, get_or}
use Rattle.laws.specs.Choice.{at}
use Rattle.model.specs.Sizes.{guests, physicals, pages, addresses, lines, sets, ways, slots}
use Rattle.model.specs.State.{State}
use Rattle.model.specs.RuleTests.{column, columns, rule10_at}
use Rattle.model.specs.Broken.{RulePart, along, part1, part2, part3_addresses, part3_pages, part4, part5, part6, part7, part8, part9_ways, part9_history, part10_calls, part10_lines, part10_slots, part11}
use Rattle.model.specs.Broken as model
use Rattle.broken.specs.declared.Finding.{Finding}
use Rattle.broken.specs.declared.Finding.TheVariants.{Holds, Broken, NoRule}

-- the finding as the model has it
abbrev pub finding_from : Finding → model.Finding
finding_from Holds = model.holds
finding_from (Broken k i) = model.broken k i
finding_from NoRule = model.no_rule

-- and the other way round
abbrev pub finding_to : model.Finding → Finding
finding_to model.holds = Holds
finding_to (model.broken k i) = Broken k i
finding_to model.no_rule = NoRule

-- of a rule that there is: its first broken place, by part and place, or none
abbrev pub finding_of : Option (ℕ × ℕ) → model.Finding
finding_of None = model.holds
finding_of (Some x) = model.broken x.0 x.1

-- ---- the parts of the rules, in their order; the numbers are those of a field

pub data Part : Type 0 where
  Calls : Part
  Pages : Part
  Addresses : Part
  Reached : Part
  Entries : Part
  Tables : Part
  Unshared : Part
  Lines : Part
  Slots : Part
  StealthWays : Part
  StealthHistory : Part
  Numbers : ℕ → Part
  Arguments : Part
  EmptyLines : Part
  EmptySlots : Part
  Through : Part

-- how many numbers each field has
abbrev pub column_sizes : List ℕ
column_sizes =
    pages ∷ pages ∷ pages ∷ (pages * addresses) ∷ (guests * physicals) ∷ 1 ∷ guests ∷ guests ∷ guests ∷ guests ∷ 1 ∷ 1 ∷ lines ∷ lines ∷ sets ∷ slots ∷ slots
    ∷ pages
    ∷ lines
    ∷ 1
    ∷ []

-- how many places a part has in a state of bytes
abbrev pub size_for : Part → ℕ
size_for Calls = guests
size_for Pages = pages
size_for Addresses = guests * physicals
size_for Reached = pages
size_for Entries = pages * addresses
size_for Tables = guests
size_for Unshared = pages
size_for Lines = lines
size_for Slots = slots
size_for StealthWays = ways
size_for StealthHistory = 1
size_for (Numbers k) = at column_sizes k
size_for Arguments = guests
size_for EmptyLines = lines
size_for EmptySlots = slots
size_for Through = lines

-- the numbers of field k
abbrev pub numbers_of : ℕ → State → RulePart
numbers_of k s = let c = get_or (columns s) k (column [] 0 0) in along c.numbers (λ i x. rule10_at c.bound x)

unfoldable pub part_for : Part → State → RulePart
part_for Calls s = part1 s
part_for Pages s = part2 s
part_for Addresses s = part3_addresses s
part_for Reached s = part3_pages s
part_for Entries s = part4 s
part_for Tables s = part5 s
part_for Unshared s = part6 s
part_for Lines s = part7 s
part_for Slots s = part8 s
part_for StealthWays s = part9_ways s
part_for StealthHistory s = part9_history s
part_for (Numbers k) s = numbers_of k s
part_for Arguments s = part10_calls s
part_for EmptyLines s = part10_lines s
part_for EmptySlots s = part10_slots s
part_for Through s = part11 s

-- ---- rule 10: a part for each field, and three more

abbrev pub field_parts : ℕ
field_parts = 20
