-- docs/HOST.md, "Checking": of each rule the first place where it is broken. The parts of a rule, their places and the order of both are those of
-- docs/RULES.md; `parts_of n s` is its table.
-- Assumes nothing.
use Rattle.std.specs.Prelude.{Bool, true, false, ◌&&◌, not, List, [], ◌∷◌, ◌++◌, ℕ, suc, ltb, leb, length, get_or}
use Rattle.laws.specs.Choice.{pick, at}
use Rattle.laws.specs.Search.{first_below, seek}
use Rattle.model.specs.Sizes.{guests, pages, lines, ways, slots}
use Rattle.model.specs.State.{State, table}
use Rattle.model.specs.RuleTests.{Column, columns, rule1_at, rule2_at, rule3_at, rule3_at_page, rule4_at, rule5_at, rule6_at, rule7_at, rule8_at, rule9_at_way, rule9_at_history, rule10_at, rule10_at_call, rule10_at_line, rule10_at_slot, rule11_at}

-- ---- a part of a rule

-- so many places, and the test at each; or the places of a list, and the test at each with the number that stands there
pub data RulePart : Type 0 where
  below : ℕ → (ℕ → Bool) → RulePart
  along : List ℕ → (ℕ → ℕ → Bool) → RulePart

abbrev pub places_in : RulePart → ℕ
places_in (below n f) = n
places_in (along l f) = length l

abbrev pub passes_at : RulePart → ℕ → Bool
passes_at (below n f) i = f i
passes_at (along l f) i = f i (at l i)

-- the first place where the test fails, or their number
abbrev pub first_failing : RulePart → ℕ
first_failing (below n f) = first_below n (λ i. not (f i))
first_failing (along l f) = seek (λ i x. not (f i x)) l

-- ---- the parts of the rules

-- 10: the numbers of each list
unfoldable pub number_parts : List Column → List RulePart
number_parts [] = []
number_parts (c ∷ cs) = along c.numbers (λ i x. rule10_at c.bound x) ∷ number_parts cs

abbrev pub part1 : State → RulePart
part1 s = let G = s.shape.guests in below guests (λ g. rule1_at G.call G.call_a G.call_b G.active G.mode g)

abbrev pub part2 : State → RulePart
part2 s = let P = s.shape.pages in below pages (λ p. rule2_at P.owner P.kind P.cacheable s.values.memory P.free p)

abbrev pub part3_addresses : State → RulePart
part3_addresses s = let P = s.shape.pages in along P.physical (λ i e. rule3_at P.owner P.physical i e)

abbrev pub part3_pages : State → RulePart
part3_pages s = let P = s.shape.pages in below pages (λ p. rule3_at_page P.owner P.physical p)

abbrev pub part4 : State → RulePart
part4 s = let P = s.shape.pages in along P.entry (λ i e. rule4_at P.owner P.kind i e)

abbrev pub part5 : State → RulePart
part5 s = let P = s.shape.pages in below guests (λ g. rule5_at P.owner P.kind P.physical s.shape.guests.current g)

abbrev pub part6 : State → RulePart
part6 s = let P = s.shape.pages in below pages (λ p. rule6_at P.kind P.cacheable P.entry p)

abbrev pub part7 : State → RulePart
part7 s =
    let P = s.shape.pages in
    let C = s.shape.cache in
    below lines (λ i. rule7_at P.kind P.cacheable P.entry C.line_address C.line_page i)

abbrev pub part8 : State → RulePart
part8 s = let T = s.shape.tlb in below slots (λ i. rule8_at s.shape.pages.entry T.slot_address T.slot_page (table s.shape) i)

abbrev pub part9_ways : State → RulePart
part9_ways s = let C = s.shape.cache in below ways (λ w. rule9_at_way s.shape.pages.entry C.line_address C.line_page (table s.shape) w)

abbrev pub part9_history : State → RulePart
part9_history s = below 1 (λ i. rule9_at_history s.shape.cache.history)

abbrev pub part10_calls : State → RulePart
part10_calls s = below guests (λ g. rule10_at_call s g)

abbrev pub part10_lines : State → RulePart
part10_lines s = below lines (λ i. rule10_at_line s i)

abbrev pub part10_slots : State → RulePart
part10_slots s = below slots (λ i. rule10_at_slot s i)

abbrev pub part11 : State → RulePart
part11 s = below lines (λ i. rule11_at s.shape.cache.line_page s.values.memory s.values.line s.shape.policy i)

-- place n has those of rule n, place 0 none
unfoldable pub rule_parts : List (State → List RulePart)
rule_parts =
    (λ s. [])
    ∷ (λ s. part1 s ∷ [])
    ∷ (λ s. part2 s ∷ [])
    ∷ (λ s. part3_addresses s ∷ part3_pages s ∷ [])
    ∷ (λ s. part4 s ∷ [])
    ∷ (λ s. part5 s ∷ [])
    ∷ (λ s. part6 s ∷ [])
    ∷ (λ s. part7 s ∷ [])
    ∷ (λ s. part8 s ∷ [])
    ∷ (λ s. part9_ways s ∷ part9_history s ∷ [])
    ∷ (λ s. number_parts (columns s) ++ (part10_calls s ∷ part10_lines s ∷ part10_slots s ∷ []))
    ∷ (λ s. part11 s ∷ [])
    ∷ []

abbrev pub parts_of : ℕ → State → List RulePart
parts_of n s = get_or rule_parts n (λ t. []) s

-- the last rule
abbrev pub last_rule : ℕ
last_rule = 11

-- ---- what checking a rule says

-- the rule holds; it is broken, first at a part and a place in it; there is no such rule
pub data Finding : Type 0 where
  holds : Finding
  broken : ℕ → ℕ → Finding
  no_rule : Finding

abbrev pub is_holds : Finding → Bool
is_holds holds = true
is_holds (broken k i) = false
is_holds no_rule = false

-- for callers in other languages: a number, and what it names, 0 where it names nothing
abbrev pub finding_number : Finding → ℕ
finding_number holds = 0
finding_number (broken k i) = 1
finding_number no_rule = 2

abbrev pub finding_part : Finding → ℕ
finding_part holds = 0
finding_part (broken k i) = k
finding_part no_rule = 0

abbrev pub finding_place : Finding → ℕ
finding_place holds = 0
finding_place (broken k i) = i
finding_place no_rule = 0

-- in the first of these parts, counted from k, that has a place where the test fails
unfoldable pub broken_from : ℕ → List RulePart → Finding
broken_from k [] = holds
broken_from k (p ∷ ps) = pick (ltb (first_failing p) (places_in p)) (broken k (first_failing p)) (broken_from (suc k) ps)

unfoldable pub first_broken : ℕ → State → Finding
first_broken n s = pick (leb 1 n && ltb n (suc last_rule)) (broken_from 0 (parts_of n s)) no_rule
