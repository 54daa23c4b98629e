-- docs/HOST.md, "Valid states": the eleven rules as tests, each at every place of its list, in the order that docs/RULES.md states: the test at a place,
-- and that it passes at each.
-- Assumes nothing.
use Rattle.std.specs.Prelude.{Bool, ◌&&◌, ◌||◌, not, List, [], ◌∷◌, ℕ, suc, ◌+◌, ◌*◌, ◌/◌, ◌%◌, ◌^◌, ltb, leb, eqb}
use Rattle.std.specs.Bool.{beq}
use Rattle.laws.specs.Choice.{pick, at, ◌⇒◌}
use Rattle.laws.specs.Search.{some_below, all_below, some_in, all_in}
use Rattle.laws.specs.Bits.{marks}
use Rattle.model.specs.Sizes.{guests, physicals, pages, addresses, first_host_page, first_free_page, ways, lines, sets, slots, stealth, stealth_set, reserved, set_of, slot_of, calls, call_a_bound, call_b_bound, marks_bound, policies, value_bound}
use Rattle.model.specs.Names.{owner_none, owner_host, owner_guest, kind_none, kind_data, kind_table, running, write_through}
use Rattle.model.specs.State.{State, lead, is_page, nowhere, stealth_line, line_at, maps_page}
use Rattle.model.specs.History.{start, histories}
use Rattle.model.specs.Records.{within, row_of, kind_of_call}

-- the place is empty, or leads to a page that passes the test
abbrev pub leads_to : ℕ → (ℕ → Bool) → Bool
leads_to e t = eqb e 0 || (is_page (lead e) && t (lead e))

abbrev pub stored : ℕ → Bool
stored c = leb 1 c && ltb c calls

abbrev pub fits : ℕ → ℕ → ℕ → Bool
fits c a b = within (row_of (kind_of_call c)) a b

-- 1, at guest g
abbrev pub rule1_at : List ℕ → List ℕ → List ℕ → ℕ → ℕ → ℕ → Bool
rule1_at call call_a call_b active mode g =
    (eqb g active && eqb mode running ⇒ not (stored (at call g))) && (stored (at call g) ⇒ fits (at call g) (at call_a g) (at call_b g))

unfoldable pub rule1? : List ℕ → List ℕ → List ℕ → ℕ → ℕ → Bool
rule1? call call_a call_b active mode = all_below guests (λ g. rule1_at call call_a call_b active mode g)

-- 2, at page p
abbrev pub rule2_at : List ℕ → List ℕ → List ℕ → List ℕ → ℕ → ℕ → Bool
rule2_at owner kind cacheable memory free p =
    beq (leb first_host_page p && ltb p first_free_page) (eqb (at owner p) owner_host)
    && (eqb (at owner p) owner_host ⇒ eqb (at kind p) kind_data && eqb (at cacheable p) 1 && eqb (at memory p) 0)
    && (eqb (at owner p) owner_none ⇒ eqb (at kind p) kind_none && eqb (at cacheable p) 1 && eqb (at memory p) 0)
    && beq (marks free p) (eqb (at owner p) owner_none)
    && (leb (owner_guest 0) (at owner p) && ltb (at owner p) (owner_guest guests) ⇒ eqb (at kind p) kind_data || eqb (at kind p) kind_table)
    && (eqb (at kind p) kind_table ⇒ eqb (at cacheable p) 1 && eqb (at memory p) 0)

unfoldable pub rule2? : List ℕ → List ℕ → List ℕ → List ℕ → ℕ → Bool
rule2? owner kind cacheable memory free = all_below pages (λ p. rule2_at owner kind cacheable memory free p)

-- 3, at physical address i, which holds e
abbrev pub rule3_at : List ℕ → List ℕ → ℕ → ℕ → Bool
rule3_at owner physical i e =
    leads_to e (λ p. eqb (at owner p) (owner_guest (i / physicals))
    && all_below physicals (λ pb. eqb (at physical (physicals * (i / physicals) + pb)) (suc p) ⇒ eqb (i % physicals) pb))

-- and at page p
abbrev pub rule3_at_page : List ℕ → List ℕ → ℕ → Bool
rule3_at_page owner physical p =
    all_below guests (λ g. eqb (at owner p) (owner_guest g) ⇒ some_below physicals (λ pa. eqb (at physical (physicals * g + pa)) (suc p)))

unfoldable pub rule3? : List ℕ → List ℕ → Bool
rule3? owner physical = all_in (λ i e. rule3_at owner physical i e) physical && all_below pages (λ p. rule3_at_page owner physical p)

-- 4, at entry i, which is e
abbrev pub rule4_at : List ℕ → List ℕ → ℕ → ℕ → Bool
rule4_at owner kind i e =
    leads_to e (λ p. eqb (at kind (i / addresses)) kind_table && not (reserved (i % addresses)) && eqb (at kind p) kind_data
    && ltb (at owner (i / addresses)) (owner_guest guests)
    && eqb (at owner p) (at owner (i / addresses)))

unfoldable pub rule4? : List ℕ → List ℕ → List ℕ → Bool
rule4? owner kind entry = all_in (λ i e. rule4_at owner kind i e) entry

-- 5, at guest g
abbrev pub rule5_at : List ℕ → List ℕ → List ℕ → List ℕ → ℕ → Bool
rule5_at owner kind physical current g =
    ltb (at current g) physicals
    && is_page (lead (at physical (physicals * g + at current g)))
    && eqb (at kind (lead (at physical (physicals * g + at current g)))) kind_table
    && eqb (at owner (lead (at physical (physicals * g + at current g)))) (owner_guest g)

unfoldable pub rule5? : List ℕ → List ℕ → List ℕ → List ℕ → Bool
rule5? owner kind physical current = all_below guests (λ g. rule5_at owner kind physical current g)

-- some table maps page p, and some table maps it at another address
unfoldable pub maps_twice : List ℕ → List ℕ → ℕ → Bool
maps_twice kind entry p =
    some_in (λ i e. eqb e (suc p) && eqb (at kind (i / addresses)) kind_table && maps_page kind entry (λ v. not (eqb v (i % addresses))) p) entry

-- 6, at page p
abbrev pub rule6_at : List ℕ → List ℕ → List ℕ → ℕ → Bool
rule6_at kind cacheable entry p =
    (eqb (at kind p) kind_data && eqb (at cacheable p) 1 ⇒ not (maps_twice kind entry p))
    && (eqb (at cacheable p) 1 || not (maps_page kind entry (λ v. eqb v stealth) p))

unfoldable pub rule6? : List ℕ → List ℕ → List ℕ → Bool
rule6? kind cacheable entry = all_below pages (λ p. rule6_at kind cacheable entry p)

-- 7, at line i
abbrev pub rule7_at : List ℕ → List ℕ → List ℕ → List ℕ → List ℕ → ℕ → Bool
rule7_at kind cacheable entry line_address line_page i =
    leads_to (at line_page i) (λ p. ltb (at line_address i) addresses && eqb (set_of (at line_address i)) (i / ways)
    && eqb (at cacheable p) 1
    && eqb (at kind p) kind_data
    && maps_page kind entry (λ v. eqb v (at line_address i)) p
    && all_below lines (λ j. eqb (at line_page j) (suc p) && eqb (at line_address i) (at line_address j) ⇒ eqb i j))

unfoldable pub rule7? : List ℕ → List ℕ → List ℕ → List ℕ → List ℕ → Bool
rule7? kind cacheable entry line_address line_page = all_below lines (λ i. rule7_at kind cacheable entry line_address line_page i)

-- 8, at slot i, for the table in force m
abbrev pub rule8_at : List ℕ → List ℕ → List ℕ → ℕ → ℕ → Bool
rule8_at entry slot_address slot_page m i =
    leads_to (at slot_page i) (λ p. ltb (at slot_address i) addresses && eqb (slot_of (at slot_address i)) i && is_page m
    && eqb (at entry (addresses * m + at slot_address i)) (suc p))

unfoldable pub rule8? : List ℕ → List ℕ → List ℕ → ℕ → Bool
rule8? entry slot_address slot_page m = all_below slots (λ i. rule8_at entry slot_address slot_page m i)

-- the page to which table m leads from the stealth address
abbrev pub stealth_page : List ℕ → ℕ → ℕ
stealth_page entry m = pick (is_page m) (lead (at entry (addresses * m + stealth))) nowhere

-- 9, at way w of set 7, for the table in force m
abbrev pub rule9_at_way : List ℕ → List ℕ → List ℕ → ℕ → ℕ → Bool
rule9_at_way entry line_address line_page m w =
    pick (eqb w 0 && is_page (stealth_page entry m))
    (eqb (at line_page stealth_line) (suc (stealth_page entry m)) && eqb (at line_address stealth_line) stealth)
    (eqb (at line_page (line_at stealth_set w)) 0)

-- and at its history
abbrev pub rule9_at_history : List ℕ → Bool
rule9_at_history history = eqb (at history stealth_set) start

unfoldable pub rule9? : List ℕ → List ℕ → List ℕ → List ℕ → ℕ → Bool
rule9? entry line_address line_page history m =
    all_below ways (λ w. rule9_at_way entry line_address line_page m w) && rule9_at_history history

-- every list of the state, with its size and the bound of its numbers, in the order of docs/STATE.md
pub record Column : Type 0 where
  pub numbers : List ℕ
  pub size : ℕ
  pub bound : ℕ

abbrev pub column : List ℕ → ℕ → ℕ → Column
column l n b = record { numbers = l; size = n; bound = b }

unfoldable pub columns : State → List Column
columns s =
    let P = s.shape.pages in
    let G = s.shape.guests in
    let C = s.shape.cache in
    let T = s.shape.tlb in
    column P.owner pages (owner_guest guests)
    ∷ column P.kind pages (suc kind_table)
    ∷ column P.cacheable pages marks_bound
    ∷ column P.entry (pages * addresses) (suc pages)
    ∷ column P.physical (guests * physicals) (suc pages)
    ∷ column (P.free ∷ []) 1 (2 ^ pages)
    ∷ column G.current guests physicals
    ∷ column G.call guests calls
    ∷ column G.call_a guests call_a_bound
    ∷ column G.call_b guests call_b_bound
    ∷ column (G.active ∷ []) 1 guests
    ∷ column (G.mode ∷ []) 1 (suc running)
    ∷ column C.line_address lines addresses
    ∷ column C.line_page lines (suc pages)
    ∷ column C.history sets histories
    ∷ column T.slot_address slots addresses
    ∷ column T.slot_page slots (suc pages)
    ∷ column s.values.memory pages value_bound
    ∷ column s.values.line lines value_bound
    ∷ column (s.shape.policy ∷ []) 1 policies
    ∷ []

-- 10, at a number below that bound
abbrev pub rule10_at : ℕ → ℕ → Bool
rule10_at bound x = ltb x bound

abbrev pub in_range : Column → Bool
in_range c = all_in (λ i x. rule10_at c.bound x) c.numbers

-- at guest g's call with its arguments, at line i and at slot i where they are empty
abbrev pub rule10_at_call : State → ℕ → Bool
rule10_at_call s g = let G = s.shape.guests in fits (at G.call g) (at G.call_a g) (at G.call_b g)

abbrev pub rule10_at_line : State → ℕ → Bool
rule10_at_line s i = let C = s.shape.cache in eqb (at C.line_page i) 0 ⇒ eqb (at C.line_address i) 0 && eqb (at s.values.line i) 0

abbrev pub rule10_at_slot : State → ℕ → Bool
rule10_at_slot s i = let T = s.shape.tlb in eqb (at T.slot_page i) 0 ⇒ eqb (at T.slot_address i) 0

unfoldable pub rule10? : State → Bool
rule10? s =
    all_in (λ i c. in_range c) (columns s) && all_below guests (λ g. rule10_at_call s g) && all_below lines (λ i. rule10_at_line s i)
    && all_below slots (λ i. rule10_at_slot s i)

-- 11, at line i
abbrev pub rule11_at : List ℕ → List ℕ → List ℕ → ℕ → ℕ → Bool
rule11_at line_page memory line policy i =
    eqb policy write_through && is_page (lead (at line_page i)) ⇒ eqb (at line i) (at memory (lead (at line_page i)))

unfoldable pub rule11? : List ℕ → List ℕ → List ℕ → ℕ → Bool
rule11? line_page memory line policy = all_below lines (λ i. rule11_at line_page memory line policy i)
