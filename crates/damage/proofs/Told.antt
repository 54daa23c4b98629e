-- The table of damaged states with all eleven rules, by computation.
-- Assumes nothing.
use mathlib.Core.Path.{◌≡◌, refl, sym, ap, ◌∙◌, subst}
use mathlib.Core.Bool.{Bool, true, false, ◌&&◌, ◌||◌, not, beq, false≢true}
use mathlib.Core.List.{List, [], ◌∷◌}
use Prim.Native.Nat.{ℕ}
use lib.Dec.{eqb}
use lib.ListN.{set}
use Rattle.laws.specs.Choice.{at}
use Rattle.laws.specs.Search.{first_from, seek_from, list_from, some_in, all_in}
use Rattle.laws.specs.Bits.{bit, marked, unmarked}
use Rattle.model.specs.State.{State, table, maps_page, hit_way, line_of_page, present}
use Rattle.model.specs.Fresh.{fresh_pages, fresh_guests, fresh_cache, fresh_with, fresh}
use Rattle.model.specs.Records.{decode}
use Rattle.model.specs.RuleTests.{rule1?, rule2?, rule3?, rule4?, rule5?, maps_twice, rule6?, rule7?, rule8?, rule9?, columns, rule10?, rule11?}
use Rattle.model.specs.Valid.{sized?, valid?}
use Rattle.model.specs.Checks.{has_entries, lowest_free, asked}
use Rattle.model.specs.Parts.{take_out, take_out_page, enter, way_for}
use Rattle.model.specs.Read.{access_way, miss_line, access_history, read_step}
use Rattle.model.specs.Write.{store, write_step}
use Rattle.model.specs.New.{share, new_step}
use Rattle.model.specs.NewSm.{new_sm_step}
use Rattle.model.specs.Hcall.{hcall_step}
use Rattle.model.specs.Chmod.{chmod_step}
use Rattle.model.specs.Pin.{pin_step}
use Rattle.model.specs.Step.{Outcome, number_of, value_of, own_checks, refusal, next, value, act, judge, step}
use Rattle.model.specs.Journal.{has_header, form_refusal, journal_refusal}
use Rattle.model.specs.Samples.{Exchange, passes}
use Rattle.model.specs.Damage.{rule_tests, rule_test, Change, change, changed_by, changed, Damage}
use Rattle.model.specs.Damaged.{fresh_calls, fresh_owners, fresh_addresses, fresh_mapped, fresh_numbers, in_use, used_entries, used_lines, used_slots, used_policies, all_damaged, damaged}
use Rattle.damage.specs.Told.{told, valid_ends, fresh_judged}

-- ---- rule 6, which costs most, is computed where a change touches the lists that it reads, and is the base's elsewhere

touched : List Change → Bool
touched [] = false
touched (c ∷ cs) = (eqb c.column 1 || eqb c.column 2 || eqb c.column 3) || touched cs

neither : (a b : Bool) → (a || b) ≡ false → (a ≡ false) × (b ≡ false)
neither true b e = absurd (false≢true (sym e))
neither false b e = (refl, e)

-- a change of another list
unchanged : (c : Change) (n : ℕ) (l : List ℕ) → eqb c.column n ≡ false → change c n l ≡ l
unchanged c n l e = subst (λ (b : Bool). elim b [ true ↦ set l c.place (c.to (at l c.place)) | false ↦ l ] ≡ l) (sym e) refl

untouched : (cs : List Change) (s : State) → touched cs ≡ false → rule_test 6 (changed s cs) ≡ rule_test 6 s
unfolding touched changed rule_tests
untouched [] s e = refl
untouched (c ∷ cs) s e =
    let d = neither (eqb c.column 1 || eqb c.column 2 || eqb c.column 3) (touched cs) e in
    let f = neither (eqb c.column 1 || eqb c.column 2) (eqb c.column 3) d.0 in
    let g = neither (eqb c.column 1) (eqb c.column 2) f.0 in
    let P = s.shape.pages in
    let q : rule_test 6 (changed_by s c) ≡ rule_test 6 s =
    λ k. rule6? (unchanged c 1 P.kind g.0 k) (unchanged c 2 P.cacheable g.1 k) (unchanged c 3 P.entry f.1 k) in
    untouched cs (changed_by s c) d.1 ∙ q

-- what a row says, with b for rule 6
told_by : Bool → State → Damage → Bool
told_by b s d = all_in (λ n t. beq (t s) (not (some_in (λ i k. eqb k n) d.broken))) (set rule_tests 6 (λ r. b))

told_by_law : (s : State) (d : Damage) → told_by (rule_test 6 s) s d ≡ told s d
unfolding told told_by rule_tests seek_from
told_by_law s d = refl

cheap : State → Damage → Bool
cheap s d = told_by (elim (touched d.changes) [ true ↦ rule_test 6 (changed s d.changes) | false ↦ true ]) (changed s d.changes) d

all_cheap : State → List Damage → Bool
all_cheap s ds = all_in (λ i d. cheap s d) ds

cheap_told : (s : State) (d : Damage) → rule_test 6 s ≡ true → cheap s d ≡ told (changed s d.changes) d
unfolding cheap
cheap_told s d h =
    ap (λ (b : Bool). told_by b (changed s d.changes) d) (either (touched d.changes) refl) ∙ told_by_law (changed s d.changes) d
  where
    either : (b : Bool) → touched d.changes ≡ b
        → elim b [ true ↦ rule_test 6 (changed s d.changes) | false ↦ true ] ≡ rule_test 6 (changed s d.changes)
    either true e = refl
    either false e = sym (untouched d.changes s e ∙ h)

all_told : (s : State) (ds : List Damage) → rule_test 6 s ≡ true → all_cheap s ds ≡ all_damaged told s ds
unfolding all_cheap all_damaged
all_told s ds h = ap (λ (f : ℕ → Damage → Bool). all_in f ds) (λ k i d. cheap_told s d h k)

-- ---- parts of the table, each small enough for one computation

fresh_six : rule_test 6 fresh ≡ true
unfolding first_from seek_from list_from bit marked unmarked table maps_page fresh_pages fresh_guests fresh_cache fresh_with rule1? rule2? rule3? rule4? rule5? maps_twice rule6? rule7? rule8? rule9? columns rule10? rule11? sized? rule_tests
fresh_six = refl

calls_told : all_cheap fresh fresh_calls ≡ true
unfolding first_from seek_from list_from bit marked unmarked table maps_page fresh_pages fresh_guests fresh_cache fresh_with rule1? rule2? rule3? rule4? rule5? maps_twice rule6? rule7? rule8? rule9? columns rule10? rule11? sized? rule_tests changed told told_by cheap touched all_cheap fresh_calls
calls_told = refl

owners_told : all_cheap fresh fresh_owners ≡ true
unfolding first_from seek_from list_from bit marked unmarked table maps_page fresh_pages fresh_guests fresh_cache fresh_with rule1? rule2? rule3? rule4? rule5? maps_twice rule6? rule7? rule8? rule9? columns rule10? rule11? sized? rule_tests changed told told_by cheap touched all_cheap fresh_owners
owners_told = refl

addresses_told : all_cheap fresh fresh_addresses ≡ true
unfolding first_from seek_from list_from bit marked unmarked table maps_page fresh_pages fresh_guests fresh_cache fresh_with rule1? rule2? rule3? rule4? rule5? maps_twice rule6? rule7? rule8? rule9? columns rule10? rule11? sized? rule_tests changed told told_by cheap touched all_cheap fresh_addresses
addresses_told = refl

mapped_told : all_cheap fresh fresh_mapped ≡ true
unfolding first_from seek_from list_from bit marked unmarked table maps_page fresh_pages fresh_guests fresh_cache fresh_with rule1? rule2? rule3? rule4? rule5? maps_twice rule6? rule7? rule8? rule9? columns rule10? rule11? sized? rule_tests changed told told_by cheap touched all_cheap fresh_mapped
mapped_told = refl

numbers_told : all_cheap fresh fresh_numbers ≡ true
unfolding first_from seek_from list_from bit marked unmarked table maps_page fresh_pages fresh_guests fresh_cache fresh_with rule1? rule2? rule3? rule4? rule5? maps_twice rule6? rule7? rule8? rule9? columns rule10? rule11? sized? rule_tests changed told told_by cheap touched all_cheap fresh_numbers
numbers_told = refl

used_six : passes judge fresh in_use (rule_test 6) ≡ true
unfolding first_from seek_from list_from bit marked unmarked table maps_page fresh_pages fresh_guests fresh_cache fresh_with rule1? rule2? rule3? rule4? rule5? maps_twice rule6? rule7? rule8? rule9? columns rule10? rule11? sized? hit_way line_of_page present decode has_entries lowest_free asked take_out take_out_page enter way_for access_way miss_line access_history read_step store write_step share new_step new_sm_step hcall_step chmod_step pin_step own_checks refusal next value act judge passes rule_tests
used_six = refl

entries_told : passes judge fresh in_use (λ s. all_cheap s used_entries) ≡ true
unfolding first_from seek_from list_from bit marked unmarked table maps_page fresh_pages fresh_guests fresh_cache fresh_with rule1? rule2? rule3? rule4? rule5? maps_twice rule6? rule7? rule8? rule9? columns rule10? rule11? sized? hit_way line_of_page present decode has_entries lowest_free asked take_out take_out_page enter way_for access_way miss_line access_history read_step store write_step share new_step new_sm_step hcall_step chmod_step pin_step own_checks refusal next value act judge passes rule_tests changed told told_by cheap touched all_cheap used_entries
entries_told = refl

lines_told : passes judge fresh in_use (λ s. all_cheap s used_lines) ≡ true
unfolding first_from seek_from list_from bit marked unmarked table maps_page fresh_pages fresh_guests fresh_cache fresh_with rule1? rule2? rule3? rule4? rule5? maps_twice rule6? rule7? rule8? rule9? columns rule10? rule11? sized? hit_way line_of_page present decode has_entries lowest_free asked take_out take_out_page enter way_for access_way miss_line access_history read_step store write_step share new_step new_sm_step hcall_step chmod_step pin_step own_checks refusal next value act judge passes rule_tests changed told told_by cheap touched all_cheap used_lines
lines_told = refl

slots_told : passes judge fresh in_use (λ s. all_cheap s used_slots) ≡ true
unfolding first_from seek_from list_from bit marked unmarked table maps_page fresh_pages fresh_guests fresh_cache fresh_with rule1? rule2? rule3? rule4? rule5? maps_twice rule6? rule7? rule8? rule9? columns rule10? rule11? sized? hit_way line_of_page present decode has_entries lowest_free asked take_out take_out_page enter way_for access_way miss_line access_history read_step store write_step share new_step new_sm_step hcall_step chmod_step pin_step own_checks refusal next value act judge passes rule_tests changed told told_by cheap touched all_cheap used_slots
slots_told = refl

policies_told : passes judge fresh in_use (λ s. all_cheap s used_policies) ≡ true
unfolding first_from seek_from list_from bit marked unmarked table maps_page fresh_pages fresh_guests fresh_cache fresh_with rule1? rule2? rule3? rule4? rule5? maps_twice rule6? rule7? rule8? rule9? columns rule10? rule11? sized? hit_way line_of_page present decode has_entries lowest_free asked take_out take_out_page enter way_for access_way miss_line access_history read_step store write_step share new_step new_sm_step hcall_step chmod_step pin_step own_checks refusal next value act judge passes rule_tests changed told told_by cheap touched all_cheap used_policies
policies_told = refl

-- ---- the table

-- what follows from two tests of a run's end
both_pass : (f : State → List ℕ → Outcome) (s : State) (ls : List Exchange) (t u w : State → Bool)
    → ((r : State) → t r ≡ true → u r ≡ true → w r ≡ true) → passes f s ls t ≡ true → passes f s ls u ≡ true → passes f s ls w ≡ true
unfolding passes
both_pass f s [] t u w h a b = h s a b
both_pass f s (l ∷ ls) t u w h a b =
    let o = f s l.bytes in
    both (eqb (number_of o.answer) l.number && eqb (value_of o.answer) l.value) (λ x y. both_pass f o.state ls t u w h x y) a b
  where
    both : (c : Bool) {x y z : Bool} → (x ≡ true → y ≡ true → z ≡ true) → elim c [ true ↦ x | false ↦ false ] ≡ true
        → elim c [ true ↦ y | false ↦ false ] ≡ true → elim c [ true ↦ z | false ↦ false ] ≡ true
    both true h a b = h a b
    both false h a b = a

used_told : (ds : List Damage) → passes judge fresh in_use (λ s. all_cheap s ds) ≡ true → passes judge fresh in_use (λ s. all_damaged told s ds) ≡ true
used_told ds e =
    both_pass judge fresh in_use (rule_test 6) (λ s. all_cheap s ds) (λ s. all_damaged told s ds) (λ r a b. sym (all_told r ds a) ∙ b) used_six e

-- two parts of the table as one
also : (t u : State → Bool) → passes judge fresh in_use t ≡ true → passes judge fresh in_use u ≡ true → passes judge fresh in_use (λ s. t s && u s) ≡ true
also t u = both_pass judge fresh in_use t u (λ s. t s && u s) (λ r a b. rw (a, b))

-- on each row exactly the rules that it lists are broken
pub damage_told : damaged told ≡ true
unfolding damaged
damage_told =
    rw (
      sym (all_told fresh fresh_calls fresh_six) ∙ calls_told,
      sym (all_told fresh fresh_owners fresh_six) ∙ owners_told,
      sym (all_told fresh fresh_addresses fresh_six) ∙ addresses_told,
      sym (all_told fresh fresh_mapped fresh_six) ∙ mapped_told,
      sym (all_told fresh fresh_numbers fresh_six) ∙ numbers_told,
    )
    (also (λ s. all_damaged told s used_entries && all_damaged told s used_lines && all_damaged told s used_slots) (λ s. all_damaged told s used_policies)
    (also (λ s. all_damaged told s used_entries && all_damaged told s used_lines) (λ s. all_damaged told s used_slots)
    (also (λ s. all_damaged told s used_entries) (λ s. all_damaged told s used_lines) (used_told used_entries entries_told) (used_told used_lines lines_told))
    (used_told used_slots slots_told))
    (used_told used_policies policies_told))

-- ---- valid states

pub valid_ends_law : valid_ends ≡ true
unfolding first_from seek_from list_from bit marked unmarked table maps_page fresh_pages fresh_guests fresh_cache fresh_with rule1? rule2? rule3? rule4? rule5? maps_twice rule6? rule7? rule8? rule9? columns rule10? rule11? sized? hit_way line_of_page present decode has_entries lowest_free asked take_out take_out_page enter way_for access_way miss_line access_history read_step store write_step share new_step new_sm_step hcall_step chmod_step pin_step own_checks refusal next value act judge passes valid? valid_ends
valid_ends_law = refl

pub fresh_judged_law : fresh_judged ≡ true
unfolding first_from seek_from list_from bit marked unmarked table maps_page fresh_pages fresh_guests fresh_cache fresh_with rule1? rule2? rule3? rule4? rule5? maps_twice rule6? rule7? rule8? rule9? columns rule10? rule11? sized? valid? decode judge step has_header form_refusal journal_refusal fresh_judged
fresh_judged_law = refl
