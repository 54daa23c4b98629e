-- The table of damaged states, by computation; and that its tests are the test of validity.
-- Assumes nothing.
use mathlib.Core.Path.{◌≡◌, refl}
use mathlib.Core.Bool.{true, ◌&&◌}
use Rattle.laws.specs.Search.{first_from, seek_from, list_from}
use Rattle.laws.specs.Bits.{bit, marked, unmarked}
use Rattle.model.specs.State.{State, table, maps_page, hit_way, line_of_page, present}
use Rattle.model.specs.Fresh.{fresh_pages, fresh_guests, fresh_cache, fresh_with}
use Rattle.model.specs.Records.{decode}
use Rattle.model.specs.RuleTests.{rule1?, rule2?, rule3?, rule4?, rule5?, maps_twice, rule6?, rule7?, rule8?, rule9?, columns, rule10?, rule11?}
use Rattle.model.specs.Valid.{sized?, valid?}
use Rattle.model.specs.Checks.{has_entries, lowest_free, asked}
use Rattle.model.specs.Parts.{take_out, take_out_page, enter, way_for}
use Rattle.model.specs.Read.{access_way, miss_line, access_history, read_step}
use Rattle.model.specs.Write.{store, write_step}
use Rattle.model.specs.New.{share, new_step}
use Rattle.model.specs.NewSm.{new_sm_step}
use Rattle.model.specs.Hcall.{hcall_step}
use Rattle.model.specs.Chmod.{chmod_step}
use Rattle.model.specs.Pin.{pin_step}
use Rattle.model.specs.Step.{own_checks, refusal, next, value, act, judge, step}
use Rattle.model.specs.Journal.{has_header, form_refusal, journal_refusal}
use Rattle.model.specs.Samples.{passes}
use Rattle.model.specs.Damage.{rule_tests, rule_test, changed}
use Rattle.model.specs.Damaged.{fresh_calls, fresh_owners, fresh_addresses, fresh_mapped, fresh_numbers, used_entries, used_lines, used_slots, used_policies, all_damaged, damaged, seen, check_one_first}

-- the tests that the table is about are those of validity
pub valid_tests : (s : State) → valid? s ≡ (rule_test 0 s && rule_test 1 s && rule_test 2 s && rule_test 3 s && rule_test 4 s && rule_test 5 s && rule_test 6 s && rule_test 7 s
    && rule_test 8 s && rule_test 9 s && rule_test 10 s && rule_test 11 s)
unfolding valid? rule_tests
valid_tests s = refl

-- on each row the test of its own rule says what the row says
pub damage_seen : damaged seen ≡ true
unfolding first_from seek_from list_from bit marked unmarked table maps_page hit_way line_of_page present fresh_pages fresh_guests fresh_cache fresh_with decode rule1? rule2? rule3? rule4? rule5? maps_twice rule6? rule7? rule8? rule9? columns rule10? rule11? sized? has_entries lowest_free asked take_out take_out_page enter way_for access_way miss_line access_history read_step store write_step share new_step new_sm_step hcall_step chmod_step pin_step own_checks refusal next value act judge passes rule_tests changed fresh_calls fresh_owners fresh_addresses fresh_mapped fresh_numbers used_entries used_lines used_slots used_policies all_damaged damaged seen
damage_seen = refl

pub check_one_first_law : check_one_first ≡ true
unfolding first_from seek_from list_from fresh_pages fresh_guests fresh_cache fresh_with rule1? columns sized? valid? step has_header form_refusal journal_refusal changed check_one_first
check_one_first_law = refl
