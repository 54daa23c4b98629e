-- The samples pass, by computation. Records are judged without check 1, which `keeps` shows to apply nowhere here.
-- Assumes nothing.
use mathlib.Core.Path.{◌≡◌, refl}
use mathlib.Core.Bool.{true, ◌&&◌}
use mathlib.Core.List.{List, [], ◌∷◌}
use Prim.Native.Nat.{ℕ}
use lib.ListN.{get_or}
use Rattle.laws.proofs.Search.{Each}
use Rattle.laws.specs.Search.{first_from, seek_from, list_from}
use Rattle.laws.specs.Bits.{bit, marked, unmarked}
use Rattle.model.specs.State.{table, maps_page, hit_way, line_of_page, present}
use Rattle.model.specs.Fresh.{fresh_pages, fresh_guests, fresh_cache, fresh_with, fresh}
use Rattle.model.specs.Records.{decode}
use Rattle.model.specs.Checks.{has_entries, lowest_free, asked}
use Rattle.model.specs.Parts.{take_out, take_out_page, enter, way_for, load_stealth}
use Rattle.model.specs.Read.{access_way, miss_line, access_history, read_step}
use Rattle.model.specs.Write.{store, write_step}
use Rattle.model.specs.New.{share, new_step}
use Rattle.model.specs.NewSm.{new_sm_step}
use Rattle.model.specs.Del.{del_step}
use Rattle.model.specs.Switch.{switch_step}
use Rattle.model.specs.Lswitch.{lswitch_step}
use Rattle.model.specs.Hcall.{hcall_step}
use Rattle.model.specs.RetCtrl.{ret_ctrl_step}
use Rattle.model.specs.Chmod.{chmod_step}
use Rattle.model.specs.Pin.{pin_step}
use Rattle.model.specs.Unpin.{unpin_step}
use Rattle.model.specs.Drop.{drop_step}
use Rattle.model.specs.Step.{own_checks, refusal, next, value, act, judge}
use Rattle.model.specs.Run.{run_by}
use Rattle.model.specs.Journal.{has_header, form_refusal}
use Rattle.model.specs.Samples.{Group, after, passes, all_pass, groups_pass, samples, nine_right, nine_played, journals_pass, all_samples}

-- a group of them: each by itself, so that one that fails is the only one to be computed again
abbrev group_at : ℕ → Group
group_at n = get_or samples n (after [] [])

abbrev Passes : Group → Type 0
Passes g = passes judge fresh g.start (λ t. all_pass judge t g.rows) ≡ true

group0 : Passes (group_at 0)
unfolding first_from seek_from list_from bit marked unmarked table maps_page hit_way line_of_page present fresh_pages fresh_guests fresh_cache fresh_with decode has_entries lowest_free asked take_out take_out_page enter way_for load_stealth access_way miss_line access_history read_step store write_step share new_step new_sm_step del_step switch_step lswitch_step hcall_step ret_ctrl_step chmod_step pin_step unpin_step drop_step own_checks refusal next value act judge passes all_pass samples
group0 = refl

group1 : Passes (group_at 1)
unfolding first_from seek_from list_from bit marked unmarked table maps_page hit_way line_of_page present fresh_pages fresh_guests fresh_cache fresh_with decode has_entries lowest_free asked take_out take_out_page enter way_for load_stealth access_way miss_line access_history read_step store write_step share new_step new_sm_step del_step switch_step lswitch_step hcall_step ret_ctrl_step chmod_step pin_step unpin_step drop_step own_checks refusal next value act judge passes all_pass samples
group1 = refl

group2 : Passes (group_at 2)
unfolding first_from seek_from list_from bit marked unmarked table maps_page hit_way line_of_page present fresh_pages fresh_guests fresh_cache fresh_with decode has_entries lowest_free asked take_out take_out_page enter way_for load_stealth access_way miss_line access_history read_step store write_step share new_step new_sm_step del_step switch_step lswitch_step hcall_step ret_ctrl_step chmod_step pin_step unpin_step drop_step own_checks refusal next value act judge passes all_pass samples
group2 = refl

group3 : Passes (group_at 3)
unfolding first_from seek_from list_from bit marked unmarked table maps_page hit_way line_of_page present fresh_pages fresh_guests fresh_cache fresh_with decode has_entries lowest_free asked take_out take_out_page enter way_for load_stealth access_way miss_line access_history read_step store write_step share new_step new_sm_step del_step switch_step lswitch_step hcall_step ret_ctrl_step chmod_step pin_step unpin_step drop_step own_checks refusal next value act judge passes all_pass samples
group3 = refl

group4 : Passes (group_at 4)
unfolding first_from seek_from list_from bit marked unmarked table maps_page hit_way line_of_page present fresh_pages fresh_guests fresh_cache fresh_with decode has_entries lowest_free asked take_out take_out_page enter way_for load_stealth access_way miss_line access_history read_step store write_step share new_step new_sm_step del_step switch_step lswitch_step hcall_step ret_ctrl_step chmod_step pin_step unpin_step drop_step own_checks refusal next value act judge passes all_pass samples
group4 = refl

group5 : Passes (group_at 5)
unfolding first_from seek_from list_from bit marked unmarked table maps_page hit_way line_of_page present fresh_pages fresh_guests fresh_cache fresh_with decode has_entries lowest_free asked take_out take_out_page enter way_for load_stealth access_way miss_line access_history read_step store write_step share new_step new_sm_step del_step switch_step lswitch_step hcall_step ret_ctrl_step chmod_step pin_step unpin_step drop_step own_checks refusal next value act judge passes all_pass samples
group5 = refl

groups_pass_law : (gs : List Group) → Each Passes gs → groups_pass judge fresh gs ≡ true
unfolding groups_pass
groups_pass_law [] h = refl
groups_pass_law (g ∷ gs) h = rw (groups_pass, h.0) (groups_pass_law gs h.1)

all_groups : groups_pass judge fresh samples ≡ true
unfolding samples
all_groups = groups_pass_law samples (group0, (group1, (group2, (group3, (group4, (group5, tt))))))

nine_played_law : nine_played judge ≡ true
unfolding first_from seek_from list_from bit marked unmarked table maps_page hit_way line_of_page present fresh_pages fresh_guests fresh_cache fresh_with decode has_entries lowest_free asked take_out take_out_page enter way_for load_stealth access_way miss_line access_history read_step store write_step share new_step new_sm_step del_step switch_step lswitch_step hcall_step ret_ctrl_step chmod_step pin_step unpin_step drop_step own_checks refusal next value act judge passes run_by nine_right
nine_played_law = refl

runs_pass : groups_pass judge fresh samples && nine_played judge ≡ true
runs_pass = rw (all_groups, nine_played_law)

journals_pass_law : journals_pass ≡ true
unfolding seek_from first_from has_header form_refusal journals_pass
journals_pass_law = refl

-- the whole table, one statement
pub samples_pass : all_samples judge ≡ true
unfolding all_samples
samples_pass = rw (runs_pass, journals_pass_law)
