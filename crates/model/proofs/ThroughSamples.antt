-- The samples under write-through pass, by computation.
-- Assumes nothing.
use mathlib.Core.Path.{◌≡◌, refl}
use mathlib.Core.Bool.{true}
use Rattle.laws.specs.Search.{first_from, seek_from, list_from}
use Rattle.laws.specs.Bits.{bit, marked, unmarked}
use Rattle.model.specs.State.{table, maps_page, hit_way, line_of_page, present}
use Rattle.model.specs.Fresh.{fresh_pages, fresh_guests, fresh_cache, fresh_with}
use Rattle.model.specs.Records.{decode}
use Rattle.model.specs.Checks.{has_entries, lowest_free, asked}
use Rattle.model.specs.Parts.{take_out, take_out_page, enter, way_for, load_stealth}
use Rattle.model.specs.Read.{access_way, miss_line, access_history, read_step}
use Rattle.model.specs.Write.{store, write_step}
use Rattle.model.specs.New.{share, new_step}
use Rattle.model.specs.NewSm.{new_sm_step}
use Rattle.model.specs.Del.{del_step}
use Rattle.model.specs.Switch.{switch_step}
use Rattle.model.specs.Lswitch.{lswitch_step}
use Rattle.model.specs.Hcall.{hcall_step}
use Rattle.model.specs.RetCtrl.{ret_ctrl_step}
use Rattle.model.specs.Chmod.{chmod_step}
use Rattle.model.specs.Pin.{pin_step}
use Rattle.model.specs.Unpin.{unpin_step}
use Rattle.model.specs.Drop.{drop_step}
use Rattle.model.specs.Step.{own_checks, refusal, next, value, act, judge}
use Rattle.model.specs.Samples.{passes, all_pass, groups_pass}
use Rattle.model.specs.ThroughSamples.{through_samples, through_pass}

pub through_pass_law : through_pass judge ≡ true
unfolding first_from seek_from list_from bit marked unmarked table maps_page hit_way line_of_page present fresh_pages fresh_guests fresh_cache fresh_with decode has_entries lowest_free asked take_out take_out_page enter way_for load_stealth access_way miss_line access_history read_step store write_step share new_step new_sm_step del_step switch_step lswitch_step hcall_step ret_ctrl_step chmod_step pin_step unpin_step drop_step own_checks refusal next value act judge passes all_pass groups_pass through_samples through_pass
through_pass_law = refl
