-- The tests of images pass, by computation.
-- Assumes nothing.
use mathlib.Core.Path.{◌≡◌, refl}
use mathlib.Core.Bool.{true, ◌&&◌}
use Rattle.laws.specs.Search.{first_from, seek_from, list_from}
use Rattle.laws.specs.Bits.{bit, marked, unmarked}
use Rattle.model.specs.State.{table, maps_page, hit_way, line_of_page, present}
use Rattle.model.specs.Fresh.{fresh_pages, fresh_guests, fresh_cache, fresh_with}
use Rattle.model.specs.Records.{decode}
use Rattle.model.specs.RuleTests.{rule1?, rule2?, rule3?, rule4?, rule5?, maps_twice, rule6?, rule7?, rule8?, rule9?, columns, rule10?, rule11?}
use Rattle.model.specs.Valid.{sized?, valid?}
use Rattle.model.specs.Checks.{has_entries, lowest_free, asked}
use Rattle.model.specs.Parts.{take_out, take_out_page, enter, way_for}
use Rattle.model.specs.Read.{access_way, miss_line, access_history, read_step}
use Rattle.model.specs.Write.{store, write_step}
use Rattle.model.specs.New.{share, new_step}
use Rattle.model.specs.Hcall.{hcall_step}
use Rattle.model.specs.Chmod.{chmod_step}
use Rattle.model.specs.Pin.{pin_step}
use Rattle.model.specs.Step.{own_checks, refusal, next, value, act, judge}
use Rattle.model.specs.Fields.{words, words_bytes}
use Rattle.model.specs.Image.{is_image, image_of, held, loaded, saved}
use Rattle.model.specs.Samples.{passes}
use Rattle.damage.specs.Images.{offsets_right, bounds_right, heads_right, nine_held, nine_loads, nine_saves, nine_through, nine_first, nine_lengths, through_held, after_nine, nine_kept, nine_versions, through_kept}

pub places_told : offsets_right && bounds_right && heads_right ≡ true
unfolding first_from seek_from is_image offsets_right bounds_right heads_right
places_told = refl

pub nine_kept_law : nine_kept ≡ true
unfolding first_from seek_from list_from bit marked unmarked table maps_page hit_way line_of_page present fresh_pages fresh_guests fresh_cache fresh_with decode rule1? rule2? rule3? rule4? rule5? maps_twice rule6? rule7? rule8? rule9? columns rule10? rule11? sized? valid? has_entries lowest_free asked take_out take_out_page enter way_for access_way miss_line access_history read_step store write_step share new_step hcall_step chmod_step pin_step own_checks refusal next value act judge words words_bytes is_image image_of held loaded saved passes nine_held nine_loads nine_saves after_nine nine_kept
nine_kept_law = refl

pub nine_versions_law : nine_versions ≡ true
unfolding first_from seek_from list_from bit marked unmarked table maps_page hit_way line_of_page present fresh_pages fresh_guests fresh_cache fresh_with decode rule1? rule2? rule3? rule4? rule5? maps_twice rule6? rule7? rule8? rule9? columns rule10? rule11? sized? valid? has_entries lowest_free asked take_out take_out_page enter way_for access_way miss_line access_history read_step store write_step share new_step hcall_step chmod_step pin_step own_checks refusal next value act judge words words_bytes is_image image_of held loaded saved passes nine_through nine_first nine_lengths after_nine nine_versions
nine_versions_law = refl

pub through_kept_law : through_kept ≡ true
unfolding first_from seek_from list_from bit marked unmarked table maps_page hit_way line_of_page present fresh_pages fresh_guests fresh_cache fresh_with decode rule1? rule2? rule3? rule4? rule5? maps_twice rule6? rule7? rule8? rule9? columns rule10? rule11? sized? valid? has_entries lowest_free asked take_out take_out_page enter way_for access_way miss_line access_history read_step store write_step share new_step hcall_step chmod_step pin_step own_checks refusal next value act judge words words_bytes is_image image_of held loaded saved passes through_held after_nine through_kept
through_kept_law = refl
