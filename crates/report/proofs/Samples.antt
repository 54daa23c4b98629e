-- Each report of the table is its text, and its status: by computation.
-- Assumes nothing.
use mathlib.Core.Path.{◌≡◌, refl}
use mathlib.Core.List.{[], ◌∷◌, map}
use Rattle.laws.specs.Search.{first_from, seek_from, list_from}
use Rattle.laws.specs.Bits.{bit, marked, unmarked}
use Rattle.model.specs.Sizes.{policies}
use Rattle.model.specs.State.{table, maps_page}
use Rattle.model.specs.Fresh.{fresh_pages, fresh_guests, fresh_cache, fresh_with, fresh}
use Rattle.model.specs.Fields.{words, words_bytes}
use Rattle.model.specs.RuleTests.{maps_twice, columns}
use Rattle.model.specs.Damage.{policy, changed}
use Rattle.model.specs.Broken.{number_parts, rule_parts, broken_from, first_broken}
use Rattle.model.specs.Image.{is_image, image_of, held}
use Rattle.print.specs.Text.{digits, places_of}
use Rattle.words.specs.Words.{form_of, words_of}
use Rattle.report.specs.Report.{rule_lines, all_hold, state_lines, state_status, no_image_line, image_lines}
use Rattle.report.specs.Samples.{Sample, policy_text, samples, refused_text}

pub texts_told : map (λ (x : Sample). state_lines (changed fresh x.changes)) samples ≡ map (λ (x : Sample). x.text) samples
unfolding first_from seek_from list_from bit marked unmarked table maps_page fresh_pages fresh_guests fresh_cache fresh_with maps_twice columns changed number_parts rule_parts broken_from first_broken digits places_of form_of words_of rule_lines
texts_told = refl

pub statuses_told : map (λ (x : Sample). state_status (changed fresh x.changes)) samples ≡ map (λ (x : Sample). x.status) samples
unfolding first_from seek_from list_from bit marked unmarked table maps_page fresh_pages fresh_guests fresh_cache fresh_with maps_twice columns changed number_parts rule_parts broken_from first_broken all_hold
statuses_told = refl

-- and so of an image, whose state may be anything
pub damaged_told : image_lines (image_of (changed fresh (policy policies ∷ []))) ≡ policy_text
unfolding first_from seek_from list_from bit marked unmarked table maps_page fresh_pages fresh_guests fresh_cache fresh_with maps_twice columns changed number_parts rule_parts broken_from first_broken digits places_of form_of words_of rule_lines words words_bytes image_of is_image held
damaged_told = refl

-- of what is no image
pub refused_told : no_image_line ≡ refused_text
unfolding first_from digits places_of
refused_told = refl
