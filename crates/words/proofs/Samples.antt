-- Each line of the table is its text: one computation.
-- Assumes nothing.
use mathlib.Core.Path.{◌≡◌, refl}
use mathlib.Core.List.{map}
use Rattle.laws.specs.Search.{first_from}
use Rattle.print.specs.Text.{digits, places_of}
use Rattle.words.specs.Words.{form_of, words_of}
use Rattle.words.specs.Samples.{Sample, samples}

pub samples_hold : map (λ (s : Sample). s.line) samples ≡ map (λ (s : Sample). s.text) samples
unfolding first_from digits places_of form_of words_of
samples_hold = refl
