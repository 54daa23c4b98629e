-- The worked calls of feed, by computation.
-- Assumes nothing.
use mathlib.Core.Path.{◌≡◌, refl}
use mathlib.Core.List.{map}
use Rattle.laws.specs.Search.{first_from}
use Rattle.model.specs.Pieces.{piece_refusal}
use Rattle.model.specs.PieceSamples.{PieceSample, worked, piece_samples}

-- each answers what its row says
pub samples_answer : map (λ (x : PieceSample). (worked x).fed) piece_samples ≡ map (λ (x : PieceSample). x.fed) piece_samples
unfolding piece_refusal first_from
samples_answer = refl

-- and keeps it
pub samples_keep : map (λ (x : PieceSample). (worked x).kept) piece_samples ≡ map (λ (x : PieceSample). x.after) piece_samples
unfolding piece_refusal first_from
samples_keep = refl
