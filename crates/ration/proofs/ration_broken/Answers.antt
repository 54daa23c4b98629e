-- The finding's numbers are the model's.
-- Assumes nothing.
use mathlib.Core.Path.{ap, ◌∙◌}
use Rattle.model.specs.Broken.{finding_number, finding_part, finding_place, first_broken}
use Rattle.host.specs.View.{view}
use Rattle.broken.proofs.Readings.{found_from}
use Rattle.ration.proofs.ration_broken.Goals as goal

pub returns : goal.returns
returns c =
    let a = c.args in
    let e = found_from c.first_broken-f.result (first_broken a.rule (view a.h.now)) c.first_broken-f.ensures in
    record {
      number = c.number_of.ensures ∙ ap finding_number e;
      part = c.part_of.ensures ∙ ap finding_part e;
      place = c.place_of.ensures ∙ ap finding_place e;
    }
