-- The pages.
-- Assumes nothing.
use Rattle.std.proofs.Common.{rules, tests}
use mathlib.Core.Path.{refl}
use Rattle.model.specs.Sizes.{pages}
use Rattle.host.specs.View.{view}
use Rattle.places.specs.Places.{registered_at}
use Rattle.model.specs.Broken.{part3_pages}
use Rattle.broken.proofs.PlaceTests.{reached_is}
use Rattle.broken.proofs.Chains.{one_part}
use Rattle.broken.proofs.fn.in_third.or_else.Goals as goal

pub returns : goal.returns
returns c =
    let s = view c.captures.h.now in
    one_part (part3_pages s) pages (registered_at s) refl (reached_is s) 1 (cc) c.position-page.ensures.ran (λ i b q k. search (rules, tests)) c.in_part.ensures
