-- The second part only where the first holds.
-- Assumes nothing.
use Rattle.std.proofs.Common.{rules, tests}
use mathlib.Core.Path.{refl}
use mathlib.Core.List.{[], ◌∷◌}
use Prim.Native.Nat.{◌*◌}
use Rattle.model.specs.Sizes.{guests, physicals}
use Rattle.model.specs.Broken.{rule_parts, part3_addresses, part3_pages}
use Rattle.host.specs.View.{view}
use Rattle.host.proofs.Inverse.{view_sized}
use Rattle.places.specs.Places.{held_once}
use Rattle.broken.specs.Findings.{Addresses, part_for}
use Rattle.broken.proofs.Chains.{one_part}
use Rattle.broken.proofs.Parts.{size_for_law}
use Rattle.broken.proofs.PlaceTests.{addresses_is}
use Rattle.broken.proofs.Sequence.{then_parts}
use Rattle.broken.proofs.in_third.Goals as goal

pub returns : goal.returns
unfolding rule_parts part_for
returns c =
    let s = view c.args.h.now in
    let z = view_sized c.args.h.now c.whole.ensures in
    then_parts (part3_addresses s ∷ []) (part3_pages s ∷ []) 0 1 _ _ refl
    (one_part (part3_addresses s) (guests * physicals) (held_once s) (size_for_law Addresses s z) (λ i h. addresses_is s i) 0 (cc) c.position-address.ensures.ran (λ i b q k. search (rules, tests)) c.in_part.ensures)
    c.or_else.ensures
    (λ p. p)
