-- The rules one by one; the lists of a state that comes from bytes have their sizes.
-- Assumes nothing.
use Rattle.model.specs.Valid.{valid?}
use Rattle.model.proofs.Valid.{sized⇔}
use Rattle.host.specs.View.{view}
use Rattle.host.proofs.Inverse.{view_sized}
use Rattle.rules.proofs.valid.Goals as goal

pub returns : goal.returns
unfolding valid?
returns c =
    let h = c.args.h.now in
    rw (
      c.rule11.ensures,
      c.rule10.ensures,
      c.rule9.ensures,
      c.rule8.ensures,
      c.rule7.ensures,
      c.rule6.ensures,
      c.rule5.ensures,
      c.rule4.ensures,
      c.rule3.ensures,
      c.rule2.ensures,
      c.rule1.ensures,
      (sized⇔ (view h)).1 (view_sized h c.whole.ensures),
    )
