-- Of one version, or of the other.
-- Assumes nothing.
use Rattle.std.proofs.Common.{rules, tests, ◌∙◌}
use Rattle.std.proofs.lemmas.Iterator.{YieldsList-from_slice}
use Rattle.std.proofs.lemmas.Iterator.Search.{any_from_yields_List}
use Rattle.image.specs.declared.Version.{Version}
use Rattle.image.specs.declared.TheConstants.{VERSIONS}
use Rattle.image.proofs.Forms.{tested, either_version}
use Rattle.image.proofs.is_image.Goals as goal

pub returns : goal.returns
returns c =
    let i = c.args.image.now in
    any_from_yields_List (λ (v : Version). tested i v.size v.head) _ _ c.any.result c.any.ensures.ran (YieldsList-from_slice VERSIONS c.iter.ensures.rest) (λ x b q k. search (rules, tests))
    ∙ either_version i
