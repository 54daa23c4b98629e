-- Two numbers of four bytes stored are the map.
-- Assumes nothing.
use Rattle.std.proofs.Common.{rules}
use mathlib.Core.Path.{ap, ◌∙◌}
use mathlib.Core.List.{List}
use Prim.Native.Nat.{ℕ, ◌+◌, ◌/◌, ◌^◌}
use Rattle.model.specs.Sizes.{byte_bound}
use Rattle.laws.specs.Cut.{begin}
use Rattle.host.specs.Words.{set_word}
use Rattle.host.specs.View.{sizes, free_field, view}
use Rattle.host.proofs.Numbers.{free_put}
use Rattle.host.proofs.values.set_free.Goals as goal

pub returns : goal.returns
returns c =
    ap view (c.set_word-2.ensures ∙ ap (λ (x : List ℕ). set_word x (begin sizes free_field + 4) (c.args.v / byte_bound ^ 4)) c.set_word.ensures) ∙ free_put c.args.h.now c.args.v (search rules)
