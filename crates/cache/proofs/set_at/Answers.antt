-- A line for each way, and the history.
-- Assumes nothing.
use Rattle.std.proofs.Common.{rules, tests, arith, ◌≡◌, ℕ, ◌<◌, sym, ◌∙◌}
use lib.ListN.{get_or}
use lib.Seq.{ext_get_or}
use Rattle.laws.specs.Search.{list_of}
use Rattle.laws.proofs.Lists.{length_list_of, get_or_list_of}
use Rattle.model.specs.Sizes.{ways}
use Rattle.model.specs.State.{line_at}
use Rattle.host.specs.View.{view}
use Rattle.cache.specs.Sets.{line_from, empty_line}
use Rattle.cache.proofs.set_at.Goals as goal

pub returns : goal.returns
returns c =
    let f = λ (w : ℕ). line_from (view c.args.h.now) (line_at c.args.k w) in
    let e : (j : ℕ) → j < ways → get_or c.from_fn.result j empty_line ≡ f j = λ j l. let x = (c.from_fn.ensures.items.at j empty_line l).2 in search (rules, tests) in
    let w = ext_get_or empty_line c.from_fn.result (list_of ways f) (c.from_fn.ensures.items.long ∙ sym (length_list_of ways f))
    (λ j l. e j (omega (arith, c.from_fn.ensures.items.long)) ∙ sym (get_or_list_of ways f empty_line j (omega (arith, c.from_fn.ensures.items.long)))) in
    λ i. record { ways = w i; history = c.history.ensures i }
