-- A page is sought among the addresses of the guest that owns it.
-- Assumes nothing.
use mathlib.Core.Path.{◌∙◌}
use Prim.Native.Nat.{ℕ}
use Rattle.std.proofs.Common.{rules, tests, ◌≡◌}
use Rattle.laws.specs.Choice.{at}
use Rattle.laws.specs.Search.{some_below}
use Rattle.model.specs.Sizes.{physicals}
use Rattle.host.specs.View.{view}
use Rattle.seek.specs.Leads.{held_at}
use Rattle.places.specs.Places.{guest_of, registered_at}
use Rattle.places.proofs.Owners.{of_owner, owner_asked}
use Rattle.places.proofs.registered.Goals as goal

pub returns : goal.returns
unfolding registered_at held_at
returns c =
    let s = view c.args.h.now in
    let p = c.args.p.0 in
    let o = at s.shape.pages.owner p in
    let has = λ (g : ℕ). some_below physicals (held_at s g p) in
    let e : c.is_none_or.result ≡ of_owner has (guest_of o) = search (rules, tests) in
    e ∙ owner_asked has o
