-- Each part of the rule, of what was read.
-- Assumes nothing.
use mathlib.Core.Path.{◌≡◌}
use mathlib.Core.Bool.{◌&&◌}
use lib.Dec.{ltb, leb}
use Rattle.std.proofs.Common.{rules, tests}
use Rattle.model.specs.Sizes.{guests, first_host_page, first_free_page}
use Rattle.model.specs.Names.{owner_guest}
use Rattle.places.specs.Places.{page_kept, page_of}
use Rattle.places.proofs.page_kept.Goals as goal

pub returns : goal.returns
unfolding page_kept page_of
returns c =
    let p = c.args.p.0 in
    let o = c.owner-owner.result in
    let place : c.contains.result ≡ (leb first_host_page p && ltb p first_free_page) = search (rules, tests) in
    let guest : c.contains-2.result ≡ (leb (owner_guest 0) o && ltb o (owner_guest guests)) = search (rules, tests) in
    rw (c.implies-table.ensures, c.implies-guests.ensures, c.implies-none.ensures, c.implies-hosts.ensures, place, guest, c.is_free.ensures, c.memory-zero.ensures, c.cacheable-cacheable.ensures, c.kind-kind.ensures, c.owner-owner.ensures)
