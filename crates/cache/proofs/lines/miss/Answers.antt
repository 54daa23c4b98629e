-- The line in the way is saved, and the set put back with the one that enters.
-- Assumes nothing.
use mathlib.Core.Path.{◌≡◌, ap, ◌∙◌}
use native.Mathlib.Omega.{arith}
use Prim.Native.Nat.{ℕ}
use Rattle.model.specs.Parts.{way_for}
use Rattle.host.specs.View.{view}
use Rattle.host.proofs.Inverse.{view_sized, view_bytes}
use Rattle.numbers.specs.declared.Ma.{Ma}
use Rattle.laws.specs.Choice.{at}
use Rattle.cache.specs.Sets.{set_from, empty_line, place_in}
use Rattle.cache.specs.Lines.{put_back, missed}
use Rattle.cache.proofs.Sets.{place_is_way}
use Rattle.cache.proofs.Accesses.{kept, way_small, access_misses, access_past}
use Rattle.cache.proofs.lines.miss.Goals as goal

pub miss_past-requires : goal.miss_past-requires
miss_past-requires c =
    let v = view c.args.h.now in
    let e : c.place-w.result ≡ way_for v.shape c.args.k = c.place-w.ensures ∙ ap place_in c.requires.2 ∙ place_is_way v c.args.k in (
      omega (arith, c.requires.0),
      omega (arith, e, way_small v c.args.k (view_bytes c.args.h.now (record { long = c.told-h; small = c.fits-h }))),
      c.requires.2,
    )

pub returns-in-Some : goal.returns-in-Some
returns-in-Some c =
    let b = view c.args.h.now in
    let o = c.in-Some.ensures.lookup.3 in
    access_misses b c.args.a.0 c.args.p.0 (view_sized c.args.h.now (record { long = c.told-h; small = c.fits-h })) c.requires.1 c.args.s
    (c.requires.2 ∙ ap (set_from b) c.requires.0)
    c.requires.3
    c.place-w.result
    c.place-w.ensures
    (omega (arith, o.0))
    c.args.written
    c.memory-v.result
    c.unwrap_or.result
    c.in-Some.old.now
    (view c.save.new.h)
    c.line_to-l.result
    c.replaced.result
    c.entered.result
    _
    (o.1 empty_line)
    c.save.ensures
    (c.memory-v.ensures ∙ ap (λ (p : Ma). at (view c.save.new.h).values.memory p.0) c.p.view_is)
    (c.unwrap_or.ensures ∙ kept c.args.written c.memory-v.result)
    c.line_to-l.ensures
    c.replaced.ensures
    c.entered.ensures
    (c.put_back.ensures ∙ ap (λ (k : ℕ). put_back (view c.save.new.h) k c.entered.result) c.requires.0)

pub returns-in-None : goal.returns-in-None
returns-in-None c =
    let b = view c.args.h.now in
    access_past b c.args.a.0 c.args.p.0 (view_sized c.args.h.now (record { long = c.told-h; small = c.fits-h })) c.requires.1 c.args.s
    (c.requires.2 ∙ ap (set_from b) c.requires.0)
    c.requires.3
    c.place-w.result
    c.place-w.ensures
    (omega (arith, c.in-None.ensures.lookup.3))
    c.args.written
    _
    (c.miss_past.ensures ∙ ap (λ (k : ℕ). missed b k c.place-w.result c.args.a.0 c.args.p.0) c.requires.0)
