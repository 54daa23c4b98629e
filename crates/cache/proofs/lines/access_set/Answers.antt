-- A hit leaves keys and history, and a miss is the line that enters.
-- Assumes nothing.
use mathlib.Core.Path.{refl, ap, ◌∙◌}
use Rattle.numbers.specs.declared.Ma.{Ma}
use Rattle.model.specs.Sizes.{ways}
use Rattle.host.specs.View.{view}
use Rattle.host.proofs.Inverse.{view_sized}
use Rattle.cache.specs.Sets.{if_below, way_in, find_in}
use Rattle.cache.proofs.Found.{below_some}
use Rattle.cache.proofs.Accesses.{kept, access_hits}
use Rattle.cache.proofs.lines.access_set.Goals as goal

pub returns-in-Some : goal.returns-in-Some
returns-in-Some c =
    let a = c.args in
    let s = c.load-s.result in
    let w = c.in-Some.w in
    let d = below_some ways (find_in s a.a.0 a.p.0) w (c.in-Some.ensures ∙ ap (λ (p : Ma). if_below ways (find_in s a.a.0 p.0)) c.p.view_is) in
    access_hits (view a.h.now) a.a.0 a.p.0 (view_sized a.h.now (record { long = c.told-h; small = c.fits-h })) c.requires s c.load-s.ensures w d.0 d.1
    a.written
    (way_in s w)
    c.unwrap_or.result
    c.replaced.result
    c.used.result
    _
    refl
    (c.unwrap_or.ensures ∙ kept a.written (way_in s w).value)
    c.replaced.ensures
    c.used.ensures
    c.put_back.ensures
