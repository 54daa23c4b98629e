-- A page that is not cacheable has its value in memory; of another one the line is accessed, and under write-through memory follows.
-- Assumes nothing.
use mathlib.Core.Path.{subst, sym}
use Prim.Native.Nat.{ℕ}
use Rattle.std.specs.Prelude.{Option}
use Rattle.numbers.specs.declared.Ma.{Ma}
use Rattle.model.specs.State.{is_cacheable}
use Rattle.host.specs.View.{view}
use Rattle.host.proofs.Inverse.{view_sized}
use Rattle.cache.specs.Lines.{AccessesLine, Accesses}
use Rattle.cache.proofs.Found.{picked_some, picked_none}
use Rattle.cache.proofs.Through.{access_read, access_written, access_through}
use Rattle.cache.proofs.lines.access.Goals as goal

pub returns-in-Some : goal.returns-in-Some
returns-in-Some c =
    let a = c.args in
    let s = view a.h.now in
    let d = picked_some (is_cacheable s.shape a.p.0) a.p c.in-Some.page c.in-Some.ensures in
    access_through s a.a.0 a.p.0 (view_sized a.h.now (record { long = c.told-h; small = c.fits-h })) d.0
    a.written
    c.access_set-v.result
    (view c.access_set-v.new.h)
    _
    (subst (λ (p : Ma). AccessesLine s a.a.0 p.0 a.written c.access_set-v.result (view c.access_set-v.new.h)) d.1 c.access_set-v.ensures)
    c.write_through.ensures

pub returns-in-Some-written : goal.returns-in-Some-written
returns-in-Some-written c =
    let a = c.args in
    let s = view a.h.now in
    subst (λ (x : Option ℕ). Accesses s a.a.0 a.p.0 x c.memory-v.result (view c.set_memory.new.h)) (sym c.in-Some-written.is)
    (access_written s a.a.0 a.p.0 (view_sized a.h.now (record { long = c.told-h; small = c.fits-h })) (picked_none (is_cacheable s.shape a.p.0) a.p c.in-None.ensures)
    c.memory-v.result
    c.in-Some-written.n
    _
    c.memory-v.ensures
    c.set_memory.ensures)

pub returns-in_default : goal.returns-in_default
returns-in_default c =
    let a = c.args in
    let s = view a.h.now in
    subst (λ (x : Option ℕ). Accesses s a.a.0 a.p.0 x c.memory-v.result s) (sym c.in_default.is)
    (access_read s a.a.0 a.p.0 (view_sized a.h.now (record { long = c.told-h; small = c.fits-h })) (picked_none (is_cacheable s.shape a.p.0) a.p c.in-None.ensures)
    c.memory-v.result
    c.memory-v.ensures)
