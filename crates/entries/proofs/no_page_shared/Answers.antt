-- Each page that was counted so far is remembered with its address; one that comes at another address ends the loop.
-- Assumes nothing.
use mathlib.Core.Path.{◌≡◌, sym, subst, ◌∙◌}
use Prim.Native.Nat.{ℕ, ◌*◌}
use native.Mathlib.Omega.{arith}
use lib.ListN.{get_or}
use Rattle.std.proofs.Common.{rules, tests}
use Rattle.std.specs.Prelude.{None}
use Rattle.model.specs.Sizes.{addresses}
use Rattle.host.specs.View.{view}
use Rattle.entries.proofs.Shared.{entries, Seen, elsewhere, seen_start, seen_all, pass_past, pass_clash, pass_more, unshared⇔}
use Rattle.entries.proofs.no_page_shared.Goals as goal
use Rattle.entries.proofs.no_page_shared.Goals.{in-Some+else-is_some_and, in_default}

pub loop-m-init : goal.loop-m-init
loop-m-init c = seen_start (view c.args.h.now)

pub returns-then-is_some_and : goal.returns-then-is_some_and
returns-then-is_some_and c =
    let s = view c.args.h.now in
    let a = c.loop-a in
    let p = c.in-Some.p in
    let e : c.is_some_and.result ≡ elsewhere s (get_or a.seen p.0 None) a.a-counter = search (rules, tests) in
    sym (pass_clash s a.seen c.loop-m.m a.a-counter c.loop-m-test.true c.loop-a-test.true a.invariant p (sym c.counted_page.ensures ∙ c.in-Some.is) (sym e ∙ c.if-is_some_and.true))

pub loop-a-preserved : goal.loop-a-preserved
loop-a-preserved c =
    let s = view c.args.h.now in
    let a = c.loop-a in
    elim c.match-counted_page.branch [
      | in-Some+else-is_some_and w ↦
          let p = w.in-Some.p in
          let e : w.is_some_and.result ≡ elsewhere s (get_or a.seen p.0 None) a.a-counter = search (rules, tests) in
          rw w.seen-is (pass_more s a.seen c.loop-m.m a.a-counter c.loop-m-test.true c.loop-a-test.true a.invariant p (sym c.counted_page.ensures ∙ w.in-Some.is) (sym e ∙ w.if-is_some_and.false))
      | in_default w ↦
          rw w.seen-is (pass_past s a.seen c.loop-m.m a.a-counter c.loop-m-test.true c.loop-a-test.true a.invariant (sym c.counted_page.ensures ∙ w.in_default.is))
    ]

pub returns : goal.returns
returns c =
    let s = view c.args.h.now in
    let l = c.loop-m in
    let e : addresses * l.m ≡ entries = omega arith in
    sym ((unshared⇔ s).1 (seen_all s l.seen (subst (λ (k : ℕ). Seen s l.seen k) e l.invariant)))
