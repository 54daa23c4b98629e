-- The four bytes that are stored are the field's number at that place; past its end nothing changes.
-- Assumes nothing.
use Rattle.std.proofs.Common.{rules}
use mathlib.Core.Path.{ap, ◌∙◌}
use native.Mathlib.Omega.{arith}
use Rattle.host.specs.View.{view}
use Rattle.host.proofs.Numbers.{word_ends, word_put, word_kept}
use Rattle.host.proofs.values.set_value.Goals as goal

pub overflow_mul-i : goal.overflow_mul-i
overflow_mul-i c =
    record { fits = let e = c.extent-start.ensures in omega (arith, word_ends c.args.k c.args.i (rw e at c.if-i-size.true)) }

pub overflow_add-start : goal.overflow_add-start
overflow_add-start c =
    let e = c.extent-start.ensures in
    record { fits = rw e (let w = word_ends c.args.k c.args.i (rw e at c.if-i-size.true) in omega (arith, w)) }

pub set_word-requires : goal.set_word-requires
set_word-requires c = let e = c.extent-start.ensures in rw e (word_ends c.args.k c.args.i (rw e at c.if-i-size.true))

pub returns-then-i-size : goal.returns-then-i-size
returns-then-i-size c =
    let e = c.extent-start.ensures in
    ap view c.set_word.ensures ∙ rw e (word_put c.args.k c.args.i c.args.v c.args.h.now (search rules) (rw e at c.if-i-size.true))

pub returns-else-i-size : goal.returns-else-i-size
returns-else-i-size c =
    let e = c.extent-start.ensures in
    word_kept c.args.k c.args.i c.args.v c.args.h.now (rw e at c.if-i-size.false)
