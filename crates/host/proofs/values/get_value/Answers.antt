-- The four bytes that are read are the field's number at that place; past its end it is 0.
-- Assumes nothing.
use mathlib.Core.Path.{◌∙◌}
use native.Mathlib.Omega.{arith}
use Rattle.host.proofs.Numbers.{word_ends, word_get, word_out}
use Rattle.host.proofs.values.get_value.Goals as goal

pub overflow_mul-i : goal.overflow_mul-i
overflow_mul-i c =
    record { fits = let e = c.extent-start.ensures in omega (arith, word_ends c.args.k c.args.i (rw e at c.if-i-size.true)) }

pub overflow_add-start : goal.overflow_add-start
overflow_add-start c =
    let e = c.extent-start.ensures in
    record { fits = rw e (let w = word_ends c.args.k c.args.i (rw e at c.if-i-size.true) in omega (arith, w)) }

pub word-requires : goal.word-requires
word-requires c = let e = c.extent-start.ensures in rw e (word_ends c.args.k c.args.i (rw e at c.if-i-size.true))

pub returns-then-i-size : goal.returns-then-i-size
returns-then-i-size c =
    let e = c.extent-start.ensures in
    c.word.ensures ∙ rw e (word_get c.args.k c.args.i c.args.h.now (rw e at c.if-i-size.true))

pub returns-else-i-size : goal.returns-else-i-size
returns-else-i-size c = let e = c.extent-start.ensures in word_out c.args.k c.args.i c.args.h.now (rw e at c.if-i-size.false)
