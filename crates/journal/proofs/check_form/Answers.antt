-- More records than a journal may have. The check finds it too: the answer says where an edit of the limit is refused.
-- Assumes nothing.
use mathlib.Core.Path.{sym, ◌∙◌}
use lib.ListN.{length}
use Rattle.model.specs.Journal.{has_header}
use Rattle.journal.proofs.Limits.{too_long}
use Rattle.journal.proofs.check_form.Goals as goal

pub returns-then-records-gt-LIMIT : goal.returns-then-records-gt-LIMIT
returns-then-records-gt-LIMIT c =
    let a = c.args in
    too_long (has_header a.j.now) (length a.j.now) a.room (sym c.has_header.ensures ∙ c.if-not-has_header.false) c.if-records-gt-LIMIT.true
