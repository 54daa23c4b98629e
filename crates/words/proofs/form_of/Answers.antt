-- The form at the part's place of the rule's row.
-- Assumes nothing.
use mathlib.Core.Path.{◌∙◌, ap}
use mathlib.Core.List.{List}
use lib.ListN.{get_or}
use Rattle.words.specs.Words.{Form, no_form, form_of}
use Rattle.words.specs.Forms.{form_or_none}
use Rattle.words.proofs.Rows.{in_row}
use Rattle.words.proofs.form_of.Goals as goal

pub returns : goal.returns
unfolding form_of
returns c =
    let k = c.args.part in
    ap form_or_none c.copied.ensures ∙ in_row c.row.result.now k c.get.result c.get.ensures.lookup ∙ ap (λ (l : List Form). get_or l k no_form) c.row.ensures
