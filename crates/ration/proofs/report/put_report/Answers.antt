-- The numbers, as many bytes as the buffer has.
-- Assumes nothing.
use Rattle.std.proofs.Common.{ap, ◌∙◌, ◌++◌, rules}
use Rattle.model.specs.Records.{word_bytes}
use Rattle.model.specs.Journal.{Report}
use Rattle.journal.specs.Promises.{report_from}
use Rattle.print.specs.Pages.{typed_all_on}
use Rattle.print.proofs.Typing.{typed_whole}
use Rattle.ration.specs.Promises.{counts_bytes}
use Rattle.ration.proofs.report.put_report.Goals as goal

pub shape_of-out : goal.shape_of-out
unfolding typed_all_on
shape_of-out c = search rules

pub returns : goal.returns
unfolding typed_all_on
returns c =
    let n = c.numbers_of-number.result in
    typed_whole c.args.out.now (word_bytes n.0 ++ counts_bytes (report_from n.1)) _ c.put_numbers.new.page.place (search rules) (search rules)
    ∙ (λ i. word_bytes (c.numbers_of-number.ensures.number i) ++ counts_bytes (c.numbers_of-number.ensures.counts i))
