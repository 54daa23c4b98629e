-- Five numbers, one after another.
-- Assumes nothing.
use Rattle.print.proofs.Pages.{more_on}
use Rattle.ration.proofs.report.put_numbers.Goals as goal

pub returns : goal.returns
returns c = rw (c.put_word-5.ensures, c.put_word-4.ensures, c.put_word-3.ensures, c.put_word-2.ensures, c.put_word.ensures) (simp more_on)
