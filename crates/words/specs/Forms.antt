-- The forms of the code, read as those of Words.antt.
-- Assumes nothing.
use Rattle.std.specs.Prelude.{Option, Some, None}
use Rattle.words.specs.declared.Form.{Form}
use Rattle.words.specs.declared.Form.TheVariants.{Guest, Page, Physical, Entry, Way, Slot, StealthWay, StealthHistory, Number}
use Rattle.words.specs.Words as words

abbrev pub form_from : Form → words.Form
form_from Guest = words.a_guest
form_from Page = words.a_page
form_from Physical = words.a_physical
form_from Entry = words.an_entry
form_from Way = words.a_way
form_from Slot = words.a_slot
form_from StealthWay = words.a_stealth_way
form_from StealthHistory = words.the_stealth_history
form_from (Number f) = words.a_number f

abbrev pub form_or_none : Option Form → words.Form
form_or_none (Some f) = form_from f
form_or_none None = words.no_form
