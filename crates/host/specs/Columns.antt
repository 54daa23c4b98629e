-- The fields that are lists of bytes, as code names them: `numbers_listed` in proofs/Columns.antt.
-- Assumes nothing.
use Rattle.std.specs.Prelude.{ℕ}
use Rattle.host.specs.View.{owner_field, kind_field, cacheable_field, entry_field, physical_field, current_field, call_field, call_a_field, call_b_field, line_address_field, line_page_field, history_field, slot_address_field, slot_page_field}
use Rattle.host.specs.declared.layout.Column.{Column}
use Rattle.host.specs.declared.layout.Column.TheVariants.{Owner, Kind, Cacheable, Entry, Physical, Current, Call, CallA, CallB, LineAddress, LinePage, History, SlotAddress, SlotPage}

abbrev pub number_of : Column → ℕ
number_of Owner = owner_field
number_of Kind = kind_field
number_of Cacheable = cacheable_field
number_of Entry = entry_field
number_of Physical = physical_field
number_of Current = current_field
number_of Call = call_field
number_of CallA = call_a_field
number_of CallB = call_b_field
number_of LineAddress = line_address_field
number_of LinePage = line_page_field
number_of History = history_field
number_of SlotAddress = slot_address_field
number_of SlotPage = slot_page_field
