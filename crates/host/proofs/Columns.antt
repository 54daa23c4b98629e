-- Each field that code names is a list of bytes.
-- Assumes nothing.
use mathlib.Core.Path.{◌≡◌, refl}
use mathlib.Core.Bool.{true}
use Rattle.host.specs.View.{listed}
use Rattle.host.specs.Columns.{number_of}
use Rattle.host.specs.declared.layout.Column.{Column}
use Rattle.host.specs.declared.layout.Column.TheVariants.{Owner, Kind, Cacheable, Entry, Physical, Current, Call, CallA, CallB, LineAddress, LinePage, History, SlotAddress, SlotPage}

pub numbers_listed : (c : Column) → listed (number_of c) ≡ true
numbers_listed Owner = refl
numbers_listed Kind = refl
numbers_listed Cacheable = refl
numbers_listed Entry = refl
numbers_listed Physical = refl
numbers_listed Current = refl
numbers_listed Call = refl
numbers_listed CallA = refl
numbers_listed CallB = refl
numbers_listed LineAddress = refl
numbers_listed LinePage = refl
numbers_listed History = refl
numbers_listed SlotAddress = refl
numbers_listed SlotPage = refl
