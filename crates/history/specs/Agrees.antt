-- A state and a book agree: asked of valid states.
-- Assumes nothing.
use Rattle.std.specs.Prelude.{◌≡◌, ◌&&◌, not, ◌↔◌, List, ℕ, suc, ◌+◌, ◌*◌, ◌<◌, ltb, eqb}
use Rattle.std.proofs.Math.Option.{Option, none, some}
use Rattle.laws.specs.Choice.{pick, at}
use Rattle.laws.specs.Search.{first_below}
use Rattle.model.specs.Sizes.{guests, physicals, addresses}
use Rattle.model.specs.Names.{kind_none, kind_data}
use Rattle.model.specs.State.{State, active, kind_of, page_at, present}
use Rattle.history.specs.Past.{Book}

-- guest g has page p at its physical address pa
pub record Has (physical : List ℕ) (g pa p : ℕ) : Type 0 where
  pub guest : g < guests
  pub address : pa < physicals
  pub holds : at physical (physicals * g + pa) ≡ suc p

-- the table that guest g has at pt leads from va to the page that it has at pa
pub record Links (entry physical : List ℕ) (g pt va pa : ℕ) : Type 0 where
  pub table : ℕ
  pub page : ℕ
  pub from : Has physical g pt table
  pub holds : at entry (addresses * table + va) ≡ suc page
  pub to : Has physical g pa page

-- all but the values, over the lists that it reads
pub record Charts (kinds entry physical currents : List ℕ) (guest : ℕ) (b : Book) : Type 0 where
  pub active : b.active ≡ guest
  pub current : (g : ℕ) → g < guests → b.current g ≡ at currents g
  pub kind : (g pa p : ℕ) → Has physical g pa p → b.kind g pa ≡ at kinds p
  pub none : (g pa : ℕ) → g < guests → pa < physicals → at physical (physicals * g + pa) ≡ 0 → b.kind g pa ≡ kind_none
  pub link : (g pt va pa : ℕ) → g < guests → pt < physicals → va < addresses → (b.link g pt va ≡ some pa) ↔ Links entry physical g pt va pa

pub record Agrees (s : State) (b : Book) : Type 0 where
  pub chart : Charts s.shape.pages.kind s.shape.pages.entry s.shape.pages.physical s.shape.guests.current s.shape.guests.active b
  pub value : (g pa p : ℕ) → Has s.shape.pages.physical g pa p → at s.shape.pages.kind p ≡ kind_data → present s p ≡ b.value g pa

-- ---- the book of a state: what a run that starts there starts with

-- the physical address of guest g whose place holds e, if e is no empty place
unfoldable pub address_of : List ℕ → ℕ → ℕ → Option ℕ
address_of physical g e =
    let pa = first_below physicals (λ pa. eqb (at physical (physicals * g + pa)) e) in
    pick (ltb pa physicals && not (eqb e 0)) (some pa) none

abbrev pub book_of : State → Book
book_of s =
    record {
      active = active s.shape;
      current = λ g. at s.shape.guests.current g;
      kind = λ g pa. kind_of s.shape (page_at s.shape g pa);
      link = λ g pt va. address_of s.shape.pages.physical g (at s.shape.pages.entry (addresses * page_at s.shape g pt + va));
      value = λ g pa. present s (page_at s.shape g pa);
    }
