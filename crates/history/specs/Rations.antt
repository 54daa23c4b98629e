-- Demand 3: whatever the records are, each guest's pages hold what it put there, and reads answer it.
-- Assumes nothing.
use Rattle.std.specs.Prelude.{◌≡◌, ◌↔◌, List, [], map, ℕ, ◌+◌, ◌≤◌, ◌<◌, eqb}
use Rattle.std.specs.Int.Count.{ones}
use Rattle.laws.specs.Choice.{at}
use Rattle.laws.specs.Bits.{bit}
use Rattle.laws.specs.Search.{count_below, sum_below}
use Rattle.model.specs.Sizes.{guests, physicals, pages, host_pages, first_host_page, first_free_page}
use Rattle.model.specs.Names.{owner_guest, kind_data}
use Rattle.model.specs.State.{Shape, State, present}
use Rattle.model.specs.Valid.{Valid}
use Rattle.model.specs.Step.{number_of, value_of}
use Rattle.model.specs.Run.{run}
use Rattle.history.specs.Past.{Past, Book, kind_in, value_in, pins_in, unpins_in, book_after, past_after, values_after}
use Rattle.history.specs.Agrees.{Has, Agrees}

-- ---- a run, and its past

abbrev pub numbers : State → List (List ℕ) → List ℕ
numbers s rs = map number_of (run s rs).answers

abbrev pub values : State → List (List ℕ) → List ℕ
values s rs = map value_of (run s rs).answers

-- the accepted actions of the run
abbrev pub past_of : State → List (List ℕ) → Past
past_of s rs = past_after [] rs (numbers s rs)

-- ---- places of pages

-- how many pages guest g owns
abbrev pub owned : Shape → ℕ → ℕ
owned h g = count_below pages (λ p. eqb (at h.pages.owner p) (owner_guest g))

pub data Place : Type 0 where
  free : Place
  host : Place
  guest : ℕ → ℕ → Place  -- a guest's physical address

-- page p is in the place
abbrev pub In : Shape → ℕ → Place → Type 0
In h p free = bit h.pages.free p ≡ 1
In h p host = (first_host_page ≤ p) × (p < first_free_page)
In h p (guest g pa) = Has h.pages.physical g pa p

-- and in no other
pub record OnePlace (h : Shape) (p : ℕ) : Type 0 where
  pub place : Place
  pub in_it : In h p place
  pub only : (q : Place) → In h p q → q ≡ place

-- ---- the theorem's statement

-- Of a state t to which a past led from the state s, which agrees with the book b.
pub record Kept (b : Book) (s : State) (past : Past) (t : State) : Type 0 where
  pub valid : Valid t
  -- Pages: a guest owns what it owned and what it pinned, less what it unpinned. The guests' pages, the host's and those that the map marks are
  -- all; each is in one of these places, and a guest's at one of its physical addresses.
  pub pinned : (g : ℕ) → g < guests → owned t.shape g + unpins_in b past g ≡ owned s.shape g + pins_in b past g
  pub whole : sum_below guests (owned t.shape) + host_pages + ones t.shape.pages.free ≡ pages
  pub places : (p : ℕ) → p < pages → OnePlace t.shape p
  pub owners : (g p : ℕ) → g < guests → p < pages
      → (at t.shape.pages.owner p ≡ owner_guest g) ↔ ((pa : ℕ) × Has t.shape.pages.physical g pa p)
  -- Values: where the past says that a guest has a data page, it has one, and that holds what the past says. So does every data page that a guest
  -- has. A host page holds 0.
  pub found : (g pa : ℕ) → g < guests → pa < physicals → kind_in b past g pa ≡ kind_data
      → (p : ℕ) × Has t.shape.pages.physical g pa p × (present t p ≡ value_in b past g pa)
  pub holds : (g pa p : ℕ) → Has t.shape.pages.physical g pa p → at t.shape.pages.kind p ≡ kind_data → present t p ≡ value_in b past g pa
  pub hosts : (p : ℕ) → first_host_page ≤ p → p < first_free_page → present t p ≡ 0
  -- The active guest, current tables, kinds and links are what the past says too.
  pub agrees : Agrees t (book_after b past)

-- Of a run over the records rs from the state u, to which a past led: the state after it is kept, and each record's value is what the past before
-- it says.
pub record RationsOn (b : Book) (s : State) (past : Past) (u : State) (rs : List (List ℕ)) : Type 0 where
  pub kept : Kept b s (past_after past rs (numbers u rs)) (run u rs).state
  pub answers : values u rs ≡ values_after b past rs (numbers u rs)

-- and from s itself
abbrev pub Rations : Book → State → List (List ℕ) → Type 0
Rations b s rs = RationsOn b s [] s rs
