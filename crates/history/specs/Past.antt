-- What the accepted actions of a run say of guests and their pages, by guest, virtual and physical address alone: no state, no cache, no TLB and
-- no machine page stands in this file, nor in any that it uses.
-- Assumes nothing.
use Rattle.std.specs.Prelude.{Bool, false, ◌&&◌, List, [], ◌∷◌, ℕ, ◌+◌, eqb}
use Rattle.std.proofs.Math.Option.{Option, none, some}
use Rattle.laws.specs.Choice.{pick}
use Rattle.model.specs.Sizes.{stealth}
use Rattle.model.specs.Names.{kind_none, kind_data, kind_table}
use Rattle.model.specs.Records.{Action, silent, read, read_hyper, write, write_hyper, new, new_sm, del, switch, lswitch, hcall, ret_ctrl, chmod, pin, unpin, drop, decode}

-- accepted actions, the latest first
abbrev pub Past : Type 0
Past = List Action

-- What is so before the first action.
pub record Book : Type 0 where
  pub active : ℕ  -- the active guest
  pub current : ℕ → ℕ  -- of a guest: the physical address of its current table
  pub kind : ℕ → ℕ → ℕ  -- at a guest's physical address, none if nothing is pinned there
  pub link : ℕ → ℕ → ℕ → Option ℕ  -- of a guest, its table's physical address and a virtual address: the physical address that it leads to
  pub value : ℕ → ℕ → ℕ  -- of the data page at a guest's physical address

-- The fresh machine: each guest has a table at its physical 0, which is its current table and leads nowhere, and nothing else. Guest 0 is active.
abbrev pub fresh_book : Book
fresh_book =
    record {
      active = 0;
      current = λ g. 0;
      kind = λ g pa. pick (eqb pa 0) kind_table kind_none;
      link = λ g pt va. none;
      value = λ g pa. 0;
    }

-- ---- what an accepted action does to guests and their pages

pub data Deed : Type 0 where
  quiet : Deed  -- nothing
  looked : ℕ → Deed  -- at a virtual address of the active guest: the guest itself, or the host for it
  wrote : ℕ → ℕ → Deed  -- likewise at a virtual address, a value
  linked : ℕ → Option ℕ → Deed  -- the current table leads from a virtual address to a physical one, or to none
  switched : ℕ → Deed  -- this guest is the active one
  tabled : ℕ → Deed  -- the table at this physical address is the active guest's current one
  pinned : ℕ → ℕ → Deed  -- the active guest has a page of this kind at this physical address
  unpinned : ℕ → Deed  -- and has it no more

abbrev pub deed_of : Action → Deed
deed_of silent = quiet
deed_of (read va) = looked va
deed_of (read_hyper va) = looked va
deed_of (write va v) = wrote va v
deed_of (write_hyper va v) = wrote va v
deed_of (new va pa) = linked va (some pa)
deed_of (new_sm pa) = linked stealth (some pa)
deed_of (del va) = linked va none
deed_of (switch g) = switched g
deed_of (lswitch pa) = tabled pa
deed_of (hcall c a b) = quiet
deed_of ret_ctrl = quiet
deed_of chmod = quiet
deed_of (pin pa k) = pinned pa (pick (eqb k 0) kind_data kind_table)
deed_of (unpin pa) = unpinned pa
deed_of (drop g) = quiet

-- ---- what a past says

-- the active guest: the one last switched to
unfoldable pub active_in : Book → Past → ℕ
active_in b [] = b.active
active_in b (x ∷ past) =
    let before = active_in b past in
    elim (deed_of x) [
      | switched g ↦ g
      | quiet ↦ before
      | looked va ↦ before
      | wrote va v ↦ before
      | linked va o ↦ before
      | tabled pa ↦ before
      | pinned pa k ↦ before
      | unpinned pa ↦ before
    ]

-- guest g's current table: the one that it last switched to
unfoldable pub current_in : Book → Past → ℕ → ℕ
current_in b [] g = b.current g
current_in b (x ∷ past) g =
    let before = current_in b past g in
    elim (deed_of x) [
      | tabled pa ↦ pick (eqb g (active_in b past)) pa before
      | quiet ↦ before
      | looked va ↦ before
      | wrote va v ↦ before
      | linked va o ↦ before
      | switched h ↦ before
      | pinned pa k ↦ before
      | unpinned pa ↦ before
    ]

-- guest g's physical address pa is the active guest's qa
abbrev pub is_own : Book → Past → ℕ → ℕ → ℕ → Bool
is_own b past g pa qa = eqb g (active_in b past) && eqb pa qa

-- the kind at guest g's physical address pa: that of the last pin there, none if it was unpinned since
unfoldable pub kind_in : Book → Past → ℕ → ℕ → ℕ
kind_in b [] g pa = b.kind g pa
kind_in b (x ∷ past) g pa =
    let before = kind_in b past g pa in
    elim (deed_of x) [
      | pinned qa k ↦ pick (is_own b past g pa qa) k before
      | unpinned qa ↦ pick (is_own b past g pa qa) kind_none before
      | quiet ↦ before
      | looked va ↦ before
      | wrote va v ↦ before
      | linked va o ↦ before
      | switched h ↦ before
      | tabled qa ↦ before
    ]

-- the physical address of the active guest's current table
abbrev pub table_in : Book → Past → ℕ
table_in b past = current_in b past (active_in b past)

-- where guest g's table at pt leads from va: where the guest last let it lead while it was its current table; nowhere since it was pinned
unfoldable pub link_in : Book → Past → ℕ → ℕ → ℕ → Option ℕ
link_in b [] g pt va = b.link g pt va
link_in b (x ∷ past) g pt va =
    let before = link_in b past g pt va in
    elim (deed_of x) [
      | linked vb o ↦ pick (is_own b past g pt (table_in b past) && eqb va vb) o before
      | pinned qa k ↦ pick (is_own b past g pt qa) none before
      | quiet ↦ before
      | looked vb ↦ before
      | wrote vb v ↦ before
      | switched h ↦ before
      | tabled qa ↦ before
      | unpinned qa ↦ before
    ]

-- where the active guest's virtual address va leads
abbrev pub target_in : Book → Past → ℕ → Option ℕ
target_in b past va = link_in b past (active_in b past) (table_in b past) va

abbrev pub is_to : Option ℕ → ℕ → Bool
is_to none pa = false
is_to (some qa) pa = eqb pa qa

-- the value at guest g's physical address pa: the last one written there while the guest was active, 0 if none was since it was pinned
unfoldable pub value_in : Book → Past → ℕ → ℕ → ℕ
value_in b [] g pa = b.value g pa
value_in b (x ∷ past) g pa =
    let before = value_in b past g pa in
    elim (deed_of x) [
      | wrote va v ↦ pick (eqb g (active_in b past) && is_to (target_in b past va) pa) v before
      | pinned qa k ↦ pick (is_own b past g pa qa) 0 before
      | quiet ↦ before
      | looked va ↦ before
      | linked va o ↦ before
      | switched h ↦ before
      | tabled qa ↦ before
      | unpinned qa ↦ before
    ]

-- how many pages guest g pinned, and how many it unpinned
unfoldable pub pins_in : Book → Past → ℕ → ℕ
pins_in b [] g = 0
pins_in b (x ∷ past) g =
    let before = pins_in b past g in
    elim (deed_of x) [
      | pinned pa k ↦ before + pick (eqb g (active_in b past)) 1 0
      | quiet ↦ before
      | looked va ↦ before
      | wrote va v ↦ before
      | linked va o ↦ before
      | switched h ↦ before
      | tabled pa ↦ before
      | unpinned pa ↦ before
    ]

unfoldable pub unpins_in : Book → Past → ℕ → ℕ
unpins_in b [] g = 0
unpins_in b (x ∷ past) g =
    let before = unpins_in b past g in
    elim (deed_of x) [
      | unpinned pa ↦ before + pick (eqb g (active_in b past)) 1 0
      | quiet ↦ before
      | looked va ↦ before
      | wrote va v ↦ before
      | linked va o ↦ before
      | switched h ↦ before
      | tabled pa ↦ before
      | pinned pa k ↦ before
    ]

-- the book that a past leaves
abbrev pub book_after : Book → Past → Book
book_after b past =
    record {
      active = active_in b past;
      current = λ g. current_in b past g;
      kind = λ g pa. kind_in b past g pa;
      link = λ g pt va. link_in b past g pt va;
      value = λ g pa. value_in b past g pa;
    }

-- ---- answers

-- the value that is read at the active guest's virtual address va
abbrev pub read_in : Book → Past → ℕ → ℕ
read_in b past va = elim (target_in b past va) [ none ↦ 0 | some pa ↦ value_in b past (active_in b past) pa ]

-- the value that an accepted action answers: a read's what is read, every other's 0
abbrev pub answer_in : Book → Past → Action → ℕ
answer_in b past x =
    elim (deed_of x) [
      | looked va ↦ read_in b past va
      | quiet ↦ 0
      | wrote va v ↦ 0
      | linked va o ↦ 0
      | switched g ↦ 0
      | tabled pa ↦ 0
      | pinned pa k ↦ 0
      | unpinned pa ↦ 0
    ]

-- ---- records and the numbers of their answers

-- A record is accepted if its answer's number is 0, and is then the action that its bytes are; any other record adds nothing.
abbrev pub accepted_of : List ℕ → ℕ → Option Action
accepted_of r n = pick (eqb n 0) (decode r) none

abbrev pub recall : Option Action → Past → Past
recall none past = past
recall (some x) past = x ∷ past

-- the past after records and the numbers of their answers
unfoldable pub past_after : Past → List (List ℕ) → List ℕ → Past
past_after past [] ns = past
past_after past (r ∷ rs) [] = past
past_after past (r ∷ rs) (n ∷ ns) = past_after (recall (accepted_of r n) past) rs ns

-- the value that a record answers
abbrev pub answer_to : Book → Past → Option Action → ℕ
answer_to b past none = 0
answer_to b past (some x) = answer_in b past x

-- the values of the answers to records, each by the past before it
unfoldable pub values_after : Book → Past → List (List ℕ) → List ℕ → List ℕ
values_after b past [] ns = []
values_after b past (r ∷ rs) [] = []
values_after b past (r ∷ rs) (n ∷ ns) = answer_to b past (accepted_of r n) ∷ values_after b (recall (accepted_of r n) past) rs ns
