-- docs/HOST.md, "Records and answers": the questions that checks ask of a state, and checks in order of number.
-- Assumes nothing.
use Rattle.std.specs.Prelude.{Bool, true, false, ◌&&◌, ◌||◌, not, List, [], ◌∷◌, ℕ, ◌/◌, eqb}
use Rattle.laws.specs.Choice.{pick, at}
use Rattle.laws.specs.Search.{first_below, some_in}
use Rattle.laws.specs.Bits.{marks}
use Rattle.model.specs.Sizes.{pages, addresses, stealth}
use Rattle.model.specs.Names.{kind_data, kind_table}
use Rattle.model.specs.State.{Shape, active, is_page, kind_of, is_cacheable, mapped, here, is_mapped}
use Rattle.model.specs.Records.{Action, Need, nothing, exactly, active_idle, named_idle, named_pending, Row, row_of, fields_of, any_mode, call_none}

-- ---- questions

-- some entry of table m is there
unfoldable pub has_entries : List ℕ → ℕ → Bool
has_entries entry m = some_in (λ i e. not (eqb e 0) && eqb (i / addresses) m) entry

-- the lowest-numbered page that the map marks, or nowhere
unfoldable pub lowest_free : ℕ → ℕ
lowest_free free = first_below pages (marks free)

-- What a check may ask. `pa` is a physical address of the active guest, and its page the one registered there.
pub record Asked : Type 0 where
  pub mode : ℕ
  pub active : ℕ
  pub call : ℕ → ℕ  -- of a guest
  pub call_a : ℕ → ℕ
  pub call_b : ℕ → ℕ
  pub maps : ℕ → Bool  -- the current table maps the address
  pub registered : ℕ → Bool  -- pa
  pub is_data : ℕ → Bool  -- the page at pa
  pub is_table : ℕ → Bool
  pub cacheable : ℕ → Bool
  pub stealthy : ℕ → Bool  -- some table maps the stealth address to the page at pa
  pub elsewhere : ℕ → Bool  -- some table maps another address to it
  pub anywhere : ℕ → Bool  -- some table maps some address to it
  pub entries : ℕ → Bool  -- it has entries
  pub current : ℕ → Bool  -- pa is that of the current table
  pub any_free : Bool

unfoldable pub asked : Shape → Asked
asked h =
    record {
      mode = h.guests.mode;
      active = active h;
      call = λ g. at h.guests.call g;
      call_a = λ g. at h.guests.call_a g;
      call_b = λ g. at h.guests.call_b g;
      maps = λ va. is_page (mapped h va);
      registered = λ pa. is_page (here h pa);
      is_data = λ pa. eqb (kind_of h (here h pa)) kind_data;
      is_table = λ pa. eqb (kind_of h (here h pa)) kind_table;
      cacheable = λ pa. is_cacheable h (here h pa);
      stealthy = λ pa. is_mapped h (λ v. eqb v stealth) (here h pa);
      elsewhere = λ pa. is_mapped h (λ v. not (eqb v stealth)) (here h pa);
      anywhere = λ pa. is_mapped h (λ v. true) (here h pa);
      entries = λ pa. has_entries h.pages.entry (here h pa);
      current = λ pa. eqb pa (at h.guests.current (active h));
      any_free = is_page (lowest_free h.pages.free);
    }

-- ---- checks

-- A check is its number and whether it applies. The first that applies is the answer, and 0 if none does.
abbrev pub Check : Type 0
Check = ℕ × Bool

abbrev pub first : List Check → ℕ
first [] = 0
first (c ∷ cs) = pick c.1 c.0 (first cs)

-- 3: the mode is not the one that the kind needs
abbrev pub wrong_mode : Asked → Row → Bool
wrong_mode q r = not (eqb r.mode any_mode || eqb r.mode q.mode)

abbrev pub has_call : Asked → ℕ → Bool
has_call q g = not (eqb (q.call g) call_none)

-- 4: the pending call is not exactly this one, or there is one where none may be, or none where one is needed
abbrev pub wrong_call : Asked → Need → ℕ → ℕ → Bool
wrong_call q nothing a b = false
wrong_call q (exactly c) a b = not (eqb (q.call q.active) c && eqb (q.call_a q.active) a && eqb (q.call_b q.active) b)
wrong_call q active_idle a b = has_call q q.active
wrong_call q named_idle a b = has_call q a
wrong_call q named_pending a b = not (has_call q a)

-- 3 and 4 of an action, from its kind's row
abbrev pub row_checks : Asked → Action → List Check → List Check
row_checks q x cs =
    (3, wrong_mode q (row_of (fields_of x).kind)) ∷ (4, wrong_call q (row_of (fields_of x).kind).need (fields_of x).a (fields_of x).b) ∷ cs
