-- docs/HOST.md, "Secrecy": what is hidden of a guest, and that two runs which differ in this alone look the same. There the guest is V, here it is g.
-- What is said of a run takes its step, so that it can be said of other machines too.
-- Assumes nothing.
use Rattle.std.specs.Prelude.{◌≡◌, Bool, false, ◌&&◌, List, [], ◌∷◌, ℕ, ◌-◌, ltb, leb, eqb, length, get_or, set}
use Rattle.laws.specs.Choice.{pick, at}
use Rattle.laws.specs.Search.{list_of}
use Rattle.model.specs.Sizes.{pages, lines, slot_of, stealth, record_bytes, value_bytes}
use Rattle.model.specs.Names.{owner_guest}
use Rattle.model.specs.State.{Shape, Tlb, State, lead, active}
use Rattle.model.specs.Parts.{with_tlb}
use Rattle.model.specs.Records.{Bytes, has_value}
use Rattle.model.specs.Valid.{Valid}
use Rattle.model.specs.Step.{Outcome, number_of, value_of, step}
use Rattle.model.specs.Run.{run_by}

-- ---- records

abbrev pub is_active : ℕ → State → Bool
is_active g s = eqb (active s.shape) g

-- read, read_hyper, write and write_hyper
abbrev pub is_access : ℕ → Bool
is_access k = leb 1 k && leb k 4

-- g reads or writes at the stealth address. Bytes that are no record count too, by the first two of them.
unfoldable pub hidden : ℕ → State → List ℕ → Bool
hidden g s r = is_active g s && is_access (at r 0) && eqb (at r 1) stealth

-- byte i of a record belongs to its value
abbrev pub is_of_value : ℕ → Bool
is_of_value i = leb (record_bytes - value_bytes) i && ltb i record_bytes

-- zeros for the value, as far as there are bytes of it; the length is kept
unfoldable pub blanked : List ℕ → List ℕ
blanked r = list_of (length r) (λ i. pick (is_of_value i) 0 (at r i))

-- what is told of a record: all, but for the value that g writes
unfoldable pub told : ℕ → State → List ℕ → List ℕ
told g s r = pick (is_active g s && has_value (at r 0)) (blanked r) r

-- ---- states

-- the slot of the stealth address, emptied
abbrev pub slot_hidden : Tlb → Tlb
slot_hidden t = record { slot_address = set t.slot_address (slot_of stealth) 0; slot_page = set t.slot_page (slot_of stealth) 0 }

-- g owns the page
abbrev pub is_own : ℕ → Shape → ℕ → Bool
is_own g h p = eqb (at h.pages.owner p) (owner_guest g)

-- The state without that slot, and without the values of g's pages, in memory and in lines, by the owners that it has. Its lists have their sizes.
unfoldable pub hide : ℕ → State → State
hide g s =
    let h = s.shape in
    record {
      shape = with_tlb h (slot_hidden h.tlb);
      values =
          record {
            memory = list_of pages (λ p. pick (is_own g h p) 0 (at s.values.memory p));
            line = list_of lines (λ i. pick (is_own g h (lead (at h.cache.line_page i))) 0 (at s.values.line i));
          };
    }

-- ---- runs

-- the open records of a run: what is told of those that are not hidden, each on the state that this run has there
unfoldable pub open_by : (State → List ℕ → Outcome) → ℕ → State → List (List ℕ) → List (List ℕ)
open_by f g s [] = []
open_by f g s (r ∷ rs) =
    let rest = open_by f g (f s r).state rs in
    pick (hidden g s r) rest (told g s r ∷ rest)

-- what is seen of a record: the number of its answer, its value unless g is active, and the states before and after it with g hidden
pub record Sight : Type 0 where
  pub number : ℕ
  pub value : ℕ
  pub before : State
  pub after : State

abbrev pub sight : ℕ → State → Outcome → Sight
sight g s o =
    record {
      number = number_of o.answer;
      value = pick (is_active g s) 0 (value_of o.answer);
      before = hide g s;
      after = hide g o.state;
    }

-- of each record of a run that is not hidden
unfoldable pub seen_by : (State → List ℕ → Outcome) → ℕ → State → List (List ℕ) → List Sight
seen_by f g s [] = []
seen_by f g s (r ∷ rs) =
    let rest = seen_by f g (f s r).state rs in
    pick (hidden g s r) rest (sight g s (f s r) ∷ rest)

abbrev pub open_records : ℕ → State → List (List ℕ) → List (List ℕ)
open_records g s rs = open_by step g s rs

abbrev pub seen : ℕ → State → List (List ℕ) → List Sight
seen g s rs = seen_by step g s rs

-- ---- the promise

-- every number of every record is a byte
abbrev pub AllBytes : List (List ℕ) → Type 0
AllBytes rs = (i : ℕ) → Bytes (get_or rs i [])

-- Of two records, r on s and q on t: the same number, the same value unless g is active, and the same state after.
pub record SameStep (g : ℕ) (s t : State) (r q : List ℕ) : Type 0 where
  pub number : number_of (step s r).answer ≡ number_of (step t q).answer
  pub value : is_active g s ≡ false → value_of (step s r).answer ≡ value_of (step t q).answer
  pub after : hide g (step s r).state ≡ hide g (step t q).state

-- Of two runs, one from s and one from t, the same is seen, and they lead to the same.
pub record SameSeen (f : State → List ℕ → Outcome) (g : ℕ) (s t : State) (rs qs : List (List ℕ)) : Type 0 where
  pub seen : seen_by f g s rs ≡ seen_by f g t qs
  pub left : hide g (run_by f s rs).state ≡ hide g (run_by f t qs).state

-- A machine keeps every guest's secret: two runs from one valid state that have the same open records look the same.
abbrev pub Secret : (State → List ℕ → Outcome) → Type 0
Secret f = (g : ℕ) (s : State) → Valid s → (rs qs : List (List ℕ)) → AllBytes rs → AllBytes qs → open_by f g s rs ≡ open_by f g s qs → SameSeen f g s s rs qs
