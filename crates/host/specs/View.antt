-- The bytes of a state: where each field stands (docs/STATE.md), and the state that they are.
-- Assumes nothing.
use Rattle.std.specs.Prelude.{◌≡◌, Bool, ◌&&◌, not, List, [], ◌∷◌, ℕ, zero, suc, eqb, ltb, length, set}
use Rattle.model.specs.State.{State}
use Rattle.model.specs.Parts.{with_pages, with_policy, shaped, set_active, set_mode}
use Rattle.laws.specs.Cut.{cut, part, edit, total}
use Rattle.model.specs.Fields.{field_sizes, state_of, Small}

-- The sizes of the fields in bytes, in their order: today those of an image, and in its order.
abbrev pub sizes : List ℕ
sizes = field_sizes

-- the bytes of a state
abbrev pub bytes : ℕ
bytes = total sizes

unfoldable pub view : List ℕ → State
view xs = state_of (cut sizes xs)

-- what the type of the buffer says of its bytes
pub record Whole (xs : List ℕ) : Type 0 where
  pub long : length xs ≡ bytes
  pub small : Small xs

-- ---- fields by their numbers

abbrev pub owner_field : ℕ
owner_field = 0

abbrev pub kind_field : ℕ
kind_field = 1

abbrev pub cacheable_field : ℕ
cacheable_field = 2

abbrev pub entry_field : ℕ
entry_field = 3

abbrev pub physical_field : ℕ
physical_field = 4

abbrev pub current_field : ℕ
current_field = 6

abbrev pub call_field : ℕ
call_field = 7

abbrev pub call_a_field : ℕ
call_a_field = 8

abbrev pub call_b_field : ℕ
call_b_field = 9

abbrev pub line_address_field : ℕ
line_address_field = 12

abbrev pub line_page_field : ℕ
line_page_field = 13

abbrev pub history_field : ℕ
history_field = 14

abbrev pub slot_address_field : ℕ
slot_address_field = 15

abbrev pub slot_page_field : ℕ
slot_page_field = 16

abbrev pub free_field : ℕ
free_field = 5

abbrev pub active_field : ℕ
active_field = 10

abbrev pub mode_field : ℕ
mode_field = 11

abbrev pub memory_field : ℕ
memory_field = 17

abbrev pub line_field : ℕ
line_field = 18

abbrev pub policy_field : ℕ
policy_field = 19

-- ---- one place of a field changed

-- the fields that are lists of bytes, by their number
abbrev pub listed : ℕ → Bool
listed k = ltb k 17 && not (eqb k 5) && not (eqb k 10) && not (eqb k 11)

abbrev pub columns_of : State → List (List ℕ)
columns_of s =
    let P = s.shape.pages in
    let G = s.shape.guests in
    let C = s.shape.cache in
    let T = s.shape.tlb in
    P.owner ∷ P.kind ∷ P.cacheable ∷ P.entry ∷ P.physical ∷ [] ∷ G.current ∷ G.call ∷ G.call_a ∷ G.call_b ∷ [] ∷ [] ∷ C.line_address ∷ C.line_page
    ∷ C.history ∷ T.slot_address ∷ T.slot_page ∷ []

abbrev pub column : ℕ → State → List ℕ
column k s = part (columns_of s) k

abbrev pub with_columns : State → List (List ℕ) → State
with_columns s ps =
    record {
      shape =
          record {
            pages =
                record {
                  owner = part ps 0;
                  kind = part ps 1;
                  cacheable = part ps 2;
                  entry = part ps 3;
                  physical = part ps 4;
                  free = s.shape.pages.free;
                };
            guests =
                record {
                  current = part ps 6;
                  call = part ps 7;
                  call_a = part ps 8;
                  call_b = part ps 9;
                  active = s.shape.guests.active;
                  mode = s.shape.guests.mode;
                };
            cache = record { line_address = part ps 12; line_page = part ps 13; history = part ps 14 };
            tlb = record { slot_address = part ps 15; slot_page = part ps 16 };
            policy = s.shape.policy;
          };
      values = s.values;
    }

-- place i of field k holds v
unfoldable pub put : ℕ → State → ℕ → ℕ → State
put k s i v = with_columns s (edit k (λ l. set l i v) (columns_of s))

-- the numbers that are no list

unfoldable pub put_free : State → ℕ → State
put_free s v = shaped s (with_pages s.shape (record {
  owner = s.shape.pages.owner;
  kind = s.shape.pages.kind;
  cacheable = s.shape.pages.cacheable;
  entry = s.shape.pages.entry;
  physical = s.shape.pages.physical;
  free = v;
}))

unfoldable pub put_active : State → ℕ → State
put_active s g = shaped s (set_active s.shape g)

unfoldable pub put_mode : State → ℕ → State
put_mode s m = shaped s (set_mode s.shape m)

unfoldable pub put_policy : State → ℕ → State
put_policy s p = shaped s (with_policy s.shape p)

-- the values

unfoldable pub put_memory : State → ℕ → ℕ → State
put_memory s p v = record { shape = s.shape; values = record { memory = set s.values.memory p v; line = s.values.line } }

unfoldable pub put_line : State → ℕ → ℕ → State
put_line s i v = record { shape = s.shape; values = record { memory = s.values.memory; line = set s.values.line i v } }

-- the lists of values, counted from memory_field
abbrev pub worded : ℕ → State → List ℕ
worded k s = part (s.values.memory ∷ s.values.line ∷ []) k

abbrev pub put_word : ℕ → State → ℕ → ℕ → State
put_word zero s i v = put_memory s i v
put_word (suc k) s i v = put_line s i v
