-- The fields of a state as bytes, in the order of docs/IMAGE.md: how many bytes each has, the state that such bytes are, and the bytes of a state.
-- Assumes nothing.
use Rattle.std.specs.Prelude.{List, [], ◌∷◌, ◌++◌, ℕ, zero, suc, ◌+◌, ◌*◌, ◌/◌, ◌%◌, ◌<◌, drop}
use Rattle.laws.specs.Choice.{at}
use Rattle.laws.specs.Cut.{part}
use Rattle.model.specs.Sizes.{guests, physicals, pages, addresses, lines, sets, slots, calls, call_a_bound, call_b_bound, marks_bound, policies, byte_bound, value_bound, value_bytes, map_bytes}
use Rattle.model.specs.Names.{owner_guest, kind_table, running}
use Rattle.model.specs.History.{histories}
use Rattle.model.specs.State.{State}
use Rattle.model.specs.Records.{word_bytes, word_at}

-- the sizes of the fields in bytes, in their order
abbrev pub field_sizes : List ℕ
field_sizes =
    pages  -- 0 owner
    ∷ pages  -- 1 kind
    ∷ pages  -- 2 cacheable
    ∷ pages * addresses  -- 3 entry
    ∷ guests * physicals  -- 4 physical
    ∷ map_bytes  -- 5 free
    ∷ guests  -- 6 current
    ∷ guests  -- 7 call
    ∷ guests  -- 8 call_a
    ∷ guests  -- 9 call_b
    ∷ 1  -- 10 active
    ∷ 1  -- 11 mode
    ∷ lines  -- 12 line_address
    ∷ lines  -- 13 line_page
    ∷ sets  -- 14 history
    ∷ slots  -- 15 slot_address
    ∷ slots  -- 16 slot_page
    ∷ pages * value_bytes  -- 17 memory
    ∷ lines * value_bytes  -- 18 line
    ∷ 1  -- 19 policy
    ∷ []

-- in a valid state each byte of a field is below this
abbrev pub field_bounds : List ℕ
field_bounds =
    owner_guest guests  -- 0 owner
    ∷ suc kind_table  -- 1 kind
    ∷ marks_bound  -- 2 cacheable
    ∷ suc pages  -- 3 entry
    ∷ suc pages  -- 4 physical
    ∷ byte_bound  -- 5 free
    ∷ physicals  -- 6 current
    ∷ calls  -- 7 call
    ∷ call_a_bound  -- 8 call_a
    ∷ call_b_bound  -- 9 call_b
    ∷ guests  -- 10 active
    ∷ suc running  -- 11 mode
    ∷ addresses  -- 12 line_address
    ∷ suc pages  -- 13 line_page
    ∷ histories  -- 14 history
    ∷ addresses  -- 15 slot_address
    ∷ suc pages  -- 16 slot_page
    ∷ byte_bound  -- 17 memory
    ∷ byte_bound  -- 18 line
    ∷ policies  -- 19 policy
    ∷ []

-- every number of the list is a byte; past its end there is 0
abbrev pub Small : List ℕ → Type 0
Small s = (i : ℕ) → at s i < byte_bound

-- ---- numbers of four and of eight bytes, low byte first

-- the first n numbers of four bytes, and the bytes of such numbers
unfoldable pub words : ℕ → List ℕ → List ℕ
words zero s = []
words (suc n) s = word_at s 0 ∷ words n (drop value_bytes s)

unfoldable pub words_bytes : List ℕ → List ℕ
words_bytes [] = []
words_bytes (v ∷ vs) = word_bytes v ++ words_bytes vs

-- eight bytes as a number, and a number's eight bytes
abbrev pub long : List ℕ → ℕ
long s = word_at s 0 + value_bound * word_at s value_bytes

abbrev pub long_bytes : ℕ → List ℕ
long_bytes v = word_bytes (v % value_bound) ++ word_bytes (v / value_bound)

-- ---- a state and its fields

-- the state whose fields have these bytes
abbrev pub state_of : List (List ℕ) → State
state_of ps =
    record {
      shape =
          record {
            pages =
                record {
                  owner = part ps 0;
                  kind = part ps 1;
                  cacheable = part ps 2;
                  entry = part ps 3;
                  physical = part ps 4;
                  free = long (part ps 5);
                };
            guests =
                record {
                  current = part ps 6;
                  call = part ps 7;
                  call_a = part ps 8;
                  call_b = part ps 9;
                  active = at (part ps 10) 0;
                  mode = at (part ps 11) 0;
                };
            cache = record { line_address = part ps 12; line_page = part ps 13; history = part ps 14 };
            tlb = record { slot_address = part ps 15; slot_page = part ps 16 };
            policy = at (part ps 19) 0;
          };
      values = record { memory = words pages (part ps 17); line = words lines (part ps 18) };
    }

-- the bytes of each field
abbrev pub state_fields : State → List (List ℕ)
state_fields s =
    let P = s.shape.pages in
    let G = s.shape.guests in
    let C = s.shape.cache in
    let T = s.shape.tlb in
    P.owner ∷ P.kind ∷ P.cacheable ∷ P.entry ∷ P.physical ∷ long_bytes P.free ∷ G.current ∷ G.call ∷ G.call_a ∷ G.call_b ∷ (G.active ∷ [])
    ∷ (G.mode ∷ []) ∷ C.line_address ∷ C.line_page ∷ C.history ∷ T.slot_address ∷ T.slot_page ∷ words_bytes s.values.memory
    ∷ words_bytes s.values.line ∷ (s.shape.policy ∷ []) ∷ []
