-- docs/HOST.md, "Records and answers": the table of kinds, actions, and records as bytes.
-- Assumes nothing.
use Rattle.std.specs.Prelude.{◌≡◌, Bool, ◌&&◌, ◌||◌, List, [], ◌∷◌, ℕ, zero, suc, ◌+◌, ◌*◌, ◌/◌, ◌%◌, ◌^◌, ◌<◌, ltb, leb, eqb, length, get_or}
use Rattle.std.proofs.Math.Option.{Option, none, some}
use Rattle.laws.specs.Choice.{pick, at}
use Rattle.model.specs.Sizes.{guests, physicals, addresses, stealth, calls, kinds, record_bytes, byte_bound, value_bound, pin_kinds}
use Rattle.model.specs.Names.{waiting, running}

-- ---- calls

abbrev pub call_none : ℕ
call_none = 0

abbrev pub call_new : ℕ
call_new = 1

abbrev pub call_del : ℕ
call_del = 2

abbrev pub call_lswitch : ℕ
call_lswitch = 3

abbrev pub call_pin : ℕ
call_pin = 4

abbrev pub call_unpin : ℕ
call_unpin = 5

-- ---- the table: a row for each kind

-- the mode that a kind needs, where it may be any
abbrev pub any_mode : ℕ
any_mode = 2

-- what a kind asks of pending calls: nothing; that the active guest's is exactly this one, with the record's a and b; that the active guest,
-- or the guest that a names, has none; that the guest that a names has one
pub data Need : Type 0 where
  nothing : Need
  exactly : ℕ → Need
  active_idle : Need
  named_idle : Need
  named_pending : Need

-- a from a_from on and below a_below, and b likewise
pub record Row : Type 0 where
  pub mode : ℕ
  pub need : Need
  pub a_from : ℕ
  pub a_below : ℕ
  pub b_from : ℕ
  pub b_below : ℕ

-- a row by its limits from 0 on: 1 for an argument that is not used
abbrev pub row : ℕ → Need → ℕ → ℕ → Row
row m n a b = record { mode = m; need = n; a_from = 0; a_below = a; b_from = 0; b_below = b }

abbrev pub row_silent : Row
row_silent = row any_mode nothing 1 1

abbrev pub rows : List Row
rows =
    row_silent
    ∷ row running nothing addresses 1  -- read
    ∷ row waiting nothing addresses 1  -- read_hyper
    ∷ row running nothing addresses 1  -- write
    ∷ row waiting nothing addresses 1  -- write_hyper
    ∷ row waiting (exactly call_new) addresses physicals  -- new
    ∷ record { mode = waiting; need = exactly call_new; a_from = stealth; a_below = suc stealth; b_from = 0; b_below = physicals }  -- new_sm
    ∷ row waiting (exactly call_del) addresses 1  -- del
    ∷ row waiting named_idle guests 1  -- switch
    ∷ row waiting (exactly call_lswitch) physicals 1  -- lswitch
    ∷ row running nothing 1 1  -- hcall: a and b as the call
    ∷ row running nothing 1 1  -- ret_ctrl
    ∷ row waiting active_idle 1 1  -- chmod
    ∷ row waiting (exactly call_pin) physicals pin_kinds  -- pin
    ∷ row waiting (exactly call_unpin) physicals 1  -- unpin
    ∷ row waiting named_pending guests 1  -- drop
    ∷ []

abbrev pub row_of : ℕ → Row
row_of k = get_or rows k row_silent

abbrev pub kind_hcall : ℕ
kind_hcall = 10

-- the kind whose arguments a call has: none has those of silent
abbrev pub kind_of_call : ℕ → ℕ
kind_of_call c = at (0 ∷ 5 ∷ 7 ∷ 9 ∷ 13 ∷ 14 ∷ []) c

-- a and b are within the row's limits
abbrev pub within : Row → ℕ → ℕ → Bool
within r a b = leb r.a_from a && ltb a r.a_below && leb r.b_from b && ltb b r.b_below

-- ---- actions

pub data Action : Type 0 where
  silent : Action
  read : ℕ → Action
  read_hyper : ℕ → Action
  write : ℕ → ℕ → Action
  write_hyper : ℕ → ℕ → Action
  new : ℕ → ℕ → Action
  new_sm : ℕ → Action
  del : ℕ → Action
  switch : ℕ → Action
  lswitch : ℕ → Action
  hcall : ℕ → ℕ → ℕ → Action
  ret_ctrl : Action
  chmod : Action
  pin : ℕ → ℕ → Action
  unpin : ℕ → Action
  drop : ℕ → Action

-- ---- the fields of a record

pub record Fields : Type 0 where
  pub kind : ℕ
  pub a : ℕ
  pub b : ℕ
  pub call : ℕ
  pub value : ℕ

abbrev pub fields : ℕ → ℕ → ℕ → ℕ → ℕ → Fields
fields k a b c v = record { kind = k; a = a; b = b; call = c; value = v }

-- an action's fields, unused ones zero
abbrev pub fields_of : Action → Fields
fields_of silent = fields 0 0 0 0 0
fields_of (read va) = fields 1 va 0 0 0
fields_of (read_hyper va) = fields 2 va 0 0 0
fields_of (write va v) = fields 3 va 0 0 v
fields_of (write_hyper va v) = fields 4 va 0 0 v
fields_of (new va pa) = fields 5 va pa 0 0
fields_of (new_sm pa) = fields 6 stealth pa 0 0
fields_of (del va) = fields 7 va 0 0 0
fields_of (switch g) = fields 8 g 0 0 0
fields_of (lswitch pa) = fields 9 pa 0 0 0
fields_of (hcall c a b) = fields 10 a b c 0
fields_of ret_ctrl = fields 11 0 0 0 0
fields_of chmod = fields 12 0 0 0 0
fields_of (pin pa k) = fields 13 pa k 0 0
fields_of (unpin pa) = fields 14 pa 0 0 0
fields_of (drop g) = fields 15 g 0 0 0

-- ---- actions in range

-- the arguments of a call, by its number; unused ones are zero
abbrev pub CallInRange : ℕ → ℕ → ℕ → Type 0
CallInRange zero a b = (a ≡ 0) × (b ≡ 0)  -- none
CallInRange (suc zero) a b = (a < addresses) × (b < physicals)  -- new
CallInRange (suc (suc zero)) a b = (a < addresses) × (b ≡ 0)  -- del
CallInRange (suc (suc (suc zero))) a b = (a < physicals) × (b ≡ 0)  -- lswitch
CallInRange (suc (suc (suc (suc zero)))) a b = (a < physicals) × (b < pin_kinds)  -- pin
CallInRange (suc (suc (suc (suc (suc zero))))) a b = (a < physicals) × (b ≡ 0)  -- unpin
CallInRange (suc (suc (suc (suc (suc (suc c)))))) a b = ⊥

abbrev pub InRange : Action → Type 0
InRange silent = Unit {0}
InRange (read va) = va < addresses
InRange (read_hyper va) = va < addresses
InRange (write va v) = (va < addresses) × (v < value_bound)
InRange (write_hyper va v) = (va < addresses) × (v < value_bound)
InRange (new va pa) = (va < addresses) × (pa < physicals)
InRange (new_sm pa) = pa < physicals
InRange (del va) = va < addresses
InRange (switch g) = g < guests
InRange (lswitch pa) = pa < physicals
InRange (hcall c a b) = CallInRange c a b
InRange ret_ctrl = Unit {0}
InRange chmod = Unit {0}
InRange (pin pa k) = (pa < physicals) × (k < pin_kinds)
InRange (unpin pa) = pa < physicals
InRange (drop g) = g < guests

-- ---- bytes: kind, a, b, call, then a 32-bit value, low byte first

abbrev pub word_bytes : ℕ → List ℕ
word_bytes v = v % byte_bound ∷ v / byte_bound % byte_bound ∷ v / byte_bound ^ 2 % byte_bound ∷ v / byte_bound ^ 3 % byte_bound ∷ []

abbrev pub bytes_of : Fields → List ℕ
bytes_of f = f.kind ∷ f.a ∷ f.b ∷ f.call ∷ word_bytes f.value

abbrev pub encode : Action → List ℕ
encode x = bytes_of (fields_of x)

-- every number of the list is a byte
abbrev pub Bytes : List ℕ → Type 0
Bytes l = (i : ℕ) → i < length l → at l i < byte_bound

-- the 32-bit number whose low byte stands at i
abbrev pub word_at : List ℕ → ℕ → ℕ
word_at l i = at l i + byte_bound * at l (i + 1) + byte_bound ^ 2 * at l (i + 2) + byte_bound ^ 3 * at l (i + 3)

abbrev pub fields_in : List ℕ → Fields
fields_in l = fields (at l 0) (at l 1) (at l 2) (at l 3) (word_at l 4)

-- the kinds that have a value
abbrev pub has_value : ℕ → Bool
has_value k = eqb k 3 || eqb k 4

-- the kind whose limits the arguments keep
abbrev pub limit_kind : Fields → ℕ
limit_kind f = pick (eqb f.kind kind_hcall) (kind_of_call f.call) f.kind

-- known kind and call, arguments in range, unused fields zero
abbrev pub well_formed : Fields → Bool
well_formed f =
    ltb f.kind kinds
    && pick (eqb f.kind kind_hcall) (ltb f.call calls) (eqb f.call 0)
    && within (row_of (limit_kind f)) f.a f.b
    && (has_value f.kind || eqb f.value 0)

abbrev pub action_of : Fields → Action
action_of f =
    get_or
    (silent ∷ read f.a ∷ read_hyper f.a ∷ write f.a f.value ∷ write_hyper f.a f.value ∷ new f.a f.b ∷ new_sm f.b
    ∷ del f.a ∷ switch f.a ∷ lswitch f.a ∷ hcall f.call f.a f.b ∷ ret_ctrl ∷ chmod ∷ pin f.a f.b ∷ unpin f.a
    ∷ drop f.a ∷ [])
    f.kind
    silent

-- the action that the bytes are, if they are a record of one in range
unfoldable pub decode : List ℕ → Option Action
decode l = pick (eqb (length l) record_bytes && well_formed (fields_in l)) (some (action_of (fields_in l))) none
