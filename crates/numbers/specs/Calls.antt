-- A pending call as an answer of code, by its three numbers, and its numbers. `bytes_call` in proofs/CallNumbers.antt: no number is lost.
-- Assumes nothing.
use Rattle.std.specs.Prelude.{Bool, ◌&&◌, [], ◌∷◌, ℕ, zero, suc, eqb, get_or}
use Rattle.laws.specs.Choice.{pick}
use Rattle.model.specs.Records.{call_none, call_new, call_del, call_lswitch, call_pin, call_unpin}
use Rattle.numbers.specs.declared.Va.{Va}
use Rattle.numbers.specs.declared.Pa.{Pa}
use Rattle.numbers.specs.declared.calls.PinKind.{PinKind}
use Rattle.numbers.specs.declared.calls.PinKind.TheVariants.{Data, Table}
use Rattle.numbers.specs.declared.calls.Call.{Call}
use Rattle.numbers.specs.declared.calls.Call.TheVariants.{None, New, Del, Lswitch, Pin, Unpin, Other}
use Rattle.numbers.specs.declared.calls.CallBytes.{CallBytes}

abbrev pub va : ℕ → Va
va n = record { 0 = n }

abbrev pub pa : ℕ → Pa
pa n = record { 0 = n }

-- ---- a pin's kind: 0 data, 1 table

abbrev pub pin_kind_of : ℕ → PinKind
pin_kind_of zero = Data
pin_kind_of (suc k) = Table

abbrev pub pin_number : PinKind → ℕ
pin_number Data = 0
pin_number Table = 1

-- ---- a call's numbers

abbrev pub call_bytes : ℕ → ℕ → ℕ → CallBytes
call_bytes c a b = record { number = c; a = a; b = b }

abbrev pub bytes_of : Call → CallBytes
bytes_of None = call_bytes call_none 0 0
bytes_of (New v p) = call_bytes call_new v.0 p.0
bytes_of (Del v) = call_bytes call_del v.0 0
bytes_of (Lswitch p) = call_bytes call_lswitch p.0 0
bytes_of (Pin p k) = call_bytes call_pin p.0 (pin_number k)
bytes_of (Unpin p) = call_bytes call_unpin p.0 0
bytes_of (Other c a b) = call_bytes c a b

abbrev pub same_bytes : CallBytes → CallBytes → Bool
same_bytes x y = eqb x.number y.number && eqb x.a y.a && eqb x.b y.b

-- the call of number c, with as many of a and b as it uses
abbrev pub call_named : ℕ → ℕ → ℕ → Call
call_named c a b =
    get_or (None ∷ New (va a) (pa b) ∷ Del (va a) ∷ Lswitch (pa a) ∷ Pin (pa a) (pin_kind_of b) ∷ Unpin (pa a) ∷ []) c None

-- The call whose numbers these are. A number past the last, an argument that the call does not use and that is not zero, and a kind past table
-- are no call's.
unfoldable pub call_of : ℕ → ℕ → ℕ → Call
call_of c a b = pick (same_bytes (bytes_of (call_named c a b)) (call_bytes c a b)) (call_named c a b) (Other c a b)
