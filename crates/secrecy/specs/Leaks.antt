-- Four machines that leak: each is the host but for one part of one step. And of each two runs from the fresh machine that have the same open records beside guest 0.
-- The numbers here are spelled as the rule book spells them.
-- Assumes nothing.
use Rattle.std.specs.Prelude.{Bool, true, false, ◌&&◌, not, List, [], ◌∷◌, ◌++◌, map, ℕ, ◌%◌, ltb, eqb, set}
use Rattle.std.proofs.Math.Option.{none, some}
use Rattle.laws.specs.Choice.{pick, at}
use Rattle.laws.specs.Search.{first_below}
use Rattle.model.specs.Sizes.{ways, lines, set_of}
use Rattle.model.specs.State.{State, mapped, line_at, stealth_line}
use Rattle.model.specs.Parts.{shaped, set_history}
use Rattle.model.specs.Records.{Action, read, write, fields_of, decode}
use Rattle.model.specs.Read.{miss_line}
use Rattle.model.specs.Step.{Outcome, done, refuse, refusal, next, value}
use Rattle.model.specs.Samples.{Exchange, does, pins, unpins, maps, hides, deletes, turns_to, pins_to}
use Rattle.secrecy.specs.Secrecy.{is_access, Sight}

-- ---- machines

-- the host with this next state and this value of an action
unfoldable pub judge_by : (State → Action → State) → (State → Action → ℕ) → State → List ℕ → Outcome
judge_by n v s l =
    elim (decode l) [
      | none ↦ refuse s 2
      | some x ↦ elim (eqb (refusal s.shape x) 0) [ true ↦ record { answer = done (v s x); state = n s x } | false ↦ refuse s (refusal s.shape x) ]
    ]

abbrev pub is_kind : ℕ → Action → Bool
is_kind k x = eqb (fields_of x).kind k

-- unpin leaves the value in memory
unfoldable pub unpin_leaves : State → Action → State
unpin_leaves s x = pick (is_kind 14 x) (record { shape = (next s x).shape; values = s.values }) (next s x)

-- switch enters the next guest's line with the value of the line that it took out
unfoldable pub switch_carries : State → Action → State
switch_carries s x =
    let t = next s x in
    pick (is_kind 8 x)
    (record {
      shape = t.shape;
      values = record { memory = t.values.memory; line = set t.values.line stealth_line (at s.values.line stealth_line) };
    })
    t

-- a line that must be taken out is chosen by the value in way 0
unfoldable pub value_evicts : State → Action → State
value_evicts s x =
    let va = (fields_of x).a in
    pick (is_access (fields_of x).kind && ltb (miss_line s.shape va (mapped s.shape va)) lines)
    (next (shaped s (set_history s.shape (set_of va) (at s.values.line (line_at (set_of va) 0) % ways))) x)
    (next s x)

-- a line is found by its address, whatever its page
unfoldable pub address_reads : State → Action → ℕ
address_reads s x =
    let k = set_of (fields_of x).a in
    let w = first_below ways (λ w. eqb (at s.shape.cache.line_address (line_at k w)) (fields_of x).a && not (eqb (at s.shape.cache.line_page (line_at k w)) 0)) in
    pick (is_kind 1 x && ltb w ways) (at s.values.line (line_at k w)) (value s x)

-- ---- runs

abbrev pub records_in : List Exchange → List (List ℕ)
records_in l = map (λ x. x.bytes) l

-- guests 1 and 0 each have a page at 7, and at 0
abbrev pub both_hide : List Exchange
both_hide = turns_to 1 ++ pins 1 0 ++ hides 1 ++ turns_to 0 ++ pins 1 0 ++ hides 1

abbrev pub both_map : List Exchange
both_map = turns_to 1 ++ pins 1 0 ++ maps 0 1 ++ turns_to 0 ++ pins 1 0 ++ maps 0 1

-- guest 0 writes v to a page that it then gives back
abbrev pub given_back : ℕ → List (List ℕ)
given_back v = records_in (pins 1 0 ++ maps 0 1 ++ does (write 0 v) ++ deletes 0 ++ unpins 1)

-- guest 0 does this at 7, and guest 1 reads there
abbrev pub read_after : List Exchange → List (List ℕ)
read_after l = records_in (both_hide ++ l ++ turns_to 1 ++ does (read 7))

-- guest 0 writes v to the first of three pages of one set
abbrev pub evicted : ℕ → List (List ℕ)
evicted v = records_in (pins_to 3 ++ maps 0 1 ++ maps 8 2 ++ maps 16 3 ++ does (write 0 v) ++ does (read 8) ++ does (read 16))

-- guest 0 writes v at 0, and guest 1 reads there
abbrev pub same_address : ℕ → List (List ℕ)
same_address v = records_in (both_map ++ does (write 0 v) ++ turns_to 1 ++ does (read 0))

-- the value of the last answer that is seen
unfoldable pub last_value : List Sight → ℕ
last_value [] = 0
last_value (x ∷ []) = x.value
last_value (x ∷ y ∷ l) = last_value (y ∷ l)
