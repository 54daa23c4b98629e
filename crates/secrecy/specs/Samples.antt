-- Pairs of runs beside guest 0: which have the same open records; and where they have, that the answers seen and the states left are the same.
-- The numbers here are spelled as the rule book spells them.
-- Assumes nothing.
use Rattle.std.specs.Prelude.{Bool, true, false, ◌&&◌, not, List, [], ◌∷◌, ◌++◌, map, ℕ, eqb}
use Rattle.std.specs.Bool.{beq}
use Rattle.laws.specs.Choice.{◌⇒◌}
use Rattle.laws.specs.Search.{all_in}
use Rattle.model.specs.State.{State}
use Rattle.model.specs.Records.{Action, silent, read, read_hyper, write, write_hyper, ret_ctrl, encode}
use Rattle.model.specs.RuleTests.{columns}
use Rattle.model.specs.Step.{judge}
use Rattle.model.specs.Run.{run_by}
use Rattle.model.specs.Samples.{Exchange, does, gets, yields, bad, pins, unpins, maps, deletes, turns_to}
use Rattle.secrecy.specs.Secrecy.{hide, open_by, Sight, seen_by}
use Rattle.secrecy.specs.Leaks.{records_in, both_hide}

-- ---- what is compared

unfoldable pub same_numbers : List ℕ → List ℕ → Bool
same_numbers [] [] = true
same_numbers [] (y ∷ ys) = false
same_numbers (x ∷ xs) [] = false
same_numbers (x ∷ xs) (y ∷ ys) = elim (eqb x y) [ true ↦ same_numbers xs ys | false ↦ false ]

unfoldable pub same_lists : List (List ℕ) → List (List ℕ) → Bool
same_lists [] [] = true
same_lists [] (y ∷ ys) = false
same_lists (x ∷ xs) [] = false
same_lists (x ∷ xs) (y ∷ ys) = elim (same_numbers x y) [ true ↦ same_lists xs ys | false ↦ false ]

-- every number of the state
abbrev pub numbers_of : State → List (List ℕ)
numbers_of s = map (λ c. c.numbers) (columns s)

-- the numbers and values of the answers that are seen
abbrev pub answers_in : List Sight → List (List ℕ)
answers_in l = map (λ x. x.number ∷ x.value ∷ []) l

-- an answer that is done, without a value
abbrev pub quiet : List ℕ
quiet = 0 ∷ 0 ∷ []

-- ---- pairs

-- the record with a byte more
abbrev pub longer : Action → List Exchange
longer x = bad (encode x ++ (0 ∷ []))

pub record Pair : Type 0 where
  pub first : List (List ℕ)
  pub second : List (List ℕ)
  pub alike : Bool  -- the open records are the same

-- beside guest 0, both from the state s
unfoldable pub holds : State → Pair → Bool
holds s p =
    beq (same_lists (open_by judge 0 s p.first) (open_by judge 0 s p.second)) p.alike
    && (p.alike ⇒ same_lists (answers_in (seen_by judge 0 s p.first)) (answers_in (seen_by judge 0 s p.second))
    && same_lists (numbers_of (hide 0 (run_by judge s p.first).state)) (numbers_of (hide 0 (run_by judge s p.second).state)))

-- where nothing is hidden, they are told apart
unfoldable pub told_apart : State → Pair → Bool
told_apart s p = not (same_lists (numbers_of (run_by judge s p.first).state) (numbers_of (run_by judge s p.second).state))

abbrev pub pair : Bool → List Exchange → List Exchange → Pair
pair t l m = record { first = records_in l; second = records_in m; alike = t }

-- guests 1 and 0 have a page at 7, and guest 0 another at 0; the TLB is empty
abbrev pub beginning : List (List ℕ)
beginning = records_in (both_hide ++ pins 2 0 ++ maps 0 2 ++ turns_to 1 ++ turns_to 0)

-- guest 0 reads and writes at 7, and not; and other values at 0. Guest 1 reads.
abbrev pub around : Pair
around = pair true (does (write 7 300) ++ does (write 0 5) ++ does (read 7) ++ turns_to 1 ++ does (read 7)) (does (write 0 6) ++ turns_to 1 ++ does (read 7))

unfoldable pub pairs : List Pair
pairs =
    around
    -- still active: slot 7 and its lines differ, and its own read
    ∷ pair true (does (write 7 300) ++ does (write 0 5) ++ does (read 0)) (does (write 0 6) ++ does (read 0))
    -- a page that is given back
    ∷ pair true (does (write 0 5) ++ deletes 0 ++ unpins 2) (does (write 0 6) ++ deletes 0 ++ unpins 2)
    -- the host for guest 0, at 7 and at 0; a value of four bytes
    ∷ pair true (does ret_ctrl ++ does (write_hyper 7 300) ++ does (write_hyper 0 5) ++ does (read_hyper 7)) (does ret_ctrl ++ does (write_hyper 0 6))
    ∷ pair true (does (write 0 305419896)) (does (write 0 0))
    -- at 7 bytes that are no record, and the wrong mode
    ∷ pair true (longer (write 7 1) ++ gets 3 (read_hyper 7)) []
    -- told: a read elsewhere, a record that does nothing, a byte more, and what guest 1 writes
    ∷ pair false (does (read 0)) []
    ∷ pair false (does silent) []
    ∷ pair false (does (write 0 5)) (longer (write 0 5))
    ∷ pair false (turns_to 1 ++ does (write 7 5)) (turns_to 1 ++ does (write 7 6))
    ∷ []

-- what is seen of one run, spelled out: a refusal; at 7 nothing; of guest 0's own read no value; and what guest 1 reads
abbrev pub spelled : List (List ℕ)
spelled = records_in (gets 6 (read 1) ++ does (write 7 300) ++ does (write 0 5) ++ yields 0 5 ++ turns_to 1 ++ does (write 7 9) ++ yields 7 9)

abbrev pub spelled_seen : List (List ℕ)
spelled_seen = (6 ∷ 0 ∷ []) ∷ quiet ∷ quiet ∷ quiet ∷ quiet ∷ quiet ∷ quiet ∷ (0 ∷ 9 ∷ []) ∷ []

unfoldable pub all_hold : List Pair → State → Bool
all_hold l s = all_in (λ i p. holds s p) l && told_apart s around && same_lists (answers_in (seen_by judge 0 s spelled)) spelled_seen
