-- Sample runs on the fresh machine of write-through, in the words of Samples.antt: what is written is in memory at once, and the answers are those of
-- write-back.
-- The numbers here are spelled as the rule book spells them.
-- Assumes nothing.
use Rattle.std.specs.Prelude.{Bool, ◌&&◌, List, [], ◌∷◌, ◌++◌, ℕ, eqb}
use Rattle.model.specs.Names.{write_through}
use Rattle.model.specs.State.{State, stealth_line}
use Rattle.model.specs.Fresh.{fresh_with}
use Rattle.model.specs.Records.{write, write_hyper, ret_ctrl}
use Rattle.model.specs.Step.{Outcome}
use Rattle.model.specs.Samples.{Group, groups_pass, does, yields, yields_hyper, pins, unpins, maps, hides, deletes, turns_to, pins_to, ending, after, memory_is, mark_is, line_is, no_line_at, history_is, nine}

-- under write-through memory has at once what is written, whatever the access found, and the policy stays
abbrev pub through_is : ℕ → ℕ → State → Bool
through_is p v s = memory_is p v s && eqb s.shape.policy write_through

unfoldable pub through_samples : List Group
through_samples =
    after nine
    -- a miss, then a hit
    (ending [] (λ s. through_is 8 300 s && line_is 0 0 8 300 s && history_is 0 1 s)
    ∷ ending (does (write 0 7) ++ yields 0 7) (λ s. through_is 8 7 s && line_is 0 0 8 7 s && history_is 0 1 s)
    ∷ ending (does ret_ctrl ++ does (write_hyper 0 9) ++ yields_hyper 0 9) (λ s. through_is 8 9 s && line_is 0 0 8 9 s)
    -- taken out by del, and shared: then not cacheable, and memory has it in any case
    ∷ ending (deletes 0 ++ maps 9 1 ++ yields 9 300) (λ s. through_is 8 300 s && no_line_at 0 s)
    ∷ ending (maps 1 1 ++ yields 1 300 ++ does (write 1 7) ++ yields 0 7) (λ s. through_is 8 7 s && no_line_at 0 s && mark_is 8 0 s)
    -- given back and taken again it is 0
    ∷ ending (does (write 0 5) ++ deletes 0 ++ unpins 1 ++ pins 1 0 ++ maps 0 1 ++ yields 0 0) (λ s. through_is 8 0 s && line_is 0 0 8 0 s)
    ∷ [])
    -- all in one set: a line that is taken out has memory's value, and the one that enters is written
    ∷ after (pins_to 3 ++ maps 0 1 ++ maps 8 2 ++ maps 16 3 ++ does (write 0 5) ++ does (write 8 6) ++ does (write 16 7))
    (ending [] (λ s. through_is 8 5 s && through_is 9 6 s && through_is 10 7 s && line_is 0 16 10 7 s && line_is 1 8 9 6 s)
    ∷ ending (yields 0 5) (λ s. through_is 8 5 s && through_is 9 6 s && line_is 1 0 8 5 s)
    ∷ [])
    -- the stealth page
    ∷ after (pins 1 0 ++ hides 1 ++ does (write 7 5))
    (ending [] (λ s. through_is 8 5 s && line_is stealth_line 7 8 5 s) ∷ ending (turns_to 1 ++ turns_to 0 ++ yields 7 5) (through_is 8 5) ∷ [])
    ∷ []

-- the table passes, for a step that answers records
unfoldable pub through_pass : (State → List ℕ → Outcome) → Bool
through_pass f = groups_pass f (fresh_with write_through) through_samples
