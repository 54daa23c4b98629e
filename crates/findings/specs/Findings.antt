-- docs/HOST.md, "Checking": what is said of a rule, and what that means for the rule and for its places.
-- Assumes nothing.
use Rattle.std.specs.Prelude.{◌≡◌, true, false, ◌⊎◌, ◌↔◌, List, [], ◌∷◌, ℕ, ◌≤◌, ◌<◌, length, get_or}
use Rattle.model.specs.State.{State, table}
use Rattle.model.specs.Rules.{Rule1, Rule2, Rule3, Rule4, Rule5, Rule6, Rule7, Rule8, Rule9, Rule10, Rule11}
use Rattle.model.specs.Valid.{Valid}
use Rattle.model.specs.Broken.{RulePart, below, places_in, passes_at, parts_of, last_rule, holds, broken, first_broken}

-- ---- the rules by their numbers, as statements

pub record Known (n : ℕ) : Type 0 where
  pub some : 1 ≤ n
  pub last : n ≤ last_rule

-- place n has rule n
unfoldable pub statements : State → List (Type 0)
statements s =
    let P = s.shape.pages in
    let G = s.shape.guests in
    let C = s.shape.cache in
    let T = s.shape.tlb in
    Unit
    ∷ Rule1 G.call G.call_a G.call_b G.active G.mode
    ∷ Rule2 P.owner P.kind P.cacheable s.values.memory P.free
    ∷ Rule3 P.owner P.physical
    ∷ Rule4 P.owner P.kind P.entry
    ∷ Rule5 P.owner P.kind P.physical G.current
    ∷ Rule6 P.kind P.cacheable P.entry
    ∷ Rule7 P.kind P.cacheable P.entry C.line_address C.line_page
    ∷ Rule8 P.entry T.slot_address T.slot_page (table s.shape)
    ∷ Rule9 P.entry C.line_address C.line_page C.history (table s.shape)
    ∷ Rule10 s
    ∷ Rule11 C.line_page s.values.memory s.values.line s.shape.policy
    ∷ []

abbrev pub Rule : ℕ → State → Type 0
Rule n s = get_or (statements s) n Unit

-- ---- places

abbrev pub part_at : List RulePart → ℕ → RulePart
part_at ps k = get_or ps k (below 0 (λ i. true))

-- part k has a place i
pub record Place (ps : List RulePart) (k i : ℕ) : Type 0 where
  pub part : k < length ps
  pub place : i < places_in (part_at ps k)

-- in an earlier part, or in the same and earlier there
abbrev pub Earlier : ℕ → ℕ → ℕ → ℕ → Type 0
Earlier l j k i = (l < k) ⊎ ((l ≡ k) × (j < i))

-- place i of part k is the first where the test fails
pub record First (ps : List RulePart) (k i : ℕ) : Type 0 where
  pub there : Place ps k i
  pub fails : passes_at (part_at ps k) i ≡ false
  pub before : (l j : ℕ) → Place ps l j → Earlier l j k i → passes_at (part_at ps l) j ≡ true

-- the test passes at every place
abbrev pub Passes : List RulePart → Type 0
Passes ps = (l j : ℕ) → Place ps l j → passes_at (part_at ps l) j ≡ true

-- ---- the promise: of a rule it is said that it holds exactly if it does, which is to say at every place; a place that is named is the first where it
-- fails; and one of the two is said

pub record Told (n : ℕ) (s : State) : Type 0 where
  pub none : (first_broken n s ≡ holds) ↔ Rule n s
  pub everywhere : first_broken n s ≡ holds → Passes (parts_of n s)
  pub found : (k i : ℕ) → first_broken n s ≡ broken k i → First (parts_of n s) k i
  pub either : (first_broken n s ≡ holds) ⊎ ((k : ℕ) × (i : ℕ) × (first_broken n s ≡ broken k i))

-- no rule is said to be broken
abbrev pub AllHold : State → Type 0
AllHold s = (n : ℕ) → Known n → first_broken n s ≡ holds

abbrev pub ToldValid : State → Type 0
ToldValid s = Valid s ↔ AllHold s
