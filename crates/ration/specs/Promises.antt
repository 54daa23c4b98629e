-- What the exported functions promise, byte by byte, in the terms of the model.
-- Assumes nothing.
use Rattle.std.specs.Prelude.{◌≡◌, Bool, List, ◌++◌, ℕ, ◌*◌, ltb}
use Rattle.laws.specs.Choice.{pick}
use Rattle.model.specs.Sizes.{policies}
use Rattle.model.specs.State.{State}
use Rattle.model.specs.Fresh.{fresh_with}
use Rattle.model.specs.Records.{word_bytes}
use Rattle.model.specs.Step.{step}
use Rattle.model.specs.Image.{image_number, opened, loaded, saved}
use Rattle.model.specs.Broken.{finding_number, finding_part, finding_place, first_broken}
use Rattle.model.specs.Pieces.{feed}
use Rattle.model.specs.Journal.{Verdict, Report, verdict_number, report_of, answer_bytes_of, journal}

-- the bytes of a number of 32 bits, and of a report: the verdict's number, taken, accepted, refused, left over
abbrev pub word_size : ℕ
word_size = 4

abbrev pub report_size : ℕ
report_size = 5 * word_size

abbrev pub counts_bytes : Report → List ℕ
counts_bytes r = word_bytes r.taken ++ word_bytes r.accepted ++ word_bytes r.refused ++ word_bytes r.left_over

-- A refused journal's report is all zero but for its number.
abbrev pub report_bytes_of : Verdict → List ℕ
report_bytes_of v = word_bytes (verdict_number v) ++ counts_bytes (report_of v)

-- the fresh machine with the policy p in place of state s: the number n, 1 where p is no policy, and state t, which is then s
pub record StartsBytes (s : State) (p n : ℕ) (t : State) : Type 0 where
  pub number : n ≡ pick (ltb p policies) 0 1
  pub state : t ≡ pick (ltb p policies) (fresh_with p) s

-- the record l on state s: state t and answer bytes c
pub record StepsBytes (s : State) (l : List ℕ) (t : State) (c : List ℕ) : Type 0 where
  pub state : t ≡ (step s l).state
  pub answer : c ≡ answer_bytes_of (step s l).answer

-- the journal j on state s, with the answer buffer b: state t, answers c and report bytes d
pub record RunsBytes (s : State) (j b : List ℕ) (t : State) (c d : List ℕ) : Type 0 where
  pub state : t ≡ (journal s j b).state
  pub answers : c ≡ (journal s j b).buffer
  pub report : d ≡ report_bytes_of (journal s j b).verdict

-- the state s saved to the buffer b: the number n, and the buffer c
pub record SavesBytes (s : State) (b : List ℕ) (n : ℕ) (c : List ℕ) : Type 0 where
  pub number : n ≡ image_number (saved s b).answer
  pub buffer : c ≡ (saved s b).buffer

-- the image i loaded on state s: the number n, and state t
pub record LoadsBytes (s : State) (i : List ℕ) (n : ℕ) (t : State) : Type 0 where
  pub number : n ≡ image_number (loaded s i).answer
  pub state : t ≡ (loaded s i).state

-- the image i opened on state s: the number n, and state t
pub record OpensBytes (s : State) (i : List ℕ) (n : ℕ) (t : State) : Type 0 where
  pub number : n ≡ image_number (opened s i).answer
  pub state : t ≡ (opened s i).state

-- rule r of the state s checked: the number n, the part k and the place i
pub record ChecksBytes (s : State) (r n k i : ℕ) : Type 0 where
  pub number : n ≡ finding_number (first_broken r s)
  pub part : k ≡ finding_part (first_broken r s)
  pub place : i ≡ finding_place (first_broken r s)

-- a piece of a journal on state s, with what is kept, an allowance, whether the input ends, and the answer buffer b: the number n, state t, what is kept
-- after it, l, the answers c, and how many records it ran and how many bytes it took
pub record FeedsBytes (s : State) (k piece : List ℕ) (allowance : ℕ) (last : Bool) (b : List ℕ) (n : ℕ) (t : State) (l c : List ℕ) (ran took : ℕ) : Type 0 where
  pub number : n ≡ (feed s k piece allowance last b).fed.number
  pub state : t ≡ (feed s k piece allowance last b).state
  pub kept : l ≡ (feed s k piece allowance last b).kept
  pub answers : c ≡ (feed s k piece allowance last b).buffer
  pub records : ran ≡ (feed s k piece allowance last b).fed.records
  pub bytes : took ≡ (feed s k piece allowance last b).fed.bytes
