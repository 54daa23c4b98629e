-- docs/HOST.md, "Journal and program": a journal's header, limits, refusals, report and answers, on bytes.
-- Assumes nothing.
use Rattle.std.specs.Prelude.{Bool, true, false, ◌&&◌, not, List, [], ◌∷◌, ◌++◌, ℕ, ◌+◌, ◌*◌, ◌-◌, ◌/◌, ◌%◌, ltb, eqb, length, take, drop}
use Rattle.laws.specs.Choice.{pick, at}
use Rattle.laws.specs.Search.{all_below, list_of}
use Rattle.model.specs.Sizes.{record_bytes, answer_bytes, answer_value_at, header_bytes, record_limit}
use Rattle.model.specs.State.{State}
use Rattle.model.specs.Records.{word_bytes, word_at}
use Rattle.model.specs.Valid.{valid?}
use Rattle.model.specs.Step.{Answer, number_of, value_of}
use Rattle.model.specs.Run.{Ran, run}

-- the bytes RPJ, version 1 as 16 bits low byte first, three zero bytes
abbrev pub header : List ℕ
header = 82 ∷ 80 ∷ 74 ∷ 1 ∷ 0 ∷ 0 ∷ 0 ∷ 0 ∷ []

-- the first 8 bytes are there, and those of the header
unfoldable pub has_header : List ℕ → Bool
has_header j = not (ltb (length j) header_bytes) && all_below header_bytes (λ i. eqb (at j i) (at header i))

-- ---- records

-- whole records of a journal of n bytes
abbrev pub whole_records : ℕ → ℕ
whole_records n = (n - header_bytes) / record_bytes

abbrev pub taken : List ℕ → ℕ
taken j = whole_records (length j)

-- bytes left over, which are not run
abbrev pub left_over : List ℕ → ℕ
left_over j = (length j - header_bytes) % record_bytes

-- record n, where it lies
abbrev pub record_at : List ℕ → ℕ → List ℕ
record_at j n = take record_bytes (drop (header_bytes + record_bytes * n) j)

abbrev pub records_of : List ℕ → List (List ℕ)
records_of j = list_of (taken j) (record_at j)

-- ---- answers

-- number, three zeros, value low byte first
abbrev pub answer_bytes_of : Answer → List ℕ
answer_bytes_of x = number_of x ∷ 0 ∷ 0 ∷ 0 ∷ word_bytes (value_of x)

-- answer i of a buffer, read back: its number and its value
abbrev pub number_at : List ℕ → ℕ → ℕ
number_at b i = at b (answer_bytes * i)

abbrev pub value_at : List ℕ → ℕ → ℕ
value_at b i = word_at b (answer_bytes * i + answer_value_at)

abbrev pub written : List Answer → List ℕ
written [] = []
written (x ∷ xs) = answer_bytes_of x ++ written xs

-- the answers at the start of the buffer; the rest stays
abbrev pub pasted : List Answer → List ℕ → List ℕ
pasted xs b = written xs ++ drop (answer_bytes * length xs) b

-- how many of the answers are done
abbrev pub accepted_in : List Answer → ℕ
accepted_in [] = 0
accepted_in (x ∷ xs) = pick (eqb (number_of x) 0) 1 0 + accepted_in xs

abbrev pub refused_in : List Answer → ℕ
refused_in [] = 0
refused_in (x ∷ xs) = pick (eqb (number_of x) 0) 0 1 + refused_in xs

-- ---- the journal

pub record Report : Type 0 where
  pub taken : ℕ
  pub accepted : ℕ
  pub refused : ℕ
  pub left_over : ℕ

-- the journal was run, or refused with a number
pub data Verdict : Type 0 where
  ran : Report → Verdict
  turned_away : ℕ → Verdict

abbrev pub zero_report : Report
zero_report = record { taken = 0; accepted = 0; refused = 0; left_over = 0 }

abbrev pub verdict_number : Verdict → ℕ
verdict_number (ran r) = 0
verdict_number (turned_away n) = n

-- A refused journal's report is all zero.
abbrev pub report_of : Verdict → Report
report_of (ran r) = r
report_of (turned_away n) = zero_report

-- what a journal gives on a state and an answer buffer
pub record After : Type 0 where
  pub verdict : Verdict
  pub state : State
  pub buffer : List ℕ

-- 13, first 8 bytes missing or different; 14, more than 4,096 whole records; 15, answer buffer shorter than 8 times the records: of a journal
-- with its header or not, by its length and the buffer's
unfoldable pub form_refusal : Bool → ℕ → ℕ → ℕ
form_refusal t n m =
    pick (not t) 13 (pick (ltb record_limit (whole_records n)) 14 (pick (ltb m (answer_bytes * whole_records n)) 15 0))

-- the journal's refusal, 1 before these; 0 for none
unfoldable pub journal_refusal : State → List ℕ → List ℕ → ℕ
journal_refusal s j b = pick (not (valid? s)) 1 (form_refusal (has_header j) (length j) (length b))

-- the report on the answers to a journal's records
abbrev pub reported : List ℕ → List Answer → Report
reported j xs = record { taken = taken j; accepted = accepted_in xs; refused = refused_in xs; left_over = left_over j }

abbrev pub played : Ran → List ℕ → List ℕ → After
played r j b = record { verdict = ran (reported j r.answers); state = r.state; buffer = pasted r.answers b }

-- A refused journal changes nothing.
abbrev pub away : State → List ℕ → ℕ → After
away s b n = record { verdict = turned_away n; state = s; buffer = b }

unfoldable pub journal : State → List ℕ → List ℕ → After
journal s j b =
    elim (eqb (journal_refusal s j b) 0) [
      | true ↦ played (run s (records_of j)) j b
      | false ↦ away s b (journal_refusal s j b)
    ]
