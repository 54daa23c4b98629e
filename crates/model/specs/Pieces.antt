-- docs/HOST.md, "Journals in pieces": what is kept from one piece to the next, and what a call of feed makes of a piece.
-- Assumes nothing.
use Rattle.std.specs.Prelude.{◌≡◌, Bool, true, false, ◌&&◌, not, List, [], ◌∷◌, ◌++◌, ℕ, ◌+◌, ◌*◌, ◌-◌, ◌/◌, min, ltb, leb, eqb, length, take, drop, set, replicate}
use Rattle.laws.specs.Choice.{pick, at}
use Rattle.laws.specs.Search.{all_below, list_of}
use Rattle.model.specs.Sizes.{record_bytes, answer_bytes, header_bytes, byte_bound, count_bytes, begun_most}
use Rattle.model.specs.State.{State}
use Rattle.model.specs.Valid.{valid?}
use Rattle.model.specs.Run.{Ran, run}
use Rattle.model.specs.Journal.{header, pasted}

-- ---- what is kept

-- how many bytes of the header were taken
abbrev pub header_count : List ℕ → ℕ
header_count k = at k 0

-- how many bytes of a begun record are kept, and these bytes
abbrev pub begun_count : List ℕ → ℕ
begun_count k = at k 1

abbrev pub begun : List ℕ → List ℕ
begun k = take (begun_count k) (drop count_bytes k)

-- both counts, the bytes of a begun record, and zeros
abbrev pub kept_of : ℕ → List ℕ → List ℕ
kept_of n r = n ∷ length r ∷ r ++ replicate (begun_most - length r) 0

abbrev pub beginning : List ℕ
beginning = kept_of 0 []

-- once 13 was given, in place of a number of header bytes
abbrev pub stopped : ℕ
stopped = byte_bound - 1

abbrev pub stop : List ℕ → List ℕ
stop k = set k 0 stopped

-- ---- a piece

-- how many bytes of the piece are the header's
abbrev pub header_part : List ℕ → List ℕ → ℕ
header_part k piece = min (header_bytes - header_count k) (length piece)

-- they are right
abbrev pub header_goes_on : List ℕ → List ℕ → Bool
header_goes_on k piece = all_below (header_part k piece) (λ i. eqb (at piece i) (at header (header_count k + i)))

-- with them the header is still short
abbrev pub header_short : List ℕ → List ℕ → Bool
header_short k piece = ltb (header_count k + header_part k piece) header_bytes

abbrev pub counts_in_range : List ℕ → Bool
counts_in_range k = leb (header_count k) header_bytes && leb (begun_count k) begun_most

-- what is kept, and the piece, may be a journal's
abbrev pub is_journal : List ℕ → List ℕ → Bool → Bool
is_journal k piece last = counts_in_range k && header_goes_on k piece && not (last && header_short k piece)

-- the bytes of the begun record, followed by the piece without its header bytes
abbrev pub at_hand : List ℕ → List ℕ → List ℕ
at_hand k piece = begun k ++ drop (header_part k piece) piece

-- whole records among n bytes
abbrev pub whole_in : ℕ → ℕ
whole_in n = n / record_bytes

-- the first n records of these bytes
abbrev pub records_in : List ℕ → ℕ → List (List ℕ)
records_in l n = list_of n (λ i. take record_bytes (drop (record_bytes * i) l))

-- the records to be run: the smaller of the allowance and the whole records at hand
abbrev pub to_run : List ℕ → List ℕ → ℕ → ℕ
to_run k piece allowance = min allowance (whole_in (length (at_hand k piece)))

-- ---- numbers

-- 13 and 15, for a buffer of so many bytes; 0 for none
unfoldable pub piece_refusal : List ℕ → List ℕ → ℕ → Bool → ℕ → ℕ
piece_refusal k piece allowance last room =
    pick (not (is_journal k piece last)) 13 (pick (ltb room (answer_bytes * to_run k piece allowance)) 15 0)

-- 1 before these
unfoldable pub feed_refusal : State → List ℕ → List ℕ → ℕ → Bool → List ℕ → ℕ
feed_refusal s k piece allowance last b = pick (not (valid? s)) 1 (piece_refusal k piece allowance last (length b))

-- ---- the call

-- its number, how many records it ran, and how many bytes of the piece it took
pub record Fed : Type 0 where
  pub number : ℕ
  pub records : ℕ
  pub bytes : ℕ

-- what a call gives on a state, what is kept and an answer buffer
pub record AfterCall : Type 0 where
  pub fed : Fed
  pub state : State
  pub kept : List ℕ
  pub buffer : List ℕ

-- after n records, a whole one is left at hand
abbrev pub is_left : List ℕ → List ℕ → ℕ → Bool
is_left k piece n = ltb n (whole_in (length (at_hand k piece)))

-- Then nothing behind the last record that was run is taken, otherwise all of the piece.
abbrev pub bytes_taken : List ℕ → List ℕ → ℕ → ℕ
bytes_taken k piece n = pick (is_left k piece n) (header_part k piece + (record_bytes * n - length (begun k))) (length piece)

-- Then a begun record stays kept if no record was run; otherwise what is left at hand is kept.
abbrev pub begun_after : List ℕ → List ℕ → ℕ → List ℕ
begun_after k piece n = pick (is_left k piece n) (pick (eqb n 0) (begun k) []) (drop (record_bytes * n) (at_hand k piece))

abbrev pub kept_after : List ℕ → List ℕ → ℕ → List ℕ
kept_after k piece n = kept_of (header_count k + header_part k piece) (begun_after k piece n)

-- n records were run
abbrev pub ran_on : Ran → List ℕ → List ℕ → ℕ → List ℕ → AfterCall
ran_on r k piece n b =
    record {
      fed = record { number = 0; records = n; bytes = bytes_taken k piece n };
      state = r.state;
      kept = kept_after k piece n;
      buffer = pasted r.answers b;
    }

-- A refused call takes nothing and changes nothing, but 13 is remembered.
abbrev pub sent_back : State → List ℕ → List ℕ → ℕ → AfterCall
sent_back s k b n =
    record { fed = record { number = n; records = 0; bytes = 0 }; state = s; kept = pick (eqb n 13) (stop k) k; buffer = b }

unfoldable pub feed : State → List ℕ → List ℕ → ℕ → Bool → List ℕ → AfterCall
feed s k piece allowance last b =
    elim (eqb (feed_refusal s k piece allowance last b) 0) [
      | true ↦
          let n = to_run k piece allowance in
          ran_on (run s (records_in (at_hand k piece) n)) k piece n b
      | false ↦ sent_back s k b (feed_refusal s k piece allowance last b)
    ]

-- what feed promises: the answer, and the state, what is kept and the answer buffer after it
pub record Feeds (s : State) (k piece : List ℕ) (allowance : ℕ) (last : Bool) (b : List ℕ) (f : Fed) (t : State) (l c : List ℕ) : Type 0 where
  pub answer : f ≡ (feed s k piece allowance last b).fed
  pub state : t ≡ (feed s k piece allowance last b).state
  pub kept : l ≡ (feed s k piece allowance last b).kept
  pub buffer : c ≡ (feed s k piece allowance last b).buffer
