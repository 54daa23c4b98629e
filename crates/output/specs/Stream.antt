-- docs/HOST.md, "Journal and program": what the program prints of a journal that arrives in pieces, call by call.
-- Assumes nothing.
use Rattle.std.specs.Prelude.{ℕ, zero, suc, ◌+◌, ◌-◌, ◌%◌, ◌^◌, Bool, ◌&&◌, List, [], ◌++◌, length, ◌==◌, nat_eq, nat_lt}
use Rattle.laws.specs.Choice.{pick}
use Rattle.laws.specs.Search.{count_below}
use Rattle.model.specs.Sizes.{header_bytes}
use Rattle.model.specs.Journal.{number_at, value_at}
use Rattle.model.specs.Pieces.{header_count, begun_count, Fed, AfterCall}
use Rattle.output.specs.declared.stream.Told.{Told}
use Rattle.output.specs.Output.{title_line, record_line, refused_line, cut_line, done_line, ran_status, refused_status}

-- record numbers and counts have 64 bits
abbrev pub count_bound : ℕ
count_bound = 2 ^ 64

-- ---- counts

-- the records so far
abbrev pub told_records : Told → ℕ
told_records t = (t.accepted + t.refused) % count_bound

-- how many of the first n answers in the buffer are done
abbrev pub accepted_among : ℕ → List ℕ → ℕ
accepted_among n b = count_below n (λ i. nat_eq (number_at b i) 0)

-- with n more records
abbrev pub told_after : Told → ℕ → List ℕ → Told
told_after t n b =
    record {
      accepted = (t.accepted + accepted_among n b) % count_bound;
      refused = (t.refused + (n - accepted_among n b)) % count_bound;
    }

-- ---- lines

-- the lines of the first n records, numbered on from k, as their answers stand in the buffer
unfoldable pub record_lines_from : ℕ → ℕ → List ℕ → List ℕ
record_lines_from k zero b = []
record_lines_from k (suc n) b =
    record_lines_from k n b ++ record_line ((k + (n + 1)) % count_bound) (number_at b n) (value_at b n)

-- the title, where the header became whole, and the records
abbrev pub open_lines : Bool → Told → ℕ → List ℕ → List ℕ
open_lines w t n b = pick w title_line [] ++ record_lines_from (told_records t) n b

-- bytes left over and the counts, where the input ended
abbrev pub end_lines : Bool → ℕ → Told → List ℕ
end_lines e n t = pick e (cut_line n ++ done_line t.accepted t.refused) []

-- ---- a call: whether the header was short before it, whether the input ended with it, what was told before it; what it answered, what is kept and the
-- answer buffer after it

-- the header is whole now
abbrev pub became_whole : Bool → List ℕ → Bool
became_whole short l = short && header_count l == header_bytes

-- what is printed of n records
abbrev pub ran_lines : Bool → Bool → Told → ℕ → List ℕ → List ℕ → List ℕ
ran_lines short ended t n l c = open_lines (became_whole short l) t n c ++ end_lines ended (begun_count l) (told_after t n c)

abbrev pub call_lines : Bool → Bool → Told → Fed → List ℕ → List ℕ → List ℕ
call_lines short ended t f l c = pick (f.number == 0) (ran_lines short ended t f.records l c) (refused_line f.number)

abbrev pub call_status : Fed → ℕ
call_status f = pick (f.number == 0) ran_status refused_status

-- A refused call leaves the counts.
abbrev pub call_told : Told → Fed → List ℕ → Told
call_told t f c = pick (f.number == 0) (told_after t f.records c) t

-- what is printed of feed: of what was kept before, a piece, and whether the input ends with it
abbrev pub piece_lines : List ℕ → Told → List ℕ → Bool → AfterCall → List ℕ
piece_lines k t piece last a =
    call_lines (nat_lt (header_count k) header_bytes) (last && a.fed.bytes == length piece) t a.fed a.kept a.buffer
