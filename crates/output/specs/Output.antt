-- docs/HOST.md, "Journal and program": what the program prints, in ASCII.
-- Assumes nothing.
use Rattle.std.specs.Prelude.{ℕ, zero, suc, ◌+◌, List, [], ◌∷◌, ◌++◌, ◌==◌}
use Rattle.laws.specs.Choice.{pick}
use Rattle.model.specs.Image.{ImageAnswer, image_number}
use Rattle.model.specs.Journal.{number_at, value_at, Report, Verdict, ran, turned_away, After}
use Rattle.print.specs.Text.{decimal_of}

-- ---- words

-- RPJ 1, and the line's end
abbrev pub title_line : List ℕ
title_line = 82 ∷ 80 ∷ 74 ∷ 32 ∷ 49 ∷ 10 ∷ []

abbrev pub refused_word : List ℕ
refused_word = 114 ∷ 101 ∷ 102 ∷ 117 ∷ 115 ∷ 101 ∷ 100 ∷ 32 ∷ []

abbrev pub done_word : List ℕ
done_word = 100 ∷ 111 ∷ 110 ∷ 101 ∷ 32 ∷ []

abbrev pub cut_word : List ℕ
cut_word = 99 ∷ 117 ∷ 116 ∷ 32 ∷ []

-- a number, and a byte after it: a space, or the line's end
abbrev pub number_then : ℕ → ℕ → List ℕ
number_then n x = decimal_of n ++ x ∷ []

abbrev pub space : ℕ
space = 32

abbrev pub line_end : ℕ
line_end = 10

-- ---- lines

-- the record's number, its answer and its value
abbrev pub record_line : ℕ → ℕ → ℕ → List ℕ
record_line n a v = number_then n space ++ number_then a space ++ number_then v line_end

-- the lines of the first n records, numbered from 1, as their answers stand in the buffer
unfoldable pub record_lines : ℕ → List ℕ → List ℕ
record_lines zero b = []
record_lines (suc n) b =
    record_lines n b ++ record_line (n + 1) (number_at b n) (value_at b n)

abbrev pub refused_line : ℕ → List ℕ
refused_line n = refused_word ++ number_then n line_end

-- Left-over bytes add a line before the last.
abbrev pub cut_line : ℕ → List ℕ
cut_line n = pick (n == 0) [] (cut_word ++ number_then n line_end)

abbrev pub done_line : ℕ → ℕ → List ℕ
done_line a r = done_word ++ number_then a space ++ refused_line r

-- ---- the output

abbrev pub report_lines : Report → List ℕ → List ℕ
report_lines r b = title_line ++ record_lines r.taken b ++ cut_line r.left_over ++ done_line r.accepted r.refused

abbrev pub lines_of : Verdict → List ℕ → List ℕ
lines_of (ran r) b = report_lines r b
lines_of (turned_away n) b = refused_line n

-- what is printed of a journal's run
abbrev pub printed : After → List ℕ
printed a = lines_of a.verdict a.buffer

-- what is printed of an image that was to be loaded
abbrev pub load_lines : ImageAnswer → List ℕ
load_lines a = pick (image_number a == 0) [] (refused_line (image_number a))

-- ---- the status with which the program ends, as a digit in ASCII

-- journal and image were not refused
abbrev pub ran_status : ℕ
ran_status = 48

abbrev pub refused_status : ℕ
refused_status = 49

abbrev pub status_of : Verdict → ℕ
status_of (ran r) = ran_status
status_of (turned_away n) = refused_status

abbrev pub load_status : ImageAnswer → ℕ
load_status a = pick (image_number a == 0) ran_status refused_status
