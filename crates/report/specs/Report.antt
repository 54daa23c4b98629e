-- docs/HOST.md, "Checking": what is printed of a state and of an image, in ASCII, and the status with which the program ends, as a digit.
-- Assumes nothing.
use Rattle.std.specs.Prelude.{Bool, true, ◌&&◌, List, [], ◌∷◌, ◌++◌, ℕ, zero, suc, ◌*◌}
use Rattle.laws.specs.Choice.{pick}
use Rattle.model.specs.State.{State}
use Rattle.model.specs.Image.{is_image, held, not_image, image_number}
use Rattle.model.specs.Broken.{last_rule, Finding, holds, broken, no_rule, first_broken, is_holds}
use Rattle.print.specs.Text.{decimal_of}
use Rattle.words.specs.Words.{line_end, holds_line, broken_line, longest_line}

-- ---- rule by rule

-- what is found of rule n
abbrev pub finding_line : ℕ → Finding → List ℕ
finding_line n holds = holds_line n
finding_line n (broken k i) = broken_line n k i
finding_line n no_rule = []

-- whether rules 1 to n all hold, and their lines
unfoldable pub all_hold : ℕ → State → Bool
all_hold zero s = true
all_hold (suc n) s = all_hold n s && is_holds (first_broken (suc n) s)

unfoldable pub rule_lines : ℕ → State → List ℕ
rule_lines zero s = []
rule_lines (suc n) s = rule_lines n s ++ finding_line (suc n) (first_broken (suc n) s)

-- ---- the output

-- 0: all rules hold; 1: one is broken, or it is no image
abbrev pub hold_status : ℕ
hold_status = 48

abbrev pub broken_status : ℕ
broken_status = 49

abbrev pub state_lines : State → List ℕ
state_lines s = rule_lines last_rule s

abbrev pub state_status : State → ℕ
state_status s = pick (all_hold last_rule s) hold_status broken_status

-- "refused "
abbrev pub refused_word : List ℕ
refused_word = 114 ∷ 101 ∷ 102 ∷ 117 ∷ 115 ∷ 101 ∷ 100 ∷ 32 ∷ []

abbrev pub no_image_line : List ℕ
no_image_line = refused_word ++ decimal_of (image_number not_image) ++ line_end ∷ []

abbrev pub image_lines : List ℕ → List ℕ
image_lines i = pick (is_image i) (state_lines (held i)) no_image_line

abbrev pub image_status : List ℕ → ℕ
image_status i = pick (is_image i) (state_status (held i)) broken_status

-- the most bytes of a report: a line for each rule
abbrev pub report_bytes : ℕ
report_bytes = last_rule * longest_line
