-- Output buffers as long as the program's hold all that is printed.
-- Assumes nothing.
use Rattle.std.proofs.Common.{◌≡◌, ℕ, zero, suc, ◌+◌, ◌*◌, ◌^◌, ◌<◌, ◌≤◌, not, eqb, ltb, List, [], ◌∷◌, ◌++◌, length, drop, subst, arith, length-append}
use Rattle.laws.proofs.Cases.{pick_both}
use Rattle.model.specs.Sizes.{answer_bytes, answer_value_at, record_limit}
use Rattle.model.specs.State.{State}
use Rattle.model.specs.Fields.{Small}
use Rattle.model.specs.Valid.{valid?}
use Rattle.model.specs.Run.{run}
use Rattle.model.specs.Journal.{Report, records_of, number_at, value_at, pasted, reported, report_of, has_header, whole_records, form_refusal, journal_refusal, After, journal}
use Rattle.model.specs.Image.{ImageAnswer, done, not_valid, not_image, loaded}
use Rattle.model.proofs.Journal.{either, accepted_and_refused}
use Rattle.journal.proofs.Reports.{form_fits}
use Rattle.print.specs.Text.{decimal_of}
use Rattle.print.proofs.Typing.{whole_text}
use Rattle.print.proofs.Decimal.{length_decimal}
use Rattle.output.specs.Output.{title_line, refused_word, done_word, cut_word, number_then, space, line_end, record_line, record_lines, refused_line, cut_line, done_line, report_lines, printed, load_lines}
use Rattle.print.specs.declared.status.Printed.{Printed}
use Rattle.output.specs.Promises.{Prints, PrintsLoad}
use Rattle.output.proofs.Room.{form_passes}

pub number_long : (n x k : ℕ) → n < 10 ^ suc k → length (number_then n x) ≤ suc k + 1
number_long n x k h = omega (arith, length-append (decimal_of n) (x ∷ []), length_decimal n k h)

-- 4, 3 and 10 digits, two spaces and the line's end
line_long : (n a v : ℕ) → n < 10 ^ 4 → a < 10 ^ 3 → v < 10 ^ 10 → length (record_line n a v) ≤ 20
line_long n a v h k l =
    omega (arith, length-append (number_then n space ++ number_then a space) (number_then v line_end), length-append (number_then n space) (number_then a space), number_long n space 3 h, number_long a space 2 k, number_long v line_end 9 l)

lines_long : (n : ℕ) (c : List ℕ) → Small c → n ≤ record_limit → length (record_lines n c) ≤ 20 * n
unfolding record_lines
lines_long zero c s h = omega arith
lines_long (suc n) c s h =
    let i = answer_bytes * n in
    let r = lines_long n c s (omega arith) in
    let k = i + answer_value_at in
    let l = line_long (n + 1) (number_at c n) (value_at c n) (omega arith) (omega (arith, s i)) (omega (arith, s k, s (k + 1), s (k + 2), s (k + 3))) in
    omega (arith, length-append (record_lines n c) (record_line (n + 1) (number_at c n) (value_at c n)))

pub cut_long : (n : ℕ) → n < 10 ^ 1 → length (cut_line n) ≤ 6
cut_long n h =
    pick_both (λ l. length l ≤ 6) (eqb n 0) (λ e. omega arith) (λ e. omega (arith, length-append cut_word (number_then n line_end), number_long n line_end 0 h))

pub refused_long : (n k : ℕ) → n < 10 ^ suc k → length (refused_line n) ≤ suc k + 9
refused_long n k h = omega (arith, length-append refused_word (number_then n line_end), number_long n line_end k h)

done_long : (a r : ℕ) → a < 10 ^ 4 → r < 10 ^ 4 → length (done_line a r) ≤ 23
done_long a r h k =
    omega (arith, length-append (done_word ++ number_then a space) (refused_line r), length-append done_word (number_then a space), number_long a space 3 h, refused_long r 3 k)

-- as the program has it
abbrev pub output_bytes : ℕ
output_bytes = 20 * record_limit + 64

report_long : (r : Report) (c : List ℕ) → Small c → r.taken ≤ record_limit → r.left_over < 10 ^ 1 → r.accepted + r.refused ≡ r.taken
    → length (report_lines r c) ≤ output_bytes
report_long r c s h k e =
    let ls = record_lines r.taken c in
    let ds = done_line r.accepted r.refused in
    omega (arith, length-append (title_line ++ ls ++ cut_line r.left_over) ds, length-append (title_line ++ ls) (cut_line r.left_over), length-append title_line ls, lines_long r.taken c s h, cut_long r.left_over k, done_long r.accepted r.refused (omega arith) (omega arith))

module _ (s : State) (j b : List ℕ) where
  refusal_small : journal_refusal s j b < 10 ^ 2
  unfolding journal_refusal form_refusal
  refusal_small =
      let t = ltb record_limit (whole_records (length j)) in
      let u = ltb (length b) (answer_bytes * whole_records (length j)) in
      pick_both (λ n. n < 10 ^ 2) (not (valid? s)) (λ e. omega arith)
      (λ e. pick_both (λ n. n < 10 ^ 2) (not (has_header j)) (λ f. omega arith)
      (λ f. pick_both (λ n. n < 10 ^ 2) t (λ g. omega arith) (λ g. pick_both (λ n. n < 10 ^ 2) u (λ i. omega arith) (λ i. omega arith))))

  pub printed_most : Small (journal s j b).buffer → length (printed (journal s j b)) ≤ output_bytes
  printed_most =
      either (λ (a : After). (report_of a.verdict).accepted + (report_of a.verdict).refused ≡ (report_of a.verdict).taken → Small a.buffer → length (printed a) ≤ output_bytes) s j b
      (λ e q c. let f = form_fits j b (form_passes s j b e) in
      report_long (reported j (run s (records_of j)).answers) (pasted (run s (records_of j)).answers b) c f.1 (omega arith) q)
      (λ n q c. omega (arith, refused_long (journal_refusal s j b) 1 refusal_small))
      (accepted_and_refused s j b)

-- of an image at most a refusal's line, of two digits; as the program has it
abbrev pub refusal_bytes : ℕ
refusal_bytes = 11

load_most : (a : ImageAnswer) → length (load_lines a) ≤ refusal_bytes
load_most done = omega arith
load_most not_valid = refused_long 1 1 (omega arith)
load_most not_image = refused_long 16 1 (omega arith)

-- The output buffer starts with all that is printed, and its rest stays. That the answers are bytes is what their type says.
pub printed_whole : (s : State) (j b d : List ℕ) {p : Printed} {t : State} {c e : List ℕ} → Prints s j b d p t c e → Small c → output_bytes ≤ length d
    → (p.bytes ≡ length (printed (journal s j b))) × (e ≡ printed (journal s j b) ++ drop (length (printed (journal s j b))) d)
printed_whole s j b d {p} {c = c} {e = e} w m h =
    whole_text d (printed (journal s j b)) p.bytes e (omega (arith, printed_most s j b (subst Small w.answers m))) w.output

pub load_whole : (s : State) (i d : List ℕ) {p : Printed} {t : State} {e : List ℕ} → PrintsLoad s i d p t e → refusal_bytes ≤ length d
    → (p.bytes ≡ length (load_lines (loaded s i).answer))
    × (e ≡ load_lines (loaded s i).answer ++ drop (length (load_lines (loaded s i).answer)) d)
load_whole s i d {p} {e = e} w h =
    whole_text d (load_lines (loaded s i).answer) p.bytes e (omega (arith, load_most (loaded s i).answer)) w.output
