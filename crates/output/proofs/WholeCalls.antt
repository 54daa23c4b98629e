-- Output buffers as long as the program's hold all that is printed of a call.
-- Assumes nothing.
use Rattle.std.proofs.Common.{◌≡◌, ℕ, zero, suc, ◌+◌, ◌*◌, ◌/◌, ◌%◌, ◌^◌, ◌<◌, ◌≤◌, Bool, not, ◌&&◌, eqb, ltb, List, [], ◌++◌, length, drop, subst, arith, length-append, eqb-true}
use Rattle.laws.specs.Choice.{pick}
use Rattle.laws.proofs.Cases.{pick_both}
use Rattle.model.specs.Sizes.{header_bytes, answer_bytes, answer_value_at}
use Rattle.model.specs.State.{State}
use Rattle.model.specs.Fields.{Small}
use Rattle.model.specs.Valid.{valid?}
use Rattle.model.specs.Journal.{number_at, value_at}
use Rattle.model.specs.Pieces.{header_count, begun_count, is_journal, to_run, piece_refusal, feed_refusal, AfterCall}
use Rattle.model.proofs.Pieces.{either, not_refused, fed_valid, fed_on}
use Rattle.output.specs.declared.stream.Told.{Told}
use Rattle.output.specs.declared.stream.Streamed.{Streamed}
use Rattle.output.specs.Output.{title_line, done_word, number_then, space, line_end, record_line, refused_line, cut_line, done_line}
use Rattle.output.specs.Stream.{count_bound, told_records, told_after, record_lines_from, open_lines, end_lines, became_whole, ran_lines, piece_lines}
use Rattle.output.specs.Promises.{fed, Streams}
use Rattle.print.proofs.Typing.{whole_text}
use Rattle.output.proofs.Whole.{number_long, cut_long, refused_long}
use Rattle.output.proofs.Streaming.{begun_short, begun_most_law}

-- 20, 3 and 10 digits, two spaces and the line's end
abbrev pub line_bytes : ℕ
line_bytes = 36

-- the title, bytes left over, and the counts of 20 digits
abbrev pub other_bytes : ℕ
other_bytes = 67

-- of a call that may run n records; as the program has it
abbrev pub call_bytes : ℕ → ℕ
call_bytes n = line_bytes * n + other_bytes

line_long : (n a v : ℕ) → n < 10 ^ 20 → a < 10 ^ 3 → v < 10 ^ 10 → length (record_line n a v) ≤ line_bytes
line_long n a v h k l =
    omega (arith, length-append (number_then n space ++ number_then a space) (number_then v line_end), length-append (number_then n space) (number_then a space), number_long n space 19 h, number_long a space 2 k, number_long v line_end 9 l)

lines_long : (k n : ℕ) (c : List ℕ) → Small c → length (record_lines_from k n c) ≤ line_bytes * n
unfolding record_lines_from
lines_long k zero c s = omega arith
lines_long k (suc n) c s =
    let i = answer_bytes * n in
    let r = lines_long k n c s in
    let j = i + answer_value_at in
    let m = (k + (n + 1)) % count_bound in
    let l = line_long m (number_at c n) (value_at c n) (omega arith) (omega (arith, s i)) (omega (arith, s j, s (j + 1), s (j + 2), s (j + 3))) in
    omega (arith, length-append (record_lines_from k n c) (record_line m (number_at c n) (value_at c n)))

done_long : (a r : ℕ) → a < 10 ^ 20 → r < 10 ^ 20 → length (done_line a r) ≤ 55
done_long a r h k =
    omega (arith, length-append (done_word ++ number_then a space) (refused_line r), length-append done_word (number_then a space), number_long a space 19 h, refused_long r 19 k)

end_long : (e : Bool) (n : ℕ) (t : Told) → n < 10 ^ 1 → t.accepted < 10 ^ 20 → t.refused < 10 ^ 20 → length (end_lines e n t) ≤ 61
end_long e n t h k l =
    let ds = done_line t.accepted t.refused in
    pick_both (λ (x : List ℕ). length x ≤ 61) e
    (λ z. omega (arith, length-append (cut_line n) ds, cut_long n h, done_long t.accepted t.refused k l))
    (λ z. omega arith)

title_long : (w : Bool) → length (pick w title_line []) ≤ 6
title_long w = pick_both (λ (x : List ℕ). length x ≤ 6) w (λ z. omega arith) (λ z. omega arith)

ran_long : (short ended : Bool) (t : Told) (n : ℕ) (l c : List ℕ) → Small c → begun_count l < 10 ^ 1 → length (ran_lines short ended t n l c) ≤ call_bytes n
ran_long short ended t n l c s h =
    let w = became_whole short l in
    let ls = record_lines_from (told_records t) n c in
    let es = end_lines ended (begun_count l) (told_after t n c) in
    omega (arith, length-append (open_lines w t n c) es, length-append (pick w title_line []) ls, title_long w, lines_long (told_records t) n c s, end_long ended (begun_count l) (told_after t n c) h (omega arith) (omega arith))

module _ (s : State) (k piece : List ℕ) (last : Bool) (b : List ℕ) where
  abbrev allowed : ℕ
  allowed = length b / answer_bytes

  refusal_small : feed_refusal s k piece allowed last b < 10 ^ 2
  unfolding feed_refusal piece_refusal
  refusal_small =
      pick_both (λ n. n < 10 ^ 2) (not (valid? s)) (λ e. omega arith)
      (λ e. pick_both (λ n. n < 10 ^ 2) (not (is_journal k piece last)) (λ f. omega arith)
      (λ f. pick_both (λ n. n < 10 ^ 2) (ltb (length b) (answer_bytes * to_run k piece allowed)) (λ g. omega arith) (λ g. omega arith)))

  pub lines_most : (t : Told) → Small (fed s k piece last b).buffer → length (piece_lines k t piece last (fed s k piece last b)) ≤ call_bytes allowed
  lines_most t =
      either s k piece allowed last b (λ (a : AfterCall). Small a.buffer → length (piece_lines k t piece last a) ≤ call_bytes allowed)
      (λ z c. let j = (not_refused k piece allowed last (length b) (fed_valid s k piece allowed last b z).1).0 in
      let m = begun_most_law k piece allowed (begun_short k piece last j) in
      let a = fed_on s k piece allowed last b in
      let r = ran_long (ltb (header_count k) header_bytes) (last && eqb a.fed.bytes (length piece)) t (to_run k piece allowed) a.kept a.buffer c (omega arith) in
      omega arith)
      (λ n c. let m = feed_refusal s k piece allowed last b in
      pick_both (λ (l : List ℕ). length l ≤ call_bytes allowed) (eqb m 0) (λ e. absurd (n (eqb-true m 0 e))) (λ e. omega (arith, refused_long m 1 refusal_small)))

-- The output buffer starts with all that is printed, and its rest stays. That the answers are bytes is what their type says.
pub call_whole : (s : State) (k : List ℕ) (t : Told) (piece : List ℕ) (last : Bool) (b d : List ℕ) {r : Streamed} {u : State} {l c e : List ℕ}
    → Streams s k t piece last b d r u l c e → Small c → call_bytes (length b / answer_bytes) ≤ length d
    → (r.bytes ≡ length (piece_lines k t piece last (fed s k piece last b)))
    × (e ≡ piece_lines k t piece last (fed s k piece last b) ++ drop (length (piece_lines k t piece last (fed s k piece last b))) d)
call_whole s k t piece last b d {r} {e = e} w m h =
    whole_text d (piece_lines k t piece last (fed s k piece last b)) r.bytes e (omega (arith, lines_most s k piece last b t (subst Small w.answers m))) w.output
