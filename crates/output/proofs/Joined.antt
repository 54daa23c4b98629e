-- Where a journal is cut does not matter for its records' lines: those of calls, numbered on, are those of all answers one after another.
-- Assumes nothing.
use Rattle.std.proofs.Common.{◌≡◌, ℕ, zero, suc, ◌+◌, ◌-◌, ◌*◌, ◌%◌, ◌<◌, ◌≤◌, eqb, List, ◌++◌, length, sym, refl, ap, ◌∙◌, append_assoc, append-nil, arith, get_or-append-add}
use native.Mathlib.Nat.{add-mod, mod-add-mod}
use lib.ListN.{get_or-append}
use Rattle.laws.specs.Choice.{at}
use Rattle.laws.proofs.Search.{count_le}
use Rattle.model.specs.Sizes.{answer_bytes, answer_value_at}
use Rattle.model.specs.Records.{word_at}
use Rattle.model.specs.Journal.{number_at, value_at}
use Rattle.output.specs.declared.stream.Told.{Told}
use Rattle.output.specs.Output.{record_line, record_lines}
use Rattle.output.specs.Stream.{count_bound, told_records, accepted_among, told_after, record_lines_from}

-- from the start they are a whole journal's
pub lines_from_start : (n : ℕ) (b : List ℕ) → n < count_bound → record_lines_from 0 n b ≡ record_lines n b
unfolding record_lines_from record_lines
lines_from_start zero b h = refl
lines_from_start (suc n) b h =
    let e : (0 + (n + 1)) % count_bound ≡ n + 1 = omega arith in
    let r = lines_from_start n b (omega arith) in
    λ i. r i ++ record_line (e i) (number_at b n) (value_at b n)

-- ---- answers behind others

module _ (x y : List ℕ) where
  pub at_front : (i : ℕ) → i < length x → at (x ++ y) i ≡ at x i
  at_front i h = get_or-append x y 0 i h

  pub at_behind : (i j : ℕ) → j ≡ length x + i → at (x ++ y) j ≡ at y i
  at_behind i j e = ap (at (x ++ y)) e ∙ get_or-append-add x y i 0

  word_front : (i : ℕ) → i + answer_value_at ≤ length x → word_at (x ++ y) i ≡ word_at x i
  word_front i h =
      let a = at_front i (omega arith) in
      let b = at_front (i + 1) (omega arith) in
      let c = at_front (i + 2) (omega arith) in
      let d = at_front (i + 3) (omega arith) in
      omega arith

  word_behind : (i j : ℕ) → j ≡ length x + i → word_at (x ++ y) j ≡ word_at y i
  word_behind i j e =
      let a = at_behind i j e in
      let b = at_behind (i + 1) (j + 1) (omega arith) in
      let c = at_behind (i + 2) (j + 2) (omega arith) in
      let d = at_behind (i + 3) (j + 3) (omega arith) in
      omega arith

  pub lines_front : (k n : ℕ) → answer_bytes * n ≤ length x → record_lines_from k n (x ++ y) ≡ record_lines_from k n x
  unfolding record_lines_from
  lines_front k zero h = refl
  lines_front k (suc n) h =
      let r = lines_front k n (omega arith) in
      let a = at_front (answer_bytes * n) (omega arith) in
      let v = word_front (answer_bytes * n + answer_value_at) (omega arith) in
      λ i. r i ++ record_line ((k + (n + 1)) % count_bound) (a i) (v i)

  -- the lines of n records, and of m more
  pub lines_joined : (k n m : ℕ) → length x ≡ answer_bytes * n
      → record_lines_from k (n + m) (x ++ y) ≡ record_lines_from k n x ++ record_lines_from ((k + n) % count_bound) m y
  unfolding record_lines_from
  lines_joined k n zero h =
      let e : n + 0 ≡ n = omega arith in
      ap (λ (j : ℕ). record_lines_from k j (x ++ y)) e ∙ lines_front k n (omega arith) ∙ sym (append-nil (record_lines_from k n x))
  lines_joined k n (suc m) h =
      let e : n + suc m ≡ suc (n + m) = omega arith in
      let r = lines_joined k n m h in
      let j : (k + (n + m + 1)) % count_bound ≡ ((k + n) % count_bound + (m + 1)) % count_bound = omega arith in
      let a = at_behind (answer_bytes * m) (answer_bytes * (n + m)) (omega arith) in
      let v = word_behind (answer_bytes * m + answer_value_at) (answer_bytes * (n + m) + answer_value_at) (omega arith) in
      ap (λ (i : ℕ). record_lines_from k i (x ++ y)) e
      ∙ (λ i. r i ++ record_line (j i) (a i) (v i))
      ∙ append_assoc (record_lines_from k n x) (record_lines_from ((k + n) % count_bound) m y) (record_line (((k + n) % count_bound + (m + 1)) % count_bound) (number_at y m) (value_at y m))

-- a call numbers on from the records before it, whatever they were answered
pub numbers_on : (t : Told) (n : ℕ) (b : List ℕ) → told_records (told_after t n b) ≡ (told_records t + n) % count_bound
numbers_on t n b =
    let a = accepted_among n b in
    let e : t.accepted + a + (t.refused + (n - a)) ≡ t.accepted + t.refused + n = omega (arith, count_le n (λ i. eqb (number_at b i) 0)) in
    sym (add-mod (t.accepted + a) (t.refused + (n - a)) count_bound)
    ∙ ap (λ (m : ℕ). m % count_bound) e
    ∙ sym (mod-add-mod (t.accepted + t.refused) count_bound n)
