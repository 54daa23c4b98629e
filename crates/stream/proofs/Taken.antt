-- What was taken before a call that is not refused, with what that call takes: its records, and what is kept of it.
-- Assumes nothing.
use mathlib.Core.Path.{◌≡◌, refl, sym, ap, subst, ◌∙◌}
use mathlib.Core.Bool.{Bool, true, false}
use mathlib.Core.List.{List, ◌++◌}
use Prim.Native.Nat.{ℕ, ◌+◌, ◌*◌, ◌-◌, ◌≤◌, ◌<◌, min}
use native.Mathlib.Omega.{arith}
use lib.ListN.{length, take, drop, replicate, length-append, length-drop}
use lib.Seq.{take_at}
use Rattle.laws.specs.Choice.{pick}
use Rattle.laws.proofs.Cases.{split}
use Rattle.model.specs.Sizes.{record_bytes, header_bytes, begun_most}
use Rattle.model.specs.Journal.{taken, records_of}
use Rattle.model.specs.Pieces.{begun, kept_of, stopped, header_part, header_goes_on, at_hand, records_in, to_run, is_left, bytes_taken, begun_after, kept_after}
use Rattle.stream.specs.Streamed.{behind_records}
use Rattle.stream.proofs.Records.{records_more, behind_more, body, taken_body, records_body, behind_body}
use Rattle.stream.proofs.Header.{Begins, body_after, count_after, begins_after}
use Rattle.stream.proofs.Hand.{more, reached_whole, reached_records, reached_behind}

-- what is kept once these bytes were taken: 13 was given, or not
abbrev pub kept_by : Bool → List ℕ → List ℕ
kept_by z j = kept_of (pick z stopped (min (length j) header_bytes)) (behind_records j)

module _ (j piece : List ℕ) (allowance : ℕ) where
  abbrev kept_now : List ℕ
  kept_now = kept_by false j

  abbrev n : ℕ
  n = to_run kept_now piece allowance

  -- all bytes that are taken then
  abbrev pub all_taken : List ℕ
  all_taken = j ++ take (bytes_taken kept_now piece n) piece

  begun_is : begun kept_now ≡ behind_records j
  begun_is = take_at (behind_records j) (replicate (begun_most - length (behind_records j)) 0) (length (behind_records j)) refl

  short : length (begun kept_now) < record_bytes
  short = omega (arith, ap length begun_is, length-drop (header_bytes + record_bytes * taken j) j)

  abbrev rest : List ℕ
  rest = drop (header_part kept_now piece) piece

  abbrev extra : ℕ
  extra = more (begun kept_now) rest allowance short

  -- the header's bytes, and more behind them
  took : bytes_taken kept_now piece n ≡ header_part kept_now piece + extra
  took =
      let e = length-drop (header_part kept_now piece) piece in
      split (is_left kept_now piece n) (λ t. rw t) (λ t. rw t (omega arith))

  behind_is : drop (record_bytes * taken j) (body j) ≡ begun kept_now
  behind_is = sym (begun_is ∙ behind_body j)

  -- ---- with the call

  now_body : body all_taken ≡ body j ++ take extra rest
  now_body = ap (λ (i : ℕ). body (j ++ take i piece)) took ∙ body_after j piece extra

  enough : record_bytes * taken j ≤ length (body j)
  enough = let e = taken_body j in omega arith

  now_taken : taken all_taken ≡ taken j + n
  now_taken =
      let a = taken_body all_taken in
      let b = ap length now_body in
      let c = length-append (body j) (take extra rest) in
      let d = length-append (begun kept_now) (take extra rest) in
      let e = ap length behind_is in
      let f = length-drop (record_bytes * taken j) (body j) in
      let g = reached_whole (begun kept_now) rest allowance short in
      let h = enough in
      omega arith

  pub now_records : records_of all_taken ≡ records_of j ++ records_in (at_hand kept_now piece) n
  now_records =
      records_body all_taken
      ∙ (λ i. records_in (now_body i) (now_taken i))
      ∙ records_more (body j) (take extra rest) (taken j) n enough
      ∙ (λ i. sym (records_body j) i ++ records_in (behind_is i ++ take extra rest) n)
      ∙ ap (λ (l : List (List ℕ)). records_of j ++ l) (reached_records (begun kept_now) rest allowance short)

  now_behind : behind_records all_taken ≡ begun_after kept_now piece n
  now_behind =
      behind_body all_taken
      ∙ (λ i. drop (record_bytes * now_taken i) (now_body i))
      ∙ behind_more (body j) (take extra rest) (taken j) n enough
      ∙ ap (λ (l : List ℕ). drop (record_bytes * n) (l ++ take extra rest)) behind_is
      ∙ reached_behind (begun kept_now) rest allowance short

  pub now_kept : kept_after kept_now piece n ≡ kept_by false all_taken
  now_kept =
      let e : min (length all_taken) header_bytes ≡ min (length j) header_bytes + header_part kept_now piece =
      ap (λ (i : ℕ). min (length (j ++ take i piece)) header_bytes) took ∙ count_after j piece extra in
      sym (λ i. kept_of (e i) (now_behind i))

  pub now_begins : Begins j → header_goes_on kept_now piece ≡ true → Begins all_taken
  now_begins b g = subst (λ (i : ℕ). Begins (j ++ take i piece)) (sym took) (begins_after j piece b g extra)
