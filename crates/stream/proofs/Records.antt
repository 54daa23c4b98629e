-- Records that lie one after another: the first of them, those behind these, and those of a journal.
-- Assumes nothing.
use mathlib.Core.Path.{◌≡◌, sym, ap, ◌∙◌}
use mathlib.Core.List.{List, [], ◌++◌}
use Prim.Native.Nat.{ℕ, ◌+◌, ◌*◌, ◌≤◌}
use native.Mathlib.Omega.{arith}
use lib.ListN.{length, take, drop, length-drop}
use lib.Seq.{take-append-le, drop-append-le, drop-drop}
use Rattle.laws.proofs.Lists.{list_of_same}
use Rattle.model.specs.Sizes.{record_bytes, header_bytes}
use Rattle.model.specs.Journal.{taken, records_of}
use Rattle.model.specs.Pieces.{whole_in, records_in}
use Rattle.model.proofs.Pieces.{records_split}
use Rattle.stream.specs.Streamed.{behind_records}

-- what lies behind the first n records does not matter to them
pub records_front : (x y : List ℕ) (n : ℕ) → record_bytes * n ≤ length x → records_in (x ++ y) n ≡ records_in x n
records_front x y n h =
    list_of_same n []
    (λ i l.
    ap (take record_bytes) (drop-append-le (record_bytes * i) x y (omega arith))
    ∙ take-append-le record_bytes (drop (record_bytes * i) x) y (omega (arith, length-drop (record_bytes * i) x)))

-- bytes that go on: x has w whole records, and then come n more
module _ (x y : List ℕ) (w n : ℕ) (h : record_bytes * w ≤ length x) where
  pub records_more : records_in (x ++ y) (w + n) ≡ records_in x w ++ records_in (drop (record_bytes * w) x ++ y) n
  records_more =
      records_split (x ++ y) w n
      ∙ (λ k. records_front x y w h k ++ records_in (drop-append-le (record_bytes * w) x y h k) n)

  pub behind_more : drop (record_bytes * (w + n)) (x ++ y) ≡ drop (record_bytes * n) (drop (record_bytes * w) x ++ y)
  behind_more =
      let e : record_bytes * (w + n) ≡ record_bytes * w + record_bytes * n = omega arith in
      ap (λ (k : ℕ). drop k (x ++ y)) e
      ∙ sym (drop-drop (record_bytes * n) (record_bytes * w) (x ++ y))
      ∙ ap (drop (record_bytes * n)) (drop-append-le (record_bytes * w) x y h)

-- ---- a journal

-- its bytes behind the header
abbrev pub body : List ℕ → List ℕ
body j = drop header_bytes j

module _ (j : List ℕ) where
  pub taken_body : taken j ≡ whole_in (length (body j))
  taken_body = let e = length-drop header_bytes j in omega arith

  pub records_body : records_of j ≡ records_in (body j) (taken j)
  records_body =
      list_of_same (taken j) [] (λ i l. sym (ap (take record_bytes) (drop-drop (record_bytes * i) header_bytes j)))

  pub behind_body : behind_records j ≡ drop (record_bytes * taken j) (body j)
  behind_body = sym (drop-drop (record_bytes * taken j) header_bytes j)
