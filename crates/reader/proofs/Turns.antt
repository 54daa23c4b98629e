-- Turn k of a walk from the header on finds record k, for each whole record of the journal; every later one finds the end and the bytes left over.
-- What a caller's loop needs of one turn is `turned_record` and `turned_end`.
-- Assumes nothing.
use mathlib.Core.Path.{◌≡◌, refl, sym, ap, ◌∙◌}
use mathlib.Core.Bool.{true≢false, false≢true}
use mathlib.Core.List.{List}
use Prim.Native.Nat.{ℕ, zero, suc, ◌+◌, ◌-◌, ◌%◌, ◌≤◌, ◌<◌}
use native.Mathlib.Omega.{arith}
use lib.ListN.{length, take, drop}
use borrow.Author.Tests.{lt-ltb, le-ltb}
use Rattle.laws.proofs.Cases.{same?, below?}
use Rattle.model.specs.Sizes.{record_bytes, header_bytes}
use Rattle.model.specs.Journal.{whole_records, taken, left_over, record_at}
use Rattle.reader.specs.declared.Found.{Found}
use Rattle.reader.specs.declared.Found.TheVariants.{Record, End}
use Rattle.reader.specs.declared.Turned.{Turned}
use Rattle.reader.specs.Walk.{found_at, moved_at, turn_at, record_start, after_turns, is_record, number_in}

abbrev found_of : Turned → Found
found_of t = t.found

abbrev position_of : Turned → ℕ
position_of t = t.position

-- ---- one turn, at any position

here : (n p : ℕ) → p + record_bytes ≤ n → turn_at n p ≡ record { found = Record p; position = p + record_bytes }
here n p h = rw (le-ltb (n - p) record_bytes (omega arith))

none : (n p : ℕ) → n < p + record_bytes → turn_at n p ≡ record { found = End (n - p); position = p }
none n p h = rw (lt-ltb (n - p) record_bytes (omega arith))

-- what a loop that knows of a whole record at p knows of a turn t there
module _ (n p : ℕ) (h : p + record_bytes ≤ n) (t : Turned) (e : t ≡ turn_at n p) where
  pub found_here : {s : ℕ} → t.found ≡ Record s → s ≡ p
  found_here f = ap number_in (sym f ∙ ap found_of (e ∙ here n p h))

  pub moves_on : t.position ≡ p + record_bytes
  moves_on = ap position_of (e ∙ here n p h)

  pub not_end : {l : ℕ} → t.found ≡ End l → ⊥
  not_end f = false≢true (ap is_record (sym f ∙ ap found_of (e ∙ here n p h)))

-- ---- one turn, where a record starts

-- bytes left over, by the journal's length
abbrev over : ℕ → ℕ
over n = (n - header_bytes) % record_bytes

pub at_record : (n k : ℕ) → k < whole_records n → turn_at n (record_start k) ≡ record { found = Record (record_start k); position = record_start (k + 1) }
at_record n k h =
    let on : record_start k + record_bytes ≡ record_start (k + 1) = omega arith in
    here n (record_start k) (omega arith) ∙ ap (λ (p : ℕ). record { found = Record (record_start k); position = p }) on

pub at_end : (n : ℕ) → turn_at n (record_start (whole_records n)) ≡ record { found = End (over n); position = record_start (whole_records n) }
at_end n =
    let left : n - record_start (whole_records n) ≡ over n = omega arith in
    none n (record_start (whole_records n)) (omega arith) ∙ ap (λ (l : ℕ). record { found = End l; position = record_start (whole_records n) }) left

-- a turn at record k found a record that starts at s and lies in the journal, and moved on to p
pub record ThisRecord (n k s p : ℕ) : Type 0 where
  pub below : k < whole_records n
  pub starts : s ≡ record_start k
  pub within : s + record_bytes ≤ n
  pub moves : p ≡ record_start (k + 1)

-- a turn at record k found the end, and l bytes left over
pub record TheEnd (n k l : ℕ) : Type 0 where
  pub all : k ≡ whole_records n
  pub left : l ≡ over n

-- what a loop over the records knows in either case, of a turn t at the position p that record k starts at
module _ (n p k : ℕ) (t : Turned) (e : t ≡ turn_at n p) (at : p ≡ record_start k) (most : k ≤ whole_records n) where
  more : k < whole_records n → t ≡ record { found = Record (record_start k); position = record_start (k + 1) }
  more h = e ∙ ap (turn_at n) at ∙ at_record n k h

  last : whole_records n ≤ k → (k ≡ whole_records n) × (t.found ≡ End (over n))
  last h =
      let all : k ≡ whole_records n = omega arith in
      (all, ap found_of (e ∙ ap (turn_at n) (at ∙ ap record_start all) ∙ at_end n))

  pub turned_record : {s : ℕ} → t.found ≡ Record s → ThisRecord n k s t.position
  turned_record {s} f =
      below? k (whole_records n)
      (λ h. let starts : s ≡ record_start k = ap number_in (sym f ∙ ap found_of (more h)) in
      record { below = h; starts = starts; within = omega (arith, starts); moves = ap position_of (more h) })
      (λ h. absurd (true≢false (ap is_record (sym f ∙ (last h).1))))

  pub turned_end : {l : ℕ} → t.found ≡ End l → TheEnd n k l
  turned_end f =
      below? k (whole_records n) (λ h. absurd (false≢true (ap is_record (sym f ∙ ap found_of (more h)))))
      (λ h. record { all = (last h).0; left = ap number_in (sym f ∙ (last h).1) })

-- record k as the part of the journal from its start on
pub lies : (j : List ℕ) (k s : ℕ) → s ≡ record_start k → take (s + record_bytes - s) (drop s j) ≡ record_at j k
lies j k s e =
    let count : s + record_bytes - s ≡ record_bytes = omega arith in
    ap (λ (m : ℕ). take m (drop s j)) count ∙ ap (λ (m : ℕ). take record_bytes (drop m j)) e

-- ---- the walk

after : (n k : ℕ) → k ≤ whole_records n → after_turns n k ≡ record_start k
unfolding after_turns
after n zero h = refl
after n (suc k) h =
    let on : record_start (k + 1) ≡ record_start (suc k) = omega arith in
    ap (moved_at n) (after n k (omega arith)) ∙ ap position_of (at_record n k (omega arith)) ∙ on

-- past the last record the reader stands still
stands : (n k : ℕ) → whole_records n ≤ k → after_turns n k ≡ record_start (whole_records n)
unfolding after_turns
stands n zero h =
    let e : 0 ≡ whole_records n = omega arith in
    ap record_start e
stands n (suc k) h =
    same? (whole_records n) (suc k) (λ e. after n (suc k) (omega arith) ∙ ap record_start (sym e))
    (λ e. ap (moved_at n) (stands n k (omega arith)) ∙ ap position_of (at_end n))

-- turn k finds record k
pub finds : (j : List ℕ) (k : ℕ) → k < taken j → (turn_at (length j) (after_turns (length j) k)).found ≡ Record (record_start k)
finds j k h = ap (found_at (length j)) (after (length j) k (omega arith)) ∙ ap found_of (at_record (length j) k h)

-- every later turn finds the end, and the bytes left over
pub ends : (j : List ℕ) (k : ℕ) → taken j ≤ k → (turn_at (length j) (after_turns (length j) k)).found ≡ End (left_over j)
ends j k h = ap (found_at (length j)) (stands (length j) k h) ∙ ap found_of (at_end (length j))
