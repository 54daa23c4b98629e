-- The bytes at hand, their records, and what is left of them.
-- Assumes nothing.
use mathlib.Core.Path.{◌≡◌, refl, sym, ap, subst, ◌∙◌}
use mathlib.Core.Bool.{true, false}
use mathlib.Core.Logic.{◌≢◌}
use mathlib.Core.List.{List, [], ◌∷◌, ◌++◌, append-nil}
use Prim.Native.Nat.{ℕ, zero, suc, ◌+◌, ◌*◌, ◌-◌, ◌≤◌, ◌<◌}
use native.Mathlib.Omega.{arith}
use lib.Dec.{eqb}
use lib.ListN.{length, take, drop, length-append, length-drop}
use lib.Seq.{take_all, take-append-add, drop-append-add, drop-drop, length-take-le}
use Rattle.std.proofs.Common.{Result, Ok, Err}
use Rattle.laws.specs.Choice.{pick}
use Rattle.laws.specs.Search.{list_from}
use Rattle.laws.proofs.Cases.{split, same?, below?, pick_yes, pick_not}
use Rattle.laws.proofs.Tests.{eq⇔, lt⇔, not_so}
use Rattle.laws.proofs.Lists.{list_of_same}
use Rattle.model.specs.Sizes.{record_bytes, count_bytes, begun_most, kept_bytes}
use Rattle.model.specs.State.{State}
use Rattle.model.specs.Valid.{valid?}
use Rattle.model.specs.Run.{run}
use Rattle.model.specs.Journal.{pasted}
use Rattle.model.specs.Pieces.{header_count, begun, header_part, at_hand, whole_in, records_in, is_left, bytes_taken, begun_after, kept_of, kept_after}
use Rattle.model.proofs.Pieces.{records_split}
use Rattle.numbers.specs.declared.refusal.Refusal.{Refusal}
use Rattle.numbers.specs.declared.refusal.Refusal.TheVariants.{NotValid}
use Rattle.steps.specs.declared.Ran.{Ran}
use Rattle.steps.specs.Parts.{took_of, records_from, joined_records, most_of, RunsJoined, RunsMost}
use Rattle.steps.proofs.Joining.{one_together}
use Rattle.pieces.specs.Promises.{most_in, RunsHand, begun_with}
use Rattle.pieces.proofs.Bytes.{begun_length, begun_again}

-- ---- records

-- the first record, and those behind it
records_front : (x : List ℕ) (n : ℕ) → records_in x (suc n) ≡ take record_bytes x ∷ records_in (drop record_bytes x) n
unfolding list_from
records_front x n = let e : suc n ≡ 1 + n = omega arith in ap (records_in x) e ∙ records_split x 1 n

-- from a place on
records_from_law : (j : List ℕ) (start n : ℕ) → records_in (drop start j) n ≡ records_from j start n
records_from_law j start n = list_of_same n [] (λ i h. ap (take record_bytes) (drop-drop (record_bytes * i) start j))

-- ---- run: of a begun record, g, and the rest, r

hand_runs : (x : List ℕ) {s : State} {b first j : List ℕ} {p n m : ℕ} {r : Result Ran Refusal} {t : State} {c : List ℕ} → m ≡ n
    → joined_records first j p n ≡ records_in x n → RunsJoined m s first j p b r t c → RunsHand n s x b r t c
hand_runs x {s} {b} {first} {j} {p} {n} {m} {r} {t} {c} e f w =
    let y = subst (λ (i : ℕ). RunsJoined i s first j p b r t c) e w in
    record {
      result = y.result ∙ ap (λ (l : List (List ℕ)). pick (valid? s) (Ok (took_of (run s l) n)) (Err NotValid)) f;
      state = y.state ∙ ap (λ (l : List (List ℕ)). pick (valid? s) (run s l).state s) f;
      buffer = y.buffer ∙ ap (λ (l : List (List ℕ)). pick (valid? s) (pasted (run s l).answers b) b) f;
    }

-- a begun record is completed
module _ (g r : List ℕ) (h : length g ≤ begun_most) (l : record_bytes - length g ≤ length r) where
  abbrev missing : ℕ
  missing = record_bytes - length g

  abbrev completed : List ℕ
  completed = g ++ take missing r

  all_there : record_bytes ≡ length g + missing
  all_there = omega arith

  completed_length : length completed ≡ record_bytes
  completed_length = omega (arith, length-append g (take missing r), length-take-le missing r l)

  first_at_hand : take record_bytes (g ++ r) ≡ completed
  first_at_hand = ap (λ (n : ℕ). take n (g ++ r)) all_there ∙ take-append-add g r missing

  rest_at_hand : drop record_bytes (g ++ r) ≡ drop missing r
  rest_at_hand = ap (λ (n : ℕ). drop n (g ++ r)) all_there ∙ drop-append-add g r missing

  one_begun : (first : List ℕ) → first ≡ completed → (n : ℕ) → joined_records first r missing n ≡ records_in (g ++ r) n
  unfolding list_from
  one_begun [] e n = let z = ap length e in absurd (omega (arith, completed_length))
  one_begun (x ∷ f) e zero = refl
  one_begun (x ∷ f) e (suc n) =
      (λ i. (e ∙ sym first_at_hand) i ∷ (sym (records_from_law r missing n) ∙ ap (λ (q : List ℕ). records_in q n) (sym rest_at_hand)) i)
      ∙ sym (records_front (g ++ r) n)

module _ (allowance : ℕ) (s : State) (b g r : List ℕ) where
  -- no begun record
  pub runs_none_begun : {a : Result Ran Refusal} {t : State} {c : List ℕ} → length g ≡ 0 → RunsMost allowance s [] r 0 b a t c
      → RunsHand (most_in allowance (g ++ r) b) s (g ++ r) b a t c
  runs_none_begun {a} {t} {c} e w =
      let m : most_of allowance [] r 0 b ≡ most_in allowance (g ++ r) b = omega (arith, length-append g r) in
      hand_runs (g ++ r) m (sym (records_from_law r 0 (most_in allowance (g ++ r) b)) ∙ ap (λ (l : List ℕ). records_in (l ++ r) (most_in allowance (g ++ r) b)) (sym (empty g e))) w
    where
      empty : (l : List ℕ) → length l ≡ 0 → l ≡ []
      empty [] e = refl
      empty (x ∷ l) e = absurd (omega arith)

  -- a begun record that stays one
  pub runs_nothing : {a : Result Ran Refusal} {t : State} {c : List ℕ} → length r < record_bytes - length g → RunsMost allowance s [] [] 0 b a t c
      → RunsHand (most_in allowance (g ++ r) b) s (g ++ r) b a t c
  unfolding list_from
  runs_nothing {a} {t} {c} h w =
      let m : most_of allowance [] [] 0 b ≡ 0 = omega arith in
      let n : most_in allowance (g ++ r) b ≡ 0 = omega (arith, length-append g r) in
      subst (λ (i : ℕ). RunsHand i s (g ++ r) b a t c) (sym n) (hand_runs (g ++ r) m refl w)

  -- one that is completed
  pub runs_begun : {first : List ℕ} {a : Result Ran Refusal} {t : State} {c : List ℕ} → length g ≤ begun_most → record_bytes - length g ≤ length r
      → first ≡ g ++ take (record_bytes - length g) r → RunsMost allowance s first r (record_bytes - length g) b a t c
      → RunsHand (most_in allowance (g ++ r) b) s (g ++ r) b a t c
  runs_begun {first} h l e w =
      let z : length first ≡ record_bytes = ap length e ∙ completed_length g r h l in
      let j = one_together first (λ y. omega arith) in
      let m : most_of allowance first r (record_bytes - length g) b ≡ most_in allowance (g ++ r) b = omega (arith, j, length-append g r) in
      hand_runs (g ++ r) m (one_begun g r h l first e (most_in allowance (g ++ r) b)) w

-- ---- left

module _ (k piece : List ℕ) (w : length k ≡ kept_bytes) where
  abbrev start : ℕ
  start = header_part k piece

  abbrev rest : List ℕ
  rest = drop start piece

  abbrev held : ℕ
  held = length (begun k)

  pub hand_length : length (at_hand k piece) ≡ held + length rest
  hand_length = length-append (begun k) rest

  -- where the piece goes on behind its header bytes and n records
  abbrev behind : ℕ → ℕ
  behind n = start + (record_bytes * n - held)

  -- the bytes that stay
  stay : (n : ℕ) → take (pick (eqb n 0) held 0) (drop count_bytes k) ≡ pick (eqb n 0) (begun k) []
  stay n = split (eqb n 0) (λ e. rw e (begun_again k)) (λ e. rw e refl)

  abbrev more : ℕ → List ℕ
  more n = take (bytes_taken k piece n - behind n) (drop (behind n) piece)

  abbrev stayed : ℕ → List ℕ
  stayed n = begun_with k (pick (eqb n 0) held 0) (more n)

  some_left : (n : ℕ) → n < whole_in (length (at_hand k piece)) → stayed n ≡ begun_after k piece n
  some_left n l =
      let t : is_left k piece n ≡ true = (lt⇔ n (whole_in (length (at_hand k piece)))).1 l in
      let b : bytes_taken k piece n ≡ behind n = pick_yes (behind n) (length piece) t in
      let z : bytes_taken k piece n - behind n ≡ 0 = omega (arith, b) in
      ap (λ (i : ℕ). begun_with k (pick (eqb n 0) held 0) (take i (drop (behind n) piece))) z
      ∙ append-nil (take (pick (eqb n 0) held 0) (drop count_bytes k))
      ∙ stay n
      ∙ sym (pick_yes (pick (eqb n 0) (begun k) []) (drop (record_bytes * n) (at_hand k piece)) t)

  -- what lies behind n records at hand
  behind_all : (n : ℕ) → held ≤ record_bytes → pick (eqb n 0) (begun k) [] ++ drop (behind n) piece ≡ drop (record_bytes * n) (at_hand k piece)
  behind_all n h =
      same? n 0
      (λ e.
      let z : behind n ≡ start = omega (arith, e) in
      (λ i. pick_yes (begun k) [] ((eq⇔ n 0).1 e) i ++ drop (z i) piece)
      ∙ ap (λ (i : ℕ). drop (record_bytes * i) (at_hand k piece)) (sym e))
      (λ z.
      let e : record_bytes * n ≡ held + (record_bytes * n - held) = past_these n held z h in
      ap (λ (l : List ℕ). l ++ drop (behind n) piece) (pick_not (begun k) [] (not_so (eq⇔ n 0) z))
      ∙ sym
      (ap (λ (i : ℕ). drop i (at_hand k piece)) e
      ∙ drop-append-add (begun k) rest (record_bytes * n - held)
      ∙ drop-drop (record_bytes * n - held) start piece))
    where
      past_these : (n g : ℕ) → n ≢ 0 → g ≤ record_bytes → record_bytes * n ≡ g + (record_bytes * n - g)
      past_these n g z h = omega arith

  none_left : (n : ℕ) → n ≤ whole_in (length (at_hand k piece)) → whole_in (length (at_hand k piece)) ≤ n → stayed n ≡ begun_after k piece n
  none_left n h l =
      let t : is_left k piece n ≡ false = not_so (lt⇔ n (whole_in (length (at_hand k piece)))) (λ q. omega arith) in
      let b : bytes_taken k piece n ≡ length piece = pick_not (behind n) (length piece) t in
      let m : more n ≡ drop (behind n) piece =
      ap (λ (i : ℕ). take (i - behind n) (drop (behind n) piece)) b
      ∙ take_all (length piece - behind n) (drop (behind n) piece) (omega (arith, length-drop (behind n) piece)) in
      (λ i. stay n i ++ m i)
      ∙ behind_all n (omega (arith, begun_length k w))
      ∙ sym (pick_not (pick (eqb n 0) (begun k) []) (drop (record_bytes * n) (at_hand k piece)) t)

  kept_after_law : (n : ℕ) → n ≤ whole_in (length (at_hand k piece)) → stayed n ≡ begun_after k piece n
  kept_after_law n h = below? n (whole_in (length (at_hand k piece))) (some_left n) (none_left n h)

  -- bytes of the begun record that stay, and others of the piece, as code has them: what is kept after n records
  pub keeps : (n : ℕ) → n ≤ whole_in (length (at_hand k piece)) → {stays from to r : ℕ} → stays ≡ pick (eqb n 0) held 0 → from ≡ behind n
      → to ≡ bytes_taken k piece n → r ≡ header_count k + start → kept_of r (begun_with k stays (take (to - from) (drop from piece))) ≡ kept_after k piece n
  keeps n h {stays} {from} {to} {r} e f g q =
      let p : begun_with k stays (take (to - from) (drop from piece)) ≡ begun_after k piece n =
      (λ i. begun_with k (e i) (take (g i - f i) (drop (f i) piece))) ∙ kept_after_law n h in
      λ i. kept_of (q i) (p i)

  -- the whole records at hand, as code counts them
  pub whole_law : {g r : List ℕ} {n : ℕ} → (g ≡ begun k) × (r ≡ rest) → n ≡ whole_in (length g + length r) → n ≡ whole_in (length (at_hand k piece))
  whole_law e f = f ∙ (λ i. whole_in (length (e.0 i) + length (e.1 i))) ∙ ap whole_in (sym hand_length)
