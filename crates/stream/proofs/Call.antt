-- One call: its number, what it leaves where it is refused, how much it runs and takes, and that 13 stays.
-- Assumes nothing.
use mathlib.Core.Path.{◌≡◌, refl, sym, subst, ◌∙◌}
use mathlib.Core.Bool.{Bool, true, false, ◌&&◌, not}
use mathlib.Core.Logic.{◌≢◌}
use mathlib.Core.List.{List}
use Prim.Native.Nat.{ℕ, ◌*◌, ◌≤◌, ◌<◌, min}
use native.Mathlib.Omega.{arith}
use lib.Dec.{ltb, eqb}
use lib.ListN.{length, drop, length-append, length-take, length-drop}
use borrow.Author.Tests.{ltb-true}
use Rattle.laws.specs.Choice.{pick}
use Rattle.laws.proofs.Cases.{split, below?, pick_both, pick_yes}
use Rattle.laws.proofs.Lists.{at_past, at_same}
use Rattle.laws.proofs.Tests.{eq⇔, true⇔, le⇔, and⇔}
use Rattle.model.specs.Sizes.{answer_bytes, header_bytes, begun_most, count_bytes, kept_bytes}
use Rattle.model.specs.State.{State}
use Rattle.model.specs.Valid.{valid?}
use Rattle.model.specs.Pieces.{header_count, begun_count, begun, stopped, stop, header_part, header_goes_on, header_short, is_journal, at_hand, whole_in, to_run, is_left, bytes_taken, piece_refusal, feed_refusal, Fed, AfterCall, sent_back, feed, Feeds}
use Rattle.model.proofs.Pieces.{number, fed_on, either, not_refused, fed_valid}
use Rattle.stream.specs.Outcomes.{Leaves}

-- ---- what is kept, and a piece

module _ (k piece : List ℕ) where
  -- what may be a journal's has counts in range, and header bytes that are right
  pub journal_parts : (last : Bool) → is_journal k piece last ≡ true
      → ((header_count k ≤ header_bytes) × (begun_count k ≤ begun_most)) × (header_goes_on k piece ≡ true)
  journal_parts last g =
      let counts = and⇔ (le⇔ (header_count k) header_bytes) (le⇔ (begun_count k) begun_most) in
      ((and⇔ (and⇔ counts (true⇔ (header_goes_on k piece))) (true⇔ (not (last && header_short k piece)))).0 g).0

  abbrev rest : List ℕ
  rest = drop (header_part k piece) piece

  taken_most : (n : ℕ) → bytes_taken k piece n ≤ length piece
  taken_most n =
      let a = length-append (begun k) rest in
      let d = length-drop (header_part k piece) piece in
      split (is_left k piece n) (λ e. let h = ltb-true n (whole_in (length (at_hand k piece))) e in rw e (omega arith)) (λ e. rw e (omega arith))

  taken_some : (allowance : ℕ) → begun_count k ≤ begun_most → 0 < allowance → 0 < length piece → 0 < bytes_taken k piece (to_run k piece allowance)
  taken_some allowance r a h =
      let n = to_run k piece allowance in
      let c = length-take (begun_count k) (drop count_bytes k) in
      split (is_left k piece n) (λ e. let h = ltb-true n (whole_in (length (at_hand k piece))) e in rw e (omega arith)) (λ e. rw e h)

-- a count past the header: what is kept once 13 was given
module _ (k : List ℕ) where
  past_none : header_bytes < header_count k → 0 < length k
  past_none h = below? 0 (length k) (λ l. l) (λ l. let e = at_past k 0 l in absurd (omega arith))

  stop_past : 0 < length k → header_bytes < header_count (stop k)
  stop_past h = let e = at_same k 0 stopped h in omega arith

  no_journals : (piece : List ℕ) (last : Bool) → header_bytes < header_count k → is_journal k piece last ≡ false
  no_journals piece last h =
      split (is_journal k piece last) (λ e. let r = (journal_parts k piece last e).0.0 in absurd (omega arith)) (λ e. e)

-- ---- the call

-- what a call gives, in one
abbrev pub together : Fed → State → List ℕ → List ℕ → AfterCall
together f t l c = record { fed = f; state = t; kept = l; buffer = c }

module _ {s : State} {k piece : List ℕ} {allowance : ℕ} {last : Bool} {b : List ℕ} {f : Fed} {t : State} {l c : List ℕ}
    (p : Feeds s k piece allowance last b f t l c) where
  pub promised : together f t l c ≡ feed s k piece allowance last b
  promised = λ i. record { fed = p.answer i; state = p.state i; kept = p.kept i; buffer = p.buffer i }

  module _ {ℓ} (P : AfterCall → Type ℓ) (ran : number s k piece allowance last b ≡ 0 → P (fed_on s k piece allowance last b))
      (refused : number s k piece allowance last b ≢ 0 → P (sent_back s k b (number s k piece allowance last b))) where
    cases : P (together f t l c)
    cases = subst P (sym promised) (either s k piece allowance last b P ran refused)

  -- ---- its number

  pub number_is : f.number ≡ feed_refusal s k piece allowance last b
  number_is = cases (λ o. o.fed.number ≡ feed_refusal s k piece allowance last b) (λ e. sym e) (λ e. refl)

  -- The first that applies of 1, 13 and 15, otherwise 0.
  pub every_number : f.number
      ≡ pick (not (valid? s)) 1 (pick (not (is_journal k piece last)) 13 (pick (ltb (length b) (answer_bytes * to_run k piece allowance)) 15 0))
  unfolding feed_refusal piece_refusal
  every_number = number_is

  pub never_fourteen : f.number ≢ 14
  never_fourteen e =
      no_other (not (valid? s)) (not (is_journal k piece last)) (ltb (length b) (answer_bytes * to_run k piece allowance)) (sym every_number ∙ e)
    where
      no_other : (x y z : Bool) → ◌≢◌ {A = ℕ} (pick x 1 (pick y 13 (pick z 15 0))) 14
      no_other true y z q = omega arith
      no_other false true z q = omega arith
      no_other false false true q = omega arith
      no_other false false false q = omega arith

  -- ---- refused

  pub refused_leaves : f.number ≢ 0 → Leaves s k b f t l c
  refused_leaves =
      cases (λ o. o.fed.number ≢ 0 → Leaves s k b o.fed o.state o.kept o.buffer) (λ e n. absurd (n refl))
      (λ e n. record { records = refl; bytes = refl; state = refl; kept = refl; buffer = refl })

  -- ---- not refused

  pub runs_smaller : f.number ≡ 0 → f.records ≡ min allowance (whole_in (length (at_hand k piece)))
  runs_smaller =
      cases (λ o. o.fed.number ≡ 0 → o.fed.records ≡ to_run k piece allowance) (λ e z. refl) (λ n z. absurd (n z))

  pub takes_most : f.bytes ≤ length piece
  takes_most =
      cases (λ o. o.fed.bytes ≤ length piece) (λ e. taken_most k piece (to_run k piece allowance)) (λ n. omega arith)

  pub takes_some : f.number ≡ 0 → 0 < allowance → 0 < length piece → 0 < f.bytes
  takes_some =
      cases (λ o. o.fed.number ≡ 0 → 0 < allowance → 0 < length piece → 0 < o.fed.bytes)
      (λ e z a h.
      let m = not_refused k piece allowance last (length b) (fed_valid s k piece allowance last b e).1 in
      taken_some k piece allowance (journal_parts k piece last m.0).0.1 a h)
      (λ n z. absurd (n z))

  -- ---- 13 stays

  pub thirteen_stops : length k ≡ kept_bytes → f.number ≡ 13 → header_bytes < header_count l
  thirteen_stops h e =
      let q : l ≡ stop k = (refused_leaves (omega arith)).kept ∙ pick_yes (stop k) k ((eq⇔ f.number 13).1 e) in
      subst (λ (x : List ℕ). header_bytes < header_count x) (sym q) (stop_past k (omega arith))

  pub once_stopped : header_bytes < header_count k → (f.number ≡ pick (valid? s) 13 1) × (header_bytes < header_count l)
  once_stopped h =
      let e : f.number ≡ pick (valid? s) 13 1 = every_number ∙ rw (no_journals k piece last h) (same (valid? s)) in (
        e,
        subst (λ (x : List ℕ). header_bytes < header_count x) (sym (refused_leaves (λ q. not_none (valid? s) (sym e ∙ q))).kept)
            (pick_both (λ x. header_bytes < header_count x) (eqb f.number 13) (λ q. stop_past k (past_none k h)) (λ q. h)),
      )
    where
      same : (v : Bool) → ◌≡◌ {A = ℕ} (pick (not v) 1 13) (pick v 13 1)
      same true = refl
      same false = refl

      not_none : (v : Bool) → ◌≢◌ {A = ℕ} (pick v 13 1) 0
      not_none true q = omega arith
      not_none false q = omega arith
