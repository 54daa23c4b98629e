-- What code makes of a call is the model's: refused, or run and kept.
-- Assumes nothing.
use mathlib.Core.Path.{◌≡◌, refl, sym, ap, ◌∙◌}
use mathlib.Core.Bool.{Bool, true, false}
use mathlib.Core.Logic.{◌≢◌}
use mathlib.Core.List.{List}
use Prim.Native.Nat.{ℕ}
use native.Mathlib.Omega.{arith}
use lib.Dec.{eqb}
use lib.ListN.{length}
use Rattle.std.proofs.Common.{Result, Ok, Err}
use Rattle.laws.specs.Choice.{pick}
use Rattle.laws.proofs.Cases.{split, pick_yes, pick_not}
use Rattle.model.specs.State.{State}
use Rattle.model.specs.Valid.{valid?}
use Rattle.model.specs.Run.{run}
use Rattle.model.specs.Journal.{pasted}
use Rattle.model.specs.Pieces.{is_journal, at_hand, records_in, to_run, stop, piece_refusal, feed_refusal, bytes_taken, kept_after, AfterCall, sent_back, feed, Feeds}
use Rattle.model.specs.Pieces as model
use Rattle.model.proofs.Pieces.{fed_on, either, refusal_valid, refusal_invalid, not_refused}
use Rattle.numbers.specs.declared.refusal.Refusal.{Refusal}
use Rattle.numbers.specs.declared.refusal.Refusal.TheVariants.{NotValid}
use Rattle.numbers.specs.Refusals.{refusal_number}
use Rattle.steps.specs.declared.Ran.{Ran}
use Rattle.steps.specs.Parts.{took_of}
use Rattle.steps.proofs.Refusals.{some_number}
use Rattle.pieces.specs.Promises.{most_in, Refuses, RunsHand}

abbrev sent : ℕ → model.Fed
sent n = record { number = n; records = 0; bytes = 0 }

module _ (s : State) (k piece : List ℕ) (allowance : ℕ) (last : Bool) (b : List ℕ) where
  abbrev form : ℕ
  form = piece_refusal k piece allowance last (length b)

  abbrev answered : AfterCall
  answered = feed s k piece allowance last b

  -- the number of a call whose piece is refused with n
  number_of : (n : ℕ) → n ≡ form → feed_refusal s k piece allowance last b ≡ pick (valid? s) n 1
  number_of n e =
      split (valid? s)
      (λ v. refusal_valid s k piece allowance last b v ∙ sym e ∙ sym (pick_yes n 1 v))
      (λ v. refusal_invalid s k piece allowance last b v ∙ sym (pick_not n 1 v))

  sent_back_law : (n : ℕ) → feed_refusal s k piece allowance last b ≡ n → n ≢ 0 → answered ≡ sent_back s k b n
  sent_back_law n e z =
      either s k piece allowance last b (λ (a : AfterCall). a ≡ sent_back s k b n) (λ q. absurd (z (sym e ∙ q))) (λ q. ap (sent_back s k b) e)

  -- ---- refused

  -- the number that code gives
  given : (e : Refusal) {r : Refusal} → r ≡ pick (valid? s) e NotValid → refusal_number r ≡ pick (valid? s) (refusal_number e) 1
  given e f = ap refusal_number f ∙ split (valid? s) (λ v. rw v) (λ v. rw v)

  -- 13 is remembered, 1 is not
  remembered : (n : ℕ) → pick (valid? s) (pick (eqb n 13) (stop k) k) k ≡ pick (eqb (pick (valid? s) n 1) 13) (stop k) k
  remembered n = split (valid? s) (λ v. rw v) (λ v. rw v)

  pub feed_refused : (e : Refusal) → refusal_number e ≡ form → {r : Refusal} {l : List ℕ} → Refuses s e k r l
      → Feeds s k piece allowance last b (sent (refusal_number r)) s l b
  feed_refused e f {r} w =
      let n = given e w.answer in
      let a = sent_back_law (refusal_number r) (number_of (refusal_number e) f ∙ sym n) (some_number r) in
      record {
        answer = sym (ap (λ (x : AfterCall). x.fed) a);
        state = sym (ap (λ (x : AfterCall). x.state) a);
        kept =
            w.kept
            ∙ remembered (refusal_number e)
            ∙ ap (λ (i : ℕ). pick (eqb i 13) (stop k) k) (sym n)
            ∙ sym (ap (λ (x : AfterCall). x.kept) a);
        buffer = sym (ap (λ (x : AfterCall). x.buffer) a);
      }

  -- ---- run

  module _ (e : 0 ≡ form) {x : List ℕ} (f : x ≡ at_hand k piece) {r : Result Ran Refusal} {t : State} {c : List ℕ}
      (w : RunsHand (most_in allowance x b) s x b r t c) where
    abbrev n : ℕ
    n = most_in allowance x b

    -- there is room for all that may be run
    most_run : n ≡ to_run k piece allowance
    most_run =
        let h = (not_refused k piece allowance last (length b) (sym e)).1 in
        ap (λ (l : List ℕ). most_in allowance l b) f ∙ omega arith

    took : valid? s ≡ true → r ≡ Ok (took_of (run s (records_in x n)) n)
    took v = w.result ∙ pick_yes (Ok (took_of (run s (records_in x n)) n)) (Err NotValid) v

    took_not : valid? s ≡ false → r ≡ Err NotValid
    took_not v = w.result ∙ pick_not (Ok (took_of (run s (records_in x n)) n)) (Err NotValid) v

    valid_if : {a : Ran} → r ≡ Ok a → valid? s ≡ true
    valid_if g = split (valid? s) (λ v. v) (λ v. absurd (let z = sym g ∙ took_not v in cc))

    invalid_if : {u : Refusal} → r ≡ Err u → valid? s ≡ false
    invalid_if g = split (valid? s) (λ v. absurd (let z = sym (took v) ∙ g in cc)) (λ v. v)

    runs_on : valid? s ≡ true → answered ≡ fed_on s k piece allowance last b
    runs_on v =
        either s k piece allowance last b (λ (a : AfterCall). a ≡ fed_on s k piece allowance last b) (λ q. refl)
        (λ q. absurd (q (number_of 0 e ∙ pick_yes 0 1 v)))

    took_all : {a : Ran} → r ≡ Ok a → a.taken ≡ to_run k piece allowance
    took_all g = (let z = sym g ∙ took (valid_if g) in let y = most_run in cc)

    pub feed_ran : {a : Ran} → r ≡ Ok a → {m : ℕ} {l : List ℕ} → (m ≡ bytes_taken k piece a.taken) × (l ≡ kept_after k piece a.taken)
        → Feeds s k piece allowance last b (record { number = 0; records = a.taken; bytes = m }) t l c
    feed_ran {a} g {m} {l} h =
        let v = valid_if g in
        let o = sym (runs_on v) in
        let i = took_all g in
        let q : run s (records_in x n) ≡ run s (records_in (at_hand k piece) (to_run k piece allowance)) = λ j. run s (records_in (f j) (most_run j)) in
        record {
          answer =
              (λ j. record { number = 0; records = i j; bytes = (h.0 ∙ ap (bytes_taken k piece) i) j }) ∙ ap (λ (z : AfterCall). z.fed) o;
          state = w.state ∙ pick_yes (run s (records_in x n)).state s v ∙ (λ j. (q j).state) ∙ ap (λ (z : AfterCall). z.state) o;
          kept = h.1 ∙ ap (kept_after k piece) i ∙ ap (λ (z : AfterCall). z.kept) o;
          buffer =
              w.buffer ∙ pick_yes (pasted (run s (records_in x n)).answers b) b v ∙ (λ j. pasted (q j).answers b) ∙ ap (λ (z : AfterCall). z.buffer) o;
        }

    pub feed_invalid : {u : Refusal} → r ≡ Err u → Feeds s k piece allowance last b (sent (refusal_number u)) t k c
    feed_invalid {u} g =
        let v = invalid_if g in
        let o : refusal_number u ≡ 1 = (let z = sym g ∙ took_not v in cc) in
        let a = sym (sent_back_law 1 (refusal_invalid s k piece allowance last b v) (λ z. omega arith)) in
        record {
          answer = ap sent o ∙ ap (λ (z : AfterCall). z.fed) a;
          state = w.state ∙ pick_not (run s (records_in x n)).state s v ∙ ap (λ (z : AfterCall). z.state) a;
          kept = ap (λ (z : AfterCall). z.kept) a;
          buffer = w.buffer ∙ pick_not (pasted (run s (records_in x n)).answers b) b v ∙ ap (λ (z : AfterCall). z.buffer) a;
        }
