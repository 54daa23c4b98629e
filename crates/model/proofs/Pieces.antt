-- A call of feed, taken apart: it runs records, or is sent back; and its records, those behind the first of them.
-- Assumes nothing.
use mathlib.Core.Path.{◌≡◌, refl, sym, ap, ◌∙◌}
use mathlib.Core.Bool.{Bool, true, false}
use mathlib.Core.Logic.{◌≢◌}
use mathlib.Core.List.{List, ◌∷◌, ◌++◌}
use Prim.Native.Nat.{ℕ, zero, suc, ◌+◌, ◌*◌, ◌≤◌, ◌<◌}
use native.Mathlib.Nat.{suc-add}
use native.Mathlib.Omega.{arith}
use lib.Dec.{eqb}
use lib.ListN.{length, take, drop}
use lib.Seq.{drop-drop}
use borrow.Author.Tests.{eqb-true, eqb-false}
use Rattle.laws.specs.Search.{list_from}
use Rattle.laws.proofs.Cases.{split, below?}
use Rattle.laws.proofs.Lists.{list_from_append}
use Rattle.laws.proofs.Tests.{lt⇔, not_so}
use Rattle.model.specs.Sizes.{record_bytes, answer_bytes}
use Rattle.model.specs.State.{State}
use Rattle.model.specs.Valid.{valid?}
use Rattle.model.specs.Run.{run}
use Rattle.model.specs.Pieces.{is_journal, at_hand, records_in, to_run, piece_refusal, feed_refusal, AfterCall, ran_on, sent_back, feed}

module _ (s : State) (k piece : List ℕ) (allowance : ℕ) (last : Bool) (b : List ℕ) where
  abbrev pub number : ℕ
  number = feed_refusal s k piece allowance last b

  -- what it gives where it is not refused
  abbrev pub fed_on : AfterCall
  fed_on = ran_on (run s (records_in (at_hand k piece) (to_run k piece allowance))) k piece (to_run k piece allowance) b

  pub either {ℓ} : (P : AfterCall → Type ℓ) → (number ≡ 0 → P fed_on) → (number ≢ 0 → P (sent_back s k b number)) → P (feed s k piece allowance last b)
  unfolding feed
  either P f g = go (eqb number 0) refl
    where
      go : (t : Bool) → eqb number 0 ≡ t → P (elim t [ true ↦ fed_on | false ↦ sent_back s k b number ])
      go true e = f (eqb-true number 0 e)
      go false e = g (eqb-false number 0 e)

  -- ---- numbers

  pub refusal_valid : valid? s ≡ true → number ≡ piece_refusal k piece allowance last (length b)
  unfolding feed_refusal
  refusal_valid e = rw e

  pub refusal_invalid : valid? s ≡ false → number ≡ 1
  unfolding feed_refusal
  refusal_invalid e = rw e

module _ (k piece : List ℕ) (allowance : ℕ) (last : Bool) (room : ℕ) where
  pub no_journal : is_journal k piece last ≡ false → piece_refusal k piece allowance last room ≡ 13
  unfolding piece_refusal
  no_journal e = rw e

  pub no_room : is_journal k piece last ≡ true → room < answer_bytes * to_run k piece allowance → piece_refusal k piece allowance last room ≡ 15
  unfolding piece_refusal
  no_room e h = rw (e, (lt⇔ room (answer_bytes * to_run k piece allowance)).1 h)

  pub fits : is_journal k piece last ≡ true → answer_bytes * to_run k piece allowance ≤ room → piece_refusal k piece allowance last room ≡ 0
  unfolding piece_refusal
  fits e h = rw (e, not_so (lt⇔ room (answer_bytes * to_run k piece allowance)) (λ q. omega arith))

  -- what is not refused: a journal's, with room for its answers
  pub not_refused : piece_refusal k piece allowance last room ≡ 0 → (is_journal k piece last ≡ true) × (answer_bytes * to_run k piece allowance ≤ room)
  not_refused e =
      split (is_journal k piece last)
      (λ j. below? room (answer_bytes * to_run k piece allowance) (λ h. let f = no_room j h in absurd (omega arith)) (λ h. (j, h)))
      (λ j. let f = no_journal j in absurd (omega arith))

-- of a call that is not refused: the state is valid, and the piece is not refused
pub fed_valid : (s : State) (k piece : List ℕ) (allowance : ℕ) (last : Bool) (b : List ℕ) → feed_refusal s k piece allowance last b ≡ 0
    → (valid? s ≡ true) × (piece_refusal k piece allowance last (length b) ≡ 0)
fed_valid s k piece allowance last b e =
    split (valid? s) (λ v. (v, sym (refusal_valid s k piece allowance last b v) ∙ e))
    (λ v. let f = refusal_invalid s k piece allowance last b v in absurd (omega arith))

-- ---- records

-- record i of these bytes
abbrev record_in : List ℕ → ℕ → List ℕ
record_in l i = take record_bytes (drop (record_bytes * i) l)

-- the first w records, and the n behind them
pub records_split : (x : List ℕ) (w n : ℕ) → records_in x (w + n) ≡ records_in x w ++ records_in (drop (record_bytes * w) x) n
unfolding list_from
records_split x w n = list_from_append w n 0 (record_in x) ∙ ap (λ (l : List (List ℕ)). records_in x w ++ l) (later n 0)
  where
    later : (n i : ℕ) → list_from n (i + w) (record_in x) ≡ list_from n i (record_in (drop (record_bytes * w) x))
    later zero i = refl
    later (suc n) i =
        let e : record_bytes * (i + w) ≡ record_bytes * w + record_bytes * i = omega arith in
        let first : record_in x (i + w) ≡ record_in (drop (record_bytes * w) x) i =
        ap (λ (k : ℕ). take record_bytes (drop k x)) e ∙ sym (ap (take record_bytes) (drop-drop (record_bytes * i) (record_bytes * w) x)) in
        let others : list_from n (suc (i + w)) (record_in x) ≡ list_from n (suc i) (record_in (drop (record_bytes * w) x)) =
        ap (λ (k : ℕ). list_from n k (record_in x)) (sym (suc-add i w)) ∙ later n (suc i) in
        λ h. first h ∷ others h
