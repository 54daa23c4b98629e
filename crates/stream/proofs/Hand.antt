-- The bytes at hand: what a call takes of them holds the records that it runs, and what it keeps.
-- Assumes nothing.
use mathlib.Core.Path.{◌≡◌, sym, ap, ◌∙◌}
use mathlib.Core.Bool.{Bool, true, false}
use mathlib.Core.List.{List, [], ◌++◌, append_assoc, append-nil}
use Prim.Native.Nat.{ℕ, ◌*◌, ◌-◌, ◌<◌, min}
use native.Mathlib.Omega.{arith}
use lib.Dec.{ltb, eqb}
use lib.ListN.{length, take, drop, length-append, length-take, take-append-drop, drop_of_length-le}
use lib.Seq.{take-length}
use borrow.Author.Tests.{ltb-true, ltb-false, eqb-true, eqb-false}
use Rattle.laws.specs.Choice.{pick}
use Rattle.laws.proofs.Cases.{split, pick_yes, pick_not}
use Rattle.model.specs.Sizes.{record_bytes}
use Rattle.model.specs.Pieces.{whole_in, records_in}
use Rattle.stream.proofs.Records.{records_front}

-- the bytes of a begun record, and a piece behind its header bytes
module _ (r rest : List ℕ) (allowance : ℕ) (small : length r < record_bytes) where
  abbrev hand : List ℕ
  hand = r ++ rest

  abbrev n : ℕ
  n = min allowance (whole_in (length hand))

  abbrev left : Bool
  left = ltb n (whole_in (length hand))

  -- how much of the piece is taken there, and the begun record with it
  abbrev pub more : ℕ
  more = pick left (record_bytes * n - length r) (length rest)

  abbrev pub reached : List ℕ
  reached = r ++ take more rest

  -- no record of those left was run; or some were, and no more was taken; or all was taken
  module _ {ℓ} {P : Type ℓ} (none : left ≡ true → eqb n 0 ≡ true → reached ≡ r → P)
      (some : left ≡ true → eqb n 0 ≡ false → length reached ≡ record_bytes * n → P)
      (all : left ≡ false → reached ≡ hand → n ≡ whole_in (length hand) → P) where
    where_left : left ≡ true → P
    where_left e =
        let h = ltb-true n (whole_in (length hand)) e in
        let so : more ≡ record_bytes * n - length r = pick_yes (record_bytes * n - length r) (length rest) e in
        let a = length-append r rest in
        let b = length-append r (take more rest) in
        let c = length-take more rest in
        split (eqb n 0)
        (λ z.
        let y = eqb-true n 0 z in
        let m : more ≡ 0 = omega arith in
        none e z (ap (λ (i : ℕ). r ++ take i rest) m ∙ append-nil r))
        (λ z. let y = eqb-false n 0 z in some e z (omega arith))

    cases : P
    cases =
        split left where_left
        (λ e.
        let h = ltb-false n (whole_in (length hand)) e in
        let m = pick_not (record_bytes * n - length r) (length rest) e in
        all e (ap (λ (i : ℕ). r ++ take i rest) m ∙ ap (λ (l : List ℕ). r ++ l) (take-length rest)) (omega arith))

  pub reached_whole : whole_in (length reached) ≡ n
  reached_whole =
      cases
      (λ e z q. let y = eqb-true n 0 z in omega (arith, ap length q))
      (λ e z q. omega arith)
      (λ e q h. omega (arith, ap length q))

  pub reached_records : records_in reached n ≡ records_in hand n
  reached_records =
      let w = reached_whole in
      let parts : reached ++ drop more rest ≡ hand =
      append_assoc r (take more rest) (drop more rest) ∙ ap (λ (l : List ℕ). r ++ l) (take-append-drop more rest) in
      sym (records_front reached (drop more rest) n (omega arith)) ∙ ap (λ (l : List ℕ). records_in l n) parts

  pub reached_behind : drop (record_bytes * n) reached ≡ pick left (pick (eqb n 0) r []) (drop (record_bytes * n) hand)
  reached_behind =
      cases
      (λ e z q.
      let y = eqb-true n 0 z in
      ap (λ (i : ℕ). drop (record_bytes * i) reached) y
      ∙ q
      ∙ sym (pick_yes (pick (eqb n 0) r []) (drop (record_bytes * n) hand) e ∙ pick_yes r [] z))
      (λ e z q.
      drop_of_length-le reached {i = record_bytes * n} (omega arith)
      ∙ sym (pick_yes (pick (eqb n 0) r []) (drop (record_bytes * n) hand) e ∙ pick_not r [] z))
      (λ e q h. ap (drop (record_bytes * n)) q ∙ sym (pick_not (pick (eqb n 0) r []) (drop (record_bytes * n) hand) e))
