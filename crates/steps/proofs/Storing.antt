-- Answers stored one after another.
-- Assumes nothing.
use mathlib.Core.Path.{◌≡◌, refl, sym, ap, ◌∙◌}
use mathlib.Core.List.{List, [], ◌∷◌, ◌++◌, append_assoc, append-nil}
use Prim.Native.Nat.{ℕ, ◌+◌, ◌*◌, ◌≤◌}
use native.Mathlib.Omega.{arith}
use lib.ListN.{length, take, drop, length-append, length-drop}
use lib.Seq.{sets, sets-eq, take_at, drop-append-add, drop-drop}
use mir.Val.{bool_byte}
use Rattle.laws.proofs.Cases.{pick_not}
use Rattle.laws.proofs.Tests.{eq⇔, not_so}
use Rattle.model.specs.Sizes.{answer_bytes}
use Rattle.model.specs.Step.{Answer}
use Rattle.model.specs.Journal.{answer_bytes_of, written, pasted, accepted_in}
use Rattle.model.proofs.Journal.{written_more, length_written}
use Rattle.std.specs.Prelude.{Result, Ok, Err, is_ok}
use Rattle.numbers.specs.declared.refusal.Refusal.{Refusal}
use Rattle.numbers.specs.Refusals.{refusal_number}
use Rattle.steps.specs.Promises.{answer_from}
use Rattle.steps.specs.Turns.{answer_at, counts}
use Rattle.steps.proofs.Refusals.{some_number}

-- bytes d, m of them, between what is before them and what is behind
pub stored : (b : List ℕ) (at m : ℕ) (x : List ℕ) {d : List ℕ} → at + answer_bytes ≤ length b → m ≡ answer_bytes → length x ≡ answer_bytes → d ≡ x
    → take at b ++ (d ++ drop m (drop at b)) ≡ sets b at x
stored b at m x {d} h e n f =
    let z : sets b at x ≡ take at b ++ x ++ drop (at + length x) b = sets-eq x b at (omega arith) in
    (λ k. take at b ++ (f k ++ drop (e k) (drop at b)))
    ∙ ap (λ (l : List ℕ). take at b ++ (x ++ l)) (drop-drop answer_bytes at b ∙ ap (λ (k : ℕ). drop (at + k) b) (sym n))
    ∙ sym (append_assoc (take at b) x (drop (at + length x) b))
    ∙ sym z

-- what an answer counts
pub counted : (a : Result ℕ Refusal) → bool_byte (is_ok a) ≡ counts (answer_from a)
counted (Ok v) = refl
counted (Err r) = sym (pick_not 1 0 (not_so (eq⇔ (refusal_number r) 0) (some_number r)))

-- ---- answers one after another

pub accepted_more : (xs : List Answer) (x : Answer) → accepted_in (xs ++ x ∷ []) ≡ accepted_in xs + counts x
accepted_more [] x = omega arith
accepted_more (y ∷ xs) x = let e = accepted_more xs x in omega arith

module _ (xs : List Answer) (b : List ℕ) where
  pub length_pasted : answer_bytes * length xs ≤ length b → length (pasted xs b) ≡ length b
  length_pasted h =
      let e = length_written xs in
      let d = length-drop (answer_bytes * length xs) b in
      let a = length-append (written xs) (drop (answer_bytes * length xs) b) in
      omega arith

  -- the next answer, stored behind these
  pub pasted_more : (x : Answer) → answer_bytes * length xs + answer_bytes ≤ length b
      → answer_at (pasted xs b) (length xs) x ≡ pasted (xs ++ x ∷ []) b
  pasted_more x h =
      let m = answer_bytes * length xs in
      let w = written xs in
      let d = drop m b in
      let e : length w ≡ m = length_written xs in
      let p = length_pasted (omega arith) in
      let k : answer_bytes * length (xs ++ x ∷ []) ≡ m + answer_bytes = omega (arith, length-append xs (x ∷ [])) in
      let r : drop (m + answer_bytes) (w ++ d) ≡ drop (m + answer_bytes) b =
      ap (λ (i : ℕ). drop (i + answer_bytes) (w ++ d)) (sym e) ∙ drop-append-add w d answer_bytes ∙ drop-drop answer_bytes m b in
      sets-eq (answer_bytes_of x) (w ++ d) m (omega arith)
      ∙ ap (λ (l : List ℕ). l ++ answer_bytes_of x ++ drop (m + answer_bytes) (w ++ d)) (take_at w d m e)
      ∙ ap (λ (l : List ℕ). w ++ answer_bytes_of x ++ l) r
      ∙ ap (λ (l : List ℕ). w ++ l ++ drop (m + answer_bytes) b) (sym (append-nil (answer_bytes_of x)))
      ∙ ap (λ (l : List ℕ). l ++ drop (m + answer_bytes) b) (sym (written_more xs (x ∷ [])))
      ∙ ap (λ (i : ℕ). written (xs ++ x ∷ []) ++ drop i b) (sym k)
