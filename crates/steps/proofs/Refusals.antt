-- Refusals by their numbers: none is 0, and an answer in code is told by the model's.
-- Assumes nothing.
use mathlib.Core.Path.{◌≡◌, refl, ap}
use mathlib.Core.Logic.{◌≢◌}
use Prim.Native.Nat.{ℕ}
use native.Mathlib.Omega.{arith}
use Rattle.std.specs.Prelude.{Result, Ok, Err}
use Rattle.numbers.specs.declared.refusal.Refusal.{Refusal}
use Rattle.numbers.specs.Refusals.{refusal_number}
use Rattle.numbers.proofs.Answers.{one_code, one_refusal}
use Rattle.steps.specs.Promises.{answer_from, by_number, numbered}

pub some_number : (r : Refusal) → refusal_number r ≢ 0
some_number r e =
    let f = one_code 0 (Err r) (Ok tt) e refl in
    let z : ◌≡◌ {A = ℕ} 0 1 = cc f in omega arith

pub one_answer_from : (a b : Result ℕ Refusal) → answer_from a ≡ answer_from b → a ≡ b
one_answer_from (Ok v) (Ok w) e = cc e
one_answer_from (Ok v) (Err q) e = let z : ◌≡◌ {A = ℕ} 0 1 = cc e in absurd (omega arith)
one_answer_from (Err r) (Ok w) e = let z : ◌≡◌ {A = ℕ} 0 1 = cc e in absurd (omega arith)
one_answer_from (Err r) (Err q) e = ap (λ (x : Refusal). Err x) (one_refusal r q (cc e))

-- by its number an answer is told as by the refusal's name
pub same_answer : (a : Result ℕ Refusal) → numbered (by_number a) ≡ answer_from a
same_answer (Ok v) = refl
same_answer (Err r) = refl
