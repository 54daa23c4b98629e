-- The first check that applies: none does exactly if all pass, and the number given is that of the first.
-- Assumes nothing.
use mathlib.Core.Path.{◌≡◌, refl, sym, ◌∙◌}
use mathlib.Core.Bool.{false, true≢false}
use mathlib.Core.Logic.{inl, inr, ◌≢◌, ⊎_elim}
use mathlib.Core.List.{List, [], ◌∷◌}
use Prim.Native.Nat.{ℕ, ◌<◌}
use native.Mathlib.Omega.{arith}
use Rattle.laws.proofs.Cases.{split}
use Rattle.model.specs.Checks.{Check, first}
use Rattle.keeps.specs.Numbers.{Applies}

-- the numbers rise from above k on
abbrev pub Rising : ℕ → List Check → Type 0
Rising k [] = Unit {0}
Rising k (c ∷ cs) = (k < c.0) × Rising c.0 cs

-- no check applies
abbrev pub Passed : List Check → Type 0
Passed [] = Unit {0}
Passed (c ∷ cs) = (c.1 ≡ false) × Passed cs

pub passed : (k : ℕ) (cs : List Check) → Rising k cs → first cs ≡ 0 → Passed cs
passed k [] r e = tt
passed k (c ∷ cs) r e =
    split c.1 (λ q. let z : c.0 ≡ 0 = rw q at e in absurd (omega (arith, r.0))) (λ q. (q, passed c.0 cs r.1 (rw q at e)))

pub none_given : (cs : List Check) → Passed cs → first cs ≡ 0
none_given [] p = refl
none_given (c ∷ cs) p = rw p.0 (none_given cs p.1)

-- a check that applies has a number above k
above : (k n : ℕ) (cs : List Check) → Rising k cs → Applies n cs → k < n
above k n [] r a = absurd a
above k n (c ∷ cs) r a = ⊎_elim (λ w. omega (arith, w.0, r.0)) (λ w. let z = above c.0 n cs r.1 w in omega (arith, r.0)) a

-- The number n is given exactly if check n applies and no earlier one does.
pub given : (k n : ℕ) (cs : List Check) → Rising k cs → n ≢ 0 → first cs ≡ n → Applies n cs × ((j : ℕ) → j < n → Applies j cs → ⊥)
given k n [] r z e = absurd (z (sym e))
given k n (c ∷ cs) r z e =
    split c.1
    (λ q.
    let m : c.0 ≡ n = rw q at e in
    (inl (m, q), λ j h a. ⊎_elim (λ w. omega (arith, w.0)) (λ w. let y = above c.0 j cs r.1 w in omega arith) a))
    (λ q.
    let g = given c.0 n cs r.1 z (rw q at e) in
    (inr g.0, λ j h a. ⊎_elim (λ w. true≢false (sym w.1 ∙ q)) (λ w. g.1 j h w) a))

pub gives : (k n : ℕ) (cs : List Check) → Rising k cs → Applies n cs → ((j : ℕ) → j < n → Applies j cs → ⊥) → first cs ≡ n
gives k n [] r a e = absurd a
gives k n (c ∷ cs) r a e =
    split c.1
    (λ q. ⊎_elim (λ w. rw q w.0) (λ w. let y = above c.0 n cs r.1 w in absurd (e c.0 y (inl (refl, q)))) a)
    (λ q. ⊎_elim (λ w. absurd (true≢false (sym w.1 ∙ q))) (λ w. rw q (gives c.0 n cs r.1 w (λ j h b. e j h (inr b)))) a)
