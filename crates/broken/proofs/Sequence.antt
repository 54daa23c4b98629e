-- Parts gone through one after another.
-- Assumes nothing.
use mathlib.Core.Path.{◌≡◌, refl, sym, ap, ◌∙◌}
use mathlib.Core.Bool.{true, false, true≢false, false≢true}
use mathlib.Core.List.{List, [], ◌∷◌, ◌++◌}
use Prim.Native.Nat.{ℕ, zero, suc, ◌+◌, ◌<◌}
use native.Mathlib.Omega.{arith}
use lib.ListN.{length, get_or, drop}
use Rattle.std.specs.Prelude.{Option, Some, None}
use Rattle.std.specs.Option.{MatchOption, is_some}
use Rattle.laws.proofs.Cases.{below?}
use Rattle.laws.proofs.Others.{Others, none_left}
use Rattle.model.specs.State.{State}
use Rattle.model.specs.RuleTests.{Column, column, columns, rule10_at}
use Rattle.model.specs.Broken.{RulePart, along, broken, places_in, first_failing, number_parts, parts_of, last_rule, Finding, holds, broken_from, no_rule, first_broken, is_holds}
use Rattle.model.specs.Valid.{Sized}
use Rattle.findings.specs.Findings.{Known, Rule}
use Rattle.findings.proofs.Parts.{from_fails, from_holds}
use Rattle.findings.proofs.Told.{known_from, no_rule_law, told}
use Rattle.broken.specs.Findings.{field_parts, numbers_of, finding_of}

-- ---- parts, and others behind them

append_holds : (ps qs : List RulePart) (k m : ℕ) → k + length ps ≡ m → broken_from k ps ≡ holds → broken_from k (ps ++ qs) ≡ broken_from m qs
append_holds [] qs k m e h = ap (λ (x : ℕ). broken_from x qs) (omega arith)
append_holds (p ∷ ps) qs k m e h =
    below? (first_failing p) (places_in p) (λ b. absurd (false≢true (ap is_holds (sym (from_fails p ps k b) ∙ h))))
    (λ b. from_holds p (ps ++ qs) k b ∙ append_holds ps qs (suc k) m (omega arith) (sym (from_holds p ps k b) ∙ h))

append_breaks : (ps qs : List RulePart) (k x y : ℕ) → broken_from k ps ≡ broken x y → broken_from k (ps ++ qs) ≡ broken x y
unfolding broken_from
append_breaks [] qs k x y h = absurd (true≢false (ap is_holds h))
append_breaks (p ∷ ps) qs k x y h =
    below? (first_failing p) (places_in p) (λ b. from_fails p (ps ++ qs) k b ∙ sym (from_fails p ps k b) ∙ h)
    (λ b. from_holds p (ps ++ qs) k b ∙ append_breaks ps qs (suc k) x y (sym (from_holds p ps k b) ∙ h))

-- what is found of parts, and of the others only where these hold
pub then_parts : {P : Type 0} (ps qs : List RulePart) (k m : ℕ) (a r : Option (ℕ × ℕ)) → k + length ps ≡ m → finding_of a ≡ broken_from k ps → MatchOption a P (λ x. r ≡ Some x)
    → (P → finding_of r ≡ broken_from m qs) → finding_of r ≡ broken_from k (ps ++ qs)
then_parts ps qs k m None r e h w f = f w ∙ sym (append_holds ps qs k m e (sym h))
then_parts ps qs k m (Some x) r e h w f = ap finding_of w ∙ sym (append_breaks ps qs k x.0 x.1 (sym h))

-- ---- a rule that holds

pub rule_holds : (n : ℕ) → Known n → (s : State) → Sized s → Rule n s → holds ≡ broken_from 0 (parts_of n s)
rule_holds n k s z r = sym ((told n k s z).none.1 r) ∙ known_from n k s

-- ---- rule 10

field_part : (cs : List Column) (k : ℕ) → k < length cs
    → drop k (number_parts cs) ≡ (let c = get_or cs k (column [] 0 0) in along c.numbers (λ i x. rule10_at c.bound x)) ∷ drop (suc k) (number_parts cs)
unfolding number_parts
field_part [] k h = absurd (omega arith)
field_part (c ∷ cs) zero h = refl
field_part (c ∷ cs) (suc k) h = field_part cs k (omega arith)

from_field : (k : ℕ) (s : State) → k < field_parts → drop k (number_parts (columns s)) ≡ numbers_of k s ∷ drop (suc k) (number_parts (columns s))
unfolding columns
from_field k s h = field_part (columns s) k h

pub field_breaks : (k : ℕ) (s : State) (a : Option (ℕ × ℕ)) → k < field_parts → is_some a ≡ true → finding_of a ≡ broken_from k (numbers_of k s ∷ [])
    → finding_of a ≡ broken_from k (drop k (number_parts (columns s)))
field_breaks k s None h t e = absurd (false≢true t)
field_breaks k s (Some x) h t e = rw (from_field k s h) (sym (append_breaks (numbers_of k s ∷ []) (drop (suc k) (number_parts (columns s))) k x.0 x.1 (sym e)))

pub field_holds : (k : ℕ) (s : State) (a : Option (ℕ × ℕ)) → k < field_parts → is_some a ≡ false → finding_of a ≡ broken_from k (numbers_of k s ∷ [])
    → broken_from k (drop k (number_parts (columns s))) ≡ broken_from (k + 1) (drop (k + 1) (number_parts (columns s)))
field_holds k s (Some x) h t e = absurd (true≢false t)
field_holds k s None h t e =
    let m : suc k ≡ k + 1 = omega arith in
    rw (from_field k s h) (append_holds (numbers_of k s ∷ []) (drop (suc k) (number_parts (columns s))) k (suc k) (omega arith) (sym e))
    ∙ ap (λ (x : ℕ). broken_from x (drop x (number_parts (columns s)))) m

pub fields_end : (s : State) → broken_from field_parts (drop field_parts (number_parts (columns s))) ≡ holds
unfolding number_parts columns broken_from
fields_end s = refl

-- ---- a rule by its number

pub of_known : (n rule : ℕ) (s : State) {f : Finding} → rule ≡ n → Known n → f ≡ broken_from 0 (parts_of n s) → f ≡ first_broken rule s
of_known n rule s e k h = h ∙ sym (known_from n k s) ∙ ap (λ (x : ℕ). first_broken x s) (sym e)

pub of_others : (rule : ℕ) (s : State) → Others rule last_rule → no_rule ≡ first_broken rule s
of_others rule s r = sym (no_rule_law rule (λ k. let e = none_left rule last_rule r k.last in omega (arith, e, k.some)) s)
