-- What is found of a part by `position` over its places, of a test that is the same at each call.
-- Assumes nothing.
use Rattle.std.proofs.lemmas.Iterator.{YieldsList-from_range, IsFirst-from_position}
use Rattle.std.proofs.lemmas.List.FromFn.{length-range_with_len, get_or-range_with_len}
use mathlib.Core.Path.{◌≡◌, sym, ap, ◌∙◌, subst}
use mathlib.Core.Bool.{Bool, true, false, not}
use mathlib.Core.List.{[], ◌∷◌}
use Prim.Native.Nat.{ℕ, ◌<◌}
use native.Mathlib.Omega.{arith}
use lib.ListN.{length}
use denote.Param.Members.{Mut}
use Rattle.std.specs.Prelude.{Option, Some, None}
use Rattle.std.specs.Option.{MatchOption, option_map}
use Rattle.std.specs.Bool.{then_some}
use Rattle.std.specs.Fn.{Called}
use Rattle.std.specs.List.{AllWithin, HoldsAt, range_with_len}
use Rattle.std.specs.Iterator.{FindsPosition}
use Rattle.std.specs.declared.ops.Range.{Range}
use Rattle.std.proofs.iter.Yields.{nat_range_steps}
use Rattle.model.specs.Broken.{RulePart, places_in, passes_at, broken, broken_from}
use Rattle.findings.proofs.Parts.{failing_is, failing_none, from_fails, from_holds}
use Rattle.broken.specs.Findings.{finding_of}

-- ---- a part

module _ (p : RulePart) (n : ℕ) (test : ℕ → Bool) (size : places_in p ≡ n) (same : (i : ℕ) → i < n → test i ≡ passes_at p i) where
  abbrev Found : Option ℕ → Type 0
  Found r =
      let all = range_with_len 0 n in
      MatchOption r (AllWithin (λ i. true ≡ test i) all 0 (length all)) (λ i. (i < length all) × HoldsAt (λ j. false ≡ test j) all i × AllWithin (λ j. true ≡ test j) all 0 i)

  passed : (m j : ℕ) → AllWithin (λ i. true ≡ test i) (range_with_len 0 n) 0 m → j < m → j < n → passes_at p j ≡ true
  passed m j h l b = sym (same j b) ∙ sym (subst (λ i. true ≡ test i) {y = j} (omega (arith, get_or-range_with_len 0 n j 0 b)) (h j 0 (omega arith) l))

  failed : (i : ℕ) → HoldsAt (λ j. false ≡ test j) (range_with_len 0 n) i → i < n → passes_at p i ≡ false
  failed i h b = sym (same i b) ∙ sym (subst (λ j. false ≡ test j) {y = i} (omega (arith, get_or-range_with_len 0 n i 0 b)) (h 0))

  part_found : (k : ℕ) (r : Option ℕ) → Found r → finding_of (option_map (λ i. (k, i)) r) ≡ broken_from k (p ∷ [])
  unfolding broken_from
  part_found k None h =
      let l = length-range_with_len 0 n in
      let e = failing_none p (λ j b. passed _ j h (omega (arith, l, size)) (omega (arith, size))) in
      sym (from_holds p [] k (omega (arith, e)))
  part_found k (Some i) h =
      let l = length-range_with_len 0 n in
      let b : i < n = omega (arith, l, h.0) in
      let e = failing_is p i (omega (arith, size)) (failed i h.1 b) (λ j c. passed i j h.2 c (omega arith)) in
      ap (broken k) (sym e) ∙ sym (from_fails p [] k (omega (arith, e, size)))

  pub one_part : {F : Type 0} {g : Mut F (ℕ × Unit {0}) Bool} {s u : Range ℕ} {f : F} {r : Option ℕ} {x : Option (ℕ × ℕ)} (k : ℕ) → s ≡ record { start = 0; end = n } → FindsPosition nat_range_steps g s f r u
      → ((i : ℕ) (b : Bool) (q : F) → Called g f (i, tt) b q → (q ≡ f) × (not b ≡ test i)) → x ≡ option_map (λ i. (k, i)) r → finding_of x ≡ broken_from k (p ∷ [])
  one_part {u = u} {f = f} {r = r} k e d c w =
      ap finding_of w
      ∙ part_found k r (IsFirst-from_position u f r (λ i. false ≡ test i) (λ i. true ≡ test i) d (YieldsList-from_range 0 n n e (omega arith)) (λ i q t. (c i true q t).1)
      (λ i q t. c i false q t))

-- ---- a part of one place

pub one_place : (p : RulePart) (k : ℕ) (b : Bool) {x : Option (ℕ × ℕ)} → places_in p ≡ 1 → b ≡ passes_at p 0 → x ≡ option_map (λ i. (k, i)) (then_some (not b) 0) → finding_of x ≡ broken_from k (p ∷ [])
unfolding broken_from
one_place p k true size h w =
    let e = failing_none p (λ j b. let z : j ≡ 0 = omega (arith, size) in rw z (sym h)) in
    ap finding_of w ∙ sym (from_holds p [] k (omega (arith, e)))
one_place p k false size h w =
    let e = failing_is p 0 (omega (arith, size)) (sym h) (λ j c. absurd (omega arith)) in
    ap finding_of w ∙ ap (broken k) (sym e) ∙ sym (from_fails p [] k (omega (arith, e, size)))
