-- The first failing place of any parts, one after another.
-- Assumes nothing.
use mathlib.Core.Path.{◌≡◌, refl, sym, ap, ◌∙◌}
use mathlib.Core.Bool.{Bool, true, false, not, true≢false, false≢true}
use mathlib.Core.Logic.{⊎_elim}
use mathlib.Core.List.{List, [], ◌∷◌, ◌++◌}
use Prim.Native.Nat.{ℕ, zero, suc, ◌+◌, ◌≤◌, ◌<◌}
use native.Mathlib.Omega.{arith}
use lib.Dec.{ltb}
use lib.ListN.{length}
use borrow.Author.Tests.{lt-ltb, le-ltb}
use Rattle.laws.proofs.Cases.{below?}
use Rattle.laws.proofs.Search.{first_below_le, first_below_found, first_below_before, seek_le, seek_found, seek_before, Each}
use Rattle.model.specs.Broken.{RulePart, below, along, places_in, passes_at, first_failing, Finding, holds, broken, broken_from}
use Rattle.findings.specs.Findings.{part_at, First, Passes}

-- ---- a part

was_true : {b : Bool} → not b ≡ false → b ≡ true
was_true {b = true} e = refl
was_true {b = false} e = absurd (true≢false e)

was_false : {b : Bool} → not b ≡ true → b ≡ false
was_false {b = true} e = absurd (false≢true e)
was_false {b = false} e = refl

pub first_le : (p : RulePart) → first_failing p ≤ places_in p
first_le (below n f) = first_below_le (λ i. not (f i)) n
first_le (along l f) = seek_le (λ i x. not (f i x)) 0 l

pub first_fails : (p : RulePart) → first_failing p < places_in p → passes_at p (first_failing p) ≡ false
first_fails (below n f) h = was_false (first_below_found (λ i. not (f i)) n h)
first_fails (along l f) h = was_false (seek_found (λ i x. not (f i x)) 0 l h)

pub first_before : (p : RulePart) (j : ℕ) → j < first_failing p → passes_at p j ≡ true
first_before (below n f) j h = was_true (first_below_before (λ i. not (f i)) n j h)
first_before (along l f) j h = was_true (seek_before (λ i x. not (f i x)) 0 l j h)

-- the first is the one that fails with none before it; where none fails, it is their number
pub failing_is : (p : RulePart) (i : ℕ) → i < places_in p → passes_at p i ≡ false → ((j : ℕ) → j < i → passes_at p j ≡ true) → first_failing p ≡ i
failing_is p i h e b =
    below? (first_failing p) i (λ l. absurd (true≢false (sym (b (first_failing p) l) ∙ first_fails p (omega arith))))
    (λ l. below? i (first_failing p) (λ m. absurd (true≢false (sym (first_before p i m) ∙ e))) (λ m. omega arith))

pub failing_none : (p : RulePart) → ((j : ℕ) → j < places_in p → passes_at p j ≡ true) → first_failing p ≡ places_in p
failing_none p b =
    below? (first_failing p) (places_in p) (λ l. absurd (true≢false (sym (b (first_failing p) l) ∙ first_fails p l))) (λ l. omega (arith, first_le p))

-- no place of the part fails
abbrev pub whole : RulePart → Bool
whole p = not (ltb (first_failing p) (places_in p))

pub whole_passes : (p : RulePart) → whole p ≡ true → (j : ℕ) → j < places_in p → passes_at p j ≡ true
whole_passes p w j h =
    below? (first_failing p) (places_in p) (λ l. absurd (true≢false (sym (lt-ltb (first_failing p) (places_in p) l) ∙ was_false w)))
    (λ l. first_before p j (omega arith))

-- ---- parts, one after another

-- of the parts ps, counted from k: all pass, or part m is the first that fails
pub data Search (ps : List RulePart) (k : ℕ) (r : Finding) : Type 0 where
  none : r ≡ holds → Each (λ p. whole p ≡ true) ps → Search ps k r
  some : (m : ℕ) → m < length ps → first_failing (part_at ps m) < places_in (part_at ps m) → ((l : ℕ) → l < m → whole (part_at ps l) ≡ true)
      → r ≡ broken (k + m) (first_failing (part_at ps m)) → Search ps k r

pub search : (ps : List RulePart) (k : ℕ) → Search ps k (broken_from k ps)
unfolding broken_from
search [] k = none refl tt
search (p ∷ ps) k =
    below? (first_failing p) (places_in p)
    (λ h. rw (lt-ltb (first_failing p) (places_in p) h)
    (some 0 (omega arith) h (λ l a. absurd (omega arith)) (ap (λ (x : ℕ). broken x (first_failing p)) (omega arith))))
    (λ h. rw (le-ltb (first_failing p) (places_in p) h) (later (ap not (le-ltb (first_failing p) (places_in p) h)) (search ps (suc k))))
  where
    later : whole p ≡ true → {r : Finding} → Search ps (suc k) r → Search (p ∷ ps) k r
    later w (none e h) = none e (w, h)
    later w (some m a f b e) =
        some (suc m) (omega arith) f (λ l. elim l as (λ x. x < suc m → whole (part_at (p ∷ ps) x) ≡ true) [ zero ↦ λ c. w | suc x ↦ λ c. b x (omega arith) ])
        (e ∙ ap (λ (x : ℕ). broken x (first_failing (part_at ps m))) (omega arith))

-- the first part apart: it fails, or it holds and the others follow
pub from_fails : (p : RulePart) (ps : List RulePart) (k : ℕ) → first_failing p < places_in p → broken_from k (p ∷ ps) ≡ broken k (first_failing p)
unfolding broken_from
from_fails p ps k h = rw (lt-ltb (first_failing p) (places_in p) h)

pub from_holds : (p : RulePart) (ps : List RulePart) (k : ℕ) → places_in p ≤ first_failing p → broken_from k (p ∷ ps) ≡ broken_from (suc k) ps
unfolding broken_from
from_holds p ps k h = rw (le-ltb (first_failing p) (places_in p) h)

-- each part passes: at every place
pub each_part : (ps : List RulePart) → Each (λ p. whole p ≡ true) ps → (l : ℕ) → l < length ps → whole (part_at ps l) ≡ true
each_part [] w l h = absurd (omega arith)
each_part (p ∷ ps) w zero h = w.0
each_part (p ∷ ps) w (suc l) h = each_part ps w.1 l (omega arith)

pub each_passes : (ps : List RulePart) → Each (λ p. whole p ≡ true) ps → Passes ps
each_passes ps w l j h = whole_passes (part_at ps l) (each_part ps w l h.part) j h.place

-- the place that is found is the first where the test fails
pub first_place : (ps : List RulePart) (m : ℕ) → m < length ps → first_failing (part_at ps m) < places_in (part_at ps m)
    → ((l : ℕ) → l < m → whole (part_at ps l) ≡ true) → First ps m (first_failing (part_at ps m))
first_place ps m a f b =
    record {
      there = record { part = a; place = f };
      fails = first_fails (part_at ps m) f;
      before = λ l j h. ⊎_elim (λ c. whole_passes (part_at ps l) (b l c) j h.place)
          (λ c. rw c.0 (first_before (part_at ps m) j c.1));
    }

-- parts behind others
pub each_append : (ps qs : List RulePart) → Each (λ p. whole p ≡ true) ps → Each (λ p. whole p ≡ true) qs → Each (λ p. whole p ≡ true) (ps ++ qs)
each_append [] qs v w = w
each_append (p ∷ ps) qs v w = (v.0, each_append ps qs v.1 w)

pub each_front : (ps qs : List RulePart) → Each (λ p. whole p ≡ true) (ps ++ qs) → Each (λ p. whole p ≡ true) ps
each_front [] qs w = tt
each_front (p ∷ ps) qs w = (w.0, each_front ps qs w.1)

pub each_behind : (ps qs : List RulePart) → Each (λ p. whole p ≡ true) (ps ++ qs) → Each (λ p. whole p ≡ true) qs
each_behind [] qs w = w
each_behind (p ∷ ps) qs w = each_behind ps qs w.1
