-- What `all` answers over the numbers below n, of a test that is the same at each call; and over rows and their columns.
-- Assumes nothing.
use Rattle.std.proofs.lemmas.Iterator.{YieldsList-from_range}
use Rattle.std.proofs.lemmas.Iterator.Search.{all_from_yields_List}
use mathlib.Core.Path.{◌≡◌, ◌∙◌}
use mathlib.Core.Bool.{Bool}
use Prim.Native.Nat.{ℕ, ◌+◌, ◌*◌, ◌/◌, ◌%◌, ◌<◌}
use native.Mathlib.Omega.{arith}
use denote.Param.Members.{Mut}
use Rattle.std.specs.Fn.{Called}
use Rattle.std.specs.Iterator.{ChecksAll}
use Rattle.std.specs.declared.ops.Range.{Range}
use Rattle.std.proofs.iter.Yields.{nat_range_steps}
use Rattle.laws.specs.Search.{all_below}
use Rattle.laws.proofs.Chains.{all_below_law}
use Rattle.laws.proofs.Grid.{row_of_law, column_of, column_below, row_below, place_below}
use Rattle.laws.proofs.Search.{all⇔}
use Rattle.laws.proofs.Tests.{true⇔, same_test}

pub all_numbers : {F : Type 0} {g : Mut F (ℕ × Unit {0}) Bool} {s u : Range ℕ} {f : F} {r : Bool} (test : ℕ → Bool) (n : ℕ) → s ≡ record { start = 0; end = n } → ChecksAll nat_range_steps g s f r u
    → ((x : ℕ) (b : Bool) (q : F) → Called g f (x, tt) b q → (q ≡ f) × (b ≡ test x)) → r ≡ all_below n test
all_numbers {u = u} {f = f} {r = r} test n e d k = all_from_yields_List test u f r d (YieldsList-from_range 0 n n e (omega arith)) k ∙ all_below_law test n

pub all_rows : (n w : ℕ) → 0 < w → (f : ℕ → ℕ → Bool) → all_below n (λ r. all_below w (f r)) ≡ all_below (n * w) (λ i. f (i / w) (i % w))
all_rows n w pos f =
    same_test (all⇔ n (λ r h. all⇔ w (λ c k. true⇔ (f r c)))) (all⇔ (n * w) (λ i h. true⇔ (f (i / w) (i % w))))
    (λ g i h. g (i / w) (row_below w pos n i h) (i % w) (column_below w pos i))
    (λ g r h c k. rw (row_of_law w pos r c k, column_of w pos r c k) at (g (w * r + c) (place_below w pos n r c h k)))
