-- The page at a place, where there is one, and that there is none.
-- Assumes nothing.
use mathlib.Core.Path.{◌≡◌, sym, ap, ◌∙◌}
use mathlib.Core.Bool.{Bool, true, false, false≢true}
use Prim.Native.Nat.{ℕ}
use borrow.Author.Tests.{lt-ltb, le-ltb}
use Rattle.std.specs.Prelude.{Option, Some, None, Result, Ok, Err, is_some}
use Rattle.std.specs.Option.{ok_or}
use Rattle.laws.proofs.Cases.{below?}
use Rattle.model.specs.Sizes.{pages}
use Rattle.model.specs.State.{is_page}
use Rattle.numbers.specs.declared.Ma.{Ma}
use Rattle.numbers.specs.Lead.{toward, place_of}
use Rattle.numbers.proofs.Leads.{toward_page, toward_none}

is_some_toward : (n : ℕ) → is_some (toward n) ≡ is_page n
is_some_toward n = below? n pages (λ b. rw (lt-ltb n pages b)) (λ b. rw (le-ltb n pages b))

to_page : (n : ℕ) (p : Ma) → toward n ≡ Some p → (n ≡ p.0) × (is_page n ≡ true)
to_page n p e =
    below? n pages (λ b. (ap place_of (sym (toward_page n b) ∙ e), lt-ltb n pages b))
    (λ b. absurd (false≢true (ap is_some (sym (toward_none n b) ∙ e))))

chosen : {E : Type 0} (x : E) (l : Option Ma) (p : Ma) → ok_or l x ≡ Ok p → l ≡ Some p
chosen x (Some q) p k = cc
chosen x None p k = cc

lacking : {E : Type 0} (x y : E) (l : Option Ma) → ok_or l x ≡ Err y → (is_some l ≡ false) × (y ≡ x)
lacking x y (Some q) k = (cc, cc)
lacking x y None k = (cc, cc)

module _ (n : ℕ) {l : Option Ma} (e : l ≡ toward n) where
  -- what `is_some` and `is_none` answer
  pub is_page_law : {b : Bool} → is_some l ≡ b → is_page n ≡ b
  is_page_law f = sym (is_some_toward n) ∙ ap is_some (sym e) ∙ f

  module _ {E : Type 0} (x : E) {r : Result Ma E} (f : r ≡ ok_or l x) where
    -- what `ok_or` hands on
    pub found : {p : Ma} → r ≡ Ok p → (n ≡ p.0) × (is_page n ≡ true) × (is_page p.0 ≡ true)
    found {p} i = let w = to_page n p (sym e ∙ chosen x l p (sym f ∙ i)) in (w.0, w.1, (rw w.0 at w.1))

    pub missing : {y : E} → r ≡ Err y → (is_page n ≡ false) × (y ≡ x)
    missing {y} i = let k = lacking x y l (sym f ∙ i) in (is_page_law k.0, k.1)
