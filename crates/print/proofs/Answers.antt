-- At most one place, and one content of the lent buffer, meets a promise; a digit is said of one status.
-- Assumes nothing.
use mathlib.Core.Path.{◌≡◌, refl, sym, ap, ◌∙◌}
use mathlib.Core.List.{List}
use Prim.Native.Nat.{ℕ}
use native.Mathlib.Omega.{arith}
use Rattle.print.specs.Text.{Page, page}
use Rattle.print.specs.declared.status.Status.{Status}
use Rattle.print.specs.declared.status.Status.TheVariants.{Passed, TurnedAway, Failed}
use Rattle.print.specs.Status.{digit_of}

pub one_page : (p : Page) (b c : List ℕ) (i k : ℕ) → page b i ≡ p → page c k ≡ p → (b ≡ c) × (i ≡ k)
one_page p b c i k e f =
    let q = e ∙ sym f in
    (ap (λ (r : Page). r.bytes) q, ap (λ (r : Page). r.place) q)

pub one_status : (s t : Status) → digit_of s ≡ digit_of t → s ≡ t
one_status Passed Passed e = refl
one_status Passed TurnedAway e = absurd (omega arith)
one_status Passed Failed e = absurd (omega arith)
one_status TurnedAway Passed e = absurd (omega arith)
one_status TurnedAway TurnedAway e = refl
one_status TurnedAway Failed e = absurd (omega arith)
one_status Failed Passed e = absurd (omega arith)
one_status Failed TurnedAway e = absurd (omega arith)
one_status Failed Failed e = refl
