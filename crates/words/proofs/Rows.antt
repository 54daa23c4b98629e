-- The rows of the table of forms.
-- Assumes nothing.
use mathlib.Core.Path.{◌≡◌, sym, ap, ◌∙◌}
use mathlib.Core.List.{List, map}
use Prim.Native.Nat.{ℕ, ◌≤◌}
use native.Mathlib.Omega.{arith}
use lib.ListN.{length, get_or, get_or-eq_default}
use Rattle.std.specs.Prelude.{Option, Some, None}
use Rattle.std.specs.Borrow.{Bor}
use Rattle.std.specs.Slice.{IsItemAt}
use Rattle.std.specs.Option.{option_copied}
use Rattle.std.proofs.lemmas.List.{get_or-map, length-map}
use Rattle.words.specs.Words.{Form, no_form}
use Rattle.words.specs.declared.Form as declared
use Rattle.words.specs.Forms.{form_from, form_or_none}

-- a part that a row does not have
pub past : (l : List Form) (k : ℕ) → length l ≤ k → no_form ≡ get_or l k no_form
past l k h = sym (get_or-eq_default l no_form h)

-- the form at a place of a row, or none
pub in_row : (l : List declared.Form) (k : ℕ) (r : Option (Bor declared.Form)) → IsItemAt l k r → form_or_none (option_copied r) ≡ get_or (map form_from l) k no_form
in_row l k (Some x) h = ap form_from h.1 ∙ sym (get_or-map form_from l k x.now no_form h.3.0)
in_row l k None h = past (map form_from l) k (omega (arith, length-map l form_from, h.3))
