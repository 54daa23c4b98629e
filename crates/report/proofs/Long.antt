-- A file with more bytes than an image may have is refused as its first bytes are: so the program need not read on.
-- Assumes nothing.
use mathlib.Core.Path.{◌≡◌, sym, ap, ◌∙◌}
use mathlib.Core.Bool.{Bool, false}
use mathlib.Core.List.{List}
use mathlib.Core.Logic.{⊎_elim}
use Prim.Native.Nat.{ℕ, suc, ◌≤◌}
use native.Mathlib.Omega.{arith}
use lib.ListN.{length, take}
use lib.Seq.{length-take-le}
use Rattle.laws.specs.Choice.{pick}
use Rattle.laws.proofs.Tests.{not_so}
use Rattle.model.specs.Image.{image_bytes, is_image, held}
use Rattle.model.proofs.Image.{image⇔, image_length}
use Rattle.report.specs.Report.{state_lines, no_image_line, image_lines, state_status, broken_status, image_status}

-- one byte more than an image has
abbrev pub image_enough : ℕ
image_enough = suc image_bytes

no_image : (i : List ℕ) → image_enough ≤ length i → is_image i ≡ false
no_image i h = not_so (image⇔ i) (λ m. ⊎_elim (λ l. omega arith) (λ l. omega arith) (image_length i m))

pub cut_image : (i : List ℕ) → image_enough ≤ length i
    → (image_lines i ≡ image_lines (take image_enough i)) × (image_status i ≡ image_status (take image_enough i))
cut_image i h =
    let e = no_image i h in
    let c = no_image (take image_enough i) (omega (arith, length-take-le image_enough i h)) in (
      ap (λ (b : Bool). pick b (state_lines (held i)) no_image_line) e ∙ sym (ap (λ (b : Bool). pick b (state_lines (held (take image_enough i))) no_image_line) c),
      ap (λ (b : Bool). pick b (state_status (held i)) broken_status) e
          ∙ sym (ap (λ (b : Bool). pick b (state_status (held (take image_enough i))) broken_status) c),
    )
