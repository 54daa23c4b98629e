-- The number of what code answers is that of the model's answer.
-- Assumes nothing.
use mathlib.Core.Path.{◌≡◌, refl, ap, ◌∙◌}
use Prim.Native.Nat.{ℕ}
use Rattle.model.specs.Image.{ImageAnswer, done, not_valid, not_image, image_number}
use Rattle.numbers.specs.Refusals.{code_of}
use Rattle.image.specs.Promises.{Answer, answer_to}

number_back : (x : ImageAnswer) → code_of (answer_to x) ≡ image_number x
number_back done = refl
number_back not_valid = refl
number_back not_image = refl

pub number_is : (x : ImageAnswer) {a : Answer} {n : ℕ} → a ≡ answer_to x → n ≡ code_of a → n ≡ image_number x
number_is x e f = f ∙ ap code_of e ∙ number_back x
