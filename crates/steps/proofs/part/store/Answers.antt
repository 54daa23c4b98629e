-- What an answer counts, and its bytes in their place.
-- Assumes nothing.
use mathlib.Core.Path.{◌≡◌, ap, ◌∙◌}
use mathlib.Core.List.{List}
use Prim.Native.Nat.{ℕ, ◌*◌}
use native.Mathlib.Omega.{arith}
use lib.Seq.{sets}
use mir.Val.{bool_byte}
use Rattle.model.specs.Sizes.{answer_bytes}
use Rattle.model.specs.Journal.{answer_bytes_of}
use Rattle.steps.specs.Promises.{numbered}
use Rattle.steps.proofs.Refusals.{same_answer}
use Rattle.steps.proofs.Storing.{counted}
use Rattle.steps.proofs.part.store.Goals as goal

-- stored at the place of answer i
placed : (b d : List ℕ) (p i : ℕ) {c e : List ℕ} → c ≡ sets b p d → d ≡ e → p ≡ answer_bytes * i → c ≡ sets b (answer_bytes * i) e
placed b d p i s f g = s ∙ (λ k. sets b (g k) (f k))

pub returns : goal.returns
returns c =
    let a = c.args in
    let told = c.bytes_of.ensures ∙ ap (λ x. answer_bytes_of (numbered x)) c.by_number.ensures ∙ ap answer_bytes_of (same_answer a.a) in
    record {
      counted = c.from-done.ensures ∙ ap bool_byte c.is_ok.ensures.value ∙ counted a.a;
      buffer = placed a.out.now _ _ a.i c.put.ensures told (omega arith);
    }
