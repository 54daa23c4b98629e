-- Images: what is one, by mark, version and length.
-- Assumes nothing.
use mathlib.Core.Path.{◌≡◌, refl}
use mathlib.Core.Logic.{◌⊎◌, inl, inr, ⊎_elim}
use mathlib.Core.List.{List}
use Prim.Native.Nat.{ℕ, zero, suc, ◌<◌}
use native.Mathlib.Omega.{arith}
use lib.ListN.{length}
use Rattle.laws.specs.Choice.{at, ◌⇔◌}
use Rattle.laws.proofs.Lists.{at_past}
use Rattle.laws.proofs.Tests.{eq⇔, and⇔, as⇔}
use Rattle.laws.proofs.Search.{all⇔}
use Rattle.model.specs.Sizes.{mark_bytes}
use Rattle.model.specs.Image.{mark, first_version, lengths, version_written, version_in, is_image, Image}

by_version : (v n : ℕ) → n ≡ at lengths v → (n ≡ 0) ⊎ ((v ≡ first_version) ⊎ (v ≡ version_written))
by_version zero n e = inl e
by_version (suc zero) n e = inr (inl refl)
by_version (suc (suc zero)) n e = inr (inr refl)
by_version (suc (suc (suc v))) n e = inl e

module _ (i : List ℕ) where
  abbrev Formed : Type 0
  Formed = ((k : ℕ) → k < mark_bytes → at i k ≡ at mark k) × (length i ≡ at lengths (version_in i))

  pub image⇔ : is_image i ⇔ Image i
  unfolding is_image
  image⇔ =
      as⇔ (and⇔ (all⇔ mark_bytes (λ k h. eq⇔ (at i k) (at mark k))) (eq⇔ (length i) (at lengths (version_in i)))) formed_image
      (λ m. (m.marked, m.long))
    where
      formed_image : Formed → Image i
      formed_image (f, e) =
          ⊎_elim (λ z. let m : at i 0 ≡ 82 = f 0 (omega arith) in let n = at_past i 0 (omega arith) in absurd (omega arith))
          (λ v. record { marked = f; version = v; long = e }) (by_version (version_in i) (length i) e)
