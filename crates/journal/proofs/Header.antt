-- The header, byte by byte, and as a beginning.
-- Assumes nothing.
use mathlib.Core.Path.{◌≡◌, sym, ap, ◌∙◌}
use mathlib.Core.Bool.{Bool, true}
use mathlib.Core.List.{List, ◌++◌}
use Prim.Native.Nat.{ℕ, ◌≤◌, ◌<◌}
use native.Mathlib.Omega.{arith}
use lib.Dec.{eqb}
use lib.ListN.{length, take, drop, length-append, take-append-drop, get_or-append}
use lib.Seq.{length-take-le, get_or-take}
use Rattle.std.specs.List.{starts_with}
use Rattle.std.proofs.lemmas.Slice.Eq.{starts_is, text_from_reads}
use Rattle.std.proofs.lemmas.Bool.Decides.{Decides-eqb}
use Rattle.laws.specs.Choice.{at, ◌⇔◌}
use Rattle.laws.proofs.Tests.{eq⇔, lt⇔, and⇔, not⇔, as⇔, same_test}
use Rattle.laws.proofs.Search.{all⇔}
use Rattle.model.specs.Sizes.{header_bytes}
use Rattle.model.specs.Journal.{header, has_header}

module _ (j : List ℕ) where
  abbrev There : Type 0
  There = (header_bytes ≤ length j) × ((i : ℕ) → i < header_bytes → at j i ≡ at header i)

  pub header⇔ : has_header j ⇔ There
  unfolding has_header
  header⇔ =
      and⇔ (as⇔ (not⇔ (lt⇔ (length j) header_bytes)) (λ n. omega arith) (λ h k. omega arith))
      (all⇔ header_bytes (λ i h. eq⇔ (at j i) (at header i)))

  pub long_enough : has_header j ≡ true → header_bytes ≤ length j
  long_enough t = (header⇔.0 t).0

  -- as code asks
  pub starts_with_header : {r : Bool} → r ≡ starts_with eqb j header → r ≡ has_header j
  starts_with_header {r} e =
      let d = starts_is Decides-eqb j header r e in
      same_test {b = r} {P = j ≡ header ++ drop header_bytes j} (d.0, λ q. d.1 (drop header_bytes j) q) header⇔ there begins
    where
      there : j ≡ header ++ drop header_bytes j → There
      there q =
          (omega (arith, ap length q, length-append header (drop header_bytes j)), λ i h. ap (λ (l : List ℕ). at l i) q ∙ get_or-append header (drop header_bytes j) 0 i h)

      begins : There → j ≡ header ++ drop header_bytes j
      begins t =
          let first : (i : ℕ) → i < header_bytes → at (take header_bytes j) i ≡ at header i =
          λ i h. get_or-take header_bytes j i 0 h ∙ t.1 i h in
          let e : take header_bytes j ≡ header =
          text_from_reads (take header_bytes j) header (length-take-le header_bytes j t.0)
          (first 0 (omega arith), (first 1 (omega arith), (first 2 (omega arith), (first 3 (omega arith), (first 4 (omega arith), (first 5 (omega arith), (first 6 (omega arith), (first 7 (omega arith), tt)))))))) in
          sym (take-append-drop header_bytes j) ∙ ap (λ (l : List ℕ). l ++ drop header_bytes j) e
