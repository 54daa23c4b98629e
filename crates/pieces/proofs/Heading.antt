-- The header's bytes in a piece.
-- Assumes nothing.
use mathlib.Core.Path.{◌≡◌, sym, ap, ◌∙◌}
use mathlib.Core.Bool.{Bool, true, false, ◌&&◌}
use mathlib.Core.Logic.{◌⊎◌, ⊎_elim}
use mathlib.Core.List.{List}
use Prim.Native.Nat.{ℕ, ◌+◌, ◌-◌, ◌≤◌, ◌<◌}
use native.Mathlib.Omega.{arith}
use lib.Dec.{eqb, ltb}
use lib.ListN.{length, take, drop, length-drop}
use lib.Seq.{ext_get_or, length-take-le, get_or-take, get_or-drop}
use Rattle.std.specs.List.{starts_with}
use Rattle.std.proofs.lemmas.Slice.Eq.{bytes_eq-Decides}
use Rattle.laws.specs.Choice.{at}
use Rattle.laws.proofs.Cases.{split}
use Rattle.laws.proofs.Tests.{eq⇔, lt⇔, le⇔, as⇔, not_so, agree}
use Rattle.laws.proofs.Search.{all⇔}
use Rattle.model.specs.Sizes.{header_bytes, begun_most}
use Rattle.model.specs.Journal.{header}
use Rattle.model.specs.Pieces.{header_count, begun_count, header_part, header_goes_on, is_journal}

module _ (k piece : List ℕ) (h : header_count k ≤ header_bytes) where
  abbrev n : ℕ
  n = header_part k piece

  abbrev next : List ℕ
  next = take n (drop (header_count k) header)

  long : length next ≡ n
  long = length-take-le n (drop (header_count k) header) (omega (arith, length-drop (header_count k) header))

  at_next : (i : ℕ) → i < n → at next i ≡ at header (header_count k + i)
  at_next i l = get_or-take n (drop (header_count k) header) i 0 l ∙ get_or-drop (header_count k) header i 0

  at_piece : (i : ℕ) → i < n → at (take (length next) piece) i ≡ at piece i
  at_piece i l = get_or-take (length next) piece i 0 (omega (arith, long))

  all_same : next ≡ take (length next) piece → (i : ℕ) → i < n → at piece i ≡ at header (header_count k + i)
  all_same e i l = sym (at_piece i l) ∙ ap (λ (x : List ℕ). at x i) (sym e) ∙ at_next i l

  same_all : ((i : ℕ) → i < n → at piece i ≡ at header (header_count k + i)) → next ≡ take (length next) piece
  same_all f =
      ext_get_or 0 next (take (length next) piece) (sym (length-take-le (length next) piece (omega (arith, long))))
      (λ i l. let m : i < n = omega (arith, long) in at_next i m ∙ sym (f i m) ∙ sym (at_piece i m))

  -- the piece starts with the header's bytes that come next
  pub goes_on_law : starts_with eqb piece next ≡ header_goes_on k piece
  goes_on_law =
      agree (as⇔ (bytes_eq-Decides next (take (length next) piece)) all_same same_all) (all⇔ n (λ i l. eq⇔ (at piece i) (at header (header_count k + i))))

  -- as code finds it
  pub in_range_law : (last : Bool) {taken end : ℕ} {right : Bool} → taken ≡ header_count k → end ≡ taken + n → begun_count k ≤ begun_most
      → (last ≡ true) × (header_bytes ≤ end) ⊎ (last ≡ false) → right ≡ starts_with eqb piece (take (end - taken) (drop taken header))
      → right ≡ is_journal k piece last
  in_range_law last {taken} {end} {right} e f b o r =
      let m : end - taken ≡ n = omega arith in
      let g : right ≡ header_goes_on k piece = r ∙ (λ i. starts_with eqb piece (take (m i) (drop (e i) header))) ∙ goes_on_law in
      let s : (last && ltb (header_count k + n) header_bytes) ≡ false =
      ⊎_elim (λ q. rw q.0 (not_so (lt⇔ (header_count k + n) header_bytes) (λ l. omega arith))) (λ q. rw q) o in
      rw ((le⇔ (header_count k) header_bytes).1 h, (le⇔ (begun_count k) begun_most).1 b, s) (g ∙ split (header_goes_on k piece) (λ t. rw t) (λ t. rw t))
