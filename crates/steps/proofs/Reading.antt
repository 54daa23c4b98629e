-- On a valid state what is found once the line is there is the page's present value.
-- Assumes nothing.
use mathlib.Core.Path.{◌≡◌, refl, sym, subst, ◌∙◌}
use mathlib.Core.Bool.{true}
use Prim.Native.Nat.{ℕ, ◌≤◌, ◌<◌}
use native.Mathlib.Omega.{arith}
use borrow.Author.Tests.{lt-ltb, le-ltb}
use Rattle.laws.specs.Choice.{at}
use Rattle.laws.proofs.Cases.{split, below?}
use Rattle.model.specs.Sizes.{pages, addresses, ways, lines, set_of}
use Rattle.model.specs.State.{State, mapped, is_cacheable, no_line, line_at, hit_way, line_of, present}
use Rattle.model.specs.Parts.{way_for}
use Rattle.model.specs.Read.{miss_line, read_step}
use Rattle.model.specs.Valid.{Valid}
use Rattle.keeps.proofs.Core.{core_of}
use Rattle.keeps.proofs.Sets.{Fills, filled?, unfilled}
use Rattle.keeps.proofs.Present.{lookup_present, uncacheable_memory, filled_present}
use Rattle.cache.specs.Lines.{found}
use Rattle.cache.proofs.Accesses.{found_read, found_uncached, found_hit, found_miss}

module _ {s : State} (v : Valid s) (va : ℕ) (hv : va < addresses) (hp : mapped s.shape va < pages) where
  hit_present : (w : ℕ) → hit_way s.shape va (mapped s.shape va) ≡ w → w < ways
      → at s.values.line (line_at (set_of va) w) ≡ present s (mapped s.shape va)
  hit_present w e h =
      let l : line_at (set_of va) w < lines = omega arith in
      rw (e, lt-ltb w ways h, lt-ltb (line_at (set_of va) w) lines l) at (lookup_present v va hv hp)

  -- on a miss the line that enters fills the way that is named
  module _ (c : is_cacheable s.shape (mapped s.shape va) ≡ true) (m : ways ≤ hit_way s.shape va (mapped s.shape va)) where
    miss_way : miss_line s.shape va (mapped s.shape va) ≡ line_at (set_of va) (way_for s.shape (set_of va))
    unfolding miss_line
    miss_way = rw (le-ltb (hit_way s.shape va (mapped s.shape va)) ways m, c)

    fills : Fills s.shape va (mapped s.shape va) (line_at (set_of va) (way_for s.shape (set_of va)))
    fills =
        let p = mapped s.shape va in
        let b = v.rule10.cache.history in
        filled? s.shape va p b
        (λ e.
        let k = (unfilled s.shape va p b e c).line in
        let z : line_of s.shape va p ≡ no_line = rw (le-ltb (hit_way s.shape va p) ways m) in
        absurd (omega arith))
        (λ f. subst (Fills s.shape va p) miss_way f)

  pub found_valid : found (read_step s va (mapped s.shape va)) va (mapped s.shape va) ≡ present s (mapped s.shape va)
  found_valid =
      let p = mapped s.shape va in
      let z = v.sized in
      found_read s va p
      ∙ split (is_cacheable s.shape p)
      (λ c.
      below? (hit_way s.shape va p) ways (λ h. found_hit s va p z c h ∙ hit_present (hit_way s.shape va p) refl h)
      (λ m.
      let f = fills c m in
      found_miss s va p z c m (omega (arith, f.in_set)) ∙ filled_present (core_of v) va hv hp f))
      (λ c. found_uncached s va p z c ∙ sym (uncacheable_memory (core_of v) p c))
