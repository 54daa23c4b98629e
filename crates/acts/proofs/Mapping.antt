-- The line that an address had, as code finds it.
-- Assumes nothing.
use mathlib.Core.Path.{◌≡◌, sym, ap, ◌∙◌}
use mathlib.Core.Bool.{true}
use Prim.Native.Nat.{ℕ, ◌<◌}
use native.Mathlib.Omega.{arith}
use lib.Seq.{set_out}
use borrow.Author.Tests.{lt-ltb, le-ltb}
use Rattle.laws.specs.Choice.{at}
use Rattle.laws.proofs.Cases.{pick_yes}
use Rattle.laws.proofs.Tests.{lt⇔}
use Rattle.laws.proofs.Lists.{at_past}
use Rattle.model.specs.Sizes.{pages, ways, lines, set_of}
use Rattle.model.specs.State.{State, is_page, lead, nowhere, mapped, hit_way, no_line, line_at, line_of}
use Rattle.model.specs.Parts.{take_out}
use Rattle.model.specs.Valid.{Sized}
use Rattle.model.specs.New.{old_line}
use Rattle.std.specs.Prelude.{Some, None}
use Rattle.cache.specs.declared.Set.{Set}
use Rattle.cache.specs.Sets.{if_below, set_from, find_in}
use Rattle.cache.proofs.Found.{below_some, below_none}
use Rattle.cache.proofs.Sets.{find_is_hit}
use Rattle.acts.specs.Mapped.{former_line}

-- ---- the line of an address and a page

module _ (s : State) (va p : ℕ) (x : Set) (l : p < pages) (m : p ≡ mapped s.shape va) (e : x ≡ set_from s (set_of va)) where
  hit : find_in x va p ≡ hit_way s.shape va (mapped s.shape va)
  hit = ap (λ (y : Set). find_in y va p) e ∙ find_is_hit s va p l ∙ ap (hit_way s.shape va) m

  page : is_page (mapped s.shape va) ≡ true
  page = (lt⇔ (mapped s.shape va) pages).1 (omega arith)

  former_is : former_line s.shape va ≡ line_of s.shape va (mapped s.shape va)
  former_is = pick_yes (old_line s.shape va) no_line page

  pub former_found : (w : ℕ) → Some w ≡ if_below ways (find_in x va p) → Some (line_at (set_of va) w) ≡ if_below lines (former_line s.shape va)
  former_found w f =
      let d = below_some ways (find_in x va p) w f in
      let q : hit_way s.shape va (mapped s.shape va) ≡ w = sym (d.0 ∙ hit) in
      let i : former_line s.shape va ≡ line_at (set_of va) w = former_is ∙ rw (q, lt-ltb w ways d.1) in
      sym (ap (if_below lines) i ∙ rw (lt-ltb (line_at (set_of va) w) lines (omega arith)))

  pub former_missing : None ≡ if_below ways (find_in x va p) → None ≡ if_below lines (former_line s.shape va)
  former_missing f =
      let q = le-ltb (hit_way s.shape va (mapped s.shape va)) ways (omega (arith, below_none ways (find_in x va p) f, hit)) in
      let i : former_line s.shape va ≡ no_line = former_is ∙ rw q in
      sym (ap (if_below lines) i)

-- no line is past the last
pub no_line_out : (s : State) (i : ℕ) → Sized s → None ≡ if_below lines i → s ≡ take_out s i
unfolding take_out
no_line_out s i z f =
    let l = below_none lines i f in
    let n : lead (at s.shape.cache.line_page i) ≡ nowhere = ap lead (at_past s.shape.cache.line_page i (omega (arith, z.line_page))) in
    rw (
      n,
      set_out s.shape.cache.line_address i 0 (omega (arith, z.line_address)),
      set_out s.shape.cache.line_page i 0 (omega (arith, z.line_page)),
      set_out s.values.memory nowhere (at s.values.line i) (omega (arith, z.memory)),
      set_out s.values.line i 0 (omega (arith, z.line)),
    )
