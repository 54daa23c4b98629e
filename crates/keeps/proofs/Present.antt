-- On a valid state a page has one line at most, and what a lookup in the address's set finds is the page's present value.
-- Assumes nothing.
use mathlib.Core.Path.{◌≡◌, sym, ap, subst, ◌∙◌}
use mathlib.Core.Bool.{Bool, false}
use mathlib.Core.Logic.{◌≢◌}
use Prim.Native.Nat.{ℕ, suc, ◌<◌}
use native.Mathlib.Omega.{arith}
use lib.Dec.{ltb, eqb}
use borrow.Author.Tests.{eqb-true, eqb-false, eq-eqb, ne_eqb}
use Rattle.laws.specs.Choice.{pick, at}
use Rattle.laws.proofs.Cases.{same?, below?}
use Rattle.laws.proofs.Lists.{at_other}
use Rattle.laws.proofs.Search.{first_below_found, first_below_least, first_below_none}
use Rattle.model.specs.Sizes.{pages, addresses, lines}
use Rattle.model.specs.State.{Shape, State, lead, mapped, no_line, is_cacheable, line_of, line_of_page, present}
use Rattle.model.specs.Parts.{take_out}
use Rattle.model.specs.Rules.{Maps}
use Rattle.model.specs.Valid.{Valid}
use Rattle.model.proofs.RuleTests.{lead_holds}
use Rattle.keeps.proofs.Core.{Core, core_of, maps_here}
use Rattle.keeps.proofs.Sets.{Fills, looked?, line_is_law}

-- ---- the first line of a page

-- the page has a line, and this is the first; or it has none
pub paged? {ℓ} : {P : Type ℓ} (h : Shape) (p : ℕ) → (line_of_page h p < lines → at h.cache.line_page (line_of_page h p) ≡ suc p → P)
    → (line_of_page h p ≡ no_line → ((i : ℕ) → i < lines → at h.cache.line_page i ≢ suc p) → P) → P
unfolding line_of_page
paged? h p f g =
    let t : ℕ → Bool = λ i. eqb (at h.cache.line_page i) (suc p) in
    below? (line_of_page h p) lines (λ l. f l (eqb-true (at h.cache.line_page (line_of_page h p)) (suc p) (first_below_found t lines l)))
    (λ l.
    let none : (i : ℕ) → i < lines → at h.cache.line_page i ≢ suc p =
    λ i hi e. let z = first_below_least t lines i (eq-eqb (at h.cache.line_page i) (suc p) e) in omega arith in
    g (first_below_none t lines (λ i hi. ne_eqb (at h.cache.line_page i) (suc p) (none i hi))) none)

-- ---- the one line of a page

module _ {s : State} (c : Core s) where
  -- a line of a page that some table maps at va has the address va
  pub line_address_law : {i m va p : ℕ} → i < lines → at s.shape.cache.line_page i ≡ suc p
      → Maps s.shape.pages.kind s.shape.pages.entry m va p → at s.shape.cache.line_address i ≡ va
  line_address_law {i} {m} {va} {p} hi e a =
      let l = c.rule7.line i p hi e in
      same? (at s.shape.cache.line_address i) va (λ q. q)
      (λ n. absurd (c.rule6.shared p l.mapped.0 m (at s.shape.cache.line_address i) va l.page l.is_data l.mapped.1 a n l.is_cacheable))

  pub one_line : (i j p : ℕ) → i < lines → j < lines → at s.shape.cache.line_page i ≡ suc p → at s.shape.cache.line_page j ≡ suc p → i ≡ j
  one_line i j p hi hj e f = c.rule7.once i j p hi hj e f (line_address_law hi e (c.rule7.line j p hj f).mapped.1)

  -- a lookup of a mapped page finds its one line
  pub lookup_line : (va : ℕ) → va < addresses → mapped s.shape va < pages
      → line_of s.shape va (mapped s.shape va) ≡ line_of_page s.shape (mapped s.shape va)
  lookup_line va hv hp =
      let p = mapped s.shape va in
      let a = maps_here c va hv hp in
      paged? s.shape p
      (λ l e. line_is_law c l e (line_address_law l e a))
      (λ z n. looked? s.shape va p (λ f. absurd (n (line_of s.shape va p) f.line f.page)) (λ y _. y ∙ sym z))

  -- a page that is not cacheable has no line
  pub uncacheable_line : (i p : ℕ) → is_cacheable s.shape p ≡ false → i < lines → at s.shape.cache.line_page i ≢ suc p
  uncacheable_line i p u hi e = eqb-false (at s.shape.pages.cacheable p) 1 u (c.rule7.line i p hi e).is_cacheable

  pub uncacheable_memory : (p : ℕ) → is_cacheable s.shape p ≡ false → present s p ≡ at s.values.memory p
  unfolding present
  uncacheable_memory p u =
      paged? s.shape p (λ l e. absurd (uncacheable_line (line_of_page s.shape p) p u l e)) (λ z _. rw z)

  -- the line that an access fills takes from memory the page's present value, whatever was taken out for it
  pub filled_present : (va : ℕ) → va < addresses → mapped s.shape va < pages → {i : ℕ} → Fills s.shape va (mapped s.shape va) i
      → at (take_out s i).values.memory (mapped s.shape va) ≡ present s (mapped s.shape va)
  unfolding take_out present
  filled_present va hv hp {i} f =
      let p = mapped s.shape va in
      let none = looked? s.shape va p (λ k. absurd (f.missed (line_of s.shape va p) k)) (λ e _. sym (lookup_line va hv hp) ∙ e) in
      paged? s.shape p (λ l _. absurd (omega arith))
      (λ e n.
      at_other s.values.memory (lead (at s.shape.cache.line_page i)) (at s.values.line i) p
      (λ q. n i f.line (lead_holds (at s.shape.cache.line_page i) (subst (λ (x : ℕ). x < pages) q hp) ∙ ap suc (sym q)))
      ∙ rw e)

-- ---- what a lookup finds

pub lookup_present : {s : State} → Valid s → (va : ℕ) → va < addresses → mapped s.shape va < pages
    → pick (ltb (line_of s.shape va (mapped s.shape va)) lines) (at s.values.line (line_of s.shape va (mapped s.shape va)))
    (at s.values.memory (mapped s.shape va))
    ≡ present s (mapped s.shape va)
unfolding present
lookup_present v va hv hp = rw (lookup_line (core_of v) va hv hp)
