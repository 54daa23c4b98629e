-- Rule 6 at a page is what is asked of the page, address by address.
-- Assumes nothing.
use mathlib.Core.Path.{◌≡◌, refl, sym, ap, ◌∙◌}
use mathlib.Core.Bool.{Bool, true, false, ◌&&◌, not}
use mathlib.Core.Logic.{◌≢◌}
use Prim.Native.Nat.{ℕ, ◌<◌}
use lib.Dec.{eqb}
use borrow.Author.Tests.{lt-ltb}
use Rattle.laws.specs.Choice.{at, ◌⇔◌}
use Rattle.laws.proofs.Cases.{split}
use Rattle.laws.proofs.Tests.{eq⇔, and⇔, not⇔, as⇔, agree}
use Rattle.laws.proofs.Search.{some⇔}
use Rattle.model.specs.Sizes.{pages, addresses, stealth}
use Rattle.model.specs.Names.{kind_data}
use Rattle.model.specs.State.{State, maps_page}
use Rattle.model.specs.Rules.{Maps}
use Rattle.model.specs.RuleTests.{maps_twice, rule6_at}
use Rattle.model.specs.Valid.{Sized}
use Rattle.model.proofs.RuleTests.{maps_page⇔, twice⇔}
use Rattle.asks.specs.Maps.{maps_page_of}
use Rattle.entries.specs.Entries.{shared_at, mapped_twice, page_unshared}

module _ (s : State) (size : Sized s) (p : ℕ) (page : p < pages) where
  -- of a page, the question is the model's
  of_page : (t : ℕ → Bool) → maps_page_of s.shape t p ≡ maps_page s.shape.pages.kind s.shape.pages.entry t p
  of_page t = ap (λ (b : Bool). b && maps_page s.shape.pages.kind s.shape.pages.entry t p) (lt-ltb p pages page)

  shared⇔ : (a : ℕ) → shared_at s p a
      ⇔ (((m : ℕ) × (va : ℕ) × (va ≡ a) × Maps s.shape.pages.kind s.shape.pages.entry m va p)
      × ((n : ℕ) × (vb : ℕ) × (vb ≢ a) × Maps s.shape.pages.kind s.shape.pages.entry n vb p))
  unfolding shared_at
  shared⇔ a =
      rw (of_page (λ v. eqb v a), of_page (λ v. not (eqb v a)))
      (and⇔ (maps_page⇔ s.shape.pages.kind s.shape.pages.entry (λ v. eq⇔ v a) p size.entry)
      (maps_page⇔ s.shape.pages.kind s.shape.pages.entry (λ v. not⇔ (eq⇔ v a)) p size.entry))

  twice_is : mapped_twice s p ≡ maps_twice s.shape.pages.kind s.shape.pages.entry p
  twice_is =
      agree
      (as⇔ (some⇔ addresses (λ a h. shared⇔ a))
      (λ w.
      let x = w.2.0 in
      let y = w.2.1 in
      (x.0, x.1, x.3, (y.0, y.1, (λ e. y.2 (e ∙ x.2)), y.3)))
      (λ w. (w.1, w.2.address, ((w.0, w.1, refl, w.2), w.3))))
      (twice⇔ s.shape.pages.kind s.shape.pages.entry p size.entry)

  pub page_is : page_unshared s p ≡ rule6_at s.shape.pages.kind s.shape.pages.cacheable s.shape.pages.entry p
  unfolding page_unshared
  page_is =
      split (eqb (at s.shape.pages.cacheable p) 1)
      (λ e. split (eqb (at s.shape.pages.kind p) kind_data) (λ d. rw (e, d, twice_is) (sym (and_true (not (maps_twice s.shape.pages.kind s.shape.pages.entry p))))) (λ d. rw (e, d)))
      (λ e. split (eqb (at s.shape.pages.kind p) kind_data) (λ d. rw (e, d, of_page (λ v. eqb v stealth))) (λ d. rw (e, d, of_page (λ v. eqb v stealth))))
    where
      and_true : (b : Bool) → (b && true) ≡ b
      and_true true = refl
      and_true false = refl
