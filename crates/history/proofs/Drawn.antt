-- Every valid state agrees with the book of it: so demand 3 holds of a run from any valid state.
-- Assumes nothing.
use mathlib.Core.Path.{◌≡◌, refl, sym, ap, subst}
use mathlib.Core.Bool.{Bool, ◌&&◌, not}
use mathlib.Core.Logic.{◌≢◌, ◌↔◌}
use mathlib.Core.List.{List}
use mathlib.Core.Option.{some, some-injective, none-ne-some}
use Prim.Native.Nat.{ℕ, zero, suc, ◌+◌, ◌*◌, ◌<◌}
use native.Mathlib.Omega.{arith}
use lib.Dec.{ltb, eqb}
use borrow.Author.Tests.{eqb-true, eq-eqb, ne_eqb, lt-ltb}
use Rattle.laws.specs.Choice.{at}
use Rattle.laws.specs.Search.{first_below}
use Rattle.laws.proofs.Cases.{split, below?}
use Rattle.laws.proofs.Tests.{eq⇔, lt⇔, and⇔, not⇔}
use Rattle.laws.proofs.Lists.{at_past}
use Rattle.laws.proofs.Search.{Each, first_below_found, first_below_is}
use Rattle.model.specs.Sizes.{guests, physicals, pages, addresses}
use Rattle.model.specs.State.{State, nowhere, page_at, kind_of, present}
use Rattle.model.specs.Records.{Bytes}
use Rattle.model.specs.Valid.{Valid}
use Rattle.model.proofs.RuleTests.{lead_holds}
use Rattle.keeps.proofs.Core.{core_of, lead_is}
use Rattle.history.specs.Agrees.{Has, Links, Agrees, address_of, book_of}
use Rattle.history.specs.Rations.{Rations}
use Rattle.history.proofs.Charts.{has_page}
use Rattle.history.proofs.Rations.{rations}

-- ---- the address that holds a page

-- what is found holds the page
address_found : (physical : List ℕ) (g e pa : ℕ) → address_of physical g e ≡ some pa
    → (pa < physicals) × (at physical (physicals * g + pa) ≡ e) × (e ≢ 0)
unfolding address_of
address_found physical g e pa w =
    split (ltb q physicals && not (eqb e 0))
    (λ t.
    let z = (and⇔ (lt⇔ q physicals) (not⇔ (eq⇔ e 0))).0 t in
    let i : q ≡ pa = some-injective q pa (rw t at w) in
    subst (λ (x : ℕ). (x < physicals) × (at physical (physicals * g + x) ≡ e) × (e ≢ 0)) i
    (z.0, eqb-true (at physical (physicals * g + q)) e (first_below_found test physicals z.0), z.1))
    (λ t. absurd (none-ne-some pa (rw t at w)))
  where
    test : ℕ → Bool
    test x = eqb (at physical (physicals * g + x)) e

    q : ℕ
    q = first_below physicals test

-- the only one that holds it is found
address_is : (physical : List ℕ) (g p pa : ℕ) → pa < physicals → at physical (physicals * g + pa) ≡ suc p
    → ((pb : ℕ) → pb < physicals → at physical (physicals * g + pb) ≡ suc p → pb ≡ pa) → address_of physical g (suc p) ≡ some pa
unfolding address_of
address_is physical g p pa h e only =
    let test : ℕ → Bool = λ x. eqb (at physical (physicals * g + x)) (suc p) in
    let i = first_below_is test physicals pa h (eq-eqb (at physical (physicals * g + pa)) (suc p) e)
    (λ j l. ne_eqb (at physical (physicals * g + j)) (suc p) (λ w. let z = only j (omega arith) w in omega arith)) in
    rw (i, lt-ltb pa physicals h, ne_eqb (suc p) 0 (λ w. omega arith))

module _ {s : State} (v : Valid s) where
  page_is : {g pa p : ℕ} → Has s.shape.pages.physical g pa p → page_at s.shape g pa ≡ p
  page_is {g} {pa} {p} h = lead_is (at s.shape.pages.physical (physicals * g + pa)) p (has_page (core_of v) h) h.holds

  -- an entry that is there stands in a table that the guest has
  link_from : (g pt va pa p : ℕ) → g < guests → pt < physicals → va < addresses → at s.shape.pages.entry (addresses * page_at s.shape g pt + va) ≡ suc p
      → Has s.shape.pages.physical g pa p → Links s.shape.pages.entry s.shape.pages.physical g pt va pa
  link_from g pt va pa p hg ht hv e h =
      let m = page_at s.shape g pt in
      let inside : m < pages =
      below? m pages (λ b. b)
      (λ b. let z = at_past s.shape.pages.entry (addresses * m + va) (omega (arith, v.sized.entry)) in absurd (omega arith)) in
      record {
        table = m;
        page = p;
        from = record { guest = hg; address = ht; holds = lead_holds (at s.shape.pages.physical (physicals * g + pt)) inside };
        holds = e;
        to = h;
      }

  link_is : (g pt va pa : ℕ) → g < guests → pt < physicals → va < addresses
      → ((book_of s).link g pt va ≡ some pa) ↔ Links s.shape.pages.entry s.shape.pages.physical g pt va pa
  link_is g pt va pa hg ht hv = (
    (λ w. go (at s.shape.pages.entry (addresses * page_at s.shape g pt + va)) refl w),
    λ l.
        rw (page_is l.from, l.holds)
        (address_is s.shape.pages.physical g l.page pa l.to.address l.to.holds
        (λ pb hb e. v.rule3.different g pb pa l.page hg hb l.to.address e l.to.holds)),
  )
    where
      go : (e : ℕ) → at s.shape.pages.entry (addresses * page_at s.shape g pt + va) ≡ e → address_of s.shape.pages.physical g e ≡ some pa
          → Links s.shape.pages.entry s.shape.pages.physical g pt va pa
      go zero e w = absurd ((address_found s.shape.pages.physical g 0 pa w).2 refl)
      go (suc p) e w =
          let f = address_found s.shape.pages.physical g (suc p) pa w in
          link_from g pt va pa p hg ht hv e (record { guest = hg; address = f.0; holds = f.1 })

  pub drawn_agrees : Agrees s (book_of s)
  drawn_agrees =
      record {
        chart =
            record {
              active = refl;
              current = λ g hg. refl;
              kind = λ g pa p h. ap (kind_of s.shape) (page_is h);
              none = λ g pa hg ha e. rw e (at_past s.shape.pages.kind nowhere (omega (arith, v.sized.kind)));
              link = link_is;
            };
        value = λ g pa p h d. ap (present s) (sym (page_is h));
      }

  pub drawn_rations : (rs : List (List ℕ)) → Each Bytes rs → Rations (book_of s) s rs
  drawn_rations = rations v drawn_agrees
