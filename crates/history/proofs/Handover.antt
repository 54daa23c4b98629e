-- A page that nothing uses changes hands, in the book's chart: what pin and unpin share.
-- Assumes nothing.
use mathlib.Core.Path.{◌≡◌, refl, sym, ap, ◌∙◌, subst}
use mathlib.Core.Bool.{true, false, ◌&&◌}
use mathlib.Core.Logic.Iff
use mathlib.Core.Logic.{◌≢◌, ◌↔◌, ⊎_elim}
use mathlib.Core.List.{List}
use mathlib.Core.Option.{Option, some}
use Prim.Native.Nat.{ℕ, suc, ◌+◌, ◌*◌, ◌<◌}
use native.Mathlib.Omega.{arith}
use lib.Dec.{eqb}
use lib.ListN.{set}
use Rattle.laws.specs.Choice.{pick, at}
use Rattle.laws.proofs.Cases.{same?, pick_yes, pick_not}
use Rattle.laws.proofs.Tests.{not_so}
use Rattle.laws.proofs.Lists.{at_same, at_other}
use Rattle.model.specs.Sizes.{guests, physicals, addresses}
use Rattle.model.specs.Names.{kind_none}
use Rattle.model.specs.State.{State, active}
use Rattle.model.specs.Rules.{Maps}
use Rattle.keeps.proofs.Core.{Core}
use Rattle.keeps.proofs.Handover.{Idle}
use Rattle.history.specs.Past.{Book}
use Rattle.history.specs.Agrees.{Has, Links, Charts}
use Rattle.history.proofs.Charts.{ChartOf, has_page, has_after, place⇔}

-- the active guest's pa is of the kind x from now on; its table there leads where `link` says
abbrev pub rekinded : Book → ℕ → ℕ → (ℕ → ℕ → ℕ → Option ℕ) → Book
rekinded b pa x link =
    record {
      active = b.active;
      current = b.current;
      kind = λ g qa. pick (eqb g b.active && eqb qa pa) x (b.kind g qa);
      link = link;
      value = b.value;
    }

module _ {s : State} (c : Core s) {b : Book} (k : ChartOf s.shape b) {pa p : ℕ} (ha : pa < physicals)
    (n : Idle s p (physicals * active s.shape + pa)) where
  abbrev spot : ℕ
  spot = physicals * active s.shape + pa

  -- the table and the page of a link stand elsewhere
  linker : {g pt va q : ℕ} → va < addresses → Links s.shape.pages.entry s.shape.pages.physical g pt va q
      → (physicals * g + pt ≢ spot) × (physicals * g + q ≢ spot)
  linker {g} {pt} {va} {q} hv l = (
    (λ w. n.bare va l.page hv (ap (λ (x : ℕ). at s.shape.pages.entry (addresses * x + va)) (sym (there w l.from.holds)) ∙ l.holds)),
    λ w. n.unmapped l.table va (subst (λ (x : ℕ). Maps s.shape.pages.kind s.shape.pages.entry l.table va x) (there w l.to.holds) maps),
  )
    where
      there : {i m : ℕ} → i ≡ spot → at s.shape.pages.physical i ≡ suc m → m ≡ p
      there {m = m} w e = n.held m (ap (at s.shape.pages.physical) (sym w) ∙ e)

      maps : Maps s.shape.pages.kind s.shape.pages.entry l.table va l.page
      maps =
          let r = c.rule4.entries l.table va l.page (has_page c l.from) hv l.holds in
          record { page = has_page c l.from; address = hv; is_table = r.in_table; holds = l.holds }

  -- so nothing leads anywhere from there
  pub idle_unlinked : (va q : ℕ) → va < addresses → b.link (active s.shape) pa va ≢ some q
  idle_unlinked va q hv e = (linker hv ((k.link (active s.shape) pa va q c.rule10.guests.active ha hv).0 e)).0 refl

  module _ {e x : ℕ} (leads : (q : ℕ) → e ≡ suc q → q ≡ p) (empty : e ≡ 0 → x ≡ kind_none) {link : ℕ → ℕ → ℕ → Option ℕ}
      (links : (g pt va q : ℕ) → g < guests → pt < physicals → va < addresses → (link g pt va ≡ some q) ↔ (b.link g pt va ≡ some q)) where
    abbrev physical : List ℕ
    physical = set s.shape.pages.physical spot e

    has_still : {g qa q : ℕ} → physicals * g + qa ≢ spot → Has s.shape.pages.physical g qa q → Has physical g qa q
    has_still {g} {qa} d a =
        record { guest = a.guest; address = a.address; holds = at_other s.shape.pages.physical spot e (physicals * g + qa) d ∙ a.holds }

    -- what tables lead to is the same
    links_same : (g pt va q : ℕ) → va < addresses
        → Links s.shape.pages.entry s.shape.pages.physical g pt va q ↔ Links s.shape.pages.entry physical g pt va q
    links_same g pt va q hv = (
      (λ l.
          let d = linker hv l in
          record { table = l.table; page = l.page; from = has_still d.0 l.from; holds = l.holds; to = has_still d.1 l.to }),
      λ l. ⊎_elim (λ w. absurd (n.bare va l.page hv (ap (λ (y : ℕ). at s.shape.pages.entry (addresses * y + va)) (sym (leads l.table w.2)) ∙ l.holds)))
          (λ w. ⊎_elim (λ u. absurd (unmapped w.1 (leads l.page u.2) l.holds))
          (λ u. record { table = l.table; page = l.page; from = w.1; holds = l.holds; to = u.1 }) (has_after s.shape.pages.physical (active s.shape) ha l.to)) (has_after s.shape.pages.physical (active s.shape) ha l.from),
    )
      where
        unmapped : {m : ℕ} → Has s.shape.pages.physical g pt m → {r : ℕ} → r ≡ p → at s.shape.pages.entry (addresses * m + va) ≡ suc r → ⊥
        unmapped {m} a {r} w z =
            let i = c.rule4.entries m va r (has_page c a) hv z in
            n.unmapped m va (record { page = has_page c a; address = hv; is_table = i.in_table; holds = z ∙ ap suc w })

    pub handed_chart : Charts (set s.shape.pages.kind p x) s.shape.pages.entry physical s.shape.guests.current s.shape.guests.active
        (rekinded b pa x link)
    handed_chart =
        record {
          active = k.active;
          current = k.current;
          kind = λ g qa q a. ⊎_elim
              (λ w. rw (leads q w.2, at_same s.shape.pages.kind p x (omega (arith, n.page, c.sized.kind))) (pick_yes x (b.kind g qa) (yes g qa w.0 w.1)))
              (λ w.
              let d : q ≢ p = λ z. w.0 (n.only g qa w.1.guest w.1.address (w.1.holds ∙ ap suc z)) in
              rw (at_other s.shape.pages.kind p x q d) (pick_not x (b.kind g qa) (not g qa w.0) ∙ k.kind g qa q w.1))
              (has_after s.shape.pages.physical (active s.shape) ha a);
          none = λ g qa hg hq z. same? (physicals * g + qa) spot
              (λ w. pick_yes x (b.kind g qa) (yes g qa (omega arith) (omega arith)) ∙ empty (sym there ∙ ap (at physical) (sym w) ∙ z))
              (λ d. pick_not x (b.kind g qa) (not g qa d)
              ∙ k.none g qa hg hq (sym (at_other s.shape.pages.physical spot e (physicals * g + qa) d) ∙ z));
          link = λ g pt va q hg ht hv. Iff.trans (links g pt va q hg ht hv) (Iff.trans (k.link g pt va q hg ht hv) (links_same g pt va q hv));
        }
      where
        there : at physical spot ≡ e
        there = at_same s.shape.pages.physical spot e (omega (arith, n.place, c.sized.physical))

        yes : (g qa : ℕ) → g ≡ active s.shape → qa ≡ pa → (eqb g b.active && eqb qa pa) ≡ true
        yes g qa u w = (place⇔ g b.active qa pa).1 (u ∙ sym k.active, w)

        not : (g qa : ℕ) → physicals * g + qa ≢ spot → (eqb g b.active && eqb qa pa) ≡ false
        not g qa d = not_so (place⇔ g b.active qa pa) (λ w. d (omega (arith, w.0, w.1, k.active)))
