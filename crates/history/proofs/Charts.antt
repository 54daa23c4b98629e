-- The book's chart through the parts of steps: an entry stored or removed, another current table, another active guest.
-- Assumes nothing.
use mathlib.Core.Path.{◌≡◌, refl, sym, ap, ◌∙◌}
use mathlib.Core.Bool.{Bool, ◌&&◌}
use mathlib.Core.Logic.Iff
use mathlib.Core.Logic.{◌⊎◌, inl, inr, ◌≢◌, ◌↔◌, ⊎_elim}
use mathlib.Core.List.{List}
use mathlib.Core.Option.{Option, some}
use Prim.Native.Nat.{ℕ, suc, ◌+◌, ◌*◌, ◌<◌}
use native.Mathlib.Omega.{arith}
use lib.Dec.{eqb}
use lib.ListN.{set}
use borrow.Author.Tests.{eq-eqb, ne_eqb}
use Rattle.laws.specs.Choice.{pick, at, ◌⇔◌}
use Rattle.laws.proofs.Cases.{split, same?, pick_yes, pick_not}
use Rattle.laws.proofs.Tests.{eq⇔, and⇔, as⇔, fails}
use Rattle.laws.proofs.Lists.{at_same, at_other, set_at'}
use Rattle.model.specs.Sizes.{physicals, pages, addresses}
use Rattle.model.specs.Names.{owner_guest}
use Rattle.model.specs.State.{Shape, State, active, table}
use Rattle.keeps.proofs.Core.{Core, in_force}
use Rattle.history.specs.Past.{Book}
use Rattle.history.specs.Agrees.{Has, Links, Charts}

abbrev pub ChartOf : Shape → Book → Type 0
ChartOf h b = Charts h.pages.kind h.pages.entry h.pages.physical h.guests.current h.guests.active b

-- ---- guests' pages

-- an address has one page
pub has_same : {physical : List ℕ} {g pa p q : ℕ} → Has physical g pa p → Has physical g pa q → p ≡ q
has_same a b = omega (arith, a.holds, b.holds)

module _ {s : State} (c : Core s) where
  pub has_page : {g pa p : ℕ} → Has s.shape.pages.physical g pa p → p < pages
  has_page {g} {pa} {p} a = (c.rule3.own g pa p a.guest a.address a.holds).0

  pub has_owner : {g pa p : ℕ} → Has s.shape.pages.physical g pa p → at s.shape.pages.owner p ≡ owner_guest g
  has_owner {g} {pa} {p} a = (c.rule3.own g pa p a.guest a.address a.holds).1

  -- a page has one address
  pub has_once : {g h pa pb p : ℕ} → Has s.shape.pages.physical g pa p → Has s.shape.pages.physical h pb p → (g ≡ h) × (pa ≡ pb)
  has_once {g} {h} {pa} {pb} {p} a b =
      let e : g ≡ h = omega (arith, has_owner a, has_owner b) in
      (e, c.rule3.different g pa pb p a.guest a.address b.address a.holds (rw e b.holds))

  -- the table in force is the one that the active guest has at its current address
  pub table_has : Has s.shape.pages.physical (active s.shape) (at s.shape.guests.current (active s.shape)) (table s.shape)
  table_has =
      let a = c.rule10.guests.active in
      record { guest = a; address = c.rule5.in_range (active s.shape) a; holds = (in_force c).registered }

-- what a guest has after a store at an address, it was given there now, or had before
pub has_after : (physical : List ℕ) (a : ℕ) {pa e g qa q : ℕ} → pa < physicals → Has (set physical (physicals * a + pa) e) g qa q
    → ((g ≡ a) × (qa ≡ pa) × (e ≡ suc q)) ⊎ ((physicals * g + qa ≢ physicals * a + pa) × Has physical g qa q)
has_after physical a {pa} {e} {g} {qa} {q} ha h =
    ⊎_elim (λ w. let z = h.address in inl (omega (arith, w.0), omega (arith, w.0), w.1))
    (λ w. inr (w.0, record { guest = h.guest; address = h.address; holds = w.1 }))
    (set_at' physical (physicals * a + pa) e (physicals * g + qa) q h.holds)

-- ---- a place of the book changes

-- the test for a place, and what it means
pub place⇔ : (g h pa pb : ℕ) → (eqb g h && eqb pa pb) ⇔ ((g ≡ h) × (pa ≡ pb))
place⇔ g h pa pb = and⇔ (eq⇔ g h) (eq⇔ pa pb)

-- ---- the current table leads from an address to another place, or to none

abbrev pub relinked : Book → ℕ → Option ℕ → Book
relinked b va o =
    record {
      active = b.active;
      current = b.current;
      kind = b.kind;
      link = λ g pt vb. pick (eqb g b.active && eqb pt (b.current b.active) && eqb vb va) o (b.link g pt vb);
      value = b.value;
    }

module _ {s : State} (c : Core s) {b : Book} (k : ChartOf s.shape b) (va e : ℕ) (o : Option ℕ) (hv : va < addresses)
    (leads : (pa : ℕ) → (o ≡ some pa) ↔ ((p : ℕ) × (e ≡ suc p) × Has s.shape.pages.physical (active s.shape) pa p)) where
  abbrev place : ℕ
  place = addresses * table s.shape + va

  abbrev entries : List ℕ
  entries = set s.shape.pages.entry place e

  stored_there : at entries place ≡ e
  stored_there = at_same s.shape.pages.entry place e (omega (arith, c.sized.entry, (in_force c).page))

  -- at the place itself
  link_there : (pa : ℕ) → (o ≡ some pa) ↔ Links entries s.shape.pages.physical (active s.shape) (at s.shape.guests.current (active s.shape)) va pa
  link_there pa = (
    (λ q.
        let w = (leads pa).0 q in
        record { table = table s.shape; page = w.0; from = table_has c; holds = stored_there ∙ w.1; to = w.2 }),
    λ l.
        let z : e ≡ suc l.page =
        sym stored_there ∙ ap (λ (m : ℕ). at entries (addresses * m + va)) (has_same (table_has c) l.from) ∙ l.holds in
        (leads pa).1 (l.page, z, l.to),
  )

  -- elsewhere
  link_elsewhere : (g pt vb pa : ℕ) → vb < addresses
      → ((g ≡ active s.shape) × (pt ≡ at s.shape.guests.current (active s.shape)) → vb ≡ va → ⊥)
      → Links s.shape.pages.entry s.shape.pages.physical g pt vb pa ↔ Links entries s.shape.pages.physical g pt vb pa
  link_elsewhere g pt vb pa hb n = (
    (λ l. record { table = l.table; page = l.page; from = l.from; holds = same l.from ∙ l.holds; to = l.to }),
    λ l. record { table = l.table; page = l.page; from = l.from; holds = sym (same l.from) ∙ l.holds; to = l.to },
  )
    where
      apart : {m : ℕ} → Has s.shape.pages.physical g pt m → addresses * m + vb ≢ place
      apart {m} a w =
          let z : m ≡ table s.shape = omega arith in
          n (has_once c a (rw z (table_has c))) (omega arith)

      same : {m : ℕ} → Has s.shape.pages.physical g pt m → at entries (addresses * m + vb) ≡ at s.shape.pages.entry (addresses * m + vb)
      same {m} a = at_other s.shape.pages.entry place e (addresses * m + vb) (apart a)

  pub entry_chart : Charts s.shape.pages.kind entries s.shape.pages.physical s.shape.guests.current s.shape.guests.active (relinked b va o)
  entry_chart =
      record {
        active = k.active;
        current = k.current;
        kind = k.kind;
        none = k.none;
        link = λ g pt vb pa hg ht hb. split (here g pt vb)
            (λ t. let w = (there g pt vb).0 t in rw (t, w.0, w.1, w.2) (link_there pa))
            (λ t. rw t (Iff.trans (k.link g pt vb pa hg ht hb) (link_elsewhere g pt vb pa hb (λ w z. fails (there g pt vb) t (w.0, w.1, z)))));
      }
    where
      here : ℕ → ℕ → ℕ → Bool
      here g pt vb = eqb g b.active && eqb pt (b.current b.active) && eqb vb va

      current_is : b.current b.active ≡ at s.shape.guests.current (active s.shape)
      current_is = ap b.current k.active ∙ k.current (active s.shape) c.rule10.guests.active

      there : (g pt vb : ℕ) → here g pt vb ⇔ ((g ≡ active s.shape) × (pt ≡ at s.shape.guests.current (active s.shape)) × (vb ≡ va))
      there g pt vb =
          as⇔ (and⇔ (place⇔ g b.active pt (b.current b.active)) (eq⇔ vb va)) (λ w. (w.0.0 ∙ k.active, w.0.1 ∙ current_is, w.1))
          (λ w. ((w.0 ∙ sym k.active, w.1 ∙ sym current_is), w.2))

-- ---- the active guest's current table is another

abbrev pub retabled : Book → ℕ → Book
retabled b pa =
    record {
      active = b.active;
      current = λ g. pick (eqb g b.active) pa (b.current g);
      kind = b.kind;
      link = b.link;
      value = b.value;
    }

pub current_chart : {s : State} → Core s → {b : Book} → ChartOf s.shape b → (pa : ℕ)
    → Charts s.shape.pages.kind s.shape.pages.entry s.shape.pages.physical (set s.shape.guests.current (active s.shape) pa)
    s.shape.guests.active (retabled b pa)
current_chart {s} c {b} k pa =
    record {
      active = k.active;
      current = λ g hg. same? g (active s.shape)
          (λ e.
          rw (e, at_same s.shape.guests.current (active s.shape) pa (omega (arith, c.sized.current, c.rule10.guests.active)))
          (pick_yes pa (b.current (active s.shape)) (eq-eqb (active s.shape) b.active (sym k.active))))
          (λ n.
          rw (at_other s.shape.guests.current (active s.shape) pa g n)
          (pick_not pa (b.current g) (ne_eqb g b.active (λ w. n (w ∙ k.active))) ∙ k.current g hg));
      kind = k.kind;
      none = k.none;
      link = k.link;
    }

-- ---- other values

abbrev pub valued : Book → (ℕ → ℕ → ℕ) → Book
valued b f = record { active = b.active; current = b.current; kind = b.kind; link = b.link; value = f }

-- the chart has none
pub valued_chart : {kinds entry physical currents : List ℕ} {a : ℕ} {b : Book} (f : ℕ → ℕ → ℕ) → Charts kinds entry physical currents a b
    → Charts kinds entry physical currents a (valued b f)
valued_chart f k = record { active = k.active; current = k.current; kind = k.kind; none = k.none; link = k.link }

-- ---- another guest is active

abbrev pub turned : Book → ℕ → Book
turned b g = record { active = g; current = b.current; kind = b.kind; link = b.link; value = b.value }

pub active_chart : {kinds entry physical currents : List ℕ} {a : ℕ} {b : Book} (g : ℕ) → Charts kinds entry physical currents a b
    → Charts kinds entry physical currents g (turned b g)
active_chart g k = record { active = refl; current = k.current; kind = k.kind; none = k.none; link = k.link }
