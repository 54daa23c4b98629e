-- An entry stored over what a table has at an address, or removed from there. One argument for both: a rule can break only by what is stored,
-- or by a line or a TLB slot that still holds what was there.
-- Assumes nothing.
use mathlib.Core.Path.{◌≡◌, refl, sym, ap, ◌∙◌, subst}
use mathlib.Core.Bool.{false}
use mathlib.Core.Logic.{◌⊎◌, inl, inr, ◌≢◌, ⊎_elim}
use mathlib.Core.List.{List}
use Prim.Native.Nat.{ℕ, suc, ◌+◌, ◌*◌, ◌<◌}
use native.Mathlib.Omega.{arith}
use lib.ListN.{set}
use Rattle.laws.specs.Choice.{at}
use Rattle.laws.proofs.Lists.{at_other, set_at'}
use Rattle.model.specs.Sizes.{pages, addresses, lines, slots, stealth, reserved}
use Rattle.model.specs.Names.{owner_guest, kind_data}
use Rattle.model.specs.State.{Pages, Shape, State, active, table}
use Rattle.model.specs.Rules.{Maps, Entry, Rule4, Rule6, Rule7, Rule8, Rule9}
use Rattle.model.specs.Parts.{shaped, set_entry}
use Rattle.model.specs.Valid.{Valid}
use Rattle.keeps.proofs.Core.{Core, core_of, valid_of, in_force}
use Rattle.keeps.proofs.Parts.{guests_of, cache_of, tlb_of, policy_of, core_from, line_among, mapped_part}
use Rattle.keeps.proofs.Stores.{size_set, below_set, below_held}

-- what page p needs for table m to map va to it
pub record Mappable (t : Pages) (m va p : ℕ) : Type 0 where
  pub allowed : Entry t.owner t.kind m va p
  -- a cacheable page is mapped at no other address
  pub alone : at t.cacheable p ≡ 1 → (n vb : ℕ) → Maps t.kind t.entry n vb p → vb ≡ va
  pub stealthy : va ≡ stealth → at t.cacheable p ≡ 1

-- what a number needs to be stored there: 0 removes the entry, and needs nothing
abbrev pub Storable : Pages → ℕ → ℕ → ℕ → Type 0
Storable t m va e = (p : ℕ) → e ≡ suc p → Mappable t m va p

pub storable : {t : Pages} {m va p : ℕ} → Mappable t m va p → Storable t m va (suc p)
storable {t} {m} {va} f q w = subst (λ (x : ℕ). Mappable t m va x) (omega arith) f

pub removable : (t : Pages) (m va : ℕ) → Storable t m va 0
removable t m va p w = absurd (omega arith)

-- none of the n lines or slots holds va with the page that table m has there
abbrev pub Unheld : List ℕ → List ℕ → List ℕ → ℕ → ℕ → ℕ → Type 0
Unheld entry address page n m va = (i p : ℕ) → i < n → at page i ≡ suc p → at address i ≡ va → at entry (addresses * m + va) ≡ suc p → ⊥

abbrev pub NoLine : Shape → ℕ → ℕ → Type 0
NoLine h m va = Unheld h.pages.entry h.cache.line_address h.cache.line_page lines m va

abbrev pub NoSlot : Shape → ℕ → ℕ → Type 0
NoSlot h m va = Unheld h.pages.entry h.tlb.slot_address h.tlb.slot_page slots m va

-- ---- at the level of lists

-- what a table maps elsewhere it maps still
pub maps_kept : {kind entry : List ℕ} {n vb q : ℕ} (i e : ℕ) → addresses * n + vb ≢ i → Maps kind entry n vb q → Maps kind (set entry i e) n vb q
maps_kept {kind} {entry} {n} {vb} i e d a =
    record { page = a.page; address = a.address; is_table = a.is_table; holds = at_other entry i e (addresses * n + vb) d ∙ a.holds }

module _ (m va e : ℕ) (hv : va < addresses) where
  -- what a place holds was stored now, or was there before
  held_after : (entry : List ℕ) (n vb q : ℕ) → vb < addresses → at (set entry (addresses * m + va) e) (addresses * n + vb) ≡ suc q
      → ((n ≡ m) × (vb ≡ va) × (e ≡ suc q)) ⊎ (at entry (addresses * n + vb) ≡ suc q)
  held_after entry n vb q hb a =
      ⊎_elim (λ w. inl (omega (arith, w.0), omega (arith, w.0), w.1)) (λ w. inr w.1) (set_at' entry (addresses * m + va) e (addresses * n + vb) q a)

  -- and so is what a table maps
  maps_after : {kind entry : List ℕ} {n vb q : ℕ} → Maps kind (set entry (addresses * m + va) e) n vb q
      → ((n ≡ m) × (vb ≡ va) × (e ≡ suc q)) ⊎ Maps kind entry n vb q
  maps_after {kind} {entry} {n} {vb} {q} a =
      ⊎_elim inl (λ h. inr (record { page = a.page; address = a.address; is_table = a.is_table; holds = h })) (held_after entry n vb q a.address a.holds)

  module _ {t : Pages} (f : Storable t m va e) where
    entry_rule4 : Rule4 t.owner t.kind t.entry → Rule4 t.owner t.kind (set t.entry (addresses * m + va) e)
    entry_rule4 r =
        record {
          entries = λ n vb q hn hb a. ⊎_elim (λ w. rw (w.0, w.1) (f q w.2).allowed) (r.entries n vb q hn hb) (held_after t.entry n vb q hb a);
        }

    entry_rule6 : Rule6 t.kind t.cacheable t.entry → Rule6 t.kind t.cacheable (set t.entry (addresses * m + va) e)
    entry_rule6 r =
        record {
          shared = λ p n o vb vc hp k a b d c. ⊎_elim
              (λ x. ⊎_elim (λ y. d (x.1 ∙ sym y.1)) (λ y. d (x.1 ∙ sym ((f p x.2).alone c o vc y))) (maps_after b))
              (λ x. ⊎_elim (λ y. d ((f p y.2).alone c n vb x ∙ sym y.1)) (λ y. r.shared p n o vb vc hp k x y d c) (maps_after b))
              (maps_after a);
          stealthy = λ p n hp a. ⊎_elim (λ x. (f p x.2).stealthy (sym x.1)) (λ x. r.stealthy p n hp x) (maps_after a);
        }

  entry_rule7 : {kind cacheable entry line_address line_page : List ℕ} → Unheld entry line_address line_page lines m va
      → Rule7 kind cacheable entry line_address line_page → Rule7 kind cacheable (set entry (addresses * m + va) e) line_address line_page
  entry_rule7 {entry = entry} u r =
      record {
        line = λ j p hj h. line_among (r.line j p hj h) refl refl (λ n a.
            maps_kept (addresses * m + va) e (λ w. let z = a.address in u j p hj h (omega arith) (ap (at entry) (sym w) ∙ a.holds)) a);
        once = r.once;
      }

  pub entry_rule8 : {entry slot_address slot_page : List ℕ} → Unheld entry slot_address slot_page slots m va
      → Rule8 entry slot_address slot_page m → Rule8 (set entry (addresses * m + va) e) slot_address slot_page m
  entry_rule8 {entry} {slot_address} {slot_page} u r =
      record {
        agrees = λ j p hj a.
            let g = r.agrees j p hj a in
            let d : addresses * m + at slot_address j ≢ addresses * m + va = λ w. u j p hj a (omega arith) (ap (at entry) (sym w) ∙ g.holds) in
            record {
              address = g.address;
              in_slot = g.in_slot;
              page = g.page;
              in_force = g.in_force;
              holds = at_other entry (addresses * m + va) e (addresses * m + at slot_address j) d ∙ g.holds;
            };
      }

  entry_rule9 : {entry line_address line_page history : List ℕ} → va ≢ stealth → Rule9 entry line_address line_page history m
      → Rule9 (set entry (addresses * m + va) e) line_address line_page history m
  entry_rule9 {entry} {line_address} {line_page} {history} n r =
      record {
        held = λ p a. r.held p (record { page = a.page; in_force = a.in_force; holds = sym same ∙ a.holds });
        empty = λ f. r.empty (λ p a. f p (record { page = a.page; in_force = a.in_force; holds = same ∙ a.holds }));
        alone = r.alone;
        begun = r.begun;
      }
    where
      same : at (set entry (addresses * m + va) e) (addresses * m + stealth) ≡ at entry (addresses * m + stealth)
      same = at_other entry (addresses * m + va) e (addresses * m + stealth) (λ w. n (omega arith))

-- ---- in a state

-- what rule 4 asks, of a data page of the active guest and the table in force
pub entry_here : {s : State} → Core s → {va p : ℕ} → reserved va ≡ false → p < pages → at s.shape.pages.kind p ≡ kind_data
    → at s.shape.pages.owner p ≡ owner_guest (active s.shape) → Entry s.shape.pages.owner s.shape.pages.kind (table s.shape) va p
entry_here c r hp k o =
    let f = in_force c in
    record {
      in_table = f.is_table;
      allowed = r;
      page = hp;
      is_data = k;
      owned = omega (arith, f.own, c.rule10.guests.active);
      same_owner = o ∙ sym f.own;
    }

pub entry_core : {s : State} (m va e : ℕ) → va < addresses → Storable s.shape.pages m va e → NoLine s.shape m va → Core s
    → Core (shaped s (set_entry s.shape m va e))
entry_core {s} m va e hv f u c =
    core_from
    (record {
      owner = c.sized.owner;
      kind = c.sized.kind;
      cacheable = c.sized.cacheable;
      entry = size_set s.shape.pages.entry (addresses * m + va) e c.sized.entry;
      physical = c.sized.physical;
      value = c.sized.memory;
      rule2 = c.rule2;
      rule3 = c.rule3;
      rule4 = entry_rule4 m va e hv f c.rule4;
      rule6 = entry_rule6 m va e hv f c.rule6;
      ranges =
          record {
            owner = c.rule10.pages.owner;
            kind = c.rule10.pages.kind;
            cacheable = c.rule10.pages.cacheable;
            entry = below_set s.shape.pages.entry (addresses * m + va) e (below_held e (λ p w. (f p w).allowed.page)) c.rule10.pages.entry;
            physical = c.rule10.pages.physical;
            free = c.rule10.pages.free;
          };
      values = c.rule10.values.memory;
    })
    (guests_of c) (mapped_part (entry_rule7 m va e hv u c.rule7) (cache_of c)) (tlb_of c) (policy_of c)

-- in the table in force, at an address other than the stealth address
pub entry_valid : {s : State} (va e : ℕ) → va < addresses → va ≢ stealth → Storable s.shape.pages (table s.shape) va e
    → NoLine s.shape (table s.shape) va → NoSlot s.shape (table s.shape) va → Valid s
    → Valid (shaped s (set_entry s.shape (table s.shape) va e))
unfolding table
entry_valid {s} va e hv n f u w v =
    let m = table s.shape in
    valid_of (entry_core m va e hv f u (core_of v)) (entry_rule8 m va e hv w v.rule8) (entry_rule9 m va e hv n v.rule9)
