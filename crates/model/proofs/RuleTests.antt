-- Each rule's test passes exactly if the rule holds, by itself and on any numbers.
-- Assumes nothing.
use mathlib.Core.Path.{◌≡◌, refl, sym, ap, ◌∙◌, subst}
use mathlib.Core.Bool.{Bool, ◌&&◌, not, false≢true}
use mathlib.Core.Logic.{inl, inr, ◌≢◌, ⊎_elim}
use mathlib.Core.List.{List, [], ◌∷◌}
use Prim.Native.Nat.{ℕ, zero, suc, ◌+◌, ◌*◌, ◌-◌, ◌/◌, ◌≤◌, ◌<◌}
use native.Mathlib.Omega.{arith}
use lib.Dec.{ltb, eqb}
use lib.ListN.{length}
use borrow.Author.Tests.{ne_eqb, lt-ltb, le-ltb}
use Rattle.laws.specs.Choice.{at, ◌⇒◌, ◌⇔◌}
use Rattle.laws.specs.Search.{all_below, all_in}
use Rattle.laws.specs.Bits.{bit}
use Rattle.laws.proofs.Cases.{same?, below?}
use Rattle.laws.proofs.Tests.{eq⇔, lt⇔, le⇔, and⇔, or⇔, imp⇔, not⇔, same⇔, pick⇔, as⇔, false⇔}
use Rattle.laws.proofs.Search.{some⇔, all⇔, all_in⇔, Each, each⇔}
use Rattle.laws.proofs.Grid.{all_grid⇔, some_grid⇔}
use Rattle.model.specs.Sizes.{guests, physicals, pages, addresses, first_host_page, first_free_page, ways, lines, slots, stealth, stealth_set, reserved, set_of, slot_of, calls}
use Rattle.model.specs.Names.{owner_none, owner_host, owner_guest, kind_none, kind_data, kind_table, running, write_through}
use Rattle.model.specs.State.{State, lead, is_page, nowhere, stealth_line, line_at, maps_page}
use Rattle.model.specs.History.{start}
use Rattle.model.specs.Records.{Row, within, row_of, kind_of_call}
use Rattle.model.specs.Rules.{Stored, Within, Maps, Rule1, Rule2, Rule3, Rule4, Rule5, Rule6, Rule7, Rule8, Leads, Rule9, Below, Rule10, Rule11}
use Rattle.model.specs.RuleTests.{leads_to, stored, rule1?, rule2?, rule3?, rule4?, rule5?, maps_twice, rule6?, rule7?, rule8?, stealth_page, rule9?, column, columns, in_range, rule10?, rule11?}
use Rattle.model.specs.Valid.{Sized}

-- ---- a place that holds a page plus one

pub lead_page : (p : ℕ) → p < pages → lead (suc p) ≡ p
lead_page p h = rw (lt-ltb p pages h)

pub lead_past : (p : ℕ) → pages ≤ p → lead (suc p) ≡ nowhere
lead_past p h = rw (le-ltb p pages h)

-- a place leads to a page exactly if it holds that page plus one
pub lead_holds : (e : ℕ) → lead e < pages → e ≡ suc (lead e)
lead_holds zero h = absurd (omega arith)
lead_holds (suc p) h =
    below? p pages (λ b. ap suc (sym (lead_page p b))) (λ b. let z : lead (suc p) ≡ nowhere = lead_past p b in absurd (omega arith))

-- empty, or leads to a page that passes
pub leads_to⇔ {ℓ} : {t : ℕ → Bool} {P : ℕ → Type ℓ} (e : ℕ) → ((p : ℕ) → p < pages → t p ⇔ P p) → leads_to e t ⇔ ((p : ℕ) → e ≡ suc p → (p < pages) × P p)
leads_to⇔ zero h = ((λ w p q. absurd (omega arith)), λ w. refl)
leads_to⇔ {t = t} {P} (suc n) h =
    below? n pages
    (λ b. as⇔ (rw (ne_eqb (suc n) 0 (λ z. omega arith), lead_page n b, lt-ltb n pages b) (h n b))
    (λ w p q. let z : n ≡ p = omega arith in (omega arith, subst P z w))
    (λ w. (w n refl).1))
    (λ b. rw (ne_eqb (suc n) 0 (λ z. omega arith), lead_past n b)
    ((λ w. absurd (false≢true w)), λ w. let z = (w n refl).0 in absurd (omega arith)))

-- ---- table m maps va to p

pub maps_page⇔ : (kind entry : List ℕ) {t : ℕ → Bool} {T : ℕ → Type 0} → ((va : ℕ) → t va ⇔ T va) → (p : ℕ) → length entry ≡ pages * addresses
    → maps_page kind entry t p ⇔ ((m : ℕ) × (va : ℕ) × T va × Maps kind entry m va p)
unfolding maps_page
maps_page⇔ kind entry {t} {T} h p size =
    as⇔
    (some_grid⇔ addresses (omega arith) pages entry size (λ m va e. eqb e (suc p) && t va && eqb (at kind m) kind_table)
    (λ m va hm hv. and⇔ (and⇔ (eq⇔ (at entry (addresses * m + va)) (suc p)) (h va)) (eq⇔ (at kind m) kind_table)))
    (λ w. (w.0, w.1, w.4.0.1, record { page = w.2; address = w.3; is_table = w.4.1; holds = w.4.0.0 }))
    (λ w. (w.0, w.1, w.3.page, w.3.address, ((w.3.holds, w.2), w.3.is_table)))

-- ---- the eleven rules

pub within⇔ : (r : Row) (a b : ℕ) → within r a b ⇔ Within r a b
within⇔ r a b =
    as⇔ (and⇔ (and⇔ (and⇔ (le⇔ r.a_from a) (lt⇔ a r.a_below)) (le⇔ r.b_from b)) (lt⇔ b r.b_below))
    (λ w. record { a_low = w.0.0.0; a_high = w.0.0.1; b_low = w.0.1; b_high = w.1 })
    (λ w. (((w.a_low, w.a_high), w.b_low), w.b_high))

stored⇔ : (c : ℕ) → stored c ⇔ Stored c
stored⇔ c = as⇔ (and⇔ (le⇔ 1 c) (lt⇔ c calls)) (λ w. record { some = w.0; known = w.1 }) (λ w. (w.some, w.known))

pub rule1⇔ : (call call_a call_b : List ℕ) (active mode : ℕ) → rule1? call call_a call_b active mode ⇔ Rule1 call call_a call_b active mode
unfolding rule1?
rule1⇔ call call_a call_b active mode =
    as⇔
    (all⇔ guests (λ g hg.
    and⇔ (imp⇔ (and⇔ (eq⇔ g active) (eq⇔ mode running)) (not⇔ (stored⇔ (at call g))))
    (imp⇔ (stored⇔ (at call g)) (within⇔ (row_of (kind_of_call (at call g))) (at call_a g) (at call_b g)))))
    (λ w. record { idle = λ ha hm c. (w active ha).0 (refl, hm) c; fits = λ g hg c. (w g hg).1 c })
    (λ w g hg. (
      (λ e c. w.idle (omega arith) e.1 (subst (λ (x : ℕ). Stored (at call x)) e.0 c)),
      w.fits g hg,
    ))

pub rule2⇔ : (owner kind cacheable memory : List ℕ) (free : ℕ) → rule2? owner kind cacheable memory free ⇔ Rule2 owner kind cacheable memory free
unfolding rule2?
rule2⇔ owner kind cacheable memory free =
    as⇔
    (all⇔ pages (λ p hp.
    let o = at owner p in
    and⇔
    (and⇔
    (and⇔
    (and⇔ (and⇔ (same⇔ (and⇔ (le⇔ first_host_page p) (lt⇔ p first_free_page)) (eq⇔ o owner_host)) (imp⇔ (eq⇔ o owner_host) (three p kind_data)))
    (imp⇔ (eq⇔ o owner_none) (three p kind_none)))
    (same⇔ (eq⇔ (bit free p) 1) (eq⇔ o owner_none)))
    (imp⇔ (and⇔ (le⇔ (owner_guest 0) o) (lt⇔ o (owner_guest guests))) (or⇔ (eq⇔ (at kind p) kind_data) (eq⇔ (at kind p) kind_table))))
    (imp⇔ (eq⇔ (at kind p) kind_table) (and⇔ (eq⇔ (at cacheable p) 1) (eq⇔ (at memory p) 0)))))
    (λ w. record {
      hosts = λ p hp. (w p hp).0.0.0.0.0;
      host = λ p hp. (w p hp).0.0.0.0.1;
      ownerless = λ p hp. (w p hp).0.0.0.1;
      map = λ p hp. (w p hp).0.0.1;
      guest = λ g p hg hp e. (w p hp).0.1 (omega arith, omega arith);
      tables = λ p hp. (w p hp).1;
    })
    (λ w p hp. (
      ((((w.hosts p hp, w.host p hp), w.ownerless p hp), w.map p hp), λ b. w.guest (at owner p - 2) p (omega arith) hp (omega arith)),
      w.tables p hp,
    ))
  where
    three : (p k : ℕ) → (eqb (at kind p) k && eqb (at cacheable p) 1 && eqb (at memory p) 0) ⇔ ((at kind p ≡ k) × (at cacheable p ≡ 1) × (at memory p ≡ 0))
    three p k =
        as⇔ (and⇔ (and⇔ (eq⇔ (at kind p) k) (eq⇔ (at cacheable p) 1)) (eq⇔ (at memory p) 0)) (λ w. (w.0.0, w.0.1, w.1)) (λ w. ((w.0, w.1), w.2))

pub rule3⇔ : (owner physical : List ℕ) → length physical ≡ guests * physicals → rule3? owner physical ⇔ Rule3 owner physical
unfolding rule3?
rule3⇔ owner physical size =
    as⇔
    (and⇔
    (all_grid⇔ physicals (omega arith) guests physical size
    (λ g pa e. leads_to e (λ p. eqb (at owner p) (owner_guest g) && all_below physicals (λ pb. eqb (at physical (physicals * g + pb)) (suc p) ⇒ eqb pa pb)))
    (λ g pa hg ha. leads_to⇔ (at physical (physicals * g + pa)) (λ p hp.
    and⇔ (eq⇔ (at owner p) (owner_guest g)) (all⇔ physicals (λ pb hb. imp⇔ (eq⇔ (at physical (physicals * g + pb)) (suc p)) (eq⇔ pa pb))))))
    (all⇔ pages (λ p hp. all⇔ guests (λ g hg.
    imp⇔ (eq⇔ (at owner p) (owner_guest g)) (some⇔ physicals (λ pa ha. eq⇔ (at physical (physicals * g + pa)) (suc p)))))))
    (λ w. record {
      own = λ g pa p hg ha e. let z = w.0 g pa hg ha p e in (z.0, z.1.0);
      different = λ g pa pb p hg ha hb e f. (w.0 g pa hg ha p e).1.1 pb hb f;
      reached = λ g p hg hp e. w.1 p hp g hg e;
    })
    (λ w. (
      (λ g pa hg ha p e. let z = w.own g pa p hg ha e in (z.0, (z.1, λ pb hb f. w.different g pa pb p hg ha hb e f))),
      λ p hp g hg e. w.reached g p hg hp e,
    ))

pub rule4⇔ : (owner kind entry : List ℕ) → length entry ≡ pages * addresses → rule4? owner kind entry ⇔ Rule4 owner kind entry
unfolding rule4?
rule4⇔ owner kind entry size =
    as⇔
    (all_grid⇔ addresses (omega arith) pages entry size
    (λ m va e. leads_to e (λ p. eqb (at kind m) kind_table && not (reserved va) && eqb (at kind p) kind_data && ltb (at owner m) (owner_guest guests)
    && eqb (at owner p) (at owner m)))
    (λ m va hm hv. leads_to⇔ (at entry (addresses * m + va)) (λ p hp.
    and⇔ (and⇔ (and⇔ (and⇔ (eq⇔ (at kind m) kind_table) (false⇔ (reserved va))) (eq⇔ (at kind p) kind_data)) (lt⇔ (at owner m) (owner_guest guests)))
    (eq⇔ (at owner p) (at owner m)))))
    (λ w. record {
      entries = λ m va p hm hv e.
          let z = w m va hm hv p e in
          record { in_table = z.1.0.0.0.0; allowed = z.1.0.0.0.1; page = z.0; is_data = z.1.0.0.1; owned = z.1.0.1; same_owner = z.1.1 };
    })
    (λ w m va hm hv p e.
    let z = w.entries m va p hm hv e in
    (z.page, ((((z.in_table, z.allowed), z.is_data), z.owned), z.same_owner)))

pub rule5⇔ : (owner kind physical current : List ℕ) → rule5? owner kind physical current ⇔ Rule5 owner kind physical current
unfolding rule5?
rule5⇔ owner kind physical current =
    as⇔
    (all⇔ guests (λ g hg.
    let m = lead (at physical (physicals * g + at current g)) in
    and⇔ (and⇔ (and⇔ (lt⇔ (at current g) physicals) (lt⇔ m pages)) (eq⇔ (at kind m) kind_table)) (eq⇔ (at owner m) (owner_guest g))))
    (λ w. record {
      in_range = λ g hg. (w g hg).0.0.0;
      currents = λ g hg.
          let z = w g hg in (
            lead (at physical (physicals * g + at current g)),
            record { page = z.0.0.1; registered = lead_holds (at physical (physicals * g + at current g)) z.0.0.1; is_table = z.0.1; own = z.1 },
          );
    })
    (λ w g hg.
    let z = w.currents g hg in
    let e : lead (at physical (physicals * g + at current g)) ≡ z.0 = rw z.1.registered (lead_page z.0 z.1.page) in
    rw e (((w.in_range g hg, z.1.page), z.1.is_table), z.1.own))

-- some table maps the page at another address
away⇔ : (kind entry : List ℕ) (p va : ℕ) → length entry ≡ pages * addresses
    → maps_page kind entry (λ v. not (eqb v va)) p ⇔ ((n : ℕ) × (vb : ℕ) × (vb ≢ va) × Maps kind entry n vb p)
away⇔ kind entry p va size = maps_page⇔ kind entry (λ v. not⇔ (eq⇔ v va)) p size

pub twice⇔ : (kind entry : List ℕ) (p : ℕ) → length entry ≡ pages * addresses
    → maps_twice kind entry p ⇔ ((m : ℕ) × (va : ℕ) × Maps kind entry m va p × ((n : ℕ) × (vb : ℕ) × (vb ≢ va) × Maps kind entry n vb p))
unfolding maps_twice
twice⇔ kind entry p size =
    as⇔
    (some_grid⇔ addresses (omega arith) pages entry size
    (λ m va e. eqb e (suc p) && eqb (at kind m) kind_table && maps_page kind entry (λ v. not (eqb v va)) p)
    (λ m va hm hv. and⇔ (and⇔ (eq⇔ (at entry (addresses * m + va)) (suc p)) (eq⇔ (at kind m) kind_table)) (away⇔ kind entry p va size)))
    (λ w. (w.0, w.1, record { page = w.2; address = w.3; is_table = w.4.0.1; holds = w.4.0.0 }, w.4.1))
    (λ w. (w.0, w.1, w.2.page, w.2.address, ((w.2.holds, w.2.is_table), w.3)))

pub rule6⇔ : (kind cacheable entry : List ℕ) → length entry ≡ pages * addresses → rule6? kind cacheable entry ⇔ Rule6 kind cacheable entry
unfolding rule6?
rule6⇔ kind cacheable entry size =
    as⇔
    (all⇔ pages (λ p hp.
    and⇔ (imp⇔ (and⇔ (eq⇔ (at kind p) kind_data) (eq⇔ (at cacheable p) 1)) (not⇔ (twice⇔ kind entry p size)))
    (or⇔ (eq⇔ (at cacheable p) 1) (not⇔ (maps_page⇔ kind entry (λ v. eq⇔ v stealth) p size)))))
    (λ w. record {
      shared = λ p m n va vb hp k a b d c. (w p hp).0 (k, c) (m, va, a, (n, vb, (λ e. d (sym e)), b));
      stealthy = λ p m hp a. ⊎_elim (λ c. c) (λ c. absurd (c (m, stealth, refl, a))) (w p hp).1;
    })
    (λ w p hp. (
      (λ k t. w.shared p t.0 t.3.0 t.1 t.3.1 hp k.0 t.2 t.3.3 (λ e. t.3.2 (sym e)) k.1),
      same? (at cacheable p) 1 inl (λ n. inr (λ t. n (w.stealthy p t.0 hp (subst (λ (v : ℕ). Maps kind entry t.0 v p) t.2 t.3)))),
    ))

pub rule7⇔ : (kind cacheable entry line_address line_page : List ℕ) → length entry ≡ pages * addresses
    → rule7? kind cacheable entry line_address line_page ⇔ Rule7 kind cacheable entry line_address line_page
unfolding rule7?
rule7⇔ kind cacheable entry line_address line_page size =
    as⇔
    (all⇔ lines (λ i hi. leads_to⇔ (at line_page i) (λ p hp.
    and⇔
    (and⇔
    (and⇔
    (and⇔ (and⇔ (lt⇔ (at line_address i) addresses) (eq⇔ (set_of (at line_address i)) (i / ways))) (eq⇔ (at cacheable p) 1))
    (eq⇔ (at kind p) kind_data))
    (maps_page⇔ kind entry (λ v. eq⇔ v (at line_address i)) p size))
    (all⇔ lines (λ j hj. imp⇔ (and⇔ (eq⇔ (at line_page j) (suc p)) (eq⇔ (at line_address i) (at line_address j))) (eq⇔ i j))))))
    (λ w. record {
      line = λ i p hi e.
          let z = w i hi p e in
          let t = z.1.0.1 in
          record {
            address = z.1.0.0.0.0.0;
            in_set = z.1.0.0.0.0.1;
            page = z.0;
            is_cacheable = z.1.0.0.0.1;
            is_data = z.1.0.0.1;
            mapped = (t.0, subst (λ (v : ℕ). Maps kind entry t.0 v p) t.2 t.3);
          };
      once = λ i j p hi hj e f a. (w i hi p e).1.1 j hj (f, a);
    })
    (λ w i hi p e.
    let z = w.line i p hi e in (
      z.page,
      (
        ((((z.address, z.in_set), z.is_cacheable), z.is_data), (z.mapped.0, at line_address i, refl, z.mapped.1)),
        λ j hj f. w.once i j p hi hj e f.0 f.1,
      ),
    ))

pub rule8⇔ : (entry slot_address slot_page : List ℕ) (m : ℕ) → rule8? entry slot_address slot_page m ⇔ Rule8 entry slot_address slot_page m
unfolding rule8?
rule8⇔ entry slot_address slot_page m =
    as⇔
    (all⇔ slots (λ i hi. leads_to⇔ (at slot_page i) (λ p hp.
    and⇔ (and⇔ (and⇔ (lt⇔ (at slot_address i) addresses) (eq⇔ (slot_of (at slot_address i)) i)) (lt⇔ m pages))
    (eq⇔ (at entry (addresses * m + at slot_address i)) (suc p)))))
    (λ w. record {
      agrees = λ i p hi e.
          let z = w i hi p e in
          record { address = z.1.0.0.0; in_slot = z.1.0.0.1; page = z.0; in_force = z.1.0.1; holds = z.1.1 };
    })
    (λ w i hi p e. let z = w.agrees i p hi e in (z.page, (((z.address, z.in_slot), z.in_force), z.holds)))

-- table m leads from the stealth address to a page
stealth_page⇔ : (entry : List ℕ) (m : ℕ) → is_page (stealth_page entry m) ⇔ Leads entry m stealth (stealth_page entry m)
stealth_page⇔ entry m =
    below? m pages
    (λ b. rw (lt-ltb m pages b)
    (as⇔ (lt⇔ (lead (at entry (addresses * m + stealth))) pages)
    (λ h. record { page = h; in_force = b; holds = lead_holds (at entry (addresses * m + stealth)) h })
    (λ h. h.page)))
    (λ b. rw (le-ltb m pages b) ((λ w. absurd (false≢true w)), λ w. let z = w.in_force in absurd (omega arith)))

leads_is : (entry : List ℕ) (m p : ℕ) → Leads entry m stealth p → stealth_page entry m ≡ p
leads_is entry m p l = rw (lt-ltb m pages l.in_force, l.holds) (lead_page p l.page)

pub rule9⇔ : (entry line_address line_page history : List ℕ) (m : ℕ) → rule9? entry line_address line_page history m ⇔ Rule9 entry line_address line_page history m
unfolding rule9?
rule9⇔ entry line_address line_page history m =
    let q = stealth_page entry m in
    as⇔
    (and⇔
    (all⇔ ways (λ w hw.
    pick⇔ (and⇔ (eq⇔ w 0) (stealth_page⇔ entry m)) (and⇔ (eq⇔ (at line_page stealth_line) (suc q)) (eq⇔ (at line_address stealth_line) stealth))
    (eq⇔ (at line_page (line_at stealth_set w)) 0)))
    (eq⇔ (at history stealth_set) start))
    (λ w. record {
      held = λ p l.
          let e = leads_is entry m p l in
          let z = (w.0 0 (omega arith)).0 (refl, subst (λ (x : ℕ). Leads entry m stealth x) (sym e) l) in
          (z.0 ∙ ap suc e, z.1);
      empty = λ n. (w.0 0 (omega arith)).1 (λ l. n q l.1);
      alone = λ i a b. (w.0 i b).1 (λ l. omega arith);
      begun = w.1;
    })
    (λ v. (
      (λ w hw. (
        (λ l. v.held q l.1),
        λ n. same? w 0
            (λ e. rw e (v.empty (λ p l. n (e, subst (λ (x : ℕ). Leads entry m stealth x) (sym (leads_is entry m p l)) l))))
            (λ e. v.alone w (omega arith) hw),
      )),
      v.begun,
    ))

-- ---- 10: the numbers of a list, one by one

below⇔ : (l : List ℕ) (n b : ℕ) → length l ≡ n → all_in (λ i x. ltb x b) l ⇔ Below l n b
below⇔ l n b e =
    as⇔ (all_in⇔ (λ i x. ltb x b) 0 l (λ i h. lt⇔ (at l i) b)) (λ w i h. w i (omega arith)) (λ w i h. w i (omega arith))

-- of the one number of a list of one
only : {x b : ℕ} → x < b → Below (x ∷ []) 1 b
only {x} {b} h i l = let z : i ≡ 0 = omega arith in subst (λ (k : ℕ). at (x ∷ []) k < b) (sym z) h

-- each list of the state, in the order of its columns
every_column : (s : State) → Sized s → Each (λ c. in_range c ⇔ Below c.numbers c.size c.bound) (columns s)
unfolding columns
every_column s z =
    (many s.shape.pages.owner z.owner, (many s.shape.pages.kind z.kind, (many s.shape.pages.cacheable z.cacheable, (many s.shape.pages.entry z.entry, (many s.shape.pages.physical z.physical, (one s.shape.pages.free, (many s.shape.guests.current z.current, (many s.shape.guests.call z.call, (many s.shape.guests.call_a z.call_a, (many s.shape.guests.call_b z.call_b, (one s.shape.guests.active, (one s.shape.guests.mode, (many s.shape.cache.line_address z.line_address, (many s.shape.cache.line_page z.line_page, (many s.shape.cache.history z.history, (many s.shape.tlb.slot_address z.slot_address, (many s.shape.tlb.slot_page z.slot_page, (many s.values.memory z.memory, (many s.values.line z.line, (one s.shape.policy, tt))))))))))))))))))))
  where
    many : (l : List ℕ) {n b : ℕ} → length l ≡ n → all_in (λ i x. ltb x b) l ⇔ Below l n b
    many l {n} {b} e = below⇔ l n b e

    one : (x : ℕ) {b : ℕ} → all_in (λ i y. ltb y b) (x ∷ []) ⇔ Below (x ∷ []) 1 b
    one x {b} = below⇔ (x ∷ []) 1 b refl

columns⇔ : (s : State) → Sized s → all_in (λ i c. in_range c) (columns s) ⇔ Each (λ c. Below c.numbers c.size c.bound) (columns s)
columns⇔ s z = each⇔ in_range (λ c. Below c.numbers c.size c.bound) (column [] 0 0) (columns s) (every_column s z)

pub rule10⇔ : (s : State) → Sized s → rule10? s ⇔ Rule10 s
unfolding rule10? columns
rule10⇔ s z =
    let G = s.shape.guests in
    let C = s.shape.cache in
    let T = s.shape.tlb in
    as⇔
    (and⇔
    (and⇔ (and⇔ (columns⇔ s z) (all⇔ guests (λ g h. within⇔ (row_of (kind_of_call (at G.call g))) (at G.call_a g) (at G.call_b g))))
    (all⇔ lines (λ i h. imp⇔ (eq⇔ (at C.line_page i) 0) (and⇔ (eq⇔ (at C.line_address i) 0) (eq⇔ (at s.values.line i) 0)))))
    (all⇔ slots (λ i h. imp⇔ (eq⇔ (at T.slot_page i) 0) (eq⇔ (at T.slot_address i) 0))))
    (λ w.
    let r = w.0.0.0 in
    record {
      pages = record { owner = r.0; kind = r.1.0; cacheable = r.1.1.0; entry = r.1.1.1.0; physical = r.1.1.1.1.0; free = r.1.1.1.1.1.0 0 (omega arith) };
      guests = record { current = r.1.1.1.1.1.1.0; call = r.1.1.1.1.1.1.1.0; call_a = r.1.1.1.1.1.1.1.1.0; call_b = r.1.1.1.1.1.1.1.1.1.0; arguments = w.0.0.1; active = r.1.1.1.1.1.1.1.1.1.1.0 0 (omega arith); mode = r.1.1.1.1.1.1.1.1.1.1.1.0 0 (omega arith) };
      cache = record { line_address = r.1.1.1.1.1.1.1.1.1.1.1.1.0; line_page = r.1.1.1.1.1.1.1.1.1.1.1.1.1.0; history = r.1.1.1.1.1.1.1.1.1.1.1.1.1.1.0; empty = w.0.1 };
      tlb = record { slot_address = r.1.1.1.1.1.1.1.1.1.1.1.1.1.1.1.0; slot_page = r.1.1.1.1.1.1.1.1.1.1.1.1.1.1.1.1.0; empty = w.1 };
      values = record { memory = r.1.1.1.1.1.1.1.1.1.1.1.1.1.1.1.1.1.0; line = r.1.1.1.1.1.1.1.1.1.1.1.1.1.1.1.1.1.1.0 };
      policy = r.1.1.1.1.1.1.1.1.1.1.1.1.1.1.1.1.1.1.1.0 0 (omega arith);
    })
    (λ w. ((((w.pages.owner, (w.pages.kind, (w.pages.cacheable, (w.pages.entry, (w.pages.physical, (only w.pages.free, (w.guests.current, (w.guests.call, (w.guests.call_a, (w.guests.call_b, (only w.guests.active, (only w.guests.mode, (w.cache.line_address, (w.cache.line_page, (w.cache.history, (w.tlb.slot_address, (w.tlb.slot_page, (w.values.memory, (w.values.line, (only w.policy, tt)))))))))))))))))))), w.guests.arguments), w.cache.empty), w.tlb.empty))

pub rule11⇔ : (line_page memory line : List ℕ) (policy : ℕ) → rule11? line_page memory line policy ⇔ Rule11 line_page memory line policy
unfolding rule11?
rule11⇔ line_page memory line policy =
    as⇔
    (all⇔ lines (λ i h.
    imp⇔ (and⇔ (eq⇔ policy write_through) (lt⇔ (lead (at line_page i)) pages)) (eq⇔ (at line i) (at memory (lead (at line_page i))))))
    (λ w. record {
      same = λ t i p h b e.
          let q : lead (at line_page i) ≡ p = ap lead e ∙ lead_page p b in
          w i h (t, omega arith) ∙ ap (at memory) q;
    })
    (λ v i h (t, b). v.same t i (lead (at line_page i)) h b (lead_holds (at line_page i) b))
