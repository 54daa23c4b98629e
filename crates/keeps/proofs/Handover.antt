-- A page that nothing uses changes hands: what pin and unpin share.
-- Assumes nothing.
use mathlib.Core.Path.{◌≡◌, refl, sym, ap, ◌∙◌, subst}
use mathlib.Core.Logic.{◌⊎◌, ◌≢◌, ◌↔◌, ⊎_elim}
use mathlib.Core.List.{List}
use Prim.Native.Nat.{ℕ, suc, ◌+◌, ◌*◌, ◌^◌, ◌<◌}
use native.Mathlib.Omega.{arith}
use lib.ListN.{set}
use Rattle.laws.specs.Choice.{at}
use Rattle.laws.specs.Bits.{bit}
use Rattle.laws.proofs.Cases.{same?}
use Rattle.laws.proofs.Lists.{at_same, at_other, set_at'}
use Rattle.model.specs.Sizes.{guests, physicals, pages, addresses}
use Rattle.model.specs.Names.{owner_none, owner_host, owner_guest, kind_none, kind_data, kind_table}
use Rattle.model.specs.State.{State, active, table}
use Rattle.model.specs.Parts.{with_pages}
use Rattle.model.specs.Rules.{Maps, Rule2, Rule3, Rule4, Rule5, Rule6, Rule7}
use Rattle.model.specs.Valid.{Valid}
use Rattle.keeps.proofs.Core.{Core, core_of, valid_of, in_force}
use Rattle.keeps.proofs.Parts.{cache_of, tlb_of, policy_of, core_from, line_among, mapped_part, policy_kept}
use Rattle.keeps.proofs.Stores.{size_set, below_set, below_held}

-- Page p has the owner o and the kind k, cacheable, with the value 0; place i of the physical addresses holds e, and the map is f.
abbrev pub handed : State → ℕ → ℕ → ℕ → ℕ → ℕ → ℕ → State
handed s p i o k e f =
    record {
      shape =
          with_pages s.shape
          (record {
            owner = set s.shape.pages.owner p o;
            kind = set s.shape.pages.kind p k;
            cacheable = set s.shape.pages.cacheable p 1;
            entry = s.shape.pages.entry;
            physical = set s.shape.pages.physical i e;
            free = f;
          });
      values = record { memory = set s.values.memory p 0; line = s.values.line };
    }

-- Page p may change hands: it is not the host's, holds no entry and is not mapped. No physical address but that of place i leads to it, place i
-- leads to no other page, and no guest's current table stands there.
pub record Idle (s : State) (p i : ℕ) : Type 0 where
  pub page : p < pages
  pub place : i < guests * physicals
  pub not_hosts : at s.shape.pages.owner p ≢ owner_host
  pub bare : (va q : ℕ) → va < addresses → at s.shape.pages.entry (addresses * p + va) ≡ suc q → ⊥
  pub unmapped : (m va : ℕ) → Maps s.shape.pages.kind s.shape.pages.entry m va p → ⊥
  pub only : (g pa : ℕ) → g < guests → pa < physicals → at s.shape.pages.physical (physicals * g + pa) ≡ suc p → physicals * g + pa ≡ i
  pub held : (q : ℕ) → at s.shape.pages.physical i ≡ suc q → q ≡ p
  pub apart : (g : ℕ) → g < guests → physicals * g + at s.shape.guests.current g ≢ i

-- What it becomes is what rules 2 and 3 ask. It is not the host's. Without owner it has no kind and is marked; a guest's has a kind and is not
-- marked, and place i is that guest's and leads to it. The other pages' marks are as they were in the map `free`.
pub record Becomes (free p i o k e f : ℕ) : Type 0 where
  pub owner : o < owner_guest guests
  pub kind : k < suc kind_table
  pub not_hosts : o ≢ owner_host
  pub ownerless : o ≡ owner_none → k ≡ kind_none
  pub guest : (g : ℕ) → o ≡ owner_guest g → (k ≡ kind_data) ⊎ (k ≡ kind_table)
  pub mark : (bit f p ≡ 1) ↔ (o ≡ owner_none)
  pub marks : (q : ℕ) → q ≢ p → bit f q ≡ bit free q
  pub map : f < 2 ^ pages
  pub leads : (q : ℕ) → e ≡ suc q → q ≡ p
  pub own : (g pa : ℕ) → pa < physicals → physicals * g + pa ≡ i → e ≡ suc p → o ≡ owner_guest g
  pub reached : (g : ℕ) → o ≡ owner_guest g → (pa : ℕ) × (pa < physicals) × (physicals * g + pa ≡ i) × (e ≡ suc p)

-- where a table's kind is the same, it maps the same
maps_as : {K L entry : List ℕ} {m va q : ℕ} → at L m ≡ at K m → Maps K entry m va q → Maps L entry m va q
maps_as h a = record { page = a.page; address = a.address; is_table = h ∙ a.is_table; holds = a.holds }

module _ {s : State} (c : Core s) {p i o k e f : ℕ} (n : Idle s p i) (b : Becomes s.shape.pages.free p i o k e f) where
  -- ---- what page p is not

  -- a table that holds an entry
  holder : (m va q : ℕ) → va < addresses → at s.shape.pages.entry (addresses * m + va) ≡ suc q → m ≢ p
  holder m va q h x w = n.bare va q h (ap (λ (y : ℕ). at s.shape.pages.entry (addresses * y + va)) (sym w) ∙ x)

  -- a mapped page
  mapped_other : {m va q : ℕ} → Maps s.shape.pages.kind s.shape.pages.entry m va q → q ≢ p
  mapped_other {m} {va} a w = n.unmapped m va (subst (λ (y : ℕ). Maps s.shape.pages.kind s.shape.pages.entry m va y) w a)

  -- a guest's current table
  current_other : (g m : ℕ) → g < guests → at s.shape.pages.physical (physicals * g + at s.shape.guests.current g) ≡ suc m → m ≢ p
  current_other g m h x w = n.apart g h (n.only g (at s.shape.guests.current g) h (c.rule5.in_range g h) (x ∙ ap suc w))

  -- so the tables map what they mapped
  maps_before : {m va q : ℕ} → Maps (set s.shape.pages.kind p k) s.shape.pages.entry m va q
      → Maps s.shape.pages.kind s.shape.pages.entry m va q
  maps_before {m} {va} {q} a = maps_as (sym (at_other s.shape.pages.kind p k m (holder m va q a.address a.holds))) a

  maps_after : {m va q : ℕ} → Maps s.shape.pages.kind s.shape.pages.entry m va q
      → Maps (set s.shape.pages.kind p k) s.shape.pages.entry m va q
  maps_after {m} {va} {q} a = maps_as (at_other s.shape.pages.kind p k m (holder m va q a.address a.holds)) a

  -- ---- page p itself

  owner_there : at (set s.shape.pages.owner p o) p ≡ o
  owner_there = at_same s.shape.pages.owner p o (omega (arith, n.page, c.sized.owner))

  kind_there : at (set s.shape.pages.kind p k) p ≡ k
  kind_there = at_same s.shape.pages.kind p k (omega (arith, n.page, c.sized.kind))

  clean : (at (set s.shape.pages.cacheable p 1) p ≡ 1) × (at (set s.values.memory p 0) p ≡ 0)
  clean = (
    at_same s.shape.pages.cacheable p 1 (omega (arith, n.page, c.sized.cacheable)),
    at_same s.values.memory p 0 (omega (arith, n.page, c.sized.memory)),
  )

  -- ---- the rules

  handed_rule2 : Rule2 (set s.shape.pages.owner p o) (set s.shape.pages.kind p k) (set s.shape.pages.cacheable p 1)
      (set s.values.memory p 0) f
  handed_rule2 =
      record {
        hosts = λ q h. same? q p
            (λ z. rw (z, owner_there) ((λ w. absurd (n.not_hosts ((c.rule2.hosts p n.page).0 w))), λ w. absurd (b.not_hosts w)))
            (λ d. simp (at_other, d) (c.rule2.hosts q h));
        host = λ q h. same? q p
            (λ z. rw (z, owner_there) (λ w. absurd (b.not_hosts w)))
            (λ d. simp (at_other, d) (c.rule2.host q h));
        ownerless = λ q h. same? q p
            (λ z. rw (z, owner_there, kind_there) (λ w. (b.ownerless w, clean.0, clean.1)))
            (λ d. simp (at_other, d) (c.rule2.ownerless q h));
        map = λ q h. same? q p
            (λ z. rw (z, owner_there) b.mark)
            (λ d. simp (at_other, d) (rw (b.marks q d) (c.rule2.map q h)));
        guest = λ g q hg h. same? q p
            (λ z. rw (z, owner_there, kind_there) (b.guest g))
            (λ d. simp (at_other, d) (c.rule2.guest g q hg h));
        tables = λ q h. same? q p
            (λ z. rw z (λ w. clean))
            (λ d. simp (at_other, d) (c.rule2.tables q h));
      }

  handed_rule3 : Rule3 (set s.shape.pages.owner p o) (set s.shape.pages.physical i e)
  handed_rule3 =
      record {
        own = λ g pa q hg ha x. ⊎_elim
            (λ w. let z = b.leads q w.1 in rw z (n.page, owner_there ∙ b.own g pa ha w.0 (w.1 ∙ ap suc z)))
            (λ w. let z = c.rule3.own g pa q hg ha w.1 in (z.0, simp (at_other, elsewhere g pa q hg ha w) z.1))
            (set_at' s.shape.pages.physical i e (physicals * g + pa) q x);
        different = λ g pa pb q hg ha hb x y. ⊎_elim
            (λ w. ⊎_elim (λ u. omega arith) (λ u. absurd (elsewhere g pb q hg hb u (b.leads q w.1)))
            (set_at' s.shape.pages.physical i e (physicals * g + pb) q y))
            (λ w. ⊎_elim (λ u. absurd (elsewhere g pa q hg ha w (b.leads q u.1))) (λ u. c.rule3.different g pa pb q hg ha hb w.1 u.1)
            (set_at' s.shape.pages.physical i e (physicals * g + pb) q y))
            (set_at' s.shape.pages.physical i e (physicals * g + pa) q x);
        reached = λ g q hg h. same? q p
            (λ z. rw (z, owner_there) (λ w.
            let r = b.reached g w in
            (r.0, r.1, rw r.2 (place_there ∙ r.3))))
            (λ d. simp (at_other, d) (λ w.
            let r = c.rule3.reached g q hg h w in
            (r.0, r.1, simp (at_other, taken q (physicals * g + r.0) d r.2) r.2)));
      }
    where
      place_there : at (set s.shape.pages.physical i e) i ≡ e
      place_there = at_same s.shape.pages.physical i e (omega (arith, n.place, c.sized.physical))

      elsewhere : (g pa q : ℕ) → g < guests → pa < physicals
          → (physicals * g + pa ≢ i) × (at s.shape.pages.physical (physicals * g + pa) ≡ suc q) → q ≢ p
      elsewhere g pa q hg ha w z = w.0 (n.only g pa hg ha (w.1 ∙ ap suc z))

      taken : (q j : ℕ) → q ≢ p → at s.shape.pages.physical j ≡ suc q → j ≢ i
      taken q j d x z = d (n.held q (ap (at s.shape.pages.physical) (sym z) ∙ x))

  handed_rule4 : Rule4 (set s.shape.pages.owner p o) (set s.shape.pages.kind p k) s.shape.pages.entry
  handed_rule4 =
      record {
        entries = λ m va q hm hv x.
            let z = c.rule4.entries m va q hm hv x in
            let dm = holder m va q hv x in
            let dq : q ≢ p = mapped_other (record { page = hm; address = hv; is_table = z.in_table; holds = x }) in
            record {
              in_table = simp (at_other, dm) z.in_table;
              allowed = z.allowed;
              page = z.page;
              is_data = simp (at_other, dq) z.is_data;
              owned = simp (at_other, dm) z.owned;
              same_owner = simp (at_other, dm, dq) z.same_owner;
            };
      }

  handed_rule5 : Rule5 (set s.shape.pages.owner p o) (set s.shape.pages.kind p k) (set s.shape.pages.physical i e) s.shape.guests.current
  handed_rule5 =
      record {
        in_range = c.rule5.in_range;
        currents = λ g h.
            let z = c.rule5.currents g h in
            let d = current_other g z.0 h z.1.registered in (
              z.0,
              record {
                page = z.1.page;
                registered = simp (at_other, n.apart g h) z.1.registered;
                is_table = simp (at_other, d) z.1.is_table;
                own = simp (at_other, d) z.1.own;
              },
            );
      }

  handed_rule6 : Rule6 (set s.shape.pages.kind p k) (set s.shape.pages.cacheable p 1) s.shape.pages.entry
  handed_rule6 =
      record {
        shared = λ q m r va vb h x y z w.
            let d = mapped_other (maps_before y) in
            simp (at_other, d) (c.rule6.shared q m r va vb h (simp (at_other, d) at x) (maps_before y) (maps_before z) w);
        stealthy = λ q m h y. simp (at_other, mapped_other (maps_before y)) (c.rule6.stealthy q m h (maps_before y));
      }

  handed_rule7 : Rule7 (set s.shape.pages.kind p k) (set s.shape.pages.cacheable p 1) s.shape.pages.entry s.shape.cache.line_address
      s.shape.cache.line_page
  handed_rule7 =
      record {
        line = λ j q h x.
            let z = c.rule7.line j q h x in
            let d = mapped_other z.mapped.1 in
            line_among z (at_other s.shape.pages.cacheable p 1 q d) (at_other s.shape.pages.kind p k q d) (λ m. maps_after);
        once = c.rule7.once;
      }

  handed_core : Core (handed s p i o k e f)
  handed_core =
      let P = s.shape.pages in
      core_from
      (record {
        owner = size_set P.owner p o c.sized.owner;
        kind = size_set P.kind p k c.sized.kind;
        cacheable = size_set P.cacheable p 1 c.sized.cacheable;
        entry = c.sized.entry;
        physical = size_set P.physical i e c.sized.physical;
        value = size_set s.values.memory p 0 c.sized.memory;
        rule2 = handed_rule2;
        rule3 = handed_rule3;
        rule4 = handed_rule4;
        rule6 = handed_rule6;
        ranges =
            record {
              owner = below_set P.owner p o b.owner c.rule10.pages.owner;
              kind = below_set P.kind p k b.kind c.rule10.pages.kind;
              cacheable = below_set P.cacheable p 1 (omega arith) c.rule10.pages.cacheable;
              entry = c.rule10.pages.entry;
              physical = below_set P.physical i e (below_held e (λ q w. omega (arith, b.leads q w, n.page))) c.rule10.pages.physical;
              free = b.map;
            };
        values = below_set s.values.memory p 0 (omega arith) c.rule10.values.memory;
      })
      (record {
        current = c.sized.current;
        call = c.sized.call;
        call_a = c.sized.call_a;
        call_b = c.sized.call_b;
        rule1 = c.rule1;
        rule5 = handed_rule5;
        ranges = c.rule10.guests;
      })
      (mapped_part handed_rule7 (cache_of c)) (tlb_of c)
      (policy_kept (policy_of c) (λ j q hj x. (x, refl, at_other s.values.memory p 0 q (mapped_other (c.rule7.line j q hj x).mapped.1))))

-- The table in force is the same, for its place and its page are others.
pub handed_valid : {s : State} → Valid s → {p i o k e f : ℕ} → Idle s p i → Becomes s.shape.pages.free p i o k e f → Valid (handed s p i o k e f)
handed_valid {s} v {p} {i} {o} {k} {e} {f} n b =
    let c = core_of v in
    let d : Core (handed s p i o k e f) = handed_core c n b in
    let j = physicals * active s.shape + at s.shape.guests.current (active s.shape) in
    let w = at_other s.shape.pages.physical i e j (n.apart (active s.shape) c.rule10.guests.active) in
    let t : table (handed s p i o k e f).shape ≡ table s.shape = omega (arith, (in_force d).registered, (in_force c).registered, w) in
    valid_of d (rw t v.rule8) (rw t v.rule9)
