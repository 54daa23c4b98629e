-- On a valid state an action in range is refused by no check exactly if it is allowed.
-- Assumes nothing.
use mathlib.Core.Path.{◌≡◌, refl, sym, subst}
use mathlib.Core.Bool.{Bool, true, false, ◌&&◌, ◌||◌, not, true≢false}
use mathlib.Core.Logic.{inl, ◌≢◌, ⊎_elim}
use mathlib.Core.List.{List, [], ◌∷◌}
use Prim.Native.Nat.{ℕ, ◌+◌, ◌*◌, ◌<◌}
use native.Mathlib.Omega.{arith}
use lib.Dec.{eqb}
use borrow.Author.Tests.{not-false}
use Rattle.laws.specs.Choice.{at, ◌⇔◌}
use Rattle.laws.specs.Bits.{bit}
use Rattle.laws.proofs.Tests.{eq⇔, lt⇔, and⇔, not⇔, as⇔, fails, not_so, true⇔}
use Rattle.laws.proofs.Cases.{same?, below?}
use Rattle.laws.proofs.Search.{some⇔}
use Rattle.laws.proofs.Grid.{some_grid⇔}
use Rattle.model.specs.Sizes.{physicals, pages, addresses, first_reserved, stealth, reserved}
use Rattle.model.specs.Names.{running, waiting, kind_data, kind_table}
use Rattle.model.specs.State.{Shape, State, active, is_page, mapped, here, is_mapped}
use Rattle.model.specs.Records.{Action, silent, read, read_hyper, write, write_hyper, new, new_sm, del, switch, lswitch, hcall, ret_ctrl, chmod, pin, unpin, drop, InRange, any_mode, call_new, call_del, call_lswitch, call_pin, call_unpin}
use Rattle.model.specs.Valid.{Valid}
use Rattle.model.specs.Checks.{Check, asked, has_entries, lowest_free}
use Rattle.model.specs.Step.{own_checks, checks}
use Rattle.model.proofs.RuleTests.{lead_holds, maps_page⇔}
use Rattle.keeps.specs.Allowed.{Pending, Idle, HasCall, Unreserved, At, MapsTo, Leads, Access, Allowed}
use Rattle.keeps.proofs.Core.{core_of, lead_is, mapped_is, maps_here}
use Rattle.keeps.proofs.Sets.{reserved⇔, stealth_only}
use Rattle.keeps.proofs.Checks.{Passed}

-- ---- a test that must fail

-- the test fails exactly if the statement holds
infix 20 ◌⇎◌
abbrev ◌⇎◌ : Bool → Type 0 → Type 0
b ⇎ P = (b ≡ false → P) × (P → b ≡ false)

unless : {b : Bool} {P : Type 0} → b ⇔ P → not b ⇎ P
unless {b} h = ((λ e. h.0 (not-false b e)), λ p. rw (h.1 p))

never : {b : Bool} {P : Type 0} → b ⇔ P → b ⇎ (P → ⊥)
never h = ((λ e p. fails h e p), λ n. not_so h n)

neither : {b c : Bool} {P Q : Type 0} → b ⇎ P → c ⇎ Q → (b || c) ⇎ (P × Q)
neither {b = true} h k = ((λ e. absurd (true≢false e)), λ p. h.1 p.0)
neither {b = false} h k = ((λ e. (h.0 refl, k.0 e)), λ p. k.1 p.1)

-- ---- what each test says

pub unreserved : (va : ℕ) → reserved va ≡ false → Unreserved va
unreserved va e =
    record { below = below? va first_reserved (λ h. h) (λ h. absurd (fails (reserved⇔ va) e (inl h))); apart = stealth_only va e }

pub not_reserved : (va : ℕ) → Unreserved va → reserved va ≡ false
not_reserved va u = not_so (reserved⇔ va) (⊎_elim (λ h. omega (arith, u.below)) (λ h. h.1 (u.apart h.0)))

reserved⇎ : (va : ℕ) → reserved va ⇎ Unreserved va
reserved⇎ va = (unreserved va, not_reserved va)

pending⇔ : (h : Shape) (c a b : ℕ)
    → (eqb (at h.guests.call (active h)) c && eqb (at h.guests.call_a (active h)) a && eqb (at h.guests.call_b (active h)) b) ⇔ Pending h c a b
pending⇔ h c a b =
    as⇔ (and⇔ (and⇔ (eq⇔ (at h.guests.call (active h)) c) (eq⇔ (at h.guests.call_a (active h)) a)) (eq⇔ (at h.guests.call_b (active h)) b))
    (λ w. record { call = w.0.0; call_a = w.0.1; call_b = w.1 })
    (λ w. ((w.call, w.call_a), w.call_b))

module _ {h : Shape} where
  -- the page at a physical address, and what is said of it is said of `here`
  here_is : {pa p : ℕ} → At h pa p → here h pa ≡ p
  here_is {pa} {p} a = lead_is (at h.pages.physical (physicals * active h + pa)) p a.page a.registered

  pub of_here : {pa p : ℕ} (P : ℕ → Type 0) → At h pa p → P p → P (here h pa)
  of_here P l x = subst P (sym (here_is l)) x

  pub is_here : {pa p : ℕ} → At h pa p → here h pa < pages
  is_here l = of_here (λ x. x < pages) l l.page

pub at_here : (h : Shape) (pa : ℕ) → here h pa < pages → At h pa (here h pa)
at_here h pa b = record { page = b; registered = lead_holds (at h.pages.physical (physicals * active h + pa)) b }

-- the page to which the table in force leads
pub is_mapped_law : (h : Shape) {va p : ℕ} → p < pages → Leads h va p → mapped h va < pages
is_mapped_law h {va} {p} b l = subst (λ (x : ℕ). x < pages) (sym (mapped_is h va p b l.holds)) b

module _ {s : State} (v : Valid s) where
  at⇔ : (pa : ℕ) → is_page (here s.shape pa) ⇔ ((p : ℕ) × At s.shape pa p)
  at⇔ pa = as⇔ (lt⇔ (here s.shape pa) pages) (λ h. (here s.shape pa, at_here s.shape pa h)) (λ w. is_here w.1)

  leads⇔ : (va : ℕ) → va < addresses → is_page (mapped s.shape va) ⇔ ((p : ℕ) × (p < pages) × Leads s.shape va p)
  leads⇔ va h =
      as⇔ (lt⇔ (mapped s.shape va) pages) (λ b. (mapped s.shape va, b, maps_here (core_of v) va h b)) (λ w. is_mapped_law s.shape w.1 w.2)

  mapped⇔ : {t : ℕ → Bool} {T : ℕ → Type 0} → ((va : ℕ) → t va ⇔ T va) → (p : ℕ)
      → is_mapped s.shape t p ⇔ ((va : ℕ) × T va × MapsTo s.shape va p)
  mapped⇔ k p =
      as⇔ (maps_page⇔ s.shape.pages.kind s.shape.pages.entry k p v.sized.entry)
      (λ w. (w.1, w.2, (w.0, w.3)))
      (λ w. (w.2.0, w.0, w.1, w.2.1))

  entries⇔ : (m : ℕ) → m < pages
      → has_entries s.shape.pages.entry m ⇔ ((va : ℕ) × (va < addresses) × (at s.shape.pages.entry (addresses * m + va) ≢ 0))
  unfolding has_entries
  entries⇔ m h =
      as⇔
      (some_grid⇔ addresses (omega arith) pages s.shape.pages.entry v.sized.entry (λ r va e. not (eqb e 0) && eqb r m)
      (λ r va hr hv. and⇔ (not⇔ (eq⇔ (at s.shape.pages.entry (addresses * r + va)) 0)) (eq⇔ r m)))
      (λ w. (w.1, w.3, subst (λ (r : ℕ). at s.shape.pages.entry (addresses * r + w.1) ≢ 0) w.4.1 w.4.0))
      (λ w. (m, w.0, h, w.1, (w.2, refl)))

  free⇔ : is_page (lowest_free s.shape.pages.free) ⇔ ((p : ℕ) × (p < pages) × (bit s.shape.pages.free p ≡ 1))
  unfolding lowest_free
  free⇔ = some⇔ pages (λ p h. eq⇔ (bit s.shape.pages.free p) 1)

  -- ---- each action

  -- the mode is the one that the row asks for
  in_mode : (m : ℕ) → eqb m any_mode ≡ false → not (eqb m any_mode || eqb m s.shape.guests.mode) ⇎ (s.shape.guests.mode ≡ m)
  in_mode m e = rw e (unless (as⇔ (eq⇔ m s.shape.guests.mode) sym sym))

  -- the checks of an access, whatever its mode
  abbrev access_checks : ℕ → ℕ → List Check
  access_checks m va = (3, not (eqb m any_mode || eqb m s.shape.guests.mode)) ∷ (4, false) ∷ (5, reserved va) ∷ (6, not (is_page (mapped s.shape va))) ∷ []

  access : (m va : ℕ) → va < addresses → eqb m any_mode ≡ false
      → (Passed (access_checks m va) → Access s.shape m va) × (Access s.shape m va → Passed (access_checks m va))
  access m va h e = (
    (λ q. let w = (unless (leads⇔ va h)).0 q.1.1.1.0 in
        record { in_mode = (in_mode m e).0 q.0; unreserved = unreserved va q.1.1.0; page = w.0; is_page = w.1; maps = w.2 }),
    λ a. ((in_mode m e).1 a.in_mode, (refl, (not_reserved va a.unreserved, ((unless (leads⇔ va h)).1 (a.page, a.is_page, a.maps), tt)))),
  )

  -- the tests of the page at pa
  there : (pa : ℕ) → not (is_page (here s.shape pa)) ≡ false → At s.shape pa (here s.shape pa)
  there pa e = at_here s.shape pa ((unless (lt⇔ (here s.shape pa) pages)).0 e)

  pass : {pa p : ℕ} → At s.shape pa p → not (is_page (here s.shape pa)) ≡ false
  pass {pa} {p} l = (unless (at⇔ pa)).1 (p, l)

  of_kind : (k pa : ℕ) → not (eqb (at s.shape.pages.kind (here s.shape pa)) k) ⇎ (at s.shape.pages.kind (here s.shape pa) ≡ k)
  of_kind k pa = unless (eq⇔ (at s.shape.pages.kind (here s.shape pa)) k)

  hidden : (pa : ℕ) → is_mapped s.shape (λ w. eqb w stealth) (here s.shape pa) ⇎ (MapsTo s.shape stealth (here s.shape pa) → ⊥)
  hidden pa =
      never
      (as⇔ (mapped⇔ (λ w. eq⇔ w stealth) (here s.shape pa)) (λ w. subst (λ (x : ℕ). MapsTo s.shape x (here s.shape pa)) w.1 w.2)
      (λ w. (stealth, refl, w)))

  elsewhere : (pa : ℕ)
      → is_mapped s.shape (λ w. not (eqb w stealth)) (here s.shape pa) ⇎ ((va : ℕ) → MapsTo s.shape va (here s.shape pa) → va ≡ stealth)
  elsewhere pa =
      let t = never (mapped⇔ (λ w. not⇔ (eq⇔ w stealth)) (here s.shape pa)) in
      ((λ e va m. same? va stealth (λ q. q) (λ q. absurd (t.0 e (va, q, m)))), λ f. t.1 (λ w. w.1 (f w.0 w.2)))

  anywhere : (pa : ℕ) → is_mapped s.shape (λ w. true) (here s.shape pa) ⇎ ((va : ℕ) → MapsTo s.shape va (here s.shape pa) → ⊥)
  anywhere pa =
      let t = never (mapped⇔ (λ w. true⇔ true) (here s.shape pa)) in
      ((λ e va m. t.0 e (va, refl, m)), λ f. t.1 (λ w. f w.0 w.2))

  no_entries : (pa : ℕ) → here s.shape pa < pages
      → has_entries s.shape.pages.entry (here s.shape pa)
      ⇎ ((va : ℕ) → va < addresses → at s.shape.pages.entry (addresses * here s.shape pa + va) ≡ 0)
  no_entries pa h =
      let t = never (entries⇔ (here s.shape pa) h) in (
        (λ e va b. same? (at s.shape.pages.entry (addresses * here s.shape pa + va)) 0 (λ q. q) (λ q. absurd (t.0 e (va, b, q)))),
        λ f. t.1 (λ w. w.2 (f w.0 w.1)),
      )

  not_call : (c a b : ℕ) → not (eqb (at s.shape.guests.call (active s.shape)) c && eqb (at s.shape.guests.call_a (active s.shape)) a
      && eqb (at s.shape.guests.call_b (active s.shape)) b) ⇎ Pending s.shape c a b
  not_call c a b = unless (pending⇔ s.shape c a b)

  idle : (g : ℕ) → not (eqb (at s.shape.guests.call g) 0) ⇎ Idle s.shape g
  idle g = unless (eq⇔ (at s.shape.guests.call g) 0)

  calling : (g : ℕ) → not (not (eqb (at s.shape.guests.call g) 0)) ⇎ HasCall s.shape g
  calling g = unless (not⇔ (eq⇔ (at s.shape.guests.call g) 0))

  pub allowed_if : (x : Action) → InRange x → Passed (checks (asked s.shape) x) → Allowed s.shape x
  unfolding asked own_checks
  allowed_if silent r q = tt
  allowed_if (read va) r q = (access running va r refl).0 q
  allowed_if (read_hyper va) r q = (access waiting va r refl).0 q
  allowed_if (write va x) r q = (access running va r.0 refl).0 q
  allowed_if (write_hyper va x) r q = (access waiting va r.0 refl).0 q
  allowed_if (new va pa) (hv, hp) (m, (c, (u, (t, (d, (n, z)))))) =
      let u' = (neither (reserved⇎ va) (never (eq⇔ va stealth))).0 u in
      record {
        waits = (in_mode waiting refl).0 m;
        pending = (not_call call_new va pa).0 c;
        unreserved = u'.0;
        not_stealth = u'.1;
        page = here s.shape pa;
        there = there pa t;
        is_data = (of_kind kind_data pa).0 d;
        not_hidden = (hidden pa).0 n;
      }
  allowed_if (new_sm pa) hp (m, (c, (t, (d, (e, (n, z)))))) =
      let e' = (neither (unless (eq⇔ (at s.shape.pages.cacheable (here s.shape pa)) 1)) (elsewhere pa)).0 e in
      record {
        waits = (in_mode waiting refl).0 m;
        pending = (not_call call_new stealth pa).0 c;
        page = here s.shape pa;
        there = there pa t;
        is_data = (of_kind kind_data pa).0 d;
        is_cacheable = e'.0;
        not_elsewhere = e'.1;
        unmapped = λ p h l. (never (leads⇔ stealth (omega arith))).0 n (p, h, l);
      }
  allowed_if (del va) hv (m, (c, (u, (t, z)))) =
      let w = (unless (leads⇔ va hv)).0 t in
      record {
        waits = (in_mode waiting refl).0 m;
        pending = (not_call call_del va 0).0 c;
        unreserved = unreserved va u;
        page = w.0;
        is_page = w.1;
        mapped = w.2;
      }
  allowed_if (switch g) hg (m, (c, z)) = record { waits = (in_mode waiting refl).0 m; idle = (idle g).0 c }
  allowed_if (lswitch pa) hp (m, (c, (t, (d, z)))) =
      record {
        waits = (in_mode waiting refl).0 m;
        pending = (not_call call_lswitch pa 0).0 c;
        page = here s.shape pa;
        there = there pa t;
        is_table = (of_kind kind_table pa).0 d;
      }
  allowed_if (hcall x a b) r (m, z) = (in_mode running refl).0 m
  allowed_if ret_ctrl r (m, z) = (in_mode running refl).0 m
  allowed_if chmod r (m, (c, z)) = record { waits = (in_mode waiting refl).0 m; idle = (idle (active s.shape)).0 c }
  allowed_if (pin pa k) r (m, (c, (t, (f, z)))) =
      let w = (unless free⇔).0 f in
      record {
        waits = (in_mode waiting refl).0 m;
        pending = (not_call call_pin pa k).0 c;
        unused = λ p l. (never (at⇔ pa)).0 t (p, l);
        free = w.0;
        is_page = w.1;
        marked = w.2;
      }
  allowed_if (unpin pa) hp (m, (c, (t, (d, z)))) =
      let l = there pa t in
      let d' = (neither (never (eq⇔ pa (at s.shape.guests.current (active s.shape)))) (neither (no_entries pa l.page) (anywhere pa))).0 d in
      record {
        waits = (in_mode waiting refl).0 m;
        pending = (not_call call_unpin pa 0).0 c;
        page = here s.shape pa;
        there = l;
        not_current = d'.0;
        no_entries = d'.1.0;
        unmapped = d'.1.1;
      }
  allowed_if (drop g) hg (m, (c, z)) = record { waits = (in_mode waiting refl).0 m; calls = (calling g).0 c }

  pub if_allowed : (x : Action) → InRange x → Allowed s.shape x → Passed (checks (asked s.shape) x)
  unfolding asked own_checks
  if_allowed silent r a = (refl, (refl, tt))
  if_allowed (read va) r a = (access running va r refl).1 a
  if_allowed (read_hyper va) r a = (access waiting va r refl).1 a
  if_allowed (write va x) r a = (access running va r.0 refl).1 a
  if_allowed (write_hyper va x) r a = (access waiting va r.0 refl).1 a
  if_allowed (new va pa) r a = (
    (in_mode waiting refl).1 a.waits,
    (
      (not_call call_new va pa).1 a.pending,
      (
        (neither (reserved⇎ va) (never (eq⇔ va stealth))).1 (a.unreserved, a.not_stealth),
        (
          pass a.there,
          (
            (of_kind kind_data pa).1 (of_here (λ x. at s.shape.pages.kind x ≡ kind_data) a.there a.is_data),
            ((hidden pa).1 (of_here (λ x. MapsTo s.shape stealth x → ⊥) a.there a.not_hidden), tt),
          ),
        ),
      ),
    ),
  )
  if_allowed (new_sm pa) r a = (
    (in_mode waiting refl).1 a.waits,
    (
      (not_call call_new stealth pa).1 a.pending,
      (
        pass a.there,
        (
          (of_kind kind_data pa).1 (of_here (λ x. at s.shape.pages.kind x ≡ kind_data) a.there a.is_data),
          (
            (neither (unless (eq⇔ (at s.shape.pages.cacheable (here s.shape pa)) 1)) (elsewhere pa)).1 (
              of_here (λ x. at s.shape.pages.cacheable x ≡ 1) a.there a.is_cacheable,
              of_here (λ x. (va : ℕ) → MapsTo s.shape va x → va ≡ stealth) a.there a.not_elsewhere,
            ),
            ((never (leads⇔ stealth (omega arith))).1 (λ w. a.unmapped w.0 w.1 w.2), tt),
          ),
        ),
      ),
    ),
  )
  if_allowed (del va) r a =
      let l = (unless (leads⇔ va r)).1 (a.page, a.is_page, a.mapped) in
      ((in_mode waiting refl).1 a.waits, ((not_call call_del va 0).1 a.pending, (not_reserved va a.unreserved, (l, tt))))
  if_allowed (switch g) r a = ((in_mode waiting refl).1 a.waits, ((idle g).1 a.idle, tt))
  if_allowed (lswitch pa) r a = (
    (in_mode waiting refl).1 a.waits,
    (
      (not_call call_lswitch pa 0).1 a.pending,
      (pass a.there, ((of_kind kind_table pa).1 (of_here (λ x. at s.shape.pages.kind x ≡ kind_table) a.there a.is_table), tt)),
    ),
  )
  if_allowed (hcall x c b) r a = ((in_mode running refl).1 a, (refl, tt))
  if_allowed ret_ctrl r a = ((in_mode running refl).1 a, (refl, tt))
  if_allowed chmod r a = ((in_mode waiting refl).1 a.waits, ((idle (active s.shape)).1 a.idle, tt))
  if_allowed (pin pa k) r a = (
    (in_mode waiting refl).1 a.waits,
    (
      (not_call call_pin pa k).1 a.pending,
      ((never (at⇔ pa)).1 (λ w. a.unused w.0 w.1), ((unless free⇔).1 (a.free, a.is_page, a.marked), tt)),
    ),
  )
  if_allowed (unpin pa) r a = (
    (in_mode waiting refl).1 a.waits,
    (
      (not_call call_unpin pa 0).1 a.pending,
      (
        pass a.there,
        (
          (neither (never (eq⇔ pa (at s.shape.guests.current (active s.shape))))
              (neither (no_entries pa (is_here a.there)) (anywhere pa))).1 (
                a.not_current,
                (
                  of_here (λ x. (va : ℕ) → va < addresses → at s.shape.pages.entry (addresses * x + va) ≡ 0) a.there a.no_entries,
                  of_here (λ x. (va : ℕ) → MapsTo s.shape va x → ⊥) a.there a.unmapped,
                ),
              ),
          tt,
        ),
      ),
    ),
  )
  if_allowed (drop g) r a = ((in_mode waiting refl).1 a.waits, ((calling g).1 a.calls, tt))
