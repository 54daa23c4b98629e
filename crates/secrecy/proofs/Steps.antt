-- The values after an action are alike if they were before it. In a valid state: a page that is pinned is nobody's, one that is unpinned has no line, and
-- what the active guest writes is its own.
-- Assumes nothing.
use mathlib.Core.Path.{◌≡◌, ap, ◌∙◌}
use mathlib.Core.Bool.{false, ◌&&◌, not}
use mathlib.Core.Logic.{◌≢◌}
use Prim.Native.Nat.{ℕ, suc, ◌<◌}
use native.Mathlib.Omega.{arith}
use Rattle.laws.specs.Choice.{pick, at}
use Rattle.laws.proofs.Cases.{below?, pick_both}
use Rattle.laws.proofs.Lists.{at_past}
use Rattle.model.specs.Sizes.{pages, addresses, lines, reserved}
use Rattle.model.specs.Names.{owner_none, owner_guest}
use Rattle.model.specs.State.{Shape, Tlb, Values, State, lead, active, table, hit_way, mapped, here, nowhere, is_cacheable, is_through, no_line, line_of, line_of_page, present, stealth_line}
use Rattle.model.specs.Records.{Action, silent, read, read_hyper, write, write_hyper, new, new_sm, del, switch, lswitch, hcall, ret_ctrl, chmod, pin, unpin, drop, InRange}
use Rattle.model.specs.Checks.{lowest_free}
use Rattle.model.specs.Parts.{with_tlb, set_entry, forget, take_out, take_out_page, enter, way_for, load_stealth}
use Rattle.model.specs.Read.{access_way, miss_line, access_history, read_step}
use Rattle.model.specs.Write.{store, write_step}
use Rattle.model.specs.New.{old_line, is_shared, share, new_step}
use Rattle.model.specs.NewSm.{new_sm_step}
use Rattle.model.specs.Del.{del_step}
use Rattle.model.specs.Switch.{switch_step}
use Rattle.model.specs.Lswitch.{lswitch_step}
use Rattle.model.specs.Hcall.{hcall_step}
use Rattle.model.specs.RetCtrl.{ret_ctrl_step}
use Rattle.model.specs.Chmod.{chmod_step}
use Rattle.model.specs.Pin.{pin_step}
use Rattle.model.specs.Unpin.{unpin_step}
use Rattle.model.specs.Drop.{drop_step}
use Rattle.model.specs.Step.{next}
use Rattle.model.specs.Valid.{Valid}
use Rattle.model.proofs.RuleTests.{lead_holds}
use Rattle.model.proofs.Shape.{filled}
use Rattle.keeps.specs.Allowed.{MapsTo, Allowed}
use Rattle.keeps.proofs.Core.{Core, core_of, lead_is, in_force, maps_here}
use Rattle.keeps.proofs.Allowed.{is_here, of_here}
use Rattle.keeps.proofs.Keeps.{lowest_free_law}
use Rattle.keeps.proofs.Sets.{looked?}
use Rattle.keeps.proofs.Read.{read_step_valid}
use Rattle.secrecy.proofs.Alike.{Alike, out, entered, stored, own_stored, alike_sym, handed, page_out}

-- all of s but for its TLB and its values
abbrev pub besides : State → Tlb → Values → State
besides s u w = filled (with_tlb s.shape u) w

-- values are alike, by the owners and lines of s
abbrev pub AlikeIn : ℕ → State → Values → Type 0
AlikeIn g s w = Alike g s.shape.pages.owner s.shape.cache.line_page s.values w

-- the page to which the table in force leads is the active guest's
pub mapped_own : {s : State} → Core s → (va : ℕ) → va < addresses → mapped s.shape va < pages
    → at s.shape.pages.owner (mapped s.shape va) ≡ owner_guest (active s.shape)
mapped_own {s} c va hv hp =
    let m = maps_here c va hv hp in
    (c.rule4.entries (table s.shape) va (mapped s.shape va) m.page hv m.holds).same_owner ∙ (in_force c).own

module _ {g : ℕ} {s : State} (v : Valid s) (u : Tlb) {w : Values} (a : AlikeIn g s w) where
  read_alike : (va p : ℕ) → AlikeIn g (read_step s va p) (read_step (besides s u w) va p).values
  unfolding hit_way take_out enter way_for access_way miss_line access_history read_step
  read_alike va p = let i = miss_line s.shape va p in entered (out a i) i p

  write_alike : (va p x : ℕ) → AlikeIn g (write_step s va p x) (write_step (besides s u w) va p x).values
  unfolding hit_way take_out enter way_for access_way miss_line access_history read_step store write_step
  write_alike va p x =
      let i = miss_line s.shape va p in
      stored (entered (out a i) i p) _ _ x

  new_alike : (va p : ℕ) → AlikeIn g (new_step s va p) (new_step (besides s u w) va p).values
  unfolding table hit_way line_of_page present take_out take_out_page share new_step
  new_alike va p =
      let i = old_line s.shape va in
      let t = take_out s i in
      let h = forget (set_entry t.shape (table t.shape) va (suc p)) va in
      page_out h (out a i) (pick (is_shared h va p) p pages)

  -- no line has the page at a physical address that no table maps
  unmapped_line : (p : ℕ) → ((va : ℕ) → MapsTo s.shape va p → ⊥) → (i : ℕ) → p < pages → lead (at s.shape.cache.line_page i) ≢ p
  unmapped_line p n i h e =
      let z = lead_holds (at s.shape.cache.line_page i) (omega arith) ∙ ap suc e in
      below? i lines (λ b. let l = v.rule7.line i p b z in n (at s.shape.cache.line_address i) l.mapped)
      (λ b. omega (arith, at_past s.shape.cache.line_page i (omega (arith, v.sized.line_page))))

  pub next_alike : (x : Action) → InRange x → Allowed s.shape x → AlikeIn g (next s x) (next (besides s u w) x).values
  unfolding table hit_way take_out enter load_stealth new_sm_step del_step switch_step lswitch_step hcall_step ret_ctrl_step chmod_step pin_step unpin_step drop_step next
  next_alike silent r l = a
  next_alike (read va) r l = read_alike va (mapped s.shape va)
  next_alike (read_hyper va) r l = read_alike va (mapped s.shape va)
  next_alike (write va x) r l = write_alike va (mapped s.shape va) x
  next_alike (write_hyper va x) r l = write_alike va (mapped s.shape va) x
  next_alike (new va pa) r l = new_alike va (here s.shape pa)
  next_alike (new_sm pa) r l = entered a stealth_line (here s.shape pa)
  next_alike (del va) r l = out a (old_line s.shape va)
  next_alike (switch k) r l = entered (out a stealth_line) _ _
  next_alike (lswitch pa) r l = entered (out a stealth_line) _ _
  next_alike (hcall c x b) r l = a
  next_alike ret_ctrl r l = a
  next_alike chmod r l = a
  next_alike (pin pa k) r l =
      let f = lowest_free_law v l.is_page l.marked in
      let p = lowest_free s.shape.pages.free in
      handed a p (owner_guest (active s.shape)) (λ _ _ o. omega (arith, (v.rule2.map p f.0).0 f.1))
  next_alike (unpin pa) r l =
      handed a (here s.shape pa) owner_none
      (λ i e. absurd (unmapped_line (here s.shape pa) (of_here (λ p. (va : ℕ) → MapsTo s.shape va p → ⊥) l.there l.unmapped) i (is_here l.there) e))
  next_alike (drop k) r l = a

-- ---- what the active guest writes is its own

-- where a write to the page stores its value in memory, and in a line
abbrev memory_place : Shape → ℕ → ℕ
memory_place h p = pick (is_cacheable h p && not (is_through h)) nowhere p

abbrev line_place : Shape → ℕ → ℕ → ℕ
line_place h va p = pick (is_cacheable h p) (line_of h va p) no_line

-- if there is such a place, it is the active guest's
record OwnPlaces (h : Shape) (va p : ℕ) : Type 0 where
  page : memory_place h p < pages → at h.pages.owner (memory_place h p) ≡ owner_guest (active h)
  line : line_place h va p < lines → at h.pages.owner (lead (at h.cache.line_page (line_place h va p))) ≡ owner_guest (active h)

own_places : {s : State} → Core s → (va : ℕ) → va < addresses → mapped s.shape va < pages → OwnPlaces s.shape va (mapped s.shape va)
own_places {s} c va hv hp =
    let h = s.shape in
    let p = mapped h va in
    let o = mapped_own c va hv hp in
    record {
      page = pick_both (λ (q : ℕ). q < pages → at h.pages.owner q ≡ owner_guest (active h)) (is_cacheable h p && not (is_through h)) (λ _ b. absurd (omega arith)) (λ _ _. o);
      line = pick_both (λ (i : ℕ). i < lines → at h.pages.owner (lead (at h.cache.line_page i)) ≡ owner_guest (active h)) (is_cacheable h p)
          (λ _ b.
          looked? h va p (λ k. ap (at h.pages.owner) (lead_is (at h.cache.line_page (line_of h va p)) p hp k.page) ∙ o) (λ z _. absurd (omega arith)))
          (λ _ b. absurd (omega arith));
    }

module _ {g : ℕ} {s : State} (v : Valid s) (e : active s.shape ≡ g) where
  -- a store of the active guest's changes its values alone
  pub own_store : (va x : ℕ) → va < addresses → mapped s.shape va < pages → {w : Values} → AlikeIn g s w → AlikeIn g (store s va (mapped s.shape va) x) w
  unfolding store
  own_store va x hv hp a =
      let h = s.shape in
      let p = mapped h va in
      let o = own_places (core_of v) va hv hp in
      own_stored a (memory_place h p) (line_place h va p) x (λ b. o.page (omega (arith, v.sized.memory)) ∙ ap owner_guest e)
      (λ b. o.line (omega (arith, v.sized.line)) ∙ ap owner_guest e)

  -- so two such stores may differ in their values
  store_alike : (u : Tlb) {w : Values} → AlikeIn g s w → (va x y : ℕ) → va < addresses → mapped s.shape va < pages
      → AlikeIn g (store s va (mapped s.shape va) x) (store (besides s u w) va (mapped s.shape va) y).values
  unfolding hit_way store
  store_alike u {w} a va x y hv hp =
      let h = s.shape in
      let p = mapped h va in
      let o = own_places (core_of v) va hv hp in
      alike_sym (own_stored (alike_sym (own_store va x hv hp a)) (memory_place h p) (line_place h va p) y
      (λ l. o.page (omega (arith, a.memories, v.sized.memory)) ∙ ap owner_guest e)
      (λ l. o.line (omega (arith, a.same_lines, v.sized.line)) ∙ ap owner_guest e))

pub own_write : {g : ℕ} {s : State} → Valid s → active s.shape ≡ g → (u : Tlb) {w : Values} → AlikeIn g s w → (va x y : ℕ) → va < addresses → reserved va ≡ false
    → mapped s.shape va < pages → AlikeIn g (write_step s va (mapped s.shape va) x) (write_step (besides s u w) va (mapped s.shape va) y).values
unfolding table hit_way take_out enter way_for access_way miss_line access_history read_step store write_step
own_write {s = s} v e u {w} a va x y hv free hp =
    let p = mapped s.shape va in
    store_alike (read_step_valid v va hv free hp) e (read_step (besides s u w) va p).shape.tlb (read_alike v u a va p) va x y hv hp
