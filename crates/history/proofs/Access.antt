-- Reads and writes. The address leads, in the state and in the book, to the same page of the active guest: a read answers its value and leaves
-- what every page holds, a write changes what this one holds.
-- Assumes nothing.
use mathlib.Core.Path.{◌≡◌, sym, ap, ◌∙◌, subst}
use mathlib.Core.Bool.{true, false, ◌&&◌}
use mathlib.Core.Logic.{◌≢◌}
use mathlib.Core.Option.{none, some}
use Prim.Native.Nat.{ℕ, suc, ◌<◌}
use native.Mathlib.Omega.{arith}
use lib.Dec.{eqb}
use lib.ListN.{set}
use Rattle.laws.specs.Choice.{pick, at}
use Rattle.laws.proofs.Cases.{same?, pick_yes, pick_not}
use Rattle.laws.proofs.Tests.{not_so}
use Rattle.laws.proofs.Lists.{at_same, at_other}
use Rattle.model.specs.Sizes.{pages, addresses, lines, reserved}
use Rattle.model.specs.Names.{kind_data}
use Rattle.model.specs.State.{State, active, table, mapped, is_cacheable, no_line, line_of, present}
use Rattle.model.specs.Parts.{take_out, enter}
use Rattle.model.specs.Read.{miss_line, access_history, read_step}
use Rattle.model.specs.Write.{store, write_step}
use Rattle.model.specs.Valid.{Valid}
use Rattle.keeps.proofs.Core.{core_of, maps_here, in_force}
use Rattle.keeps.proofs.Stores.{size_set}
use Rattle.keeps.proofs.Sets.{Key, line_key, looked?, filled?, unfilled}
use Rattle.keeps.proofs.Lines.{take_out_core, enter_none}
use Rattle.keeps.proofs.Read.{enters, read_step_valid}
use Rattle.history.specs.Past.{Book, is_to}
use Rattle.history.specs.Agrees.{Has, Agrees}
use Rattle.history.proofs.Holds.{HoldsIn, holds_present, present_holds, take_out_holds, enter_holds, store_holds, store_other}
use Rattle.history.proofs.Charts.{has_same, has_page, has_once, table_has, place⇔, valued, valued_chart}

-- ---- what pages hold in a state that agrees with a book

pub value_holds : {s : State} → Valid s → {b : Book} → Agrees s b → {g pa p : ℕ} → Has s.shape.pages.physical g pa p
    → at s.shape.pages.kind p ≡ kind_data → HoldsIn s p (b.value g pa)
value_holds {s} v a {g} {pa} {p} h d = subst (λ (x : ℕ). HoldsIn s p x) (a.value g pa p h d) (present_holds (core_of v) p)

-- ---- the page that an address leads to

module _ {s : State} (v : Valid s) {b : Book} (a : Agrees s b) (va : ℕ) (hv : va < addresses) (hp : mapped s.shape va < pages) where
  pub record Target : Type 0 where
    pub address : ℕ
    pub has : Has s.shape.pages.physical (active s.shape) address (mapped s.shape va)
    pub is_data : at s.shape.pages.kind (mapped s.shape va) ≡ kind_data
    pub link : b.link b.active (b.current b.active) va ≡ some address

  pub target : Target
  target =
      let c = core_of v in
      let p = mapped s.shape va in
      let m = maps_here c va hv hp in
      let e = c.rule4.entries (table s.shape) va p m.page hv m.holds in
      let g = c.rule10.guests.active in
      let r = c.rule3.reached (active s.shape) p g hp (e.same_owner ∙ (in_force c).own) in
      let h : Has s.shape.pages.physical (active s.shape) r.0 p = record { guest = g; address = r.1; holds = r.2 } in
      let t = table_has c in
      record {
        address = r.0;
        has = h;
        is_data = e.is_data;
        link = rw (a.chart.active, a.chart.current (active s.shape) g)
            ((a.chart.link (active s.shape) (at s.shape.guests.current (active s.shape)) va r.0 g t.address hv).1
            (record { table = table s.shape; page = p; from = t; holds = m.holds; to = h }));
      }

-- ---- a read

module _ {s : State} (v : Valid s) (va : ℕ) (hv : va < addresses) (free : reserved va ≡ false) (hp : mapped s.shape va < pages) where
  pub read_holds : {q x : ℕ} → q < pages → HoldsIn s q x → HoldsIn (read_step s va (mapped s.shape va)) q x
  unfolding read_step access_history take_out enter
  read_holds {q} {x} hq h =
      let c = core_of v in
      let p = mapped s.shape va in
      let i = miss_line s.shape va p in
      let r : HoldsIn (enter (take_out s i) i va p) q x =
      filled? s.shape va p v.rule10.cache.history
      (λ e. rw e (subst (λ (t : State). HoldsIn t q x) (sym (enter_none (take_out_core c no_line) va p)) (take_out_holds c no_line hq h)))
      (λ f. enter_holds (take_out_core c i) (enters v va hv free hp f)
      (at_same s.shape.cache.line_page i 0 (omega (arith, f.line, c.sized.line_page))) (take_out_holds c i hq h)) in
      r

  -- a cacheable page has a line after it
  read_line : is_cacheable s.shape (mapped s.shape va) ≡ true
      → (j : ℕ) × (j < lines) × (at (read_step s va (mapped s.shape va)).shape.cache.line_page j ≡ suc (mapped s.shape va))
      × (at (read_step s va (mapped s.shape va)).shape.cache.line_address j ≡ va)
  unfolding read_step access_history take_out enter
  read_line u =
      let p = mapped s.shape va in
      let i = miss_line s.shape va p in
      let C = s.shape.cache in
      filled? s.shape va p v.rule10.cache.history
      (λ e.
      let k = unfilled s.shape va p v.rule10.cache.history e u in
      let j = line_of s.shape va p in
      let d : j ≢ no_line = λ w. let z = k.line in omega arith in (
        j,
        k.line,
        rw e (at_other (set C.line_page no_line 0) no_line (suc p) j d ∙ at_other C.line_page no_line 0 j d ∙ k.page),
        rw e (at_other (set C.line_address no_line 0) no_line va j d ∙ at_other C.line_address no_line 0 j d ∙ k.address),
      ))
      (λ f. (
        i,
        f.line,
        at_same (set C.line_page i 0) i (suc p) (omega (arith, f.line, size_set C.line_page i 0 v.sized.line_page)),
        at_same (set C.line_address i 0) i va (omega (arith, f.line, size_set C.line_address i 0 v.sized.line_address)),
      ))

  -- where a lookup finds it
  pub read_caches : is_cacheable (read_step s va (mapped s.shape va)).shape (mapped s.shape va) ≡ true
      → Key (read_step s va (mapped s.shape va)).shape va (mapped s.shape va) (line_of (read_step s va (mapped s.shape va)).shape va (mapped s.shape va))
  unfolding read_step access_history take_out enter
  read_caches u =
      let p = mapped s.shape va in
      let w = read_line u in
      looked? (read_step s va p).shape va p (λ k. k)
      (λ _ n. absurd (n w.0 (line_key (core_of (read_step_valid v va hv free hp)) w.1 w.2 w.3)))

  module _ {b : Book} (a : Agrees s b) where
    pub read_agrees : Agrees (read_step s va (mapped s.shape va)) b
    unfolding read_step access_history take_out enter
    read_agrees =
        record {
          chart = a.chart;
          value = λ g pa p h d. holds_present (read_step s va (mapped s.shape va)) (read_holds (has_page (core_of v) h) (value_holds v a h d));
        }

    -- ---- a write

    -- what the book says of a page after it
    abbrev written : ℕ → ℕ → ℕ → ℕ
    written x g pa = pick (eqb g b.active && is_to (b.link b.active (b.current b.active) va) pa) x (b.value g pa)

    write_value : (x g pa p : ℕ) → Has s.shape.pages.physical g pa p → at s.shape.pages.kind p ≡ kind_data
        → present (write_step s va (mapped s.shape va) x) p ≡ written x g pa
    unfolding write_step
    write_value x g pa p h d =
        let c = core_of v in
        let q = mapped s.shape va in
        let t = target v a va hv hp in
        let r = core_of (read_step_valid v va hv free hp) in
        let u = store (read_step s va q) va q x in
        rw t.link
        (same? p q
        (λ e.
        let w = has_once c (rw e at h) t.has in
        rw e (holds_present u (store_holds r va x hp read_caches))
        ∙ sym (pick_yes x (b.value g pa) ((place⇔ g b.active pa t.address).1 (w.0 ∙ sym a.chart.active, w.1))))
        (λ n.
        holds_present u (store_other r va x hp read_caches (has_page c h) n (read_holds (has_page c h) (value_holds v a h d)))
        ∙ sym (pick_not x (b.value g pa) (not_so (place⇔ g b.active pa t.address) (λ w. n (has_same h (rw (w.0 ∙ a.chart.active, w.1) t.has)))))))

    pub write_agrees : (x : ℕ) → Agrees (write_step s va (mapped s.shape va) x) (valued b (written x))
    unfolding write_step store read_step access_history take_out enter
    write_agrees x = record { chart = valued_chart (written x) a.chart; value = write_value x }

    -- ---- what a read answers

    pub read_value : present s (mapped s.shape va) ≡ elim (b.link b.active (b.current b.active) va) [ none ↦ 0 | some pa ↦ b.value b.active pa ]
    read_value =
        let t = target v a va hv hp in
        rw t.link
        (a.value (active s.shape) t.address (mapped s.shape va) t.has t.is_data
        ∙ ap (λ (g : ℕ). b.value g t.address) (sym a.chart.active))
