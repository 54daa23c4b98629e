-- A page without lines and without its cacheable mark: the rules hold still, if no table maps it at the stealth address.
-- Where the number is past every page, nothing changes; one argument serves for both.
-- Assumes nothing.
use mathlib.Core.Path.{◌≡◌, refl, sym, ap, ◌∙◌, subst}
use mathlib.Core.Logic.{◌≢◌}
use mathlib.Core.List.{List}
use Prim.Native.Nat.{ℕ, suc, ◌<◌}
use native.Mathlib.Omega.{arith}
use lib.Dec.{ltb, eqb}
use lib.ListN.{length, set}
use borrow.Author.Tests.{eq-eqb, ne_eqb, ltb-true}
use Rattle.laws.specs.Choice.{pick, at}
use Rattle.laws.proofs.Cases.{same?, pick_both}
use Rattle.laws.proofs.Lists.{at_other, at_any, length_list_of, get_or_list_of}
use Rattle.model.specs.Sizes.{pages, ways, lines, stealth, stealth_set, value_bound}
use Rattle.model.specs.State.{State, table, line_at, stealth_line, line_of_page, present}
use Rattle.model.specs.Rules.{Maps, Below, Rule6, Rule7, Leads, Rule9}
use Rattle.model.specs.Parts.{shaped, lose_mark, cleared, take_out_page}
use Rattle.model.specs.Valid.{Valid}
use Rattle.keeps.proofs.Core.{Core, GuestData, core_of, valid_of, leads_maps}
use Rattle.keeps.proofs.Parts.{guests_of, tlb_of, policy_of, core_from, line_among, policy_kept}
use Rattle.keeps.proofs.Stores.{size_set, below_set, below_any, rule2_page}
use Rattle.keeps.proofs.Entries.{NoLine}

-- page q without lines and without its mark
unfoldable pub uncached : State → ℕ → State
uncached s q =
    let t = take_out_page s q in
    shaped t (lose_mark t.shape q)

-- ---- the lines of a page taken out

module _ (line_page : List ℕ) (q : ℕ) where
  pub gone : (l : List ℕ) (j : ℕ) → j < lines → at line_page j ≡ suc q → at (cleared line_page q l) j ≡ 0
  gone l j hj e =
      get_or_list_of lines (λ i. pick (eqb (at line_page i) (suc q)) 0 (at l i)) 0 j hj ∙ rw (eq-eqb (at line_page j) (suc q) e)

  pub kept : (l : List ℕ) (j : ℕ) → j < lines → at line_page j ≢ suc q → at (cleared line_page q l) j ≡ at l j
  kept l j hj n =
      get_or_list_of lines (λ i. pick (eqb (at line_page i) (suc q)) 0 (at l i)) 0 j hj ∙ rw (ne_eqb (at line_page j) (suc q) n)

  -- a fact of 0 and of what stood there
  either : (P : ℕ → Type 0) (l : List ℕ) (j : ℕ) → j < lines → P 0 → P (at l j) → P (at (cleared line_page q l) j)
  either P l j hj z h =
      same? (at line_page j) (suc q) (λ e. subst P (sym (gone l j hj e)) z) (λ n. subst P (sym (kept l j hj n)) h)

  size_cleared : (l : List ℕ) → length (cleared line_page q l) ≡ lines
  size_cleared l = length_list_of lines (λ i. pick (eqb (at line_page i) (suc q)) 0 (at l i))

  below_cleared : (l : List ℕ) {b : ℕ} → 0 < b → Below l lines b → Below (cleared line_page q l) lines b
  below_cleared l {b} z h j hj = either (λ (x : ℕ). x < b) l j hj z (h j hj)

  -- a line that is left is of another page, and has what stood beside it
  pub left : (beside : List ℕ) (j p : ℕ) → j < lines → at (cleared line_page q line_page) j ≡ suc p
      → (at line_page j ≡ suc p) × (p ≢ q) × (at (cleared line_page q beside) j ≡ at beside j)
  left beside j p hj e =
      same? (at line_page j) (suc q) (λ w. absurd (omega (arith, gone line_page j hj w)))
      (λ n.
      let z : at line_page j ≡ suc p = sym (kept line_page j hj n) ∙ e in
      (z, (λ w. n (z ∙ ap suc w)), kept beside j hj n))

-- ---- at the level of lists

rule6_mark : {kind cacheable entry : List ℕ} (q : ℕ) → ((m : ℕ) → Maps kind entry m stealth q → ⊥) → Rule6 kind cacheable entry
    → Rule6 kind (set cacheable q 0) entry
rule6_mark {kind} {cacheable} {entry} q n r =
    record {
      shared = λ p m o va vb hp k a b d. at_any (λ (x : ℕ). x ≢ 1) cacheable q 0 p (λ w. omega arith) (r.shared p m o va vb hp k a b d);
      stealthy = λ p m hp a. at_other cacheable q 0 p (λ e. n m (subst (λ (x : ℕ). Maps kind entry m stealth x) e a)) ∙ r.stealthy p m hp a;
    }

rule7_page : {kind cacheable entry line_address line_page : List ℕ} (q : ℕ) → Rule7 kind cacheable entry line_address line_page
    → Rule7 kind (set cacheable q 0) entry (cleared line_page q line_address) (cleared line_page q line_page)
rule7_page {kind} {cacheable} {entry} {line_address} {line_page} q r =
    record {
      line = λ j p hj e.
          let d = left line_page q line_address j p hj e in
          rw d.2 (line_among (r.line j p hj d.0) (at_other cacheable q 0 p d.1) refl (λ m a. a));
      once = λ j k p hj hk e f a.
          let d = left line_page q line_address j p hj e in
          let t = left line_page q line_address k p hk f in
          r.once j k p hj hk d.0 t.0 (sym d.2 ∙ a ∙ t.2);
    }

rule9_page : {entry line_address line_page history : List ℕ} {m : ℕ} (q : ℕ) → (Leads entry m stealth q → ⊥)
    → Rule9 entry line_address line_page history m → Rule9 entry (cleared line_page q line_address) (cleared line_page q line_page) history m
rule9_page {entry} {line_address} {line_page} {m = m} q n r =
    record {
      held = λ p a.
          let z = r.held p a in
          let d : at line_page stealth_line ≢ suc q = λ w. n (subst (λ (x : ℕ). Leads entry m stealth x) (omega (arith, z.0)) a) in
          (kept line_page q line_page stealth_line (omega arith) d ∙ z.0, kept line_page q line_address stealth_line (omega arith) d ∙ z.1);
      empty = λ f. still 0 (omega arith) (r.empty f);
      alone = λ w lo hi. still w hi (r.alone w lo hi);
      begun = r.begun;
    }
  where
    still : (w : ℕ) → w < ways → at line_page (line_at stealth_set w) ≡ 0 → at (cleared line_page q line_page) (line_at stealth_set w) ≡ 0
    still w h e = either line_page q (λ (x : ℕ). x ≡ 0) line_page (line_at stealth_set w) (omega arith) refl e

-- ---- in a state

-- the present value of any page is in range
pub present_below : {s : State} → Core s → (q : ℕ) → present s q < value_bound
unfolding present
present_below {s} c q =
    pick_both (λ (x : ℕ). x < value_bound) (ltb (line_of_page s.shape q) lines)
    (λ e. c.rule10.values.line (line_of_page s.shape q) (ltb-true (line_of_page s.shape q) lines e))
    (λ e. below_any s.values.memory c.sized.memory (omega arith) c.rule10.values.memory q)

module _ {s : State} (c : Core s) (q : ℕ) (guest : q < pages → GuestData s.shape q)
    (apart : (m : ℕ) → Maps s.shape.pages.kind s.shape.pages.entry m stealth q → ⊥) where
  -- an empty place is all zero, and stays so
  empty_kept : (j : ℕ) → j < lines → at (cleared s.shape.cache.line_page q s.shape.cache.line_page) j ≡ 0
      → (at (cleared s.shape.cache.line_page q s.shape.cache.line_address) j ≡ 0) × (at (cleared s.shape.cache.line_page q s.values.line) j ≡ 0)
  empty_kept j hj e =
      let l = s.shape.cache.line_page in
      same? (at l j) (suc q) (λ w. (gone l q s.shape.cache.line_address j hj w, gone l q s.values.line j hj w))
      (λ n.
      let z = c.rule10.cache.empty j hj (sym (kept l q l j hj n) ∙ e) in
      (kept l q s.shape.cache.line_address j hj n ∙ z.0, kept l q s.values.line j hj n ∙ z.1))

  pub uncached_core : Core (uncached s q)
  unfolding uncached take_out_page
  uncached_core =
      let P = s.shape.pages in
      let C = s.shape.cache in
      core_from
      (record {
        owner = c.sized.owner;
        kind = c.sized.kind;
        cacheable = size_set P.cacheable q 0 c.sized.cacheable;
        entry = c.sized.entry;
        physical = c.sized.physical;
        value = size_set s.values.memory q (present s q) c.sized.memory;
        rule2 = rule2_page q guest (at_other P.cacheable q 0) (at_other s.values.memory q (present s q)) c.rule2;
        rule3 = c.rule3;
        rule4 = c.rule4;
        rule6 = rule6_mark q apart c.rule6;
        ranges =
            record {
              owner = c.rule10.pages.owner;
              kind = c.rule10.pages.kind;
              cacheable = below_set P.cacheable q 0 (omega arith) c.rule10.pages.cacheable;
              entry = c.rule10.pages.entry;
              physical = c.rule10.pages.physical;
              free = c.rule10.pages.free;
            };
        values = below_set s.values.memory q (present s q) (present_below c q) c.rule10.values.memory;
      })
      (guests_of c)
      (record {
        line_address = size_cleared C.line_page q C.line_address;
        line_page = size_cleared C.line_page q C.line_page;
        history = c.sized.history;
        value = size_cleared C.line_page q s.values.line;
        rule7 = rule7_page q c.rule7;
        ranges =
            record {
              line_address = below_cleared C.line_page q C.line_address (omega arith) c.rule10.cache.line_address;
              line_page = below_cleared C.line_page q C.line_page (omega arith) c.rule10.cache.line_page;
              history = c.rule10.cache.history;
              empty = empty_kept;
            };
        values = below_cleared C.line_page q s.values.line (omega arith) c.rule10.values.line;
      })
      (tlb_of c)
      (policy_kept (policy_of c) (λ j p hj e.
      let d = left C.line_page q s.values.line j p hj e in
      (d.0, d.2, at_other s.values.memory q (present s q) p d.1)))

pub uncached_valid : {s : State} (q : ℕ) → (q < pages → GuestData s.shape q)
    → ((m : ℕ) → Maps s.shape.pages.kind s.shape.pages.entry m stealth q → ⊥) → Valid s → Valid (uncached s q)
unfolding uncached take_out_page table
uncached_valid {s} q g n v =
    let c = core_of v in
    valid_of (uncached_core c q g n) v.rule8
    (rule9_page q (λ l. n (table s.shape) (leads_maps c (omega arith) l)) v.rule9)

-- what no line held is held by none
pub uncached_lines : (s : State) (q va : ℕ) → NoLine s.shape (table s.shape) va → NoLine (uncached s q).shape (table (uncached s q).shape) va
unfolding uncached take_out_page table
uncached_lines s q va u j p hj e a x =
    let d = left s.shape.cache.line_page q s.shape.cache.line_address j p hj e in
    u j p hj d.0 (sym d.2 ∙ a) x
