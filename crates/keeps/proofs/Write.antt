-- A write keeps the rules: a read, then a store of a value. Of these proofs only that of `store_valid` knows what a store does.
-- Assumes nothing.
use mathlib.Core.Path.{◌≡◌, refl, sym, ap, ◌∙◌, subst}
use mathlib.Core.Bool.{Bool, true, false, ◌&&◌, not}
use mathlib.Core.Logic.{◌≢◌, ◌↔◌}
use Prim.Native.Nat.{ℕ, suc, ◌<◌}
use native.Mathlib.Omega.{arith}
use lib.ListN.{set}
use borrow.Author.Tests.{eq-eqb}
use Rattle.laws.specs.Choice.{pick, at}
use Rattle.laws.proofs.Cases.{same?, pick_both}
use Rattle.laws.proofs.Lists.{at_same, at_other}
use Rattle.model.specs.Sizes.{pages, addresses, lines, reserved, value_bound}
use Rattle.model.specs.Names.{write_through}
use Rattle.model.specs.State.{State, mapped, nowhere, no_line, is_cacheable, is_through, line_of}
use Rattle.model.specs.Read.{read_step}
use Rattle.model.specs.Write.{store, write_step}
use Rattle.model.specs.Valid.{Valid}
use Rattle.keeps.proofs.Core.{GuestData, core_of, valid_of, maps_here, mapped_page}
use Rattle.keeps.proofs.Parts.{guests_of, tlb_of, core_from}
use Rattle.keeps.proofs.Stores.{size_set, below_set, memory_part}
use Rattle.keeps.proofs.Sets.{looked?, found_full, line_is_law}
use Rattle.keeps.proofs.Present.{line_address_law, uncacheable_line}
use Rattle.keeps.proofs.Read.{read_step_valid, read_step_mapped}

-- ---- values

-- a value may stand in a data page of a guest and in a line that is not empty, under write-through in the page's line if it has one; where there is no
-- page or line, nothing changes
pub values_valid : {s : State} → Valid s → (q i x : ℕ) → (q < pages → GuestData s.shape q) → (i < lines → at s.shape.cache.line_page i ≢ 0)
    → (s.shape.policy ≡ write_through → (j p : ℕ) → j < lines → at s.shape.cache.line_page j ≡ suc p → (j ≡ i) ↔ (p ≡ q)) → x < value_bound
    → Valid (record { shape = s.shape; values = record { memory = set s.values.memory q x; line = set s.values.line i x } })
values_valid {s} v q i x known full one hx =
    let c = core_of v in
    valid_of
    (core_from (memory_part c q x known hx) (guests_of c)
    (record {
      line_address = c.sized.line_address;
      line_page = c.sized.line_page;
      history = c.sized.history;
      value = size_set s.values.line i x c.sized.line;
      rule7 = c.rule7;
      ranges =
          record {
            line_address = c.rule10.cache.line_address;
            line_page = c.rule10.cache.line_page;
            history = c.rule10.cache.history;
            empty = λ j hj e.
                let z = c.rule10.cache.empty j hj e in
                (z.0, at_other s.values.line i x j (λ w. full (omega arith) (ap (at s.shape.cache.line_page) (sym w) ∙ e)) ∙ z.1);
          };
      values = below_set s.values.line i x hx c.rule10.values.line;
    })
    (tlb_of c) (record { range = c.rule10.policy; rule11 = record { same = both } }))
    v.rule8 v.rule9
  where
    both : s.shape.policy ≡ write_through → (j p : ℕ) → j < lines → p < pages → at s.shape.cache.line_page j ≡ suc p
        → at (set s.values.line i x) j ≡ at (set s.values.memory q x) p
    both t j p hj hp e =
        let w = one t j p hj e in
        same? j i
        (λ a.
        let b = w.0 a in
        rw (a, b) (at_same s.values.line i x (omega (arith, v.sized.line)) ∙ sym (at_same s.values.memory q x (omega (arith, v.sized.memory)))))
        (λ n. at_other s.values.line i x j n ∙ v.rule11.same t j p hj hp e ∙ sym (at_other s.values.memory q x p (λ b. n (w.1 b))))

-- ---- the store

pub store_valid : {s : State} → Valid s → (va x : ℕ) → va < addresses → mapped s.shape va < pages → x < value_bound
    → Valid (store s va (mapped s.shape va) x)
unfolding store
store_valid {s} v va x hv hp hx =
    let p = mapped s.shape va in
    let d = mapped_page (core_of v) (maps_here (core_of v) va hv hp) in
    let c = is_cacheable s.shape p in
    let t = is_through s.shape in
    values_valid v (pick (c && not t) nowhere p) (pick c (line_of s.shape va p) no_line) x
    (pick_both (λ (q : ℕ). q < pages → GuestData s.shape q) (c && not t) (λ _ h. absurd (omega arith)) (λ _ h. d))
    (pick_both (λ (i : ℕ). i < lines → at s.shape.cache.line_page i ≢ 0) c
    (λ _. found_full s.shape va p) (λ _ h. absurd (omega arith)))
    (λ w j r hj e. rw (through c t (eq-eqb s.shape.policy write_through w)) (its_line hj e))
    hx
  where
    -- the line where the value goes is the one of the page, if it has one
    its_line : {j r : ℕ} → j < lines → at s.shape.cache.line_page j ≡ suc r
        → (j ≡ pick (is_cacheable s.shape (mapped s.shape va)) (line_of s.shape va (mapped s.shape va)) no_line) ↔ (r ≡ mapped s.shape va)
    its_line {j} {r} hj e =
        let c = core_of v in
        let p = mapped s.shape va in
        pick_both (λ (i : ℕ). (j ≡ i) ↔ (r ≡ p)) (is_cacheable s.shape p)
        (λ _. (
          (λ w. looked? s.shape va p (λ k. omega (arith, e, ap (at s.shape.cache.line_page) w, k.page)) (λ n _. absurd (omega arith))),
          (λ w. let a : at s.shape.cache.line_page j ≡ suc p = e ∙ ap suc w in sym (line_is_law c hj a (line_address_law c hj a (maps_here c va hv hp)))),
        ))
        (λ u. ((λ w. absurd (omega arith)), (λ w. absurd (uncacheable_line c j p u hj (e ∙ ap suc w)))))

    -- under write-through it goes to memory in either case
    through : (c t : Bool) → t ≡ true → pick (c && not t) nowhere (mapped s.shape va) ≡ mapped s.shape va
    through true t e = rw e
    through false t e = refl

-- ---- the write

pub write_step_valid : {s : State} → Valid s → (va x : ℕ) → va < addresses → reserved va ≡ false → mapped s.shape va < pages → x < value_bound
    → Valid (write_step s va (mapped s.shape va) x)
unfolding write_step
write_step_valid {s} v va x hv free hp hx =
    let e = read_step_mapped s va (mapped s.shape va) va in
    subst (λ (p : ℕ). Valid (store (read_step s va (mapped s.shape va)) va p x)) e
    (store_valid (read_step_valid v va hv free hp) va x hv (omega arith) hx)
