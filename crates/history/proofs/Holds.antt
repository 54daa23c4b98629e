-- What a page holds, through the parts of steps: no part but a store changes it, whatever lines come and go.
-- Assumes nothing.
use mathlib.Core.Path.{◌≡◌, sym, ap, ◌∙◌, subst}
use mathlib.Core.Bool.{true, ◌&&◌, not}
use mathlib.Core.Logic.{◌≢◌, ⊎_elim}
use mathlib.Core.List.{List}
use Prim.Native.Nat.{ℕ, suc, ◌<◌}
use native.Mathlib.Omega.{arith}
use lib.ListN.{length}
use borrow.Author.Tests.{lt-ltb}
use Rattle.laws.specs.Choice.{pick, at}
use Rattle.laws.proofs.Cases.{split, same?, below?, pick_both}
use Rattle.laws.proofs.Lists.{at_past, at_same, at_other, set_at'}
use Rattle.model.specs.Sizes.{pages, lines}
use Rattle.model.specs.State.{State, lead, nowhere, no_line, is_cacheable, is_through, line_of, line_of_page, present}
use Rattle.model.specs.Parts.{take_out, take_out_page, enter}
use Rattle.model.specs.Write.{store}
use Rattle.model.proofs.RuleTests.{lead_holds}
use Rattle.keeps.proofs.Core.{Core, lead_is}
use Rattle.keeps.proofs.Sets.{Key}
use Rattle.keeps.proofs.Lines.{Enters}
use Rattle.keeps.proofs.Share.{kept, left}
use Rattle.keeps.proofs.Present.{paged?, line_address_law, one_line, uncacheable_line}

-- every line of page p has the value x, and where it has none, memory has it
pub record Holds (memory line_page line : List ℕ) (p x : ℕ) : Type 0 where
  pub in_line : (i : ℕ) → i < lines → at line_page i ≡ suc p → at line i ≡ x
  pub in_memory : ((i : ℕ) → i < lines → at line_page i ≢ suc p) → at memory p ≡ x

abbrev pub HoldsIn : State → ℕ → ℕ → Type 0
HoldsIn s p x = Holds s.values.memory s.shape.cache.line_page s.values.line p x

-- ---- it is the present value

pub holds_present : (s : State) {p x : ℕ} → HoldsIn s p x → present s p ≡ x
unfolding present
holds_present s {p} h =
    paged? s.shape p (λ l e. rw (lt-ltb (line_of_page s.shape p) lines l) (h.in_line (line_of_page s.shape p) l e)) (λ z n. rw z (h.in_memory n))

pub present_holds : {s : State} → Core s → (p : ℕ) → HoldsIn s p (present s p)
unfolding present
present_holds {s} c p =
    record {
      in_line = λ i hi e. paged? s.shape p
          (λ l f. rw (lt-ltb (line_of_page s.shape p) lines l) (ap (at s.values.line) (one_line c i (line_of_page s.shape p) p hi l e f)))
          (λ z n. absurd (n i hi e));
      in_memory = λ n. paged? s.shape p (λ l f. absurd (n (line_of_page s.shape p) l f)) (λ z _. rw z);
    }

-- ---- lines taken out

pub take_out_holds : {s : State} → Core s → (i : ℕ) {p x : ℕ} → p < pages → HoldsIn s p x → HoldsIn (take_out s i) p x
unfolding take_out
take_out_holds {s} c i {p} {x} hp h =
    record {
      in_line = λ j hj e. ⊎_elim (λ w. absurd (omega (arith, w.1))) (λ w. at_other line i 0 j w.0 ∙ h.in_line j hj w.1) (set_at' page i 0 j p e);
      in_memory = λ n. same? (at page i) (suc p)
          (λ e. rw (lead_is (at page i) p hp e) (at_same memory p (at line i) (omega (arith, c.sized.memory)) ∙ h.in_line i (full e) e))
          (λ d. at_other memory (lead (at page i)) (at line i) p (other d) ∙ h.in_memory (λ j hj e. same? j i
          (λ w. d (ap (at page) (sym w) ∙ e)) (λ w. n j hj (at_other page i 0 j w ∙ e))));
    }
  where
    memory : List ℕ
    memory = s.values.memory

    page : List ℕ
    page = s.shape.cache.line_page

    line : List ℕ
    line = s.values.line

    full : at page i ≡ suc p → i < lines
    full e = below? i lines (λ b. b) (λ b. let z = at_past page i (omega (arith, c.sized.line_page)) in absurd (omega arith))

    other : at page i ≢ suc p → p ≢ lead (at page i)
    other d w = d (lead_holds (at page i) (omega arith) ∙ ap suc (sym w))

pub take_out_page_holds : (s : State) → length s.values.memory ≡ pages → (q : ℕ) {p x : ℕ} → p < pages → HoldsIn s p x → HoldsIn (take_out_page s q) p x
unfolding take_out_page
take_out_page_holds s size q {p} {x} hp h =
    record {
      in_line = λ j hj e.
          let d = left page q page j p hj e in
          kept page q s.values.line j hj (λ w. d.1 (omega (arith, d.0))) ∙ h.in_line j hj d.0;
      in_memory = λ n. same? p q
          (λ e. rw (← e) (at_same memory p (present s p) (omega arith) ∙ holds_present s h))
          (λ d. at_other memory q (present s q) p d ∙ h.in_memory (λ j hj e. n j hj (kept page q page j hj (λ w. d (omega arith)) ∙ e)));
    }
  where
    memory : List ℕ
    memory = s.values.memory

    page : List ℕ
    page = s.shape.cache.line_page

-- ---- a line that enters an empty place

-- a page that has a line there has no other
enters_alone : {s : State} → Core s → {i va q : ℕ} → Enters s.shape i va q → at s.shape.cache.line_page i ≡ 0
    → (j : ℕ) → j < lines → at s.shape.cache.line_page j ≢ suc q
enters_alone {s} c {i} n z j hj e =
    same? j i (λ w. omega (arith, ap (at s.shape.cache.line_page) w)) (λ w. n.new j hj w e (line_address_law c hj e n.maps))

pub alone_holds : {s : State} → Core s → {i q : ℕ} (va : ℕ) → i < lines → at s.shape.cache.line_page i ≡ 0
    → ((j : ℕ) → j < lines → at s.shape.cache.line_page j ≢ suc q) → {p x : ℕ} → HoldsIn s p x → HoldsIn (enter s i va q) p x
unfolding enter
alone_holds {s} c {i} {q} va hi z alone {p} {x} h =
    record {
      in_line = λ j hj e. ⊎_elim
          (λ w.
          let r : q ≡ p = omega (arith, w.1) in
          rw (w.0, at_same line i (at memory q) (omega (arith, c.sized.line)), r) (h.in_memory (subst (λ (y : ℕ). (j : ℕ) → j < lines → at page j ≢ suc y) r alone)))
          (λ w. at_other line i (at memory q) j w.0 ∙ h.in_line j hj w.1)
          (set_at' page i (suc q) j p e);
      in_memory = λ n. h.in_memory (λ j hj e. same? j i (λ w. omega (arith, ap (at page) w)) (λ w. n j hj (at_other page i (suc q) j w ∙ e)));
    }
  where
    memory : List ℕ
    memory = s.values.memory

    page : List ℕ
    page = s.shape.cache.line_page

    line : List ℕ
    line = s.values.line

pub enter_holds : {s : State} → Core s → {i va q : ℕ} → Enters s.shape i va q → at s.shape.cache.line_page i ≡ 0
    → {p x : ℕ} → HoldsIn s p x → HoldsIn (enter s i va q) p x
enter_holds c {va = va} n z h = alone_holds c va n.place z (enters_alone c n z) h

-- ---- a value stored

module _ {s : State} (c : Core s) (va v : ℕ) {q : ℕ} (hq : q < pages) (cached : is_cacheable s.shape q ≡ true → Key s.shape va q (line_of s.shape va q)) where
  -- the page that it is stored to holds it
  pub store_holds : HoldsIn (store s va q v) q v
  unfolding store
  store_holds =
      split (is_cacheable s.shape q)
      (λ e.
      let k = cached e in
      let i = line_of s.shape va q in
      rw e
      (record {
        in_line = λ j hj f. rw (one_line c j i q hj k.line f k.page) (at_same s.values.line i v (omega (arith, k.line, c.sized.line)));
        in_memory = λ n. absurd (n i k.line k.page);
      }))
      (λ e. rw e
      (record {
        in_line = λ j hj f. absurd (uncacheable_line c j q e hj f);
        in_memory = λ n. at_same s.values.memory q v (omega (arith, c.sized.memory));
      }))

  -- the others hold what they held
  pub store_other : {p x : ℕ} → p < pages → p ≢ q → HoldsIn s p x → HoldsIn (store s va q v) p x
  unfolding store
  store_other {p} hp d h =
      let c = is_cacheable s.shape q in
      let t = is_through s.shape in
      record {
        in_line = λ j hj f.
            at_other s.values.line (pick c (line_of s.shape va q) no_line) v j
            (pick_both (λ (i : ℕ). j ≢ i) c (λ e w. d (omega (arith, f, (cached e).page, ap (at s.shape.cache.line_page) w))) (λ _ w. omega arith))
            ∙ h.in_line j hj f;
        in_memory = λ n.
            at_other s.values.memory (pick (c && not t) nowhere q) v p (pick_both (λ (y : ℕ). p ≢ y) (c && not t) (λ _ w. omega arith) (λ _. d))
            ∙ h.in_memory n;
      }
