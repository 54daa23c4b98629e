-- Two states are the same with g hidden if their values are alike and no other number differs but in the slot of the stealth address.
-- Assumes nothing.
use mathlib.Core.Path.{◌≡◌, refl, sym, ap, ap₂, ◌∙◌}
use mathlib.Core.Logic.{◌≢◌}
use mathlib.Core.List.{List}
use Prim.Native.Nat.{ℕ, ◌≤◌}
use native.Mathlib.Omega.{arith}
use lib.ListN.{length, set}
use lib.Seq.{set_out, ext_get_or}
use borrow.Author.Tests.{eq-eqb, ne_eqb}
use lib.Dec.{eqb}
use Rattle.laws.specs.Choice.{pick, at}
use Rattle.laws.specs.Search.{list_of}
use Rattle.laws.proofs.Cases.{same?, below?, pick_yes, pick_not}
use Rattle.laws.proofs.Lists.{at_past, at_other, length_list_of, get_or_list_of, list_of_same}
use Rattle.model.specs.Sizes.{pages, lines, slot_of, stealth}
use Rattle.model.specs.Names.{owner_guest}
use Rattle.model.specs.State.{Shape, Tlb, Values, State, lead}
use Rattle.model.specs.Parts.{with_tlb, emptied}
use Rattle.model.specs.Valid.{Sized}
use Rattle.keeps.proofs.Stores.{size_set}
use Rattle.secrecy.specs.Secrecy.{slot_hidden, hide}
use Rattle.secrecy.proofs.Alike.{Others, Alike, set_both}

-- ---- values

-- numbers of places, those of g's places hidden
abbrev veiled : ℕ → List ℕ → (ℕ → ℕ) → List ℕ → ℕ → ℕ
veiled g owner page l i = pick (eqb (at owner (page i)) (owner_guest g)) 0 (at l i)

-- where g has none, hidden is as it was
veiled_others : (g : ℕ) (owner : List ℕ) (page : ℕ → ℕ) (n : ℕ) (l : List ℕ) → length l ≡ n → (i : ℕ) → Others g owner (page i)
    → at l i ≡ at (list_of n (veiled g owner page l)) i
veiled_others g owner page n l e i o =
    below? i n (λ h. sym (get_or_list_of n (veiled g owner page l) 0 i h ∙ pick_not 0 (at l i) (ne_eqb (at owner (page i)) (owner_guest g) o)))
    (λ h. at_past l i (omega arith) ∙ sym (at_past (list_of n (veiled g owner page l)) i (omega (arith, length_list_of n (veiled g owner page l)))))

-- where numbers differ in g's places alone, the same is left
veiled_same : (g : ℕ) (owner : List ℕ) (page : ℕ → ℕ) (n : ℕ) (l m : List ℕ) → ((i : ℕ) → Others g owner (page i) → at l i ≡ at m i)
    → list_of n (veiled g owner page l) ≡ list_of n (veiled g owner page m)
veiled_same g owner page n l m h =
    list_of_same n 0
    (λ i _.
    same? (at owner (page i)) (owner_guest g) (λ e.
    let t = eq-eqb (at owner (page i)) (owner_guest g) e in
    pick_yes 0 (at l i) t ∙ sym (pick_yes 0 (at m i) t))
    (λ d.
    let t = ne_eqb (at owner (page i)) (owner_guest g) d in
    pick_not 0 (at l i) t ∙ h i d ∙ sym (pick_not 0 (at m i) t)))

-- what is left of a state's values is alike to them
pub hide_alike : (g : ℕ) (s : State) → Sized s → Alike g s.shape.pages.owner s.shape.cache.line_page s.values (hide g s).values
unfolding hide
hide_alike g s z =
    let owner = s.shape.pages.owner in
    let line_page = s.shape.cache.line_page in
    record {
      owned = z.owner;
      held = z.line_page ∙ sym z.line;
      memories = z.memory ∙ sym (length_list_of pages (veiled g owner (λ p. p) s.values.memory));
      same_lines = z.line ∙ sym (length_list_of lines (veiled g owner (λ i. lead (at line_page i)) s.values.line));
      memory = veiled_others g owner (λ p. p) pages s.values.memory z.memory;
      line = veiled_others g owner (λ i. lead (at line_page i)) lines s.values.line z.line;
    }

pub alike_refl : (g : ℕ) (s : State) → Sized s → Alike g s.shape.pages.owner s.shape.cache.line_page s.values s.values
alike_refl g s z =
    record { owned = z.owner; held = z.line_page ∙ sym z.line; memories = refl; same_lines = refl; memory = λ p n. refl; line = λ i n. refl }

-- ---- states

-- what is left of a shape but for its TLB, with a TLB and values
abbrev hide_as : ℕ → Shape → Tlb → Values → State
hide_as g h t v =
    record {
      shape = with_tlb h t;
      values =
          record {
            memory = list_of pages (veiled g h.pages.owner (λ p. p) v.memory);
            line = list_of lines (veiled g h.pages.owner (λ i. lead (at h.cache.line_page i)) v.line);
          };
    }

pub hide_same : {g : ℕ} (s t : State) → emptied s.shape ≡ emptied t.shape → slot_hidden s.shape.tlb ≡ slot_hidden t.shape.tlb
    → Alike g s.shape.pages.owner s.shape.cache.line_page s.values t.values → hide g s ≡ hide g t
unfolding hide
hide_same {g} s t e f a =
    let owner = s.shape.pages.owner in
    let line_page = s.shape.cache.line_page in
    ap₂ (λ (x y : List ℕ). whole s x y) (veiled_same g owner (λ p. p) pages s.values.memory t.values.memory a.memory)
    (veiled_same g owner (λ i. lead (at line_page i)) lines s.values.line t.values.line a.line)
    ∙ ap₂ (λ (h : Shape) (u : Tlb). hide_as g h u t.values) e f
  where
    whole : State → List ℕ → List ℕ → State
    whole s x y = record { shape = with_tlb s.shape (slot_hidden s.shape.tlb); values = record { memory = x; line = y } }

-- ---- slots

-- a store under a place that is hidden later
set_under : (l : List ℕ) (i x k : ℕ) → set (set l i x) k 0 ≡ set (set (set l k 0) i x) k 0
set_under l i x k =
    let n : length l ≡ length (set l k 0) = sym (size_set l k 0 refl) in
    let m : length (set l i x) ≡ length (set (set l k 0) i x) = size_set l i x n ∙ sym (size_set (set l k 0) i x refl) in
    ext_get_or 0 (set (set l i x) k 0) (set (set (set l k 0) i x) k 0) (size_set (set l i x) k 0 m ∙ sym (size_set (set (set l k 0) i x) k 0 refl))
    (λ j _. set_both (set l i x) (set (set l k 0) i x) k 0 0 j m (λ _ _. refl)
    (λ d. set_both l (set l k 0) i x x j n (λ _ _. refl) (λ _. sym (at_other l k 0 j d))))

-- the same is left of two lists after one store
under_same : (l m : List ℕ) (i x k : ℕ) → set l k 0 ≡ set m k 0 → set (set l i x) k 0 ≡ set (set m i x) k 0
under_same l m i x k e = set_under l i x k ∙ ap (λ (z : List ℕ). set (set z i x) k 0) e ∙ sym (set_under m i x k)

-- a store at that place is hidden
set_twice : (l : List ℕ) (k x : ℕ) → set (set l k x) k 0 ≡ set l k 0
set_twice l k x =
    ext_get_or 0 (set (set l k x) k 0) (set l k 0) (size_set (set l k x) k 0 (size_set l k x refl) ∙ sym (size_set l k 0 refl))
    (λ j _. set_both (set l k x) l k 0 0 j (size_set l k x refl) (λ _ _. refl) (λ d. at_other l k x j d))

abbrev with_slot : Tlb → ℕ → ℕ → ℕ → Tlb
with_slot t i va e = record { slot_address = set t.slot_address i va; slot_page = set t.slot_page i e }

abbrev as_tlb : List ℕ → List ℕ → Tlb
as_tlb x y = record { slot_address = x; slot_page = y }

module _ (t u : Tlb) (e : slot_hidden t ≡ slot_hidden u) where
  addresses_same : set t.slot_address (slot_of stealth) 0 ≡ set u.slot_address (slot_of stealth) 0
  addresses_same = ap (λ (x : Tlb). x.slot_address) e

  -- one pair in both
  pub slot_same : (i va p : ℕ) → slot_hidden (with_slot t i va p) ≡ slot_hidden (with_slot u i va p)
  slot_same i va p =
      ap₂ as_tlb (under_same t.slot_address u.slot_address i va (slot_of stealth) addresses_same)
      (under_same t.slot_page u.slot_page i p (slot_of stealth) (ap (λ (x : Tlb). x.slot_page) e))

  -- another slot than the hidden one has the same address in both
  pub address_same : (i : ℕ) → i ≢ slot_of stealth → at t.slot_address i ≡ at u.slot_address i
  address_same i n =
      sym (at_other t.slot_address (slot_of stealth) 0 i n) ∙ ap (λ (l : List ℕ). at l i) addresses_same ∙ at_other u.slot_address (slot_of stealth) 0 i n

  pub page_same : (i : ℕ) → i ≢ slot_of stealth → at t.slot_page i ≡ at u.slot_page i
  page_same i n =
      sym (at_other t.slot_page (slot_of stealth) 0 i n) ∙ ap (λ (x : Tlb). at x.slot_page i) e ∙ at_other u.slot_page (slot_of stealth) 0 i n

-- what is stored in the hidden slot is hidden
pub slot_hidden_law : (t : Tlb) (va p : ℕ) → slot_hidden (with_slot t (slot_of stealth) va p) ≡ slot_hidden t
slot_hidden_law t va p = ap₂ as_tlb (set_twice t.slot_address (slot_of stealth) va) (set_twice t.slot_page (slot_of stealth) p)

-- and what is stored in no slot is nowhere
pub slot_none : (t : Tlb) (i va p : ℕ) → length t.slot_address ≤ i → length t.slot_page ≤ i → with_slot t i va p ≡ t
slot_none t i va p h k = ap₂ as_tlb (set_out t.slot_address i va h) (set_out t.slot_page i p k)
