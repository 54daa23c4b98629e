-- Two states whose lists have their sizes are the same with g hidden exactly if they look the same beside g: `hide` drops nothing else, and nothing less.
-- Assumes nothing.
use mathlib.Core.Path.{◌≡◌, refl, sym, ap, ap₂, ◌∙◌, subst}
use mathlib.Core.Logic.{◌≢◌, ◌↔◌}
use mathlib.Core.List.{List}
use Prim.Native.Nat.{ℕ}
use lib.ListN.{length, set}
use lib.Seq.{ext_get_or}
use Rattle.laws.specs.Choice.{at}
use Rattle.model.specs.Sizes.{slot_of, stealth}
use Rattle.model.specs.Names.{owner_guest}
use Rattle.model.specs.State.{Cache, State, lead, line_of_page, present}
use Rattle.model.specs.Parts.{with_cache}
use Rattle.model.proofs.Shape.{filled}
use Rattle.model.specs.Fresh.{empty_tlb}
use Rattle.model.specs.Valid.{Sized}
use Rattle.keeps.proofs.Stores.{size_set}
use Rattle.secrecy.specs.Secrecy.{slot_hidden, hide}
use Rattle.secrecy.specs.Looks.{LooksSame}
use Rattle.secrecy.proofs.Alike.{Alike, set_both, present_alike}
use Rattle.secrecy.proofs.Hide.{hide_alike, hide_same, address_same, page_same}

module _ (g : ℕ) (s t : State) (z : Sized s) (y : Sized t) where
  hide_looks : hide g s ≡ hide g t → LooksSame g s t
  unfolding hide
  hide_looks e =
      let a = hide_alike g s z in
      let b = hide_alike g t y in
      let slots : slot_hidden s.shape.tlb ≡ slot_hidden t.shape.tlb = ap (λ (u : State). u.shape.tlb) e in
      let owner : s.shape.pages.owner ≡ t.shape.pages.owner = ap (λ (u : State). u.shape.pages.owner) e in
      let held : s.shape.cache.line_page ≡ t.shape.cache.line_page = ap (λ (u : State). u.shape.cache.line_page) e in
      record {
        pages = ap (λ (u : State). u.shape.pages) e;
        guests = ap (λ (u : State). u.shape.guests) e;
        cache = ap (λ (u : State). u.shape.cache) e;
        policy = ap (λ (u : State). u.shape.policy) e;
        slot_address = address_same s.shape.tlb t.shape.tlb slots;
        slot_page = page_same s.shape.tlb t.shape.tlb slots;
        memory = λ p n.
            a.memory p n ∙ ap (λ (u : State). at u.values.memory p) e
            ∙ sym (b.memory p (subst (λ (l : List ℕ). at l p ≢ owner_guest g) owner n));
        line = λ i n.
            a.line i n ∙ ap (λ (u : State). at u.values.line i) e
            ∙ sym (b.line i (subst (λ (u : State). at u.shape.pages.owner (lead (at u.shape.cache.line_page i)) ≢ owner_guest g) e n));
      }

  looks_alike : LooksSame g s t → Alike g s.shape.pages.owner s.shape.cache.line_page s.values t.values
  looks_alike l =
      record {
        owned = z.owner;
        held = z.line_page ∙ sym z.line;
        memories = z.memory ∙ sym y.memory;
        same_lines = z.line ∙ sym y.line;
        memory = l.memory;
        line = l.line;
      }

  -- the hidden slot is 0 in both
  slots_hidden : (l m : List ℕ) → length l ≡ length m → ((i : ℕ) → i ≢ slot_of stealth → at l i ≡ at m i) → set l (slot_of stealth) 0 ≡ set m (slot_of stealth) 0
  slots_hidden l m n h =
      ext_get_or 0 (set l (slot_of stealth) 0) (set m (slot_of stealth) 0) (size_set l (slot_of stealth) 0 n ∙ sym (size_set m (slot_of stealth) 0 refl))
      (λ i _. set_both l m (slot_of stealth) 0 0 i n (λ _ _. refl) (h i))

  looks_hidden : LooksSame g s t → hide g s ≡ hide g t
  looks_hidden l =
      hide_same s t
      (λ i. record { pages = l.pages i; guests = l.guests i; cache = l.cache i; tlb = empty_tlb; policy = l.policy i })
      (ap₂ (λ (x y : List ℕ). record { slot_address = x; slot_page = y })
      (slots_hidden s.shape.tlb.slot_address t.shape.tlb.slot_address (z.slot_address ∙ sym y.slot_address) l.slot_address)
      (slots_hidden s.shape.tlb.slot_page t.shape.tlb.slot_page (z.slot_page ∙ sym y.slot_page) l.slot_page))
      (looks_alike l)

  pub hide↔ : (hide g s ≡ hide g t) ↔ LooksSame g s t
  hide↔ = (hide_looks, looks_hidden)

-- so pages that are not g's have the same present values
pub looks_present : (g : ℕ) (s t : State) → Sized s → Sized t → LooksSame g s t → (p : ℕ) → at s.shape.pages.owner p ≢ owner_guest g
    → present s p ≡ present t p
unfolding line_of_page present
looks_present g s t z y l p n =
    present_alike s.shape (looks_alike g s t z y l) p n ∙ ap (λ (c : Cache). present (filled (with_cache s.shape c) t.values) p) l.cache
