-- Slots of the TLB: the one that holds an address, and all of them emptied one by one.
-- Assumes nothing.
use mathlib.Core.Path.{◌≡◌, refl, ap, ◌∙◌, sym}
use mathlib.Core.List.{List}
use Prim.Native.Nat.{ℕ, zero, suc, ◌+◌, ◌≤◌, ◌<◌}
use native.Mathlib.Numerals.{add-one}
use native.Mathlib.Omega.{arith}
use lib.Dec.{eqb}
use lib.ListN.{length, set, replicate, length-set, length-replicate, get_or-replicate}
use lib.Seq.{ext_get_or, set_out}
use Rattle.laws.specs.Choice.{pick, at}
use Rattle.laws.proofs.Cases.{same?}
use Rattle.laws.proofs.Lists.{at_same, at_any}
use Rattle.model.specs.Sizes.{slots, slot_of}
use Rattle.model.specs.State.{State}
use Rattle.model.specs.Parts.{shaped, with_tlb, set_slot, forget, emptied}
use Rattle.model.specs.Valid.{Sized}
use Rattle.std.specs.Prelude.{Some, None}
use Rattle.cache.proofs.Found.{picked_none}

-- ---- the slot of an address

-- no slot is past the last
pub no_slot : (s : State) (a : ℕ) → Sized s → None ≡ pick (eqb (at s.shape.tlb.slot_address (slot_of a)) a) (Some (slot_of a)) None → s ≡ shaped s (forget s.shape a)
no_slot s a z f =
    let e = picked_none (eqb (at s.shape.tlb.slot_address (slot_of a)) a) (slot_of a) f in
    rw (
      e,
      set_out s.shape.tlb.slot_address slots 0 (omega (arith, z.slot_address)),
      set_out s.shape.tlb.slot_page slots 0 (omega (arith, z.slot_page)),
    )

-- ---- all slots, one by one

unfoldable pub zeroed : ℕ → List ℕ → List ℕ
zeroed zero l = l
zeroed (suc n) l = set (zeroed n l) n 0

-- the slots below n emptied
unfoldable pub emptied_below : ℕ → State → State
emptied_below n s =
    shaped s
    (with_tlb s.shape (record { slot_address = zeroed n s.shape.tlb.slot_address; slot_page = zeroed n s.shape.tlb.slot_page }))

pub emptied_none : (s : State) → s ≡ emptied_below 0 s
unfolding emptied_below zeroed
emptied_none s = refl

pub emptied_more : (n : ℕ) (s t u : State) → t ≡ emptied_below n s → u ≡ shaped t (set_slot t.shape n 0 0) → u ≡ emptied_below (n + 1) s
unfolding emptied_below zeroed
emptied_more n s t u e f = rw (f, e, add-one n)

zeroed_length : (n : ℕ) (l : List ℕ) → length (zeroed n l) ≡ length l
unfolding zeroed
zeroed_length zero l = refl
zeroed_length (suc n) l = length-set (zeroed n l) n 0 ∙ zeroed_length n l

zeroed_at : (n : ℕ) (l : List ℕ) → n ≤ length l → (j : ℕ) → j < n → at (zeroed n l) j ≡ 0
unfolding zeroed
zeroed_at zero l b j h = absurd (omega arith)
zeroed_at (suc n) l b j h =
    same? j n
    (λ e. ap (at (set (zeroed n l) n 0)) e ∙ at_same (zeroed n l) n 0 (omega (arith, zeroed_length n l)))
    (λ d. at_any (λ (x : ℕ). x ≡ 0) (zeroed n l) n 0 j refl (zeroed_at n l (omega arith) j (omega arith)))

zeroed_all : (n : ℕ) (l : List ℕ) → length l ≡ n → zeroed n l ≡ replicate n 0
zeroed_all n l e =
    ext_get_or 0 (zeroed n l) (replicate n 0) (zeroed_length n l ∙ e ∙ sym (length-replicate n 0))
    (λ j h.
    let b : j < n = omega (arith, zeroed_length n l) in
    zeroed_at n l (omega arith) j b ∙ sym (get_or-replicate n j 0 0 b))

pub emptied_all : (s : State) → Sized s → emptied_below slots s ≡ shaped s (emptied s.shape)
unfolding emptied_below
emptied_all s z = rw (zeroed_all slots s.shape.tlb.slot_address z.slot_address, zeroed_all slots s.shape.tlb.slot_page z.slot_page)
