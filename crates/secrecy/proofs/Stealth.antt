-- What the active guest reads and writes at the stealth address leaves all but its values and the slot of that address: it hits way 0 of set 7, whose
-- history stays.
-- Assumes nothing.
use mathlib.Core.Path.{◌≡◌, refl, sym, ap, ◌∙◌}
use mathlib.Core.Bool.{false}
use mathlib.Core.Logic.{◌≢◌}
use mathlib.Core.List.{List}
use Prim.Native.Nat.{ℕ, suc, ◌<◌}
use native.Mathlib.Omega.{arith}
use lib.Seq.{set_out, ext_get_or}
use Rattle.laws.specs.Choice.{pick, at}
use Rattle.laws.proofs.Cases.{same?, pick_both}
use Rattle.laws.proofs.Lists.{at_past, at_other}
use Rattle.model.specs.Sizes.{pages, sets, stealth, stealth_set, reserved}
use Rattle.model.specs.State.{State, hit_way, lead, active, mapped, is_cacheable, no_line, nowhere, stealth_line}
use Rattle.model.specs.Parts.{shaped, with_cache, translate, take_out, enter}
use Rattle.model.specs.Read.{miss_line, access_history, read_step}
use Rattle.model.specs.Write.{store, write_step}
use Rattle.model.specs.Valid.{Valid}
use Rattle.keeps.proofs.Core.{Core, core_of}
use Rattle.keeps.proofs.Lines.{enter_none}
use Rattle.keeps.proofs.Sets.{filled?, access_history_size, access_history_begun}
use Rattle.keeps.proofs.Read.{stealth_hits}
use Rattle.secrecy.specs.Secrecy.{hide}
use Rattle.secrecy.proofs.Hide.{alike_refl, hide_same, slot_hidden_law}
use Rattle.secrecy.proofs.Steps.{own_store}

-- no line: nothing is taken out
take_out_none : {s : State} → Core s → take_out s no_line ≡ s
unfolding take_out
take_out_none {s} c =
    let e : lead (at s.shape.cache.line_page no_line) ≡ nowhere = ap lead (at_past s.shape.cache.line_page no_line (omega (arith, c.sized.line_page))) in
    rw (
      set_out s.shape.cache.line_address no_line 0 (omega (arith, c.sized.line_address)),
      set_out s.shape.cache.line_page no_line 0 (omega (arith, c.sized.line_page)),
      set_out s.values.line no_line 0 (omega (arith, c.sized.line)),
      e,
      set_out s.values.memory nowhere (at s.values.line no_line) (omega (arith, c.sized.memory)),
    )

module _ {s : State} (v : Valid s) (hp : mapped s.shape stealth < pages) where
  open_address : reserved stealth ≡ false
  open_address = refl

  no_miss : miss_line s.shape stealth (mapped s.shape stealth) ≡ no_line
  no_miss =
      filled? s.shape stealth (mapped s.shape stealth) v.rule10.cache.history (λ e. e)
      (λ f. absurd (f.missed stealth_line (stealth_hits v stealth (omega arith) open_address hp refl)))

  same_history : (access_history s.shape stealth (mapped s.shape stealth)).cache.history ≡ s.shape.cache.history
  unfolding access_history
  same_history =
      let h = s.shape in
      let p = mapped h stealth in
      ext_get_or 0 (access_history h stealth p).cache.history h.cache.history (access_history_size h stealth p v.sized.history ∙ sym v.sized.history)
      (λ k b.
      same? k stealth_set
      (λ e. rw e (access_history_begun h stealth p (stealth_hits v stealth (omega arith) open_address hp) v.rule9.begun ∙ sym v.rule9.begun))
      (λ n. at_other h.cache.history (pick (is_cacheable h p) stealth_set sets) _ k
      (pick_both (λ (x : ℕ). k ≢ x) (is_cacheable h p) (λ _. n) (λ _. omega (arith, access_history_size h stealth p v.sized.history)))))

  -- a read changes the slot alone
  read_slot : read_step s stealth (mapped s.shape stealth) ≡ shaped s (translate s.shape stealth (mapped s.shape stealth))
  unfolding read_step access_history
  read_slot =
      let h = s.shape in
      let p = mapped h stealth in
      ap (λ (i : ℕ). finished (enter (take_out (shaped s (access_history h stealth p)) i) i stealth p)) no_miss
      ∙ ap (λ (l : List ℕ). finished (enter (take_out (shaped s (with_cache h (record { line_address = h.cache.line_address; line_page = h.cache.line_page; history = l }))) no_line) no_line stealth p)) same_history
      ∙ ap finished (ap (λ (t : State). enter t no_line stealth p) (take_out_none (core_of v)) ∙ enter_none (core_of v) stealth p)
    where
      finished : State → State
      finished t = shaped t (translate t.shape stealth (mapped s.shape stealth))

  pub read_hidden : (g : ℕ) → hide g (read_step s stealth (mapped s.shape stealth)) ≡ hide g s
  read_hidden g =
      let p = mapped s.shape stealth in
      ap (hide g) read_slot
      ∙ hide_same (shaped s (translate s.shape stealth p)) s refl (slot_hidden_law s.shape.tlb stealth (suc p)) (alike_refl g s v.sized)

  pub write_hidden : {g : ℕ} → active s.shape ≡ g → (x : ℕ) → hide g (write_step s stealth (mapped s.shape stealth) x) ≡ hide g s
  unfolding hit_way store write_step
  write_hidden {g} e x =
      let p = mapped s.shape stealth in
      ap (λ (t : State). hide g (store t stealth p x)) read_slot
      ∙ hide_same (store (shaped s (translate s.shape stealth p)) stealth p x) s refl (slot_hidden_law s.shape.tlb stealth (suc p))
      (own_store v e stealth x (omega arith) hp (alike_refl g s v.sized))
