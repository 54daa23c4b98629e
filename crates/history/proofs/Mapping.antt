-- new, new_sm and del: the table in force leads elsewhere from an address, and every page holds what it held, though lines are taken out and enter.
-- Assumes nothing.
use mathlib.Core.Path.{◌≡◌, refl, sym, ap, ◌∙◌}
use mathlib.Core.Logic.{◌≢◌, ◌↔◌}
use mathlib.Core.Option.{none, some, some-injective, none-ne-some}
use Prim.Native.Nat.{ℕ, suc, ◌<◌}
use native.Mathlib.Omega.{arith}
use lib.ListN.{length}
use Rattle.laws.specs.Choice.{pick, at}
use Rattle.model.specs.Sizes.{physicals, pages, addresses, lines, stealth, set_of}
use Rattle.model.specs.State.{State, active, table, here, nowhere}
use Rattle.model.specs.Parts.{shaped, set_entry, forget, take_out, take_out_page, enter}
use Rattle.model.specs.New.{old_line, is_shared, share, new_step}
use Rattle.model.specs.NewSm.{new_sm_step}
use Rattle.model.specs.Del.{del_step}
use Rattle.model.specs.Valid.{Valid}
use Rattle.keeps.specs.Allowed.{MapsTo, Leads}
use Rattle.keeps.proofs.Core.{core_of, here_owned, leads_maps}
use Rattle.keeps.proofs.Lines.{take_out_core}
use Rattle.keeps.proofs.Stealth.{Unloaded, line_empty}
use Rattle.history.specs.Past.{Book}
use Rattle.history.specs.Agrees.{Has, Agrees}
use Rattle.history.proofs.Holds.{HoldsIn, holds_present, take_out_holds, take_out_page_holds, alone_holds}
use Rattle.history.proofs.Charts.{has_page, has_once, entry_chart, relinked}
use Rattle.history.proofs.Access.{value_holds}

share_holds : (s : State) → length s.values.memory ≡ pages → (va p : ℕ) {q x : ℕ} → q < pages → HoldsIn s q x → HoldsIn (share s va p) q x
unfolding share
share_holds s size va p hq h = take_out_page_holds s size (pick (is_shared s.shape va p) p nowhere) hq h

module _ {s : State} (v : Valid s) {b : Book} (a : Agrees s b) where
  -- the active guest's page at pa, and no other of its addresses
  leads_to_law : (pa : ℕ) → pa < physicals → here s.shape pa < pages → (qa : ℕ)
      → (some pa ≡ some qa) ↔ ((p : ℕ) × (suc (here s.shape pa) ≡ suc p) × Has s.shape.pages.physical (active s.shape) qa p)
  leads_to_law pa ha hp qa =
      let c = core_of v in
      let h : Has s.shape.pages.physical (active s.shape) pa (here s.shape pa) =
      record { guest = c.rule10.guests.active; address = ha; holds = (here_owned c pa ha hp).0 } in (
        (λ e. (here s.shape pa, refl, rw (← (some-injective pa qa e)) h)),
        λ w. let e : w.0 ≡ here s.shape pa = omega (arith, w.1) in ap some (has_once c h (rw e at w.2)).1,
      )

  leads_none : (qa : ℕ) → (none ≡ some qa) ↔ ((p : ℕ) × (0 ≡ suc p) × Has s.shape.pages.physical (active s.shape) qa p)
  leads_none qa = ((λ e. absurd (none-ne-some qa e)), λ w. absurd (omega (arith, w.1)))

  pub del_agrees : (va : ℕ) → va < addresses → Agrees (del_step s va) (relinked b va none)
  unfolding del_step take_out table
  del_agrees va hv =
      let c = core_of v in
      record {
        chart = entry_chart c a.chart va 0 none hv leads_none;
        value = λ g qa p h d. holds_present (del_step s va) (take_out_holds c (old_line s.shape va) (has_page c h) (value_holds v a h d));
      }

  pub new_agrees : (va pa : ℕ) → va < addresses → pa < physicals → here s.shape pa < pages
      → Agrees (new_step s va (here s.shape pa)) (relinked b va (some pa))
  unfolding new_step share take_out_page take_out table
  new_agrees va pa hv ha hp =
      let c = core_of v in
      let p = here s.shape pa in
      let t = take_out s (old_line s.shape va) in
      let u = shaped t (forget (set_entry t.shape (table t.shape) va (suc p)) va) in
      let size = (take_out_core c (old_line s.shape va)).sized.memory in
      record {
        chart = entry_chart c a.chart va (suc p) (some pa) hv (leads_to_law pa ha hp);
        value = λ g qa q h d. holds_present (new_step s va p)
            (share_holds u size va p (has_page c h) (take_out_holds c (old_line s.shape va) (has_page c h) (value_holds v a h d)));
      }

  -- the page's lines would lie in the stealth set, which is empty
  pub new_sm_agrees : (pa : ℕ) → pa < physicals → here s.shape pa < pages → ((va : ℕ) → MapsTo s.shape va (here s.shape pa) → va ≡ stealth)
      → ((p : ℕ) → p < pages → Leads s.shape stealth p → ⊥) → Agrees (new_sm_step s (here s.shape pa)) (relinked b stealth (some pa))
  unfolding new_sm_step enter table
  new_sm_agrees pa ha hp only unmapped =
      let c = core_of v in
      let p = here s.shape pa in
      record {
        chart = entry_chart c a.chart stealth (suc p) (some pa) (omega arith) (leads_to_law pa ha hp);
        value = λ g qa q h d. holds_present (new_sm_step s p) (alone_holds c stealth (omega arith) unloaded.empty alone (value_holds v a h d));
      }
    where
      unloaded : Unloaded s.shape.cache
      unloaded =
          record {
            empty = v.rule9.empty (λ p l. unmapped p l.page (leads_maps (core_of v) (omega arith) l));
            alone = v.rule9.alone;
            begun = v.rule9.begun;
          }

      alone : (j : ℕ) → j < lines → at s.shape.cache.line_page j ≢ suc (here s.shape pa)
      alone j hj e =
          let l = v.rule7.line j (here s.shape pa) hj e in
          let z = line_empty (core_of v) unloaded j (sym l.in_set ∙ ap set_of (only (at s.shape.cache.line_address j) l.mapped)) in
          omega arith
