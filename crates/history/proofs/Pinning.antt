-- pin and unpin: a page changes hands at one of the active guest's physical addresses. A page newly pinned holds 0; the others hold what they held.
-- Assumes nothing.
use mathlib.Core.Path.{◌≡◌, refl, sym, ap, ◌∙◌}
use mathlib.Core.Bool.{true, false, ◌&&◌}
use mathlib.Core.Logic.Iff
use mathlib.Core.Logic.{◌≢◌, ◌↔◌, ⊎_elim}
use mathlib.Core.Option.{Option, none, some, none-ne-some}
use Prim.Native.Nat.{ℕ, suc, ◌+◌, ◌*◌, ◌<◌}
use native.Mathlib.Omega.{arith}
use lib.Dec.{eqb}
use borrow.Author.Tests.{ne_eqb}
use Rattle.laws.specs.Choice.{pick, at}
use Rattle.laws.specs.Bits.{bit, marked, unmarked}
use Rattle.laws.proofs.Cases.{split, same?, pick_yes, pick_not}
use Rattle.laws.proofs.Tests.{not_so}
use Rattle.laws.proofs.Lists.{at_same, at_other}
use Rattle.model.specs.Sizes.{guests, physicals, pages, addresses, pin_kinds}
use Rattle.model.specs.Names.{owner_none, owner_guest, kind_none, kind_data, kind_table}
use Rattle.model.specs.State.{State, active}
use Rattle.model.specs.Pin.{pin_step}
use Rattle.model.specs.Unpin.{unpin_step}
use Rattle.model.specs.Rules.{Maps}
use Rattle.model.specs.Valid.{Valid}
use Rattle.keeps.proofs.Core.{Core, core_of}
use Rattle.keeps.proofs.Handover.{Idle, handed}
use Rattle.keeps.proofs.Pin.{free_idle}
use Rattle.keeps.proofs.Unpin.{given_idle}
use Rattle.history.specs.Past.{Book}
use Rattle.history.specs.Agrees.{Has, Agrees}
use Rattle.history.proofs.Holds.{HoldsIn, holds_present}
use Rattle.history.proofs.Charts.{has_after, place⇔, valued, valued_chart}
use Rattle.history.proofs.Handover.{rekinded, idle_unlinked, handed_chart}
use Rattle.history.proofs.Access.{value_holds}

-- ---- what pages hold

module _ {s : State} (c : Core s) {p i : ℕ} (n : Idle s p i) (o k e f : ℕ) where
  -- another page than the one handed over holds what it held
  handed_other : {q x : ℕ} → q ≢ p → HoldsIn s q x → HoldsIn (handed s p i o k e f) q x
  handed_other {q} d h = record { in_line = h.in_line; in_memory = λ m. at_other s.values.memory p 0 q d ∙ h.in_memory m }

  -- and that page, which no table maps, has no line and holds 0
  handed_zero : HoldsIn (handed s p i o k e f) p 0
  handed_zero =
      record {
        in_line = λ j hj w. let l = (c.rule7.line j p hj w).mapped in absurd (n.unmapped l.0 (at s.shape.cache.line_address j) l.1);
        in_memory = λ m. at_same s.values.memory p 0 (omega (arith, n.page, c.sized.memory));
      }

module _ {s : State} (v : Valid s) {b : Book} (a : Agrees s b) (pa p : ℕ) (ha : pa < physicals) (hp : p < pages) where
  abbrev spot : ℕ
  spot = physicals * active s.shape + pa

  -- the book's test for the place, and the place
  here : (g qa : ℕ) → g ≡ active s.shape → qa ≡ pa → (eqb g b.active && eqb qa pa) ≡ true
  here g qa u w = (place⇔ g b.active qa pa).1 (u ∙ sym a.chart.active, w)

  elsewhere : (g qa : ℕ) → physicals * g + qa ≢ spot → (eqb g b.active && eqb qa pa) ≡ false
  elsewhere g qa d = not_so (place⇔ g b.active qa pa) (λ w. d (omega (arith, w.0, w.1, a.chart.active)))

  -- a page at another place is another
  other : Idle s p spot → {g qa q : ℕ} → Has s.shape.pages.physical g qa q → physicals * g + qa ≢ spot → q ≢ p
  other n {g} {qa} h d e = d (n.only g qa h.guest h.address (h.holds ∙ ap suc e))

  -- ---- pin

  -- what the book says after it
  abbrev bare : ℕ → ℕ → ℕ → Option ℕ
  bare g pt va = pick (eqb g b.active && eqb pt pa) none (b.link g pt va)

  abbrev clean : ℕ → ℕ → ℕ
  clean g qa = pick (eqb g b.active && eqb qa pa) 0 (b.value g qa)

  abbrev kind_pinned : ℕ → ℕ
  kind_pinned k = pick (eqb k 0) kind_data kind_table

  kind_pinned_law : (k : ℕ) → k < pin_kinds → kind_pinned k ≡ suc k
  kind_pinned_law k h = same? k 0 (λ e. rw e) (λ d. pick_not kind_data kind_table (ne_eqb k 0 d) ∙ omega arith)

  -- nothing led anywhere from there
  bare_same : Idle s p spot → (g pt va q : ℕ) → g < guests → pt < physicals → va < addresses → (bare g pt va ≡ some q) ↔ (b.link g pt va ≡ some q)
  bare_same n g pt va q hg ht hv =
      split (eqb g b.active && eqb pt pa)
      (λ t.
      let w = (place⇔ g b.active pt pa).0 t in
      rw t (
        (λ e. absurd (none-ne-some q e)),
        λ e.
            absurd (idle_unlinked (core_of v) a.chart ha n va q hv (ap (λ (x : ℕ). b.link x pa va) (sym (w.0 ∙ a.chart.active)) ∙ rw w.1 at e)),
      ))
      (λ t. rw t Iff.rfl)

  pub pin_agrees : (k : ℕ) → k < pin_kinds → bit s.shape.pages.free p ≡ 1 → at s.shape.pages.physical spot ≡ 0
      → Agrees (pin_step s pa k p) (valued (rekinded b pa (kind_pinned k) bare) clean)
  unfolding pin_step
  pin_agrees k hk isFree empty =
      let c = core_of v in
      let n = free_idle c ha hp isFree empty in
      record {
        chart = rw (kind_pinned_law k hk)
            (valued_chart clean (handed_chart c a.chart ha n (λ q e. omega arith) (λ e. absurd (omega arith)) (bare_same n)));
        value = λ g qa q h d. ⊎_elim
            (λ w.
            let e : q ≡ p = omega (arith, w.2) in
            rw e (holds_present (pin_step s pa k p) (handed_zero c n (owner_guest (active s.shape)) (suc k) (suc p) (unmarked s.shape.pages.free p)))
            ∙ sym (pick_yes 0 (b.value g qa) (here g qa w.0 w.1)))
            (λ w.
            let r = other n w.1 w.0 in
            holds_present (pin_step s pa k p)
            (handed_other c n (owner_guest (active s.shape)) (suc k) (suc p) (unmarked s.shape.pages.free p) r
            (value_holds v a w.1 (sym (at_other s.shape.pages.kind p (suc k) q r) ∙ d)))
            ∙ sym (pick_not 0 (b.value g qa) (elsewhere g qa w.0)))
            (has_after s.shape.pages.physical (active s.shape) ha h);
      }

  -- ---- unpin

  pub unpin_agrees : at s.shape.pages.physical spot ≡ suc p → pa ≢ at s.shape.guests.current (active s.shape)
      → ((va : ℕ) → va < addresses → at s.shape.pages.entry (addresses * p + va) ≡ 0)
      → ((m va : ℕ) → Maps s.shape.pages.kind s.shape.pages.entry m va p → ⊥)
      → Agrees (unpin_step s pa p) (rekinded b pa kind_none b.link)
  unfolding unpin_step
  unpin_agrees registered not_current no_entries unmapped =
      let c = core_of v in
      let n = given_idle c ha hp registered not_current no_entries unmapped in
      record {
        chart = handed_chart c a.chart ha n (λ q e. absurd (omega arith)) (λ e. refl) (λ g pt va q hg ht hv. Iff.rfl);
        value = λ g qa q h d. ⊎_elim (λ w. absurd (omega (arith, w.2)))
            (λ w.
            let r = other n w.1 w.0 in
            holds_present (unpin_step s pa p)
            (handed_other c n owner_none kind_none 0 (marked s.shape.pages.free p) r
            (value_holds v a w.1 (sym (at_other s.shape.pages.kind p kind_none q r) ∙ d))))
            (has_after s.shape.pages.physical (active s.shape) ha h);
      }
