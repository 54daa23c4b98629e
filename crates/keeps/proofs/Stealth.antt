-- On a change of the table in force the stealth line is saved and then loaded: in between the stealth set is empty, and rules 8 and 9 are left out.
-- Assumes nothing.
use mathlib.Core.Path.{◌≡◌, refl, sym, ap, ◌∙◌}
use Prim.Native.Nat.{ℕ, suc, ◌/◌, ◌≤◌, ◌<◌}
use native.Mathlib.Omega.{arith}
use lib.ListN.{set}
use borrow.Author.Tests.{lt-ltb, le-ltb}
use Rattle.laws.specs.Choice.{at}
use Rattle.laws.proofs.Cases.{same?, below?}
use Rattle.laws.proofs.Lists.{at_same, at_other, at_any}
use Rattle.model.specs.Sizes.{pages, ways, stealth, stealth_set, set_of}
use Rattle.model.specs.State.{Cache, State, line_at, stealth_line, mapped, table}
use Rattle.model.specs.History.{start}
use Rattle.model.specs.Parts.{shaped, emptied, take_out, enter, save_stealth, load_stealth}
use Rattle.model.specs.Rules.{Leads}
use Rattle.model.specs.Valid.{Valid}
use Rattle.keeps.proofs.Core.{Core, Nine, core_of, valid_of, mapped_is, leads_here, leads_maps}
use Rattle.keeps.proofs.Sets.{each_way}
use Rattle.keeps.proofs.Lines.{Enters, take_out_core, enter_core, enter_none}
use Rattle.keeps.proofs.Tlb.{emptied_core, emptied_eight}

-- the stealth set is empty and its history at its start, whatever table is in force
pub record Unloaded (c : Cache) : Type 0 where
  pub empty : at c.line_page stealth_line ≡ 0
  pub alone : (w : ℕ) → 1 ≤ w → w < ways → at c.line_page (line_at stealth_set w) ≡ 0
  pub begun : at c.history stealth_set ≡ start

-- ---- saved

-- a line is taken out, and with it the stealth line goes
pub taken_out : {s : State} → Valid s → (i : ℕ) → at (set s.shape.cache.line_page i 0) stealth_line ≡ 0 → Unloaded (take_out s i).shape.cache
unfolding take_out
taken_out {s} v i e =
    record {
      empty = e;
      alone = λ w lo hi. at_any (λ (x : ℕ). x ≡ 0) s.shape.cache.line_page i 0 (line_at stealth_set w) refl (v.rule9.alone w lo hi);
      begun = v.rule9.begun;
    }

pub saved : {s : State} → Valid s → Unloaded (save_stealth s).shape.cache
saved {s} v = taken_out v stealth_line (at_same s.shape.cache.line_page stealth_line 0 (omega (arith, v.sized.line_page)))

pub saved_core : {s : State} → Valid s → Core (save_stealth s)
saved_core v = take_out_core (core_of v) stealth_line

-- ---- the line enters

module _ {s : State} (c : Core s) (u : Unloaded s.shape.cache) where
  -- a line of the stealth set is empty, however its place is given
  pub line_empty : (i : ℕ) → i / ways ≡ stealth_set → at s.shape.cache.line_page i ≡ 0
  line_empty =
      each_way (λ (i : ℕ). at s.shape.cache.line_page i ≡ 0) stealth_set
      (λ w h. same? w 0 (λ z. ap (λ (x : ℕ). at s.shape.cache.line_page (line_at stealth_set x)) z ∙ u.empty) (λ n. u.alone w (omega arith) h))

  module _ {p : ℕ} (l : Leads s.shape.pages.entry (table s.shape) stealth p) where
    -- a line with the key would lie in the stealth set
    pub enters : Enters s.shape stealth_line stealth p
    enters =
        let m = leads_maps c (omega arith) l in
        record {
          place = omega arith;
          in_set = refl;
          is_cacheable = c.rule6.stealthy p (table s.shape) l.page m;
          table = table s.shape;
          maps = m;
          new = λ j hj n e a. omega (arith, line_empty j (sym (c.rule7.line j p hj e).in_set ∙ ap set_of a));
        }

    pub line_core : Core (enter s stealth_line stealth p)
    line_core = enter_core c enters

    pub line_nine : Nine (enter s stealth_line stealth p).shape
    unfolding enter table
    line_nine =
        let address_of = s.shape.cache.line_address in
        let page_of = s.shape.cache.line_page in
        record {
          held = λ q k. (
            at_same page_of stealth_line (suc p) (omega (arith, c.sized.line_page)) ∙ sym l.holds ∙ k.holds,
            at_same address_of stealth_line stealth (omega (arith, c.sized.line_address)),
          );
          empty = λ n. absurd (n p l);
          alone = λ w k h. at_other page_of stealth_line (suc p) (line_at stealth_set w) (omega arith) ∙ u.alone w k h;
          begun = u.begun;
        }

  -- if the table in force leads nowhere from the stealth address, the set stays as it is
  pub none_nine : pages ≤ mapped s.shape stealth → Nine s.shape
  none_nine h =
      record {
        held = λ p k. absurd (omega (arith, k.page, mapped_is s.shape stealth p k.page k.holds));
        empty = λ n. u.empty;
        alone = u.alone;
        begun = u.begun;
      }

-- ---- loaded

emptied_valid : {s : State} → Core s → Nine s.shape → Valid (shaped s (emptied s.shape))
unfolding table
emptied_valid {s} c n = valid_of (emptied_core c) (emptied_eight s.shape) n

pub loaded : {s : State} → Core s → Unloaded s.shape.cache → Valid (load_stealth s)
unfolding load_stealth
loaded {s} c u =
    let p = mapped s.shape stealth in
    below? p pages
    (λ h. let l = leads_here c stealth h in rw (lt-ltb p pages h) (emptied_valid (line_core c u l) (line_nine c u l)))
    (λ h. rw (le-ltb p pages h, enter_none c stealth p) (emptied_valid c (none_nine c u h)))
