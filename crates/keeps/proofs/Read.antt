-- A read keeps the rules. The stealth set is left as it is: what is accessed there hits its one line. In another set a line may be taken out, and
-- the line enters; then the TLB slot gets the pair.
-- Assumes nothing.
use mathlib.Core.Path.{◌≡◌, refl, sym, ◌∙◌, subst}
use mathlib.Core.Bool.{false}
use mathlib.Core.Logic.{◌≢◌}
use mathlib.Core.List.{List}
use Prim.Native.Nat.{ℕ, ◌/◌, ◌<◌}
use native.Mathlib.Omega.{arith}
use lib.ListN.{length}
use Rattle.laws.specs.Choice.{at}
use Rattle.laws.proofs.Lists.{at_other}
use Rattle.model.specs.Sizes.{pages, addresses, sets, ways, set_of, stealth_set, reserved}
use Rattle.model.specs.State.{Shape, State, table, mapped, no_line, stealth_line}
use Rattle.model.specs.History.{start, histories}
use Rattle.model.specs.Parts.{shaped, with_cache, take_out, enter}
use Rattle.model.specs.Read.{miss_line, access_history, read_step}
use Rattle.model.specs.Rules.{Leads, Below}
use Rattle.model.specs.Valid.{Valid}
use Rattle.keeps.proofs.Core.{Core, core_of, valid_of, leads_here, maps_here}
use Rattle.keeps.proofs.Parts.{pages_of, guests_of, tlb_of, policy_of, core_from}
use Rattle.keeps.proofs.Lines.{Enters, take_out_valid, enter_valid, enter_none}
use Rattle.keeps.proofs.Tlb.{translate_valid}
use Rattle.keeps.proofs.Sets.{no_line_outside, stealth_only, Key, line_key, Fills, filled?, access_history_size, access_history_below, access_history_begun}

-- ---- other histories, that of the stealth set at its start

abbrev with_history : Shape → List ℕ → Shape
with_history h l = with_cache h (record { line_address = h.cache.line_address; line_page = h.cache.line_page; history = l })

history_core : {s : State} → Core s → (l : List ℕ) → length l ≡ sets → Below l sets histories → Core (shaped s (with_history s.shape l))
history_core c l n b =
    core_from (pages_of c) (guests_of c)
    (record {
      line_address = c.sized.line_address;
      line_page = c.sized.line_page;
      history = n;
      value = c.sized.line;
      rule7 = c.rule7;
      ranges = record { line_address = c.rule10.cache.line_address; line_page = c.rule10.cache.line_page; history = b; empty = c.rule10.cache.empty };
      values = c.rule10.values.line;
    })
    (tlb_of c) (policy_of c)

history_valid : {s : State} → Valid s → (l : List ℕ) → length l ≡ sets → Below l sets histories → at l stealth_set ≡ start
    → Valid (shaped s (with_history s.shape l))
unfolding table
history_valid v l n b e =
    valid_of (history_core (core_of v) l n b) v.rule8
    (record { held = v.rule9.held; empty = v.rule9.empty; alone = v.rule9.alone; begun = e })

-- ---- an access

module _ {s : State} (v : Valid s) (va : ℕ) (hv : va < addresses) (free : reserved va ≡ false) (hp : mapped s.shape va < pages) where
  -- in the stealth set it hits
  pub stealth_hits : set_of va ≡ stealth_set → Key s.shape va (mapped s.shape va) stealth_line
  stealth_hits e =
      let p = mapped s.shape va in
      let q = stealth_only va free e in
      let z = v.rule9.held p (subst (λ (x : ℕ). Leads s.shape.pages.entry (table s.shape) x p) q (leads_here (core_of v) va hp)) in
      record { line = omega arith; in_set = omega arith; page = z.0; address = z.1 ∙ sym q }

  -- so a line that it fills is outside that set, and it may enter there
  module _ {i : ℕ} (f : Fills s.shape va (mapped s.shape va) i) where
    outside : i / ways ≢ stealth_set
    outside e = f.missed stealth_line (stealth_hits (f.in_set ∙ e))

    pub enters : Enters (take_out s i).shape i va (mapped s.shape va)
    unfolding take_out
    enters =
        record {
          place = f.line;
          in_set = f.in_set;
          is_cacheable = f.is_cacheable;
          table = table s.shape;
          maps = maps_here (core_of v) va hv hp;
          new = λ j hj n e w. f.missed j
              (line_key (core_of v) hj (sym (at_other s.shape.cache.line_page i 0 j n) ∙ e) (sym (at_other s.shape.cache.line_address i 0 j n) ∙ w));
        }

  filled_valid : Valid (enter (take_out s (miss_line s.shape va (mapped s.shape va))) (miss_line s.shape va (mapped s.shape va)) va (mapped s.shape va))
  filled_valid =
      let p = mapped s.shape va in
      let i = miss_line s.shape va p in
      filled? s.shape va p v.rule10.cache.history
      (λ e. let t = take_out_valid v no_line no_line_outside in rw e (rw (enter_none (core_of t) va p) t))
      (λ f. enter_valid (take_out_valid v i (outside f)) (enters f) (outside f))

  pub read_step_valid : Valid (read_step s va (mapped s.shape va))
  unfolding read_step take_out enter access_history table
  read_step_valid =
      let p = mapped s.shape va in
      translate_valid
      (history_valid filled_valid (access_history s.shape va p).cache.history (access_history_size s.shape va p v.sized.history)
      (access_history_below s.shape va p v.rule10.cache.history)
      (access_history_begun s.shape va p stealth_hits v.rule9.begun))
      hv (leads_here (core_of v) va hp)

-- every address stays mapped as it was
pub read_step_mapped : (s : State) (va p vb : ℕ) → mapped (read_step s va p).shape vb ≡ mapped s.shape vb
unfolding read_step take_out enter access_history table
read_step_mapped s va p vb = refl
