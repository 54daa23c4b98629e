-- The cache's part of a step and the rest of it; and the stealth line.
-- Assumes nothing.
use mathlib.Core.Path.{◌≡◌, sym, ap, ◌∙◌}
use Prim.Native.Nat.{ℕ, suc, ◌<◌}
use native.Mathlib.Omega.{arith}
use lib.Seq.{set_out}
use Rattle.laws.specs.Choice.{pick, at}
use Rattle.laws.proofs.Cases.{pick_yes, pick_not}
use Rattle.laws.proofs.Tests.{lt⇔, not_so}
use Rattle.model.specs.Sizes.{pages, stealth}
use Rattle.model.specs.State.{State, is_page, table, hit_way, no_line, stealth_line}
use Rattle.model.specs.Parts.{shaped, set_entry, translate, enter}
use Rattle.model.specs.Read.{read_step}
use Rattle.model.specs.Write.{store, write_step}
use Rattle.model.specs.NewSm.{new_sm_step}
use Rattle.model.specs.Valid.{Sized}
use Rattle.numbers.specs.declared.Ma.{Ma}
use Rattle.std.specs.Prelude.{Option}
use Rattle.std.specs.Prelude.{Some, None}
use Rattle.numbers.specs.Lead.{toward}
use Rattle.cache.specs.Lines.{found, accessed_for, Accesses}
use Rattle.cache.proofs.Accesses.{read_is_access, found_read}
use Rattle.acts.specs.Mapped.{idle}
use Rattle.acts.specs.Reads.{Reads}
use Rattle.acts.proofs.Pages.{led_nowhere, for_page}

-- ---- read and write

abbrev translated : ℕ → ℕ → State → State
translated va p x = shaped x (translate x.shape va p)

module _ (s : State) (va p : ℕ) (h : p < pages) (t u : State) (f : u ≡ pick (is_page p) (translated va p t) t) where
  pub reads : (v : ℕ) → Accesses s va p None v t → Reads s va p v u
  unfolding accessed_for
  reads v a =
      record {
        value = a.value ∙ sym (found_read s va p) ∙ sym (pick_yes (found (read_step s va p) va p) 0 ((lt⇔ p pages).1 h));
        state = f ∙ for_page p (translated va p t) t h ∙ ap (translated va p) a.state ∙ sym (read_is_access s va p)
            ∙ sym (for_page p (read_step s va p) s h);
      }

  -- the TLB's slot and what is stored are apart
  pub writes : (n v : ℕ) → Accesses s va p (Some n) v t → u ≡ pick (is_page p) (write_step s va p n) s
  unfolding accessed_for write_step store hit_way
  writes n v a =
      f ∙ for_page p (translated va p t) t h ∙ ap (translated va p) a.state ∙ ap (λ (x : State). store x va p n) (sym (read_is_access s va p))
      ∙ sym (for_page p (write_step s va p n) s h)

-- ---- the stealth line

module _ (s : State) (n : ℕ) (l : Option Ma) (e : l ≡ toward n) where
  -- no line is past the last
  pub stealth_stays : l ≡ None → Sized s → s ≡ enter s (pick (is_page n) stealth_line no_line) stealth n
  unfolding enter
  stealth_stays f z =
      let i : pick (is_page n) stealth_line no_line ≡ no_line =
      pick_not stealth_line no_line (not_so (lt⇔ n pages) (λ b. omega (arith, led_nowhere n l e f))) in
      rw (
        i,
        set_out s.shape.cache.line_address no_line stealth (omega (arith, z.line_address)),
        set_out s.shape.cache.line_page no_line (suc n) (omega (arith, z.line_page)),
        set_out s.values.line no_line (at s.values.memory n) (omega (arith, z.line)),
      )

-- ---- new_sm

module _ (s : State) (p g : ℕ) (h : p < pages) where
  abbrev mapping : ℕ → State → State
  mapping m x = shaped x (set_entry x.shape m stealth (pick (is_page p) (suc p) 0))

  all_parts : let x = enter s stealth_line stealth p in idle (translated stealth p (mapping (table x.shape) x)) ≡ new_sm_step s p
  unfolding new_sm_step
  all_parts = rw ((lt⇔ p pages).1 h)

  pub new_sm_law : (t u v w : State) → t ≡ pick (is_page p) (enter s stealth_line stealth p) s → g ≡ table t.shape → u ≡ mapping g t
      → v ≡ pick (is_page p) (translated stealth p u) u
      → w ≡ idle v
      → w ≡ new_sm_step s p
  new_sm_law t u v w a b c d e =
      e
      ∙ ap idle
      (d ∙ for_page p (translated stealth p u) u h
      ∙ ap (translated stealth p)
      (c ∙ ap (λ (m : ℕ). mapping m t) b
      ∙ ap (λ (x : State). mapping (table x.shape) x) (a ∙ for_page p (enter s stealth_line stealth p) s h)))
      ∙ all_parts
