-- Rule 9 is its tests of set 7.
-- Assumes nothing.
use mathlib.Core.Path.{◌≡◌, sym, ap, ◌∙◌}
use mathlib.Core.Bool.{Bool, true, ◌&&◌}
use Prim.Native.Nat.{ℕ, ◌<◌}
use native.Mathlib.Omega.{arith}
use lib.Dec.{eqb}
use borrow.Author.Tests.{ltb-true}
use Rattle.laws.specs.Choice.{pick, at}
use Rattle.laws.specs.Search.{all_below}
use Rattle.laws.proofs.Cases.{split, same?}
use Rattle.laws.proofs.Loops.{all_made, all_fails}
use Rattle.model.specs.Sizes.{pages, ways, stealth}
use Rattle.model.specs.State.{State, is_page, table, stealth_line}
use Rattle.model.specs.RuleTests.{stealth_page, rule9_at_way, rule9_at_history, rule9?}
use Rattle.lines.specs.Lines.{first_way}
use Rattle.numbers.proofs.Leads.{leads_at_law}

-- ---- 9

pub two : (f : ℕ → Bool) → all_below ways f ≡ (f 0 && f 1)
two f = split (f 0) (λ e. split (f 1) (λ d. all_made f ways (λ i h. both e d i h) ∙ sym (rw (e, d))) (λ d. all_fails f ways 1 (omega arith) d ∙ sym (rw (e, d)))) (λ e. all_fails f ways 0 (omega arith) e ∙ sym (rw e))
  where
    both : f 0 ≡ true → f 1 ≡ true → (i : ℕ) → i < ways → f i ≡ true
    both e d i h = same? i 0 (λ q. ap f q ∙ e) (λ q. let z : i ≡ 1 = omega arith in ap f z ∙ d)

-- way 0, by the page to which the table in force leads
pub way_first : (s : State)
    → first_way s (stealth_page s.shape.pages.entry (table s.shape))
    ≡ rule9_at_way s.shape.pages.entry s.shape.cache.line_address s.shape.cache.line_page (table s.shape) 0
unfolding first_way
way_first s =
    let p = stealth_page s.shape.pages.entry (table s.shape) in
    let l = at s.shape.cache.line_page in
    let x = eqb (at s.shape.cache.line_address stealth_line) stealth in
    split (is_page p)
    (λ e. ap (λ (b : Bool). pick (is_page p) (b && x) (eqb (l stealth_line) 0)) (leads_at_law (l stealth_line) p (ltb-true p pages e)))
    (λ e. rw e)

pub rule9_is : (s : State)
    → (rule9_at_way s.shape.pages.entry s.shape.cache.line_address s.shape.cache.line_page (table s.shape) 0
    && rule9_at_way s.shape.pages.entry s.shape.cache.line_address s.shape.cache.line_page (table s.shape) 1
    && rule9_at_history s.shape.cache.history)
    ≡ rule9? s.shape.pages.entry s.shape.cache.line_address s.shape.cache.line_page s.shape.cache.history (table s.shape)
unfolding rule9?
rule9_is s =
    ap (λ (b : Bool). b && rule9_at_history s.shape.cache.history)
    (sym (two (λ w. rule9_at_way s.shape.pages.entry s.shape.cache.line_address s.shape.cache.line_page (table s.shape) w)))
