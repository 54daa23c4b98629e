-- A line stored over what the cache has at a place, or taken out from there. One argument for both: a rule can break only by what is stored.
-- Assumes nothing.
use mathlib.Core.Path.{◌≡◌, refl, sym, ap, ◌∙◌, subst}
use mathlib.Core.Logic.{◌≢◌}
use mathlib.Core.List.{List}
use Prim.Native.Nat.{ℕ, zero, suc, ◌/◌, ◌<◌}
use native.Mathlib.Omega.{arith}
use lib.ListN.{length, set}
use lib.Seq.{set_out}
use Rattle.laws.specs.Choice.{at}
use Rattle.laws.proofs.Cases.{below?}
use Rattle.laws.proofs.Lists.{at_past}
use Rattle.model.specs.Sizes.{pages, addresses, ways, lines, set_of, stealth_set, value_bound}
use Rattle.model.specs.Names.{write_through}
use Rattle.model.specs.State.{Shape, State, lead, table, no_line}
use Rattle.model.specs.Parts.{set_line, take_out, enter}
use Rattle.model.specs.Rules.{Maps, Line, Rule7}
use Rattle.model.specs.Valid.{Valid}
use Rattle.model.proofs.RuleTests.{lead_holds}
use Rattle.keeps.proofs.Core.{Core, GuestData, core_of, valid_of, mapped_page, line_page_law}
use Rattle.keeps.proofs.Parts.{PolicyPart, CacheOf, pages_of, guests_of, tlb_of, core_from}
use Rattle.keeps.proofs.Stores.{size_set, below_set, same_set, below_any, below_held, zero_set, stored?, memory_part}
use Rattle.keeps.proofs.Sets.{rule9_other}

-- what a line (va, p) needs to enter line i
pub record Enters (h : Shape) (i va p : ℕ) : Type 0 where
  pub place : i < lines
  pub in_set : set_of va ≡ i / ways
  pub is_cacheable : at h.pages.cacheable p ≡ 1
  pub table : ℕ
  pub maps : Maps h.pages.kind h.pages.entry table va p
  -- no other line has the key
  pub new : (j : ℕ) → j < lines → j ≢ i → at h.cache.line_page j ≡ suc p → at h.cache.line_address j ≡ va → ⊥

-- ---- line i gets the address va, holds e, and has the value x; with 0 it is emptied

module _ {s : State} (c : Core s) (i va e x : ℕ) (f : (p : ℕ) → e ≡ suc p → Enters s.shape i va p) where
  line_rule7 : Rule7 s.shape.pages.kind s.shape.pages.cacheable s.shape.pages.entry (set s.shape.cache.line_address i va)
      (set s.shape.cache.line_page i e)
  line_rule7 =
      record {
        line = λ j p hj w. stored? address_of page_of i va e j p w
            (λ q z a. rw (a (inside p z), q) (entering p z))
            (λ n z a. rw a (c.rule7.line j p hj z));
        once = λ j k p hj hk w u a. stored? address_of page_of i va e j p w
            (λ q z b. stored? address_of page_of i va e k p u
            (λ r _ _. q ∙ sym r)
            (λ n y d. absurd ((f p z).new k hk n y (sym d ∙ sym a ∙ b (inside p z)))))
            (λ n z b. stored? address_of page_of i va e k p u
            (λ r y d. absurd ((f p y).new j hj n z (sym b ∙ a ∙ d (inside p y))))
            (λ _ y d. c.rule7.once j k p hj hk z y (sym b ∙ a ∙ d)));
      }
    where
      address_of : List ℕ
      address_of = s.shape.cache.line_address

      page_of : List ℕ
      page_of = s.shape.cache.line_page

      inside : (p : ℕ) → e ≡ suc p → i < length s.shape.cache.line_address
      inside p z = omega (arith, (f p z).place, c.sized.line_address)

      entering : (p : ℕ) → e ≡ suc p → Line s.shape.pages.kind s.shape.pages.cacheable s.shape.pages.entry i va p
      entering p z =
          let n = f p z in
          let d = mapped_page c n.maps in
          record {
            address = n.maps.address;
            in_set = n.in_set;
            page = d.page;
            is_cacheable = n.is_cacheable;
            is_data = d.is_data;
            mapped = (n.table, n.maps);
          }

  line_part : (e ≡ 0 → va ≡ 0) → (e ≡ 0 → x ≡ 0) → x < value_bound
      → CacheOf s.shape (set_line s.shape i va e).cache (set s.values.line i x)
  line_part za zx hx =
      let C = s.shape.cache in
      record {
        line_address = size_set C.line_address i va c.sized.line_address;
        line_page = size_set C.line_page i e c.sized.line_page;
        history = c.sized.history;
        value = size_set s.values.line i x c.sized.line;
        rule7 = line_rule7;
        ranges =
            record {
              line_address = below_set C.line_address i va address_below c.rule10.cache.line_address;
              line_page = below_set C.line_page i e (below_held e (λ p w. (mapped_page c (f p w).maps).page)) c.rule10.cache.line_page;
              history = c.rule10.cache.history;
              empty = λ j hj w. (
                zero_set C.line_page C.line_address i e va c.sized.line_page c.sized.line_address za j hj (λ y. (c.rule10.cache.empty j hj y).0) w,
                zero_set C.line_page s.values.line i e x c.sized.line_page c.sized.line zx j hj (λ y. (c.rule10.cache.empty j hj y).1) w,
              );
            };
        values = below_set s.values.line i x hx c.rule10.values.line;
      }
    where
      address_below : va < addresses
      address_below = go e refl
        where
          go : (y : ℕ) → e ≡ y → va < addresses
          go zero w = omega (arith, za w)
          go (suc p) w = (f p w).maps.address

  -- what is stored with a page is that page's value in memory, and under write-through memory is as it was
  line_policy : (m : List ℕ) → ((p : ℕ) → e ≡ suc p → x ≡ at s.values.memory p)
      → (s.shape.policy ≡ write_through → (p : ℕ) → p < pages → at m p ≡ at s.values.memory p)
      → PolicyPart (set s.shape.cache.line_page i e) m (set s.values.line i x) s.shape.policy
  line_policy m copied kept =
      record {
        range = c.rule10.policy;
        rule11 =
            record {
              same = λ t j p hj hp w. stored? s.values.line s.shape.cache.line_page i x e j p w
                  (λ _ z a. a (omega (arith, (f p z).place, c.sized.line)) ∙ copied p z ∙ sym (kept t p hp))
                  (λ _ z a. a ∙ c.rule11.same t j p hj hp z ∙ sym (kept t p hp));
            };
      }

-- ---- taken out

module _ {s : State} (c : Core s) (i : ℕ) where
  -- a place that holds a page is a line
  a_line : {p : ℕ} → at s.shape.cache.line_page i ≡ suc p → i < lines
  a_line e =
      below? i lines (λ b. b) (λ b. absurd (omega (arith, at_past s.shape.cache.line_page i (omega (arith, c.sized.line_page)))))

  -- the page written to is a data page of a guest, if it is one
  written : lead (at s.shape.cache.line_page i) < pages → GuestData s.shape (lead (at s.shape.cache.line_page i))
  written h = let e = lead_holds (at s.shape.cache.line_page i) h in line_page_law c (a_line e) e

  -- and under write-through it has the value already
  rewritten : s.shape.policy ≡ write_through → (p : ℕ) → p < pages
      → at (set s.values.memory (lead (at s.shape.cache.line_page i)) (at s.values.line i)) p ≡ at s.values.memory p
  rewritten t p hp =
      same_set s.values.memory (lead (at s.shape.cache.line_page i)) (at s.values.line i) p
      (λ q.
      let e : at s.shape.cache.line_page i ≡ suc p = lead_holds (at s.shape.cache.line_page i) (omega arith) ∙ ap suc (sym q) in
      c.rule11.same t i p (a_line e) hp e)

  pub take_out_core : Core (take_out s i)
  unfolding take_out
  take_out_core =
      core_from (memory_part c (lead (at s.shape.cache.line_page i)) (at s.values.line i) written
      (below_any s.values.line c.sized.line (omega arith) c.rule10.values.line i)) (guests_of c)
      (line_part c i 0 0 0 (λ p w. absurd (omega arith)) (λ w. w) (λ w. w) (omega arith)) (tlb_of c)
      (line_policy c i 0 0 0 (λ p w. absurd (omega arith)) memory (λ p w. absurd (omega arith)) rewritten)
    where
      memory : List ℕ
      memory = set s.values.memory (lead (at s.shape.cache.line_page i)) (at s.values.line i)

-- ---- entered

pub enter_core : {s : State} → Core s → {i va p : ℕ} → Enters s.shape i va p → Core (enter s i va p)
unfolding enter
enter_core {s} c {i} {va} {p} n =
    let entering : (q : ℕ) → suc p ≡ suc q → Enters s.shape i va q = λ q w. subst (λ (y : ℕ). Enters s.shape i va y) (omega arith) n in
    core_from (pages_of c) (guests_of c)
    (line_part c i va (suc p) (at s.values.memory p) entering (λ w. absurd (omega arith))
    (λ w. absurd (omega arith)) (c.rule10.values.memory p (mapped_page c n.maps).page)) (tlb_of c)
    (line_policy c i va (suc p) (at s.values.memory p) entering s.values.memory (λ q w. ap (at s.values.memory) (omega arith)) (λ t q hq. refl))

-- no line: nothing enters
pub enter_none : {s : State} → Core s → (va p : ℕ) → enter s no_line va p ≡ s
unfolding enter
enter_none {s} c va p =
    rw (
      set_out s.shape.cache.line_address no_line va (omega (arith, c.sized.line_address)),
      set_out s.shape.cache.line_page no_line (suc p) (omega (arith, c.sized.line_page)),
      set_out s.values.line no_line (at s.values.memory p) (omega (arith, c.sized.line)),
    )

-- ---- a line of another set than the stealth address's: rules 8 and 9 hold too

pub take_out_valid : {s : State} → Valid s → (i : ℕ) → i / ways ≢ stealth_set → Valid (take_out s i)
unfolding take_out table
take_out_valid v i n = valid_of (take_out_core (core_of v) i) v.rule8 (rule9_other i 0 0 n v.rule9)

pub enter_valid : {s : State} → Valid s → {i va p : ℕ} → Enters s.shape i va p → i / ways ≢ stealth_set → Valid (enter s i va p)
unfolding enter table
enter_valid v {i} {va} {p} e n = valid_of (enter_core (core_of v) e) v.rule8 (rule9_other i va (suc p) n v.rule9)
