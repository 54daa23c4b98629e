-- What checking says of each rule, on every state whose lists have their sizes, as those of bytes do.
-- Assumes nothing.
use mathlib.Core.Path.{◌≡◌, refl, sym, ap, ◌∙◌, subst}
use mathlib.Core.Bool.{Bool, true, ◌&&◌, not, true≢false}
use mathlib.Core.Logic.{inl, inr, ◌↔◌}
use mathlib.Core.List.{List, [], ◌∷◌}
use Prim.Native.Nat.{ℕ, zero, suc}
use native.Mathlib.Omega.{arith}
use lib.Dec.{ltb}
use borrow.Author.Tests.{lt-ltb, le-leb, le-ltb}
use Rattle.laws.specs.Choice.{◌⇔◌}
use Rattle.laws.specs.Search.{all_below, all_in}
use Rattle.laws.proofs.Cases.{below?}
use Rattle.laws.proofs.Tests.{lt⇔, and⇔, true⇔, as⇔}
use Rattle.laws.proofs.Search.{Each, each⇔}
use Rattle.laws.proofs.Loops.{all_made, all_holds}
use Rattle.model.specs.Sizes.{guests, lines, ways, slots}
use Rattle.model.specs.State.{State, table}
use Rattle.model.specs.RuleTests.{Column, column, columns, in_range, rule9_at_way, rule9_at_history, rule10_at_call, rule10_at_line, rule10_at_slot, rule1?, rule2?, rule3?, rule4?, rule5?, rule6?, rule7?, rule8?, rule9?, rule10?, rule11?}
use Rattle.model.specs.Valid.{Sized, Valid}
use Rattle.model.specs.Broken.{RulePart, below, places_in, first_failing, number_parts, rule_parts, parts_of, last_rule, holds, broken, no_rule, is_holds, finding_part, finding_place, broken_from, first_broken}
use Rattle.model.proofs.RuleTests.{rule1⇔, rule2⇔, rule3⇔, rule4⇔, rule5⇔, rule6⇔, rule7⇔, rule8⇔, rule9⇔, rule10⇔, rule11⇔}
use Rattle.findings.specs.Findings.{Known, statements, Rule, part_at, First, Told, ToldValid}
use Rattle.findings.proofs.Parts.{whole, Search, none, some, search, each_part, each_passes, first_place, each_append, each_front, each_behind}

-- ---- the parts of a rule all pass exactly if the rule holds

abbrev AllPass : List RulePart → Type 0
AllPass ps = Each (λ p. whole p ≡ true) ps

-- of one part, of two
one : {b : Bool} {P : Type 0} → b ⇔ P → ((b ≡ true) × Unit {0}) ↔ P
one h = ((λ w. h.0 w.0), λ w. (h.1 w, tt))

two : {b c : Bool} {P : Type 0} → (b && c) ⇔ P → ((b ≡ true) × ((c ≡ true) × Unit {0})) ↔ P
two {b} {c} h =
    let t = and⇔ (true⇔ b) (true⇔ c) in
    ((λ w. h.0 (t.1 (w.0, w.1.0))), λ w. let z = t.0 (h.1 w) in (z.0, (z.1, tt)))

-- of a part and one place more
and_one : (b c : Bool) {P : Type 0} → (b && c) ⇔ P → ((b ≡ true) × ((all_below 1 (λ i. c) ≡ true) × Unit {0})) ↔ P
and_one b c h =
    let t = and⇔ (true⇔ b) (true⇔ c) in (
      (λ w. h.0 (t.1 (w.0, all_holds (λ i. c) 1 w.1.0 0 (omega arith)))),
      λ w. let z = t.0 (h.1 w) in (z.0, (all_made (λ i. c) 1 (λ i l. z.1), tt)),
    )

-- 10: the numbers of each list
numbers_pass : (cs : List Column) → Each (λ c. in_range c ≡ true) cs → AllPass (number_parts cs)
unfolding number_parts
numbers_pass [] w = tt
numbers_pass (c ∷ cs) w = (w.0, numbers_pass cs w.1)

numbers_passed : (cs : List Column) → AllPass (number_parts cs) → Each (λ c. in_range c ≡ true) cs
unfolding number_parts
numbers_passed [] w = tt
numbers_passed (c ∷ cs) w = (w.0, numbers_passed cs w.1)

every_column : (cs : List Column) → Each (λ c. in_range c ⇔ (in_range c ≡ true)) cs
every_column [] = tt
every_column (c ∷ cs) = (true⇔ (in_range c), every_column cs)

columns_pass : (s : State) → all_in (λ i c. in_range c) (columns s) ⇔ AllPass (number_parts (columns s))
columns_pass s =
    as⇔ (each⇔ in_range (λ c. in_range c ≡ true) (column [] 0 0) (columns s) (every_column (columns s))) (numbers_pass (columns s)) (numbers_passed (columns s))

numbers_of_law : (s : State) → Sized s → AllPass (parts_of 10 s) ↔ Rule 10 s
unfolding rule_parts statements rule10?
numbers_of_law s z =
    let t =
    and⇔ (and⇔ (and⇔ (columns_pass s) (true⇔ (all_below guests (λ g. rule10_at_call s g)))) (true⇔ (all_below lines (λ i. rule10_at_line s i))))
    (true⇔ (all_below slots (λ i. rule10_at_slot s i))) in
    let h = rule10⇔ s z in
    let more = below guests (λ g. rule10_at_call s g) ∷ below lines (λ i. rule10_at_line s i) ∷ below slots (λ i. rule10_at_slot s i) ∷ [] in (
      (λ w.
          let b = each_behind (number_parts (columns s)) more w in
          h.0 (t.1 (((each_front (number_parts (columns s)) more w, b.0), b.1.0), b.1.1.0))),
      λ w.
          let v = t.0 (h.1 w) in
          each_append (number_parts (columns s)) more v.0.0.0 (v.0.0.1, (v.0.1, (v.1, tt))),
    )

of_rule : (n : ℕ) → Known n → (s : State) → Sized s → AllPass (parts_of n s) ↔ Rule n s
unfolding rule_parts statements rule1? rule2? rule3? rule4? rule5? rule6? rule7? rule8? rule9? rule11?
of_rule zero k s z = let h = k.some in absurd (omega arith)
of_rule (suc zero) k s z = let G = s.shape.guests in one (rule1⇔ G.call G.call_a G.call_b G.active G.mode)
of_rule (suc (suc zero)) k s z = let P = s.shape.pages in one (rule2⇔ P.owner P.kind P.cacheable s.values.memory P.free)
of_rule (suc (suc (suc zero))) k s z = let P = s.shape.pages in two (rule3⇔ P.owner P.physical z.physical)
of_rule (suc (suc (suc (suc zero)))) k s z = let P = s.shape.pages in one (rule4⇔ P.owner P.kind P.entry z.entry)
of_rule (suc (suc (suc (suc (suc zero))))) k s z =
    let P = s.shape.pages in one (rule5⇔ P.owner P.kind P.physical s.shape.guests.current)
of_rule (suc (suc (suc (suc (suc (suc zero)))))) k s z = let P = s.shape.pages in one (rule6⇔ P.kind P.cacheable P.entry z.entry)
of_rule (suc (suc (suc (suc (suc (suc (suc zero))))))) k s z =
    let P = s.shape.pages in
    let C = s.shape.cache in
    one (rule7⇔ P.kind P.cacheable P.entry C.line_address C.line_page z.entry)
of_rule (suc (suc (suc (suc (suc (suc (suc (suc zero)))))))) k s z =
    let T = s.shape.tlb in one (rule8⇔ s.shape.pages.entry T.slot_address T.slot_page (table s.shape))
of_rule (suc (suc (suc (suc (suc (suc (suc (suc (suc zero))))))))) k s z =
    let C = s.shape.cache in
    and_one (all_below ways (λ w. rule9_at_way s.shape.pages.entry C.line_address C.line_page (table s.shape) w)) (rule9_at_history C.history) (rule9⇔ s.shape.pages.entry C.line_address C.line_page C.history (table s.shape))
of_rule (suc (suc (suc (suc (suc (suc (suc (suc (suc (suc zero)))))))))) k s z = numbers_of_law s z
of_rule (suc (suc (suc (suc (suc (suc (suc (suc (suc (suc (suc zero))))))))))) k s z =
    one (rule11⇔ s.shape.cache.line_page s.values.memory s.values.line s.shape.policy)
of_rule (suc (suc (suc (suc (suc (suc (suc (suc (suc (suc (suc (suc n)))))))))))) k s z = let h = k.last in absurd (omega arith)

-- ---- what is said

pub known_from : (n : ℕ) → Known n → (s : State) → first_broken n s ≡ broken_from 0 (parts_of n s)
unfolding first_broken
known_from n k s = rw (le-leb 1 n k.some, lt-ltb n (suc last_rule) (omega (arith, k.last)))

-- there is no rule of that number
pub no_rule_law : (n : ℕ) → (Known n → ⊥) → (s : State) → first_broken n s ≡ no_rule
unfolding first_broken
no_rule_law n k s =
    below? n (suc last_rule) (λ h. below? 0 n (λ l. absurd (k (record { some = omega arith; last = omega arith }))) (λ l. let e : n ≡ 0 = omega arith in rw e refl))
    (λ h. rw (le-ltb n (suc last_rule) h, le-leb 1 n (omega arith)) refl)

holds_not : {k i : ℕ} → holds ≡ broken k i → ⊥
holds_not e = true≢false (ap is_holds e)

-- by what the search came to
said : (n : ℕ) → Known n → (s : State) → Sized s → Search (parts_of n s) 0 (first_broken n s) → Told n s
said n k s z (none e w) =
    record {
      none = ((λ h. (of_rule n k s z).0 w), λ h. e);
      everywhere = λ h. each_passes (parts_of n s) w;
      found = λ l i h. absurd (holds_not (sym e ∙ h));
      either = inl e;
    }
said n k s z (some m a f b e) =
    let q : first_broken n s ≡ broken m (first_failing (part_at (parts_of n s) m)) = e ∙ ap (λ (x : ℕ). broken x (first_failing (part_at (parts_of n s) m))) (omega arith) in
    record {
      none = (
        (λ h. absurd (holds_not (sym h ∙ q))),
        λ h. absurd (true≢false (sym (each_part (parts_of n s) ((of_rule n k s z).1 h) m a) ∙ ap not (lt-ltb (first_failing (part_at (parts_of n s) m)) (places_in (part_at (parts_of n s) m)) f))),
      );
      everywhere = λ h. absurd (holds_not (sym h ∙ q));
      found = λ l i h.
          let u = sym q ∙ h in
          let r = first_place (parts_of n s) m a f b in
          subst (λ (x : ℕ). First (parts_of n s) l x) (ap finding_place u) (subst (λ (x : ℕ). First (parts_of n s) x (first_failing (part_at (parts_of n s) m))) (ap finding_part u) r);
      either = inr (m, first_failing (part_at (parts_of n s) m), q);
    }

pub told : (n : ℕ) → Known n → (s : State) → Sized s → Told n s
told n k s z = said n k s z (subst (Search (parts_of n s) 0) (sym (known_from n k s)) (search (parts_of n s) 0))

-- ---- all rules

of_valid : {s : State} → Valid s → (n : ℕ) → Known n → Rule n s
unfolding statements
of_valid v zero k = let h = k.some in absurd (omega arith)
of_valid v (suc zero) k = v.rule1
of_valid v (suc (suc zero)) k = v.rule2
of_valid v (suc (suc (suc zero))) k = v.rule3
of_valid v (suc (suc (suc (suc zero)))) k = v.rule4
of_valid v (suc (suc (suc (suc (suc zero))))) k = v.rule5
of_valid v (suc (suc (suc (suc (suc (suc zero)))))) k = v.rule6
of_valid v (suc (suc (suc (suc (suc (suc (suc zero))))))) k = v.rule7
of_valid v (suc (suc (suc (suc (suc (suc (suc (suc zero)))))))) k = v.rule8
of_valid v (suc (suc (suc (suc (suc (suc (suc (suc (suc zero))))))))) k = v.rule9
of_valid v (suc (suc (suc (suc (suc (suc (suc (suc (suc (suc zero)))))))))) k = v.rule10
of_valid v (suc (suc (suc (suc (suc (suc (suc (suc (suc (suc (suc zero))))))))))) k = v.rule11
of_valid v (suc (suc (suc (suc (suc (suc (suc (suc (suc (suc (suc (suc n)))))))))))) k = let h = k.last in absurd (omega arith)

pub known : (n : ℕ) → ltb 0 n && ltb n (suc last_rule) ≡ true → Known n
known n e = let h = (and⇔ (lt⇔ 0 n) (lt⇔ n (suc last_rule))).0 e in record { some = omega (arith, h.0); last = omega (arith, h.1) }

pub told_valid : (s : State) → Sized s → ToldValid s
unfolding statements
told_valid s z = (
  (λ v n k. (told n k s z).none.1 (of_valid v n k)),
  λ h.
      let r : (n : ℕ) → (k : Known n) → Rule n s = λ n k. (told n k s z).none.0 (h n k) in
      record {
        sized = z;
        rule1 = r 1 (known 1 refl);
        rule2 = r 2 (known 2 refl);
        rule3 = r 3 (known 3 refl);
        rule4 = r 4 (known 4 refl);
        rule5 = r 5 (known 5 refl);
        rule6 = r 6 (known 6 refl);
        rule7 = r 7 (known 7 refl);
        rule8 = r 8 (known 8 refl);
        rule9 = r 9 (known 9 refl);
        rule10 = r 10 (known 10 refl);
        rule11 = r 11 (known 11 refl);
      },
)
