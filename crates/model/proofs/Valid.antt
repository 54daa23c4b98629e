-- The test of validity passes exactly if the state is valid: on every state whatever.
-- Assumes nothing.
use mathlib.Core.Path.{◌≡◌, refl}
use mathlib.Core.List.{[]}
use Prim.Native.Nat.{ℕ}
use lib.Dec.{eqb}
use lib.ListN.{length}
use Rattle.laws.specs.Choice.{◌⇔◌}
use Rattle.laws.proofs.Tests.{eq⇔, then⇔, as⇔}
use Rattle.laws.proofs.Search.{Each, each⇔}
use Rattle.model.specs.State.{State, table}
use Rattle.model.specs.RuleTests.{column, columns}
use Rattle.model.specs.Valid.{Sized, Valid, sized?, valid?}
use Rattle.model.proofs.RuleTests.{rule1⇔, rule2⇔, rule3⇔, rule4⇔, rule5⇔, rule6⇔, rule7⇔, rule8⇔, rule9⇔, rule10⇔, rule11⇔}

every_size : (s : State) → Each (λ c. eqb (length c.numbers) c.size ⇔ (length c.numbers ≡ c.size)) (columns s)
unfolding columns
every_size s = (size, (size, (size, (size, (size, (size, (size, (size, (size, (size, (size, (size, (size, (size, (size, (size, (size, (size, (size, (size, tt))))))))))))))))))))
  where
    size : {m n : ℕ} → eqb m n ⇔ (m ≡ n)
    size {m} {n} = eq⇔ m n

pub sized⇔ : (s : State) → sized? s ⇔ Sized s
unfolding sized? columns
sized⇔ s =
    as⇔ (each⇔ (λ c. eqb (length c.numbers) c.size) (λ c. length c.numbers ≡ c.size) (column [] 0 0) (columns s) (every_size s))
    (λ r. record {
      owner = r.0;
      kind = r.1.0;
      cacheable = r.1.1.0;
      entry = r.1.1.1.0;
      physical = r.1.1.1.1.0;
      current = r.1.1.1.1.1.1.0;
      call = r.1.1.1.1.1.1.1.0;
      call_a = r.1.1.1.1.1.1.1.1.0;
      call_b = r.1.1.1.1.1.1.1.1.1.0;
      line_address = r.1.1.1.1.1.1.1.1.1.1.1.1.0;
      line_page = r.1.1.1.1.1.1.1.1.1.1.1.1.1.0;
      history = r.1.1.1.1.1.1.1.1.1.1.1.1.1.1.0;
      slot_address = r.1.1.1.1.1.1.1.1.1.1.1.1.1.1.1.0;
      slot_page = r.1.1.1.1.1.1.1.1.1.1.1.1.1.1.1.1.0;
      memory = r.1.1.1.1.1.1.1.1.1.1.1.1.1.1.1.1.1.0;
      line = r.1.1.1.1.1.1.1.1.1.1.1.1.1.1.1.1.1.1.0;
    })
    (λ z. (z.owner, (z.kind, (z.cacheable, (z.entry, (z.physical, (refl, (z.current, (z.call, (z.call_a, (z.call_b, (refl, (refl, (z.line_address, (z.line_page, (z.history, (z.slot_address, (z.slot_page, (z.memory, (z.line, (refl, tt)))))))))))))))))))))

pub valid⇔ : (s : State) → valid? s ⇔ Valid s
unfolding valid?
valid⇔ s =
    let P = s.shape.pages in
    let G = s.shape.guests in
    let C = s.shape.cache in
    let T = s.shape.tlb in
    as⇔ (then⇔ (then⇔ (then⇔ (then⇔ (then⇔ (then⇔ (then⇔ (then⇔ (then⇔ (then⇔ (then⇔ (sized⇔ s)
    (λ w. rule1⇔ G.call G.call_a G.call_b G.active G.mode))
    (λ w. rule2⇔ P.owner P.kind P.cacheable s.values.memory P.free))
    (λ w. rule3⇔ P.owner P.physical w.0.0.physical))
    (λ w. rule4⇔ P.owner P.kind P.entry w.0.0.0.entry))
    (λ w. rule5⇔ P.owner P.kind P.physical G.current))
    (λ w. rule6⇔ P.kind P.cacheable P.entry w.0.0.0.0.0.entry))
    (λ w. rule7⇔ P.kind P.cacheable P.entry C.line_address C.line_page w.0.0.0.0.0.0.entry))
    (λ w. rule8⇔ P.entry T.slot_address T.slot_page (table s.shape)))
    (λ w. rule9⇔ P.entry C.line_address C.line_page C.history (table s.shape)))
    (λ w. rule10⇔ s w.0.0.0.0.0.0.0.0.0))
    (λ w. rule11⇔ C.line_page s.values.memory s.values.line s.shape.policy))
    (λ w. record {
      sized = w.0.0.0.0.0.0.0.0.0.0.0;
      rule1 = w.0.0.0.0.0.0.0.0.0.0.1;
      rule2 = w.0.0.0.0.0.0.0.0.0.1;
      rule3 = w.0.0.0.0.0.0.0.0.1;
      rule4 = w.0.0.0.0.0.0.0.1;
      rule5 = w.0.0.0.0.0.0.1;
      rule6 = w.0.0.0.0.0.1;
      rule7 = w.0.0.0.0.1;
      rule8 = w.0.0.0.1;
      rule9 = w.0.0.1;
      rule10 = w.0.1;
      rule11 = w.1;
    })
    (λ v. (((((((((((v.sized, v.rule1), v.rule2), v.rule3), v.rule4), v.rule5), v.rule6), v.rule7), v.rule8), v.rule9), v.rule10), v.rule11))
