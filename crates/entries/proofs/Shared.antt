-- Rule 6: one pass over the entries that remembers where each page was seen finds a page at two addresses exactly if there is one.
-- Assumes nothing.
use mathlib.Core.Path.{◌≡◌, refl, sym, ap, ◌∙◌, subst}
use mathlib.Core.Logic.{◌≢◌}
use mathlib.Core.Bool.{Bool, true, false, ◌&&◌, not, true≢false}
use mathlib.Core.List.{List}
use Prim.Native.Nat.{ℕ, ◌+◌, ◌*◌, ◌/◌, ◌%◌, ◌≤◌, ◌<◌}
use native.Mathlib.Omega.{arith}
use lib.Dec.{eqb}
use lib.ListN.{length, get_or, set, length-set, replicate, length-replicate, get_or-replicate}
use lib.Seq.{get_or-set_same, get_or-set_other}
use borrow.Author.Tests.{lt-ltb, le-ltb}
use Rattle.std.specs.Prelude.{Option, Some, None, option_and_then}
use Rattle.std.specs.Bool.{then_some}
use Rattle.numbers.specs.declared.Ma.{Ma}
use Rattle.numbers.specs.declared.Va.{Va}
use Rattle.numbers.specs.Lead.{ma, toward, lead_of}
use Rattle.numbers.proofs.Leads.{toward_page, toward_none}
use Rattle.laws.specs.Choice.{pick, at, ◌⇔◌}
use Rattle.laws.specs.Search.{all_below}
use Rattle.laws.proofs.Cases.{split, same?, below?, pick_yes, pick_not}
use Rattle.laws.proofs.Tests.{eq⇔, lt⇔, and⇔, imp⇔, not⇔, as⇔, fails, not_so, agree}
use Rattle.laws.proofs.Search.{all⇔}
use Rattle.laws.proofs.Grid.{place_below, row_of_law, column_of, row_below, column_below}
use Rattle.model.specs.Sizes.{pages, addresses, stealth}
use Rattle.model.specs.Names.{kind_data, kind_table}
use Rattle.model.specs.State.{State, lead, is_page, nowhere}
use Rattle.model.specs.Rules.{Maps}
use Rattle.model.specs.RuleTests.{rule6?}
use Rattle.model.specs.Valid.{Sized}
use Rattle.model.proofs.RuleTests.{lead_page, lead_holds, rule6⇔}
use Rattle.entries.specs.Entries.{counted, counted_at, unshared}
use Rattle.places.specs.Places.{stealth_cacheable}

-- all entries
abbrev pub entries : ℕ
entries = pages * addresses

module _ (s : State) where
  -- ---- what is counted

  -- the page that table m leads to from va
  abbrev led : ℕ → ℕ → ℕ
  led m va = lead (at s.shape.pages.entry (addresses * m + va))

  abbrev counts : ℕ → ℕ → Bool
  counts m va =
      eqb (at s.shape.pages.kind m) kind_table && is_page (led m va) && eqb (at s.shape.pages.kind (led m va)) kind_data
      && eqb (at s.shape.pages.cacheable (led m va)) 1

  counts⇔ : (m va : ℕ) → counts m va ⇔ ((((at s.shape.pages.kind m ≡ kind_table) × (led m va < pages)) × (at s.shape.pages.kind (led m va) ≡ kind_data)) × (at s.shape.pages.cacheable (led m va) ≡ 1))
  counts⇔ m va =
      and⇔ (and⇔ (and⇔ (eq⇔ (at s.shape.pages.kind m) kind_table) (lt⇔ (led m va) pages)) (eq⇔ (at s.shape.pages.kind (led m va)) kind_data))
      (eq⇔ (at s.shape.pages.cacheable (led m va)) 1)

  pub counted_yes : (m va : ℕ) → counts m va ≡ true → counted s m va ≡ led m va
  unfolding counted
  counted_yes m va e = pick_yes (led m va) nowhere e

  pub counted_not : (m va : ℕ) → counts m va ≡ false → counted s m va ≡ nowhere
  unfolding counted
  counted_not m va e = pick_not (led m va) nowhere e

  pub counted_le : (m va : ℕ) → counted s m va ≤ pages
  counted_le m va =
      split (counts m va) (λ e. let w = ((counts⇔ m va).0 e).0.0.1 in omega (arith, counted_yes m va e)) (λ e. omega (arith, counted_not m va e))

  -- as an answer of code, by the page that table m leads to
  pub counted_law : (m va : ℕ)
      → toward (counted s m va)
      ≡ option_and_then (λ p. then_some (eqb (at s.shape.pages.kind m) kind_table && eqb (at s.shape.pages.kind p.0) kind_data && eqb (at s.shape.pages.cacheable p.0) 1) p)
      (lead_of (at s.shape.pages.entry (addresses * m + va)))
  unfolding counted
  counted_law m va =
      let q = led m va in
      below? q pages
      (λ h. rw (lt-ltb q pages h) (of_tests (eqb (at s.shape.pages.kind m) kind_table) (eqb (at s.shape.pages.kind q) kind_data) (eqb (at s.shape.pages.cacheable q) 1) q h))
      (λ h. rw (le-ltb q pages h) (past (eqb (at s.shape.pages.kind m) kind_table) (eqb (at s.shape.pages.kind q) kind_data) (eqb (at s.shape.pages.cacheable q) 1) q))
    where
      of_tests : (k d c : Bool) (n : ℕ) → n < pages → toward (pick (k && true && d && c) n nowhere) ≡ then_some (k && d && c) (ma n)
      of_tests true true true n h = toward_page n h
      of_tests true true false n h = refl
      of_tests true false c n h = refl
      of_tests false d c n h = refl

      past : (k d c : Bool) (n : ℕ) → toward (pick (k && false && d && c) n nowhere) ≡ None
      past true d c n = refl
      past false d c n = refl

  -- table m maps cacheable data p at va
  pub record Counted (m va p : ℕ) : Type 0 where
    pub maps : Maps s.shape.pages.kind s.shape.pages.entry m va p
    pub is_data : at s.shape.pages.kind p ≡ kind_data
    pub is_cacheable : at s.shape.pages.cacheable p ≡ 1

  counted_of : (m va : ℕ) → m < pages → va < addresses → counted s m va < pages → Counted m va (counted s m va)
  counted_of m va h k l =
      split (counts m va)
      (λ e.
      let w = (counts⇔ m va).0 e in
      subst (λ (p : ℕ). Counted m va p) (sym (counted_yes m va e))
      (record {
        maps = record { page = h; address = k; is_table = w.0.0.0; holds = lead_holds (at s.shape.pages.entry (addresses * m + va)) w.0.0.1 };
        is_data = w.0.1;
        is_cacheable = w.1;
      }))
      (λ e. absurd (omega (arith, counted_not m va e)))

  counted_is : (m va p : ℕ) → p < pages → Counted m va p → counted s m va ≡ p
  counted_is m va p h w =
      let q : led m va ≡ p = ap lead w.maps.holds ∙ lead_page p h in
      counted_yes m va ((counts⇔ m va).1 (((w.maps.is_table, omega arith), ap (at s.shape.pages.kind) q ∙ w.is_data), ap (at s.shape.pages.cacheable) q ∙ w.is_cacheable)) ∙ q

  -- ---- no page at two addresses

  abbrev pub Unshared : Type 0
  Unshared = (i : ℕ) → i < entries → (j : ℕ) → j < entries → (counted_at s i < pages) × (counted_at s i ≡ counted_at s j) → i % addresses ≡ j % addresses

  pub unshared⇔ : unshared s ⇔ Unshared
  unfolding unshared
  unshared⇔ =
      all⇔ entries (λ i h. all⇔ entries (λ j k. imp⇔ (and⇔ (lt⇔ (counted_at s i) pages) (eq⇔ (counted_at s i) (counted_at s j))) (eq⇔ (i % addresses) (j % addresses))))

  -- ---- the pass

  abbrev pub seen_at : ℕ → Option Va
  seen_at n = Some (record { 0 = n })

  -- after i entries: each page that was counted has its address, and each address was counted
  pub record Seen (l : List (Option Va)) (i : ℕ) : Type 0 where
    pub long : length l ≡ pages
    pub every : (j : ℕ) → j < i → counted_at s j < pages → get_or l (counted_at s j) None ≡ seen_at (j % addresses)
    pub some : (p : ℕ) → p < pages → (v : Va) → get_or l p None ≡ Some v → (j : ℕ) × (j < i) × (counted_at s j ≡ p) × (v.0 ≡ j % addresses)

  pub seen_start : Seen (replicate pages None) 0
  seen_start =
      record {
        long = length-replicate {A = Option Va} pages None;
        every = λ j h. absurd (omega arith);
        some = λ p h v e. let n = get_or-replicate {A = Option Va} pages p None None h in let z : ◌≡◌ {A = ℕ} 0 1 = cc in absurd (omega arith);
      }

  module _ (l : List (Option Va)) (i : ℕ) (w : Seen l i) where
    abbrev q : ℕ
    q = counted_at s i

    -- an entry that is not counted
    pub seen_past : pages ≤ q → Seen l (i + 1)
    seen_past n =
        record {
          long = w.long;
          every = λ j h k. w.every j (same? j i (λ z. let y : counted_at s j ≡ q = ap (counted_at s) z in absurd (omega arith)) (λ z. omega arith)) k;
          some = λ p h v e. let x = w.some p h v e in (x.0, omega (arith, x.1), x.2, x.3);
        }

    -- one that is, and was seen at no other address
    pub seen_more : q < pages → ((v : Va) → get_or l q None ≡ Some v → v.0 ≡ i % addresses) → Seen (set l q (seen_at (i % addresses))) (i + 1)
    seen_more b ok =
        let m = set l q (seen_at (i % addresses)) in
        let here : get_or m q None ≡ seen_at (i % addresses) = get_or-set_same l q (seen_at (i % addresses)) None (omega (arith, w.long)) in
        record {
          long = length-set l q (seen_at (i % addresses)) ∙ w.long;
          every = λ j h k.
              same? (counted_at s j) q
              (λ e. ap (λ (x : ℕ). get_or m x None) e ∙ here
              ∙ same? j i (λ z. ap (λ (x : ℕ). seen_at (x % addresses)) (sym z))
              (λ z. let v = ok (record { 0 = j % addresses }) (ap (λ (x : ℕ). get_or l x None) (sym e) ∙ w.every j (omega arith) k) in ap seen_at (sym v)))
              (λ n. get_or-set_other l q (counted_at s j) (seen_at (i % addresses)) None n
              ∙ w.every j (same? j i (λ z. absurd (n (ap (counted_at s) z))) (λ z. omega arith)) k);
          some = λ p h v e.
              same? p q
              (λ z. let y : seen_at (i % addresses) ≡ Some v = sym here ∙ ap (λ (x : ℕ). get_or m x None) (sym z) ∙ e in (i, omega arith, sym z, cc))
              (λ n.
              let x = w.some p h v (sym (get_or-set_other l q p (seen_at (i % addresses)) None n) ∙ e) in
              (x.0, omega (arith, x.1), x.2, x.3));
        }

    -- one that was seen at another address
    pub seen_clash : i < entries → q < pages → (v : Va) → get_or l q None ≡ Some v → v.0 ≢ i % addresses → Unshared → ⊥
    seen_clash h k v e n u =
        let x = w.some q k v e in
        n (x.3 ∙ u x.0 (omega (arith, x.1)) i h (subst (λ (p : ℕ). p < pages) (sym x.2) k, x.2))

  -- none
  pub seen_all : (l : List (Option Va)) → Seen l entries → Unshared
  seen_all l w i h j k e =
      let a = w.every i h e.0 in
      let b = w.every j k (subst (λ (p : ℕ). p < pages) e.1 e.0) in
      let z : get_or l (counted_at s i) None ≡ get_or l (counted_at s j) None = ap (λ (x : ℕ). get_or l x None) e.1 in
      let y : seen_at (i % addresses) ≡ seen_at (j % addresses) = sym a ∙ z ∙ b in
      let x : ◌≡◌ {A = Va} (record { 0 = i % addresses }) (record { 0 = j % addresses }) = cc in
      ap (λ (v : Va). v.0) x

  -- ---- the rule

  entry_of : (m va : ℕ) → va < addresses → counted_at s (addresses * m + va) ≡ counted s m va
  entry_of m va h = rw (row_of_law addresses (omega arith) m va h, column_of addresses (omega arith) m va h)

  stealth⇔ : (m : ℕ) → m < pages → stealth_cacheable s m ⇔ ((at s.shape.pages.kind m ≡ kind_table) × (led m stealth < pages) → at s.shape.pages.cacheable (led m stealth) ≡ 1)
  unfolding stealth_cacheable
  stealth⇔ m h = imp⇔ (and⇔ (eq⇔ (at s.shape.pages.kind m) kind_table) (lt⇔ (led m stealth) pages)) (eq⇔ (at s.shape.pages.cacheable (led m stealth)) 1)

  pub rule6_is : Sized s → (unshared s && all_below pages (stealth_cacheable s)) ≡ rule6? s.shape.pages.kind s.shape.pages.cacheable s.shape.pages.entry
  rule6_is z =
      agree
      (as⇔ (and⇔ unshared⇔ (all⇔ pages stealth⇔))
      (λ w. record {
        shared = λ p m n va vb h d x y ne c.
            let i = addresses * m + va in
            let j = addresses * n + vb in
            let e : counted_at s i ≡ p = entry_of m va x.address ∙ counted_is m va p h (record { maps = x; is_data = d; is_cacheable = c }) in
            let f : counted_at s j ≡ p = entry_of n vb y.address ∙ counted_is n vb p h (record { maps = y; is_data = d; is_cacheable = c }) in
            let u = w.0 i (place_below addresses (omega arith) pages m va x.page x.address) j (place_below addresses (omega arith) pages n vb y.page y.address) (omega arith, e ∙ sym f) in
            ne (sym (column_of addresses (omega arith) m va x.address) ∙ u ∙ column_of addresses (omega arith) n vb y.address);
        stealthy = λ p m h x.
            let q : led m stealth ≡ p = ap lead x.holds ∙ lead_page p h in
            ap (at s.shape.pages.cacheable) (sym q) ∙ w.1 m x.page (x.is_table, omega arith);
      })
      (λ w. (
        (λ i h j k e.
            let a = counted_of (i / addresses) (i % addresses) (row_below addresses (omega arith) pages i h) (column_below addresses (omega arith) i) e.0 in
            let l : counted_at s j < pages = subst (λ (p : ℕ). p < pages) e.1 e.0 in
            let b = counted_of (j / addresses) (j % addresses) (row_below addresses (omega arith) pages j k) (column_below addresses (omega arith) j) l in
            same? (i % addresses) (j % addresses) (λ q. q)
            (λ n. absurd (w.shared (counted_at s i) (i / addresses) (j / addresses) (i % addresses) (j % addresses) e.0 a.is_data a.maps
            (subst (λ (p : ℕ). Maps s.shape.pages.kind s.shape.pages.entry (j / addresses) (j % addresses) p) (sym e.1) b.maps) n a.is_cacheable))),
        λ m h e. w.stealthy (led m stealth) m e.1 (record { page = h; address = omega arith; is_table = e.0; holds = lead_holds (at s.shape.pages.entry (addresses * m + stealth)) e.1 }),
      )))
      (rule6⇔ s.shape.pages.kind s.shape.pages.cacheable s.shape.pages.entry z.entry)

  -- ---- the pass as code makes it: at address va of table m, entry i

  -- a page was seen, and not at va
  abbrev pub elsewhere : Option Va → ℕ → Bool
  elsewhere None va = false
  elsewhere (Some v) va = not (eqb v.0 va)

  elsewhere_at : (o : Option Va) (va : ℕ) → elsewhere o va ≡ true → (v : Va) × (o ≡ Some v) × (v.0 ≢ va)
  elsewhere_at None va t = absurd (true≢false (sym t))
  elsewhere_at (Some v) va t = (v, refl, (not⇔ (eq⇔ v.0 va)).0 t)

  here_at : (o : Option Va) (va : ℕ) → elsewhere o va ≡ false → (v : Va) → o ≡ Some v → v.0 ≡ va
  here_at o va t v e = same? v.0 va (λ q. q) (λ n. absurd (fails (not⇔ (eq⇔ v.0 va)) (ap (λ (x : Option Va). elsewhere x va) (sym e) ∙ t) n))

  module _ (l : List (Option Va)) (m va : ℕ) (h : m < pages) (k : va < addresses) (w : Seen l (addresses * m + va)) where
    abbrev i : ℕ
    i = addresses * m + va

    next : i + 1 ≡ addresses * m + (va + 1)
    next = omega arith

    here : counted_at s i ≡ counted s m va
    here = entry_of m va k

    column : i % addresses ≡ va
    column = column_of addresses (omega arith) m va k

    pub pass_past : toward (counted s m va) ≡ None → Seen l (addresses * m + (va + 1))
    pass_past n =
        rw (← next)
        (seen_past l i w (below? (counted s m va) pages (λ b. let z : ◌≡◌ {A = ℕ} 0 1 = cc (toward_page (counted s m va) b) in absurd (omega arith)) (λ b. omega (arith, here))))

    module _ (p : Ma) (c : toward (counted s m va) ≡ Some p) where
      page : counted s m va < pages
      page = below? (counted s m va) pages (λ b. b) (λ b. let z : ◌≡◌ {A = ℕ} 0 1 = cc (toward_none (counted s m va) b) in absurd (omega arith))

      counted_page : counted_at s i ≡ p.0
      counted_page = let z : Some (ma (counted s m va)) ≡ Some p = sym (toward_page (counted s m va) page) ∙ c in let y : counted s m va ≡ p.0 = cc in here ∙ y

      below : counted_at s i < pages
      below = omega (arith, page, here)

      pub pass_clash : elsewhere (get_or l p.0 None) va ≡ true → unshared s ≡ false
      pass_clash t =
          let x = elsewhere_at (get_or l p.0 None) va t in
          not_so unshared⇔
          (seen_clash l i w (place_below addresses (omega arith) pages m va h k) below x.0 (ap (λ (x : ℕ). get_or l x None) counted_page ∙ x.1) (λ z. x.2 (z ∙ column)))

      pub pass_more : elsewhere (get_or l p.0 None) va ≡ false → Seen (set l p.0 (seen_at va)) (addresses * m + (va + 1))
      pass_more t =
          let ok = λ (v : Va) (d : get_or l (counted_at s i) None ≡ Some v). here_at (get_or l p.0 None) va t v (ap (λ (x : ℕ). get_or l x None) (sym counted_page) ∙ d) ∙ sym column in
          let z : Seen (set l (counted_at s i) (seen_at (i % addresses))) (i + 1) = seen_more l i w below ok in
          rw (counted_page, column, next) at z
