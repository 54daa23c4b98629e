-- The laws of a set: a lookup in it, the line that an access fills, its history. Only these proofs know how many ways a set has and how a history
-- is kept.
-- Assumes nothing.
use mathlib.Core.Path.{◌≡◌, refl, sym, ap, ◌∙◌, subst}
use mathlib.Core.Bool.{true, false, ◌||◌, not}
use mathlib.Core.Logic.{◌⊎◌, inl, inr, ◌≢◌}
use mathlib.Core.List.{List}
use Prim.Native.Nat.{ℕ, suc, ◌/◌, ◌%◌, ◌≤◌, ◌<◌}
use native.Mathlib.Omega.{arith}
use lib.Dec.{ltb, eqb}
use lib.ListN.{length, set}
use borrow.Author.Tests.{ltb-true, lt-ltb, le-ltb}
use Rattle.laws.specs.Choice.{pick, at, ◌⇔◌}
use Rattle.laws.specs.Search.{first_below}
use Rattle.laws.proofs.Cases.{split, same?, below?, pick_both}
use Rattle.laws.proofs.Tests.{eq⇔, lt⇔, le⇔, and⇔, or⇔, not⇔, fails}
use Rattle.laws.proofs.Lists.{at_other, at_any}
use Rattle.laws.proofs.Search.{first_below_found, first_below_least, first_below_is}
use Rattle.model.specs.Sizes.{first_reserved, sets, ways, lines, set_of, stealth, stealth_set, reserved}
use Rattle.model.specs.State.{Shape, State, is_cacheable, no_line, line_at, stealth_line, has_key, hit_way, line_of}
use Rattle.model.specs.History.{start, histories, oldest, used, entered}
use Rattle.model.specs.Parts.{way_for}
use Rattle.model.specs.Read.{access_way, miss_line, access_history}
use Rattle.model.specs.Rules.{Below, Rule9}
use Rattle.keeps.proofs.Core.{Core}
use Rattle.keeps.proofs.Stores.{size_set, below_set}

-- ---- histories

oldest_below : (x : ℕ) → x < histories → oldest x < ways
oldest_below x h = omega arith

used_below : (x w : ℕ) → x < histories → w < ways → used x w < histories
used_below x w h k = omega arith

entered_below : (x w : ℕ) → x < histories → w < ways → entered x w < histories
entered_below x w h k = pick_both (λ (y : ℕ). y < histories) (ltb (suc w) ways) (λ e. ltb-true (suc w) ways e) (λ e. omega arith)

-- a set of which only way 0 is used stays at its start
used_start : used start 0 ≡ start
used_start = refl

-- ---- the ways of a set

line_at_below : (k w : ℕ) → k < sets → w < ways → line_at k w < lines
line_at_below k w h l = omega arith

line_at_set : (k w : ℕ) → w < ways → k ≡ line_at k w / ways
line_at_set k w h = omega arith

-- a line is a way of its set
line_way : (i : ℕ) → i ≡ line_at (i / ways) (i % ways)
line_way i = omega arith

-- what holds of the ways of a set holds of the lines in it
pub each_way : (P : ℕ → Type 0) (k : ℕ) → ((w : ℕ) → w < ways → P (line_at k w)) → (i : ℕ) → i / ways ≡ k → P i
each_way P k f i e = subst P (sym (line_way i ∙ ap (λ (x : ℕ). line_at x (i % ways)) e)) (f (i % ways) (omega arith))

-- a way of set k is no line of another set
line_at_other : (k w i : ℕ) → w < ways → i / ways ≢ k → line_at k w ≢ i
line_at_other k w i h n e = n (ap (λ (x : ℕ). x / ways) (sym e) ∙ sym (line_at_set k w h))

set_below : (va : ℕ) → set_of va < sets
set_below va = omega arith

-- no line is in no set
pub no_line_outside : no_line / ways ≢ stealth_set
no_line_outside = omega arith

-- ---- the stealth set

pub reserved⇔ : (va : ℕ) → reserved va ⇔ ((first_reserved ≤ va) ⊎ ((set_of va ≡ stealth_set) × (va ≢ stealth)))
reserved⇔ va = or⇔ (le⇔ first_reserved va) (and⇔ (eq⇔ (set_of va) stealth_set) (not⇔ (eq⇔ va stealth)))

-- an address that is not reserved belongs to the stealth set only if it is the stealth address
pub stealth_only : (va : ℕ) → reserved va ≡ false → set_of va ≡ stealth_set → va ≡ stealth
stealth_only va r e = same? va stealth (λ q. q) (λ n. absurd (fails (reserved⇔ va) r (inr (e, n))))

-- rule 9 turns on no line of another set
pub rule9_other : {entry line_address line_page history : List ℕ} {m : ℕ} (i va e : ℕ) → i / ways ≢ stealth_set
    → Rule9 entry line_address line_page history m → Rule9 entry (set line_address i va) (set line_page i e) history m
rule9_other {line_address = line_address} {line_page} i va e n r =
    let first = line_at_other stealth_set 0 i (omega arith) n in
    record {
      held = λ p l. let z = r.held p l in (at_other line_page i e stealth_line first ∙ z.0, at_other line_address i va stealth_line first ∙ z.1);
      empty = λ l. at_other line_page i e stealth_line first ∙ r.empty l;
      alone = λ w a b. at_other line_page i e (line_at stealth_set w) (line_at_other stealth_set w i b n) ∙ r.alone w a b;
      begun = r.begun;
    }

-- ---- a lookup

-- line i lies in va's set and has the key (va, p)
pub record Key (h : Shape) (va p i : ℕ) : Type 0 where
  pub line : i < lines
  pub in_set : set_of va ≡ i / ways
  pub page : at h.cache.line_page i ≡ suc p
  pub address : at h.cache.line_address i ≡ va

-- by rule 7 a line with the key lies in the set
pub line_key : {s : State} → Core s → {i va p : ℕ} → i < lines → at s.shape.cache.line_page i ≡ suc p → at s.shape.cache.line_address i ≡ va
    → Key s.shape va p i
line_key c {i} {va} {p} h e a = record { line = h; in_set = ap set_of (sym a) ∙ (c.rule7.line i p h e).in_set; page = e; address = a }

-- the line that an access fills: the page may enter it, and the lookup missed
pub record Fills (h : Shape) (va p i : ℕ) : Type 0 where
  pub line : i < lines
  pub in_set : set_of va ≡ i / ways
  pub is_cacheable : at h.pages.cacheable p ≡ 1
  pub missed : (j : ℕ) → Key h va p j → ⊥

module _ (h : Shape) (va p : ℕ) where
  has_key⇔ : (i : ℕ) → has_key h va p i ⇔ ((at h.cache.line_page i ≡ suc p) × (at h.cache.line_address i ≡ va))
  has_key⇔ i = and⇔ (eq⇔ (at h.cache.line_page i) (suc p)) (eq⇔ (at h.cache.line_address i) va)

  hit_key : hit_way h va p < ways → Key h va p (line_at (set_of va) (hit_way h va p))
  unfolding hit_way
  hit_key l =
      let w = hit_way h va p in
      let k = (has_key⇔ (line_at (set_of va) w)).0 (first_below_found (λ x. has_key h va p (line_at (set_of va) x)) ways l) in
      record { line = line_at_below (set_of va) w (set_below va) l; in_set = line_at_set (set_of va) w l; page = k.0; address = k.1 }

  key_hits : (i : ℕ) → Key h va p i → hit_way h va p < ways
  unfolding hit_way
  key_hits i k =
      let e : i ≡ line_at (set_of va) (i % ways) = line_way i ∙ ap (λ (x : ℕ). line_at x (i % ways)) (sym k.in_set) in
      let t = subst (λ (x : ℕ). has_key h va p x ≡ true) e ((has_key⇔ i).1 (k.page, k.address)) in
      let l = first_below_least (λ x. has_key h va p (line_at (set_of va) x)) ways (i % ways) t in
      omega arith

  -- the key in way 0 is found there
  key_first : Key h va p (line_at (set_of va) 0) → hit_way h va p ≡ 0
  unfolding hit_way
  key_first k =
      first_below_is (λ x. has_key h va p (line_at (set_of va) x)) ways 0 (omega arith) ((has_key⇔ (line_at (set_of va) 0)).1 (k.page, k.address))
      (λ j l. absurd (omega arith))

  -- a lookup finds the line with the key, or there is none
  pub looked? {ℓ} : {P : Type ℓ} → (Key h va p (line_of h va p) → P) → (line_of h va p ≡ no_line → ((i : ℕ) → Key h va p i → ⊥) → P) → P
  looked? f g =
      below? (hit_way h va p) ways (λ l. f (rw (lt-ltb (hit_way h va p) ways l) (hit_key l)))
      (λ l. g (rw (le-ltb (hit_way h va p) ways l)) (λ i k. let z = key_hits i k in omega arith))

  -- what it finds lies in the stealth set only if the address does
  pub found_outside : set_of va ≢ stealth_set → line_of h va p / ways ≢ stealth_set
  found_outside n e = looked? (λ k. n (k.in_set ∙ e)) (λ q _. no_line_outside (ap (λ (i : ℕ). i / ways) (sym q) ∙ e))

  -- and it is no empty line
  pub found_full : line_of h va p < lines → at h.cache.line_page (line_of h va p) ≢ 0
  found_full l e = looked? (λ k. let z = k.page in omega arith) (λ n _. omega arith)

  way_for_below : Below h.cache.history sets histories → (k : ℕ) → k < sets → way_for h k < ways
  unfolding way_for
  way_for_below b k hk =
      let w = first_below ways (λ w. eqb (at h.cache.line_page (line_at k w)) 0) in
      pick_both (λ (x : ℕ). x < ways) (ltb w ways) (λ e. ltb-true w ways e) (λ e. oldest_below (at h.cache.history k) (b k hk))

  -- an access fills a line of va's set that the lookup missed, or none
  pub filled? {ℓ} : {P : Type ℓ} → Below h.cache.history sets histories → (miss_line h va p ≡ no_line → P) → (Fills h va p (miss_line h va p) → P) → P
  unfolding miss_line
  filled? b f g =
      split (ltb (hit_way h va p) ways || not (is_cacheable h p)) (λ e. f (rw e))
      (λ e.
      let n = fails (or⇔ (lt⇔ (hit_way h va p) ways) (not⇔ (eq⇔ (at h.pages.cacheable p) 1))) e in
      let w = way_for_below b (set_of va) (set_below va) in
      g (rw e
      (record {
        line = line_at_below (set_of va) (way_for h (set_of va)) (set_below va) w;
        in_set = line_at_set (set_of va) (way_for h (set_of va)) w;
        is_cacheable = same? (at h.pages.cacheable p) 1 (λ q. q) (λ d. absurd (n (inr d)));
        missed = λ j k. n (inl (key_hits j k));
      })))

  -- where an access fills none, a cacheable page has its line already
  pub unfilled : Below h.cache.history sets histories → miss_line h va p ≡ no_line → is_cacheable h p ≡ true → Key h va p (line_of h va p)
  unfolding miss_line
  unfilled b e c =
      below? (hit_way h va p) ways (λ l. rw (lt-ltb (hit_way h va p) ways l) (hit_key l))
      (λ l.
      let w = way_for_below b (set_of va) (set_below va) in
      let z : line_at (set_of va) (way_for h (set_of va)) ≡ no_line = rw (le-ltb (hit_way h va p) ways l, c) at e in
      absurd (omega (arith, line_at_below (set_of va) (way_for h (set_of va)) (set_below va) w)))

  -- ---- the history after an access

  access_way_below : Below h.cache.history sets histories → access_way h va p < ways
  unfolding access_way
  access_way_below b =
      pick_both (λ (x : ℕ). x < ways) (ltb (hit_way h va p) ways) (λ e. ltb-true (hit_way h va p) ways e) (λ e. way_for_below b (set_of va) (set_below va))

  -- where it is stored, and what
  abbrev place : ℕ
  place = pick (is_cacheable h p) (set_of va) sets

  abbrev after : ℕ
  after =
      pick (ltb (hit_way h va p) ways) (used (at h.cache.history (set_of va)) (access_way h va p)) (entered (at h.cache.history (set_of va)) (access_way h va p))

  after_start : hit_way h va p ≡ 0 → at h.cache.history (set_of va) ≡ start → after ≡ start
  unfolding access_way
  after_start z e = rw z (ap (λ (x : ℕ). used x 0) e ∙ used_start)

  pub access_history_size : length h.cache.history ≡ sets → length (access_history h va p).cache.history ≡ sets
  unfolding access_history
  access_history_size e = size_set h.cache.history place after e

  pub access_history_below : Below h.cache.history sets histories → Below (access_history h va p).cache.history sets histories
  unfolding access_history
  access_history_below b =
      let x = at h.cache.history (set_of va) in
      let w = access_way_below b in
      let hx = b (set_of va) (set_below va) in
      below_set h.cache.history place after
      (pick_both (λ (y : ℕ). y < histories) (ltb (hit_way h va p) ways) (λ e. used_below x (access_way h va p) hx w) (λ e. entered_below x (access_way h va p) hx w))
      b

  -- the stealth set stays at its start, if what is accessed there is its one line
  pub access_history_begun : (set_of va ≡ stealth_set → Key h va p stealth_line) → at h.cache.history stealth_set ≡ start
      → at (access_history h va p).cache.history stealth_set ≡ start
  unfolding access_history
  access_history_begun k e =
      same? (set_of va) stealth_set
      (λ q.
      let z = key_first (subst (λ (x : ℕ). Key h va p (line_at x 0)) (sym q) (k q)) in
      at_any (λ (x : ℕ). x ≡ start) h.cache.history place after stealth_set (after_start z (ap (at h.cache.history) q ∙ e)) e)
      (λ n.
      at_other h.cache.history place after stealth_set
      (pick_both (λ (x : ℕ). stealth_set ≢ x) (is_cacheable h p) (λ _ w. n (sym w)) (λ _. omega arith))
      ∙ e)

-- ---- the one line with a key

-- a lookup finds it
pub line_is_law : {s : State} → Core s → {va p j : ℕ} → j < lines → at s.shape.cache.line_page j ≡ suc p → at s.shape.cache.line_address j ≡ va
    → line_of s.shape va p ≡ j
line_is_law {s} c {va} {p} {j} hj e a =
    looked? s.shape va p (λ k. c.rule7.once (line_of s.shape va p) j p k.line hj k.page e (k.address ∙ sym a))
    (λ _ n. absurd (n j (line_key c hj e a)))
