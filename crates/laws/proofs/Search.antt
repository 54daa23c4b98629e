-- What a search finds, and what 'some' and 'all' mean.
-- Assumes nothing.
use mathlib.Core.Path.{◌≡◌, refl, sym, ap, ◌∙◌, subst}
use mathlib.Core.Bool.{Bool, true, false, not, true≢false}
use mathlib.Core.List.{List, [], ◌∷◌}
use Prim.Native.Nat.{ℕ, zero, suc, ◌+◌, ◌≤◌, ◌<◌}
use native.Mathlib.Nat.{add-zero, add-suc, suc-add, zero-add}
use native.Mathlib.Omega.{arith}
use lib.ListN.{length, get_or}
use borrow.Author.Tests.{ltb-true, lt-ltb}
use Rattle.laws.specs.Choice.{pick, ◌⇔◌}
use Rattle.laws.specs.Search.{first_from, first_below, some_below, all_below, seek_from, seek, some_in, all_in, count_below, list_from}
use Rattle.laws.proofs.Cases.{split, same?, below?}
use Rattle.laws.proofs.Tests.{not⇔, true⇔, as⇔}

-- ---- numbers

-- r is the first of the n numbers from i on that passes the test, or i + n
pub record First (f : ℕ → Bool) (n i r : ℕ) : Type 0 where
  pub low : i ≤ r
  pub high : r ≤ i + n
  pub found : r < i + n → f r ≡ true
  pub before : (j : ℕ) → i ≤ j → j < r → f j ≡ false

pub first : (f : ℕ → Bool) (n i : ℕ) → First f n i (first_from n i f)
unfolding first_from
first f zero i = record { low = omega arith; high = omega arith; found = λ h. absurd (omega arith); before = λ j a b. absurd (omega arith) }
first f (suc n) i = go (f i) refl (first f n (suc i))
  where
    go : (b : Bool) → f i ≡ b → First f n (suc i) (first_from n (suc i) f)
        → First f (suc n) i (elim b [ true ↦ i | false ↦ first_from n (suc i) f ])
    go true e h = record { low = omega arith; high = omega arith; found = λ _. e; before = λ j a b. absurd (omega arith) }
    go false e h =
        record {
          low = omega (arith, h.low);
          high = omega (arith, h.high);
          found = λ w. h.found (omega arith);
          before = λ j a b. same? j i (λ q. ap f q ∙ e) (λ q. h.before j (omega arith) b);
        }

module _ (f : ℕ → Bool) (n : ℕ) where
  pub first_below_le : first_below n f ≤ n
  first_below_le = omega (arith, (first f n 0).high)

  pub first_below_found : first_below n f < n → f (first_below n f) ≡ true
  first_below_found h = (first f n 0).found (omega arith)

  pub first_below_before : (j : ℕ) → j < first_below n f → f j ≡ false
  first_below_before j h = (first f n 0).before j (omega arith) h

  -- a number that passes stands no lower than the first
  pub first_below_least : (j : ℕ) → f j ≡ true → first_below n f ≤ j
  first_below_least j e =
      below? j (first_below n f) (λ h. absurd (true≢false (sym e ∙ first_below_before j h))) (λ h. h)

  -- none passes
  pub first_below_none : ((j : ℕ) → j < n → f j ≡ false) → first_below n f ≡ n
  first_below_none h =
      below? (first_below n f) n (λ l. absurd (true≢false (sym (first_below_found l) ∙ h (first_below n f) l)))
      (λ l. omega (arith, first_below_le))

  -- the first is the one that passes with none before it
  pub first_below_is : (r : ℕ) → r < n → f r ≡ true → ((j : ℕ) → j < r → f j ≡ false) → first_below n f ≡ r
  first_below_is r h e b =
      let l = first_below_least r e in
      below? (first_below n f) r (λ w. absurd (true≢false (sym (first_below_found (omega arith)) ∙ b (first_below n f) w))) (λ w. omega arith)

module _ {ℓ} {f : ℕ → Bool} {P : ℕ → Type ℓ} (n : ℕ) (h : (i : ℕ) → i < n → f i ⇔ P i) where
  pub some⇔ : some_below n f ⇔ ((i : ℕ) × (i < n) × P i)
  some⇔ = (
    (λ e. let l = ltb-true (first_below n f) n e in (first_below n f, l, (h (first_below n f) l).0 (first_below_found f n l))),
    λ w. lt-ltb (first_below n f) n (omega (arith, first_below_least f n w.0 ((h w.0 w.1).1 w.2), w.1)),
  )

pub all⇔ {ℓ} : {f : ℕ → Bool} {P : ℕ → Type ℓ} (n : ℕ) → ((i : ℕ) → i < n → f i ⇔ P i) → all_below n f ⇔ ((i : ℕ) → i < n → P i)
all⇔ {f = f} n h =
    as⇔ (not⇔ (some⇔ n (λ i l. not⇔ (h i l)))) (λ g i l. split (f i) (λ e. (h i l).0 e) (λ e. absurd (g (i, l, λ p. true≢false (sym ((h i l).1 p) ∙ e)))))
    (λ g w. w.2 (g w.0 w.1))

-- ---- places of a list

module _ {ℓ} {A : Type ℓ} (f : ℕ → A → Bool) (d : A) where
  -- place k of the list, its places counted from i, is the first that passes the test, or its length
  pub record Found (i : ℕ) (l : List A) (r k : ℕ) : Type 0 where
    pub place : r ≡ i + k
    pub high : k ≤ length l
    pub found : k < length l → f (i + k) (get_or l k d) ≡ true
    pub before : (j : ℕ) → j < k → f (i + j) (get_or l j d) ≡ false

  sought : (l : List A) (i : ℕ) → (k : ℕ) × Found i l (seek_from f i l) k
  unfolding seek_from
  sought [] i = (0, record { place = omega arith; high = omega arith; found = λ h. absurd (omega arith); before = λ j h. absurd (omega arith) })
  sought (x ∷ l) i = go (f i x) refl (sought l (suc i))
    where
      go : (b : Bool) → f i x ≡ b → ((k : ℕ) × Found (suc i) l (seek_from f (suc i) l) k)
          → (k : ℕ) × Found i (x ∷ l) (elim b [ true ↦ i | false ↦ seek_from f (suc i) l ]) k
      go true e h =
          (0, record { place = omega arith; high = omega arith; found = λ _. rw (add-zero i) e; before = λ j a. absurd (omega arith) })
      go false e (k, h) = (
        suc k,
        record {
          place = omega (arith, h.place);
          high = omega (arith, h.high);
          found = λ w. rw (add-suc i k, ← (suc-add i k)) (h.found (omega arith));
          before = λ j. elim j as (λ m. m < suc k → f (i + m) (get_or (x ∷ l) m d) ≡ false) [
            | zero ↦ λ a. rw (add-zero i) e
            | suc m ↦ λ a. rw (add-suc i m, ← (suc-add i m)) (h.before m (omega arith))
          ];
        },
      )

  pub seek_le : (l : List A) → seek f l ≤ length l
  seek_le l = let s = sought l 0 in omega (arith, s.1.place, s.1.high)

  pub seek_found : (l : List A) → seek f l < length l → f (seek f l) (get_or l (seek f l) d) ≡ true
  seek_found l h =
      let s = sought l 0 in
      let e : seek f l ≡ s.0 = s.1.place ∙ zero-add s.0 in
      let w = rw (zero-add s.0) at (s.1.found (omega (arith, s.1.place))) in
      subst (λ (k : ℕ). f k (get_or l k d) ≡ true) (sym e) w

  pub seek_before : (l : List A) (j : ℕ) → j < seek f l → f j (get_or l j d) ≡ false
  seek_before l j h = let s = sought l 0 in rw (zero-add j) at (s.1.before j (omega (arith, s.1.place)))

module _ {ℓ κ} {A : Type ℓ} (f : ℕ → A → Bool) {P : ℕ → Type κ} (d : A) (l : List A) (h : (i : ℕ) → i < length l → f i (get_or l i d) ⇔ P i) where
  pub some_in⇔ : some_in f l ⇔ ((i : ℕ) × (i < length l) × P i)
  some_in⇔ = (
    (λ e. let b = ltb-true (seek f l) (length l) e in (seek f l, b, (h (seek f l) b).0 (seek_found f d l b))),
    λ w. lt-ltb (seek f l) (length l) (below? w.0 (seek f l)
        (λ b. absurd (true≢false (sym ((h w.0 w.1).1 w.2) ∙ seek_before f d l w.0 b))) (λ b. omega (arith, w.1))),
  )

pub all_in⇔ {ℓ κ} : {A : Type ℓ} (f : ℕ → A → Bool) {P : ℕ → Type κ} (d : A) (l : List A) → ((i : ℕ) → i < length l → f i (get_or l i d) ⇔ P i)
    → all_in f l ⇔ ((i : ℕ) → i < length l → P i)
all_in⇔ f d l h =
    as⇔ (not⇔ (some_in⇔ (λ i x. not (f i x)) d l (λ i b. not⇔ (h i b))))
    (λ g i b. split (f i (get_or l i d)) (λ e. (h i b).0 e) (λ e. absurd (g (i, b, λ p. true≢false (sym ((h i b).1 p) ∙ e)))))
    (λ g w. w.2 (g w.0 w.1))

-- a table's rule: one test, computed over the whole table, gives it at each entry
pub at_entry {ℓ} : {A : Type ℓ} (f : ℕ → A → Bool) (d : A) (l : List A) → all_in f l ≡ true → (i : ℕ) → i < length l → f i (get_or l i d) ≡ true
at_entry f d l e = (all_in⇔ f d l (λ i b. true⇔ (f i (get_or l i d)))).0 e

-- a statement of each element of a list, one after the other
abbrev pub Each {ℓ κ} : {A : Type ℓ} → (A → Type κ) → List A → Type κ
Each P [] = Unit {κ}
Each P (x ∷ l) = P x × Each P l

pub each_list_from {ℓ κ} : {A : Type ℓ} (P : A → Type κ) (f : ℕ → A) → ((i : ℕ) → P (f i)) → (n i : ℕ) → Each P (list_from n i f)
unfolding list_from
each_list_from P f h zero i = tt
each_list_from P f h (suc n) i = (h i, each_list_from P f h n (suc i))

module _ {ℓ κ} {A : Type ℓ} (P : A → Type κ) (d : A) where
  each_of : (l : List A) → ((i : ℕ) → i < length l → P (get_or l i d)) → Each P l
  each_of [] h = tt
  each_of (x ∷ l) h = (h 0 (omega arith), each_of l (λ i b. h (suc i) (omega arith)))

  of_each : (l : List A) → Each P l → (i : ℕ) → i < length l → P (get_or l i d)
  of_each [] e i b = absurd (omega arith)
  of_each (x ∷ l) e zero b = e.0
  of_each (x ∷ l) e (suc i) b = of_each l e.1 i (omega arith)

pub each⇔ {ℓ κ} : {A : Type ℓ} (f : A → Bool) (P : A → Type κ) (d : A) (l : List A) → Each (λ x. f x ⇔ P x) l → all_in (λ i x. f x) l ⇔ Each P l
each⇔ f P d l h = as⇔ (all_in⇔ (λ i x. f x) d l (of_each (λ x. f x ⇔ P x) d l h)) (each_of P d l) (of_each P d l)

-- ---- counts

pub count_le : (n : ℕ) (f : ℕ → Bool) → count_below n f ≤ n
unfolding count_below
count_le zero f = omega arith
count_le (suc n) f = let h = count_le n f in split (f n) (λ e. rw e (omega arith)) (λ e. rw e (omega arith))

-- a count, the first number apart
pub count_front : (n : ℕ) (f : ℕ → Bool) → count_below (suc n) f ≡ pick (f 0) 1 0 + count_below n (λ i. f (suc i))
unfolding count_below
count_front zero f = omega arith
count_front (suc n) f = let h = count_front n f in omega arith

-- two tests that agree below n count the same
pub count_same : (n : ℕ) {f g : ℕ → Bool} → ((i : ℕ) → i < n → f i ≡ g i) → count_below n f ≡ count_below n g
unfolding count_below
count_same zero h = refl
count_same (suc n) {f} {g} h = rw (count_same n {f = f} {g = g} (λ i l. h i (omega arith)), h n (omega arith))

-- some number passes exactly if the count is not 0
pub count_some : (n : ℕ) (f : ℕ → Bool) (i : ℕ) → i < n → f i ≡ true → 0 < count_below n f
unfolding count_below
count_some zero f i h e = absurd (omega arith)
count_some (suc n) f i h e =
    same? i n (λ q. let z : f n ≡ true = ap f (sym q) ∙ e in rw z (omega arith)) (λ q. let w = count_some n f i (omega arith) e in omega arith)

pub count_none : (n : ℕ) (f : ℕ → Bool) → count_below n f ≡ 0 → (i : ℕ) → i < n → f i ≡ false
count_none n f e i h = split (f i) (λ t. let w = count_some n f i h t in absurd (omega arith)) (λ t. t)
