-- The lines of a page, emptied one after the other.
-- Assumes nothing.
use mathlib.Core.Path.{◌≡◌, sym, ap, ◌∙◌}
use mathlib.Core.Bool.{Bool, true, false, ◌&&◌}
use mathlib.Core.List.{List}
use Prim.Native.Nat.{ℕ, suc, ◌+◌, ◌≤◌, ◌<◌}
use native.Mathlib.Omega.{arith}
use lib.Dec.{ltb, eqb}
use lib.ListN.{length, set, length-set}
use lib.Seq.{ext_get_or}
use borrow.Author.Tests.{lt-ltb, le-ltb}
use Rattle.laws.specs.Choice.{pick, at}
use Rattle.laws.specs.Search.{list_of}
use Rattle.laws.proofs.Cases.{split, same?, below?, pick_yes, pick_not}
use Rattle.laws.proofs.Lists.{at_same, at_other, length_list_of, get_or_list_of}
use Rattle.model.specs.Sizes.{pages, lines}
use Rattle.model.specs.State.{State, is_page, present}
use Rattle.model.specs.Parts.{with_cache, cleared, take_out_page}
use Rattle.model.specs.Valid.{Sized}
use Rattle.host.specs.View.{put_memory}
use Rattle.cache.specs.Sets.{empty_line}
use Rattle.cache.specs.Lines.{put_whole, is_of, zeroed, cleared_below}

-- ---- one list

list_is : (l : List ℕ) (n : ℕ) (f : ℕ → ℕ) → length l ≡ n → ((j : ℕ) → j < n → at l j ≡ f j) → l ≡ list_of n f
list_is l n f e h = ext_get_or 0 l (list_of n f) (e ∙ sym (length_list_of n f)) (λ j b. h j (omega arith) ∙ sym (get_or_list_of n f 0 j (omega arith)))

module _ (P : List ℕ) (p : ℕ) (l : List ℕ) where
  zeroed_length : (n : ℕ) → length (zeroed n P p l) ≡ lines
  unfolding zeroed
  zeroed_length n = length_list_of lines (λ i. pick (ltb i n && eqb (at P i) (suc p)) 0 (at l i))

  zeroed_at : (n j : ℕ) → j < lines → at (zeroed n P p l) j ≡ pick (ltb j n && eqb (at P j) (suc p)) 0 (at l j)
  unfolding zeroed
  zeroed_at n j h = get_or_list_of lines (λ i. pick (ltb i n && eqb (at P i) (suc p)) 0 (at l i)) 0 j h

  zeroed_past : (n j : ℕ) → n ≤ j → j < lines → at (zeroed n P p l) j ≡ at l j
  zeroed_past n j g h = zeroed_at n j h ∙ rw (le-ltb j n g)

  -- a list that has at each place what `zeroed` has
  zeroed_is : (m : List ℕ) (n : ℕ) → length m ≡ lines → ((j : ℕ) → j < lines → at m j ≡ pick (ltb j n && eqb (at P j) (suc p)) 0 (at l j)) → m ≡ zeroed n P p l
  unfolding zeroed
  zeroed_is m n = list_is m lines (λ i. pick (ltb i n && eqb (at P i) (suc p)) 0 (at l i))

  zeroed_none : length l ≡ lines → l ≡ zeroed 0 P p l
  zeroed_none e = zeroed_is l 0 e (λ j h. rw (le-ltb j 0 (omega arith)))

  -- the test at another place is the same for n and the next
  next_other : (n j : ℕ) → (j ≡ n → ⊥) → ltb j n ≡ ltb j (n + 1)
  next_other n j d = below? j n (λ h. lt-ltb j n h ∙ sym (lt-ltb j (n + 1) (omega arith))) (λ h. le-ltb j n h ∙ sym (le-ltb j (n + 1) (omega (arith, d))))

  zeroed_same : (n : ℕ) → n < lines → eqb (at P n) (suc p) ≡ false → zeroed n P p l ≡ zeroed (n + 1) P p l
  zeroed_same n b e =
      zeroed_is (zeroed n P p l) (n + 1) (zeroed_length n)
      (λ j h.
      zeroed_at n j h
      ∙ same? j n
      (λ q.
      let f : eqb (at P j) (suc p) ≡ false = ap (λ (k : ℕ). eqb (at P k) (suc p)) q ∙ e in
      rw (le-ltb j n (omega arith), lt-ltb j (n + 1) (omega arith), f))
      (λ d. ap (λ (t : Bool). pick (t && eqb (at P j) (suc p)) 0 (at l j)) (next_other n j d)))

  zeroed_set : (n : ℕ) → n < lines → eqb (at P n) (suc p) ≡ true → set (zeroed n P p l) n 0 ≡ zeroed (n + 1) P p l
  zeroed_set n b e =
      let z = zeroed n P p l in
      let y = zeroed_length n in
      zeroed_is (set z n 0) (n + 1) (length-set z n 0 ∙ y)
      (λ j h.
      same? j n
      (λ q.
      let f : eqb (at P j) (suc p) ≡ true = ap (λ (k : ℕ). eqb (at P k) (suc p)) q ∙ e in
      ap (at (set z n 0)) q ∙ at_same z n 0 (omega arith) ∙ rw (lt-ltb j (n + 1) (omega arith), f))
      (λ d. at_other z n 0 j d ∙ zeroed_at n j h ∙ ap (λ (t : Bool). pick (t && eqb (at P j) (suc p)) 0 (at l j)) (next_other n j d)))

  zeroed_all : zeroed lines P p l ≡ cleared P p l
  zeroed_all = list_is (zeroed lines P p l) lines (λ i. pick (eqb (at P i) (suc p)) 0 (at l i)) (zeroed_length lines) (λ j h. zeroed_at lines j h ∙ rw (lt-ltb j lines h))

-- ---- the three lists of lines

pub cleared_none : (s : State) (p : ℕ) → Sized s → s ≡ cleared_below 0 s p
unfolding cleared_below
cleared_none s p z =
    let C = s.shape.cache in
    let a = zeroed_none C.line_page p C.line_address z.line_address in
    let e = zeroed_none C.line_page p C.line_page z.line_page in
    let v = zeroed_none C.line_page p s.values.line z.line in
    λ i. record {
      shape = with_cache s.shape (record { line_address = a i; line_page = e i; history = C.history });
      values = record { memory = s.values.memory; line = v i };
    }

-- line n emptied if it is of the page
pub cleared_more : (s : State) (p n : ℕ) → n < lines → (t u : State) → t ≡ cleared_below n s p → u ≡ pick (is_of t.shape p n) (put_whole t n empty_line) t
    → u ≡ cleared_below (n + 1) s p
unfolding cleared_below put_whole
cleared_more s p n b t u et eu =
    let C = s.shape.cache in
    let P = C.line_page in
    let f : is_of t.shape p n ≡ eqb (at P n) (suc p) =
    ap (λ (x : State). is_of x.shape p n) et ∙ ap (λ (x : ℕ). eqb x (suc p)) (zeroed_past P p P n n (omega arith) b) in
    split (eqb (at P n) (suc p))
    (λ e.
    let a = zeroed_set P p C.line_address n b e in
    let q = zeroed_set P p P n b e in
    let v = zeroed_set P p s.values.line n b e in
    eu ∙ pick_yes (put_whole t n empty_line) t (f ∙ e) ∙ ap (λ (x : State). put_whole x n empty_line) et
    ∙ (λ i. record {
      shape = with_cache s.shape (record { line_address = a i; line_page = q i; history = C.history });
      values = record { memory = s.values.memory; line = v i };
    }))
    (λ e.
    let a = zeroed_same P p C.line_address n b e in
    let q = zeroed_same P p P n b e in
    let v = zeroed_same P p s.values.line n b e in
    eu ∙ pick_not (put_whole t n empty_line) t (f ∙ e) ∙ et
    ∙ (λ i. record {
      shape = with_cache s.shape (record { line_address = a i; line_page = q i; history = C.history });
      values = record { memory = s.values.memory; line = v i };
    }))

-- ---- a page

-- its value in memory, and no line
pub taken_page : (s : State) (p v : ℕ) → p < pages → v ≡ present s p → (t u : State) → t ≡ put_memory s p v → u ≡ cleared_below lines t p
    → u ≡ pick (is_page p) (take_out_page s p) s
unfolding cleared_below put_memory take_out_page
taken_page s p v h e t u et eu =
    let C = s.shape.cache in
    let a = zeroed_all C.line_page p C.line_address in
    let q = zeroed_all C.line_page p C.line_page in
    let w = zeroed_all C.line_page p s.values.line in
    eu ∙ ap (λ (x : State). cleared_below lines x p) et
    ∙ (λ i. record {
      shape = with_cache s.shape (record { line_address = a i; line_page = q i; history = C.history });
      values = record { memory = set s.values.memory p (e i); line = w i };
    })
    ∙ sym (pick_yes (take_out_page s p) s (lt-ltb p pages h))
