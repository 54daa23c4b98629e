-- The view of bytes, field by field: what a read and a store at a place of a field is of the state, and that the state fixes every byte.
-- Assumes nothing.
use mathlib.Core.Path.{◌≡◌, refl, sym, ap, ◌∙◌}
use mathlib.Core.Bool.{true, false, not, false≢true, true≢false}
use mathlib.Core.List.{List, [], ◌∷◌}
use Prim.Native.Nat.{ℕ, zero, suc, ◌+◌, ◌≤◌, ◌<◌}
use native.Mathlib.Omega.{arith}
use lib.Dec.{eqb}
use lib.ListN.{set}
use borrow.Author.Tests.{le-ltb}
use Rattle.laws.specs.Choice.{at}
use Rattle.laws.proofs.Tests.{and⇔, lt⇔, true⇔}
use Rattle.laws.specs.Cut.{cut, begin, size, part, edit, total}
use Rattle.model.specs.State.{State}
use Rattle.model.specs.Fields.{state_of}
use Rattle.host.specs.View.{sizes, bytes, view, listed, columns_of, column, with_columns, put}
use Rattle.laws.proofs.Cut.{cut_get}
use Rattle.host.proofs.Cut.{cut_set, cut_get_out, cut_set_out}

-- ---- fields that are lists of bytes

-- no field of a higher number is one
unlisted : (k : ℕ) → listed (suc (suc (suc (suc (suc (suc (suc (suc (suc (suc (suc (suc (suc (suc (suc (suc (suc k))))))))))))))))) ≡ false
unlisted k = rw (le-ltb (suc (suc (suc (suc (suc (suc (suc (suc (suc (suc (suc (suc (suc (suc (suc (suc (suc k))))))))))))))))) 17 (omega arith))

-- a field of the state is a part of the bytes
column_part : (k : ℕ) (xs : List ℕ) → listed k ≡ true → column k (view xs) ≡ part (cut sizes xs) k
unfolding view
column_part zero xs e = refl
column_part (suc zero) xs e = refl
column_part (suc (suc zero)) xs e = refl
column_part (suc (suc (suc zero))) xs e = refl
column_part (suc (suc (suc (suc zero)))) xs e = refl
column_part (suc (suc (suc (suc (suc zero))))) xs e = absurd (false≢true e)
column_part (suc (suc (suc (suc (suc (suc zero)))))) xs e = refl
column_part (suc (suc (suc (suc (suc (suc (suc zero))))))) xs e = refl
column_part (suc (suc (suc (suc (suc (suc (suc (suc zero)))))))) xs e = refl
column_part (suc (suc (suc (suc (suc (suc (suc (suc (suc zero))))))))) xs e = refl
column_part (suc (suc (suc (suc (suc (suc (suc (suc (suc (suc zero)))))))))) xs e = absurd (false≢true e)
column_part (suc (suc (suc (suc (suc (suc (suc (suc (suc (suc (suc zero))))))))))) xs e = absurd (false≢true e)
column_part (suc (suc (suc (suc (suc (suc (suc (suc (suc (suc (suc (suc zero)))))))))))) xs e = refl
column_part (suc (suc (suc (suc (suc (suc (suc (suc (suc (suc (suc (suc (suc zero))))))))))))) xs e = refl
column_part (suc (suc (suc (suc (suc (suc (suc (suc (suc (suc (suc (suc (suc (suc zero)))))))))))))) xs e = refl
column_part (suc (suc (suc (suc (suc (suc (suc (suc (suc (suc (suc (suc (suc (suc (suc zero))))))))))))))) xs e = refl
column_part (suc (suc (suc (suc (suc (suc (suc (suc (suc (suc (suc (suc (suc (suc (suc (suc zero)))))))))))))))) xs e = refl
column_part (suc (suc (suc (suc (suc (suc (suc (suc (suc (suc (suc (suc (suc (suc (suc (suc (suc k))))))))))))))))) xs e = absurd (false≢true (sym (unlisted k) ∙ e))

put_part : (k : ℕ) (xs : List ℕ) (f : List ℕ → List ℕ) → listed k ≡ true → state_of (edit k f (cut sizes xs)) ≡ with_columns (view xs) (edit k f (columns_of (view xs)))
unfolding view
put_part zero xs f e = refl
put_part (suc zero) xs f e = refl
put_part (suc (suc zero)) xs f e = refl
put_part (suc (suc (suc zero))) xs f e = refl
put_part (suc (suc (suc (suc zero)))) xs f e = refl
put_part (suc (suc (suc (suc (suc zero))))) xs f e = absurd (false≢true e)
put_part (suc (suc (suc (suc (suc (suc zero)))))) xs f e = refl
put_part (suc (suc (suc (suc (suc (suc (suc zero))))))) xs f e = refl
put_part (suc (suc (suc (suc (suc (suc (suc (suc zero)))))))) xs f e = refl
put_part (suc (suc (suc (suc (suc (suc (suc (suc (suc zero))))))))) xs f e = refl
put_part (suc (suc (suc (suc (suc (suc (suc (suc (suc (suc zero)))))))))) xs f e = absurd (false≢true e)
put_part (suc (suc (suc (suc (suc (suc (suc (suc (suc (suc (suc zero))))))))))) xs f e = absurd (false≢true e)
put_part (suc (suc (suc (suc (suc (suc (suc (suc (suc (suc (suc (suc zero)))))))))))) xs f e = refl
put_part (suc (suc (suc (suc (suc (suc (suc (suc (suc (suc (suc (suc (suc zero))))))))))))) xs f e = refl
put_part (suc (suc (suc (suc (suc (suc (suc (suc (suc (suc (suc (suc (suc (suc zero)))))))))))))) xs f e = refl
put_part (suc (suc (suc (suc (suc (suc (suc (suc (suc (suc (suc (suc (suc (suc (suc zero))))))))))))))) xs f e = refl
put_part (suc (suc (suc (suc (suc (suc (suc (suc (suc (suc (suc (suc (suc (suc (suc (suc zero)))))))))))))))) xs f e = refl
put_part (suc (suc (suc (suc (suc (suc (suc (suc (suc (suc (suc (suc (suc (suc (suc (suc (suc k))))))))))))))))) xs f e = absurd (false≢true (sym (unlisted k) ∙ e))

pub column_get : (k i : ℕ) (xs : List ℕ) → listed k ≡ true → i < size sizes k → at xs (begin sizes k + i) ≡ at (column k (view xs)) i
column_get k i xs e h = cut_get sizes k i xs h ∙ ap (λ (l : List ℕ). at l i) (sym (column_part k xs e))

pub column_out : (k i : ℕ) (xs : List ℕ) → listed k ≡ true → size sizes k ≤ i → 0 ≡ at (column k (view xs)) i
column_out k i xs e h = cut_get_out sizes k i xs h ∙ ap (λ (l : List ℕ). at l i) (sym (column_part k xs e))

pub column_put : (k i v : ℕ) (xs : List ℕ) → listed k ≡ true → i < size sizes k → view (set xs (begin sizes k + i) v) ≡ put k (view xs) i v
unfolding put view
column_put k i v xs e h = ap state_of (cut_set sizes k i v xs h) ∙ put_part k xs (λ l. set l i v) e

pub column_kept : (k i v : ℕ) (xs : List ℕ) → listed k ≡ true → size sizes k ≤ i → view xs ≡ put k (view xs) i v
unfolding put view
column_kept k i v xs e h = ap state_of (cut_set_out sizes k i v xs h) ∙ put_part k xs (λ l. set l i v) e

-- past the fields that are lists of bytes there is none
pub column_none : (k : ℕ) (s : State) → listed k ≡ false → (i : ℕ) → 0 ≡ at (column k s) i
column_none zero s e i = absurd (true≢false e)
column_none (suc zero) s e i = absurd (true≢false e)
column_none (suc (suc zero)) s e i = absurd (true≢false e)
column_none (suc (suc (suc zero))) s e i = absurd (true≢false e)
column_none (suc (suc (suc (suc zero)))) s e i = absurd (true≢false e)
column_none (suc (suc (suc (suc (suc zero))))) s e i = refl
column_none (suc (suc (suc (suc (suc (suc zero)))))) s e i = absurd (true≢false e)
column_none (suc (suc (suc (suc (suc (suc (suc zero))))))) s e i = absurd (true≢false e)
column_none (suc (suc (suc (suc (suc (suc (suc (suc zero)))))))) s e i = absurd (true≢false e)
column_none (suc (suc (suc (suc (suc (suc (suc (suc (suc zero))))))))) s e i = absurd (true≢false e)
column_none (suc (suc (suc (suc (suc (suc (suc (suc (suc (suc zero)))))))))) s e i = refl
column_none (suc (suc (suc (suc (suc (suc (suc (suc (suc (suc (suc zero))))))))))) s e i = refl
column_none (suc (suc (suc (suc (suc (suc (suc (suc (suc (suc (suc (suc zero)))))))))))) s e i = absurd (true≢false e)
column_none (suc (suc (suc (suc (suc (suc (suc (suc (suc (suc (suc (suc (suc zero))))))))))))) s e i = absurd (true≢false e)
column_none (suc (suc (suc (suc (suc (suc (suc (suc (suc (suc (suc (suc (suc (suc zero)))))))))))))) s e i = absurd (true≢false e)
column_none (suc (suc (suc (suc (suc (suc (suc (suc (suc (suc (suc (suc (suc (suc (suc zero))))))))))))))) s e i = absurd (true≢false e)
column_none (suc (suc (suc (suc (suc (suc (suc (suc (suc (suc (suc (suc (suc (suc (suc (suc zero)))))))))))))))) s e i = absurd (true≢false e)
column_none (suc (suc (suc (suc (suc (suc (suc (suc (suc (suc (suc (suc (suc (suc (suc (suc (suc k))))))))))))))))) s e i = refl

-- a listed field's number, and where it ends
pub listed_below : (k : ℕ) → listed k ≡ true → k < 17
listed_below k e = ((and⇔ (and⇔ (and⇔ (lt⇔ k 17) (true⇔ (not (eqb k 5)))) (true⇔ (not (eqb k 10)))) (true⇔ (not (eqb k 11)))).0 e).0.0.0

pub ends_below : (k : ℕ) → begin sizes k + size sizes k ≤ bytes
ends_below k = within sizes k
  where
    within : (ns : List ℕ) (j : ℕ) → begin ns j + size ns j ≤ total ns
    within [] j = omega arith
    within (n ∷ ns) zero = omega arith
    within (n ∷ ns) (suc j) = let h = within ns j in omega arith
