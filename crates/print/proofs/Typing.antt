-- Bytes typed one after another: text after text, the buffer's length, and where the text fits.
-- Assumes nothing.
use mathlib.Core.Path.{◌≡◌, refl, sym, ap, ◌∙◌}
use mathlib.Core.List.{List, [], ◌∷◌, ◌++◌, append_assoc, append-nil}
use Prim.Native.Nat.{ℕ, suc, ◌+◌, ◌≤◌, ◌<◌}
use native.Mathlib.Omega.{arith}
use native.Mathlib.Numerals.{add-one}
use borrow.Author.Tests.{lt-ltb, le-ltb}
use lib.ListN.{length, set, drop, length-set, length-append, drop_of_length-le}
use lib.Seq.{drop-cons, set-append_seam, set_out}
use Rattle.laws.specs.Choice.{pick, at}
use Rattle.laws.proofs.Cases.{below?}
use Rattle.print.specs.Text.{Page, page, typed, typed_all}

module _ (b : List ℕ) (i x : ℕ) where
  pub typed_there : i < length b → page (set b i x) (i + 1) ≡ typed (page b i) x
  typed_there h = rw (lt-ltb i (length b) h)

  pub typed_past : length b ≤ i → page b i ≡ typed (page b i) x
  typed_past h = λ k. page (sym (set_out b i x h) k) (sym (ap (λ t. pick t (i + 1) i) (le-ltb i (length b) h)) k)

-- text after text
pub typed_append : (p : Page) (xs ys : List ℕ) → typed_all (typed_all p xs) ys ≡ typed_all p (xs ++ ys)
unfolding typed_all
typed_append p [] ys = refl
typed_append p (x ∷ xs) ys = typed_append (typed p x) xs ys

-- what is typed after what was typed
pub typed_then : (p : Page) (xs ys : List ℕ) {q r : Page} → q ≡ typed_all p xs → r ≡ typed_all q ys → r ≡ typed_all p (xs ++ ys)
typed_then p xs ys e f = f ∙ ap (λ (t : Page). typed_all t ys) e ∙ typed_append p xs ys

pub typed_one : (p : Page) (x : ℕ) → typed p x ≡ typed_all p (x ∷ [])
unfolding typed_all
typed_one p x = refl

pub typed_none : (p : Page) → p ≡ typed_all p []
unfolding typed_all
typed_none p = refl

pub typed_length : (p : Page) (xs : List ℕ) → length (typed_all p xs).bytes ≡ length p.bytes
unfolding typed_all
typed_length p [] = refl
typed_length p (x ∷ xs) = typed_length (typed p x) xs ∙ length-set p.bytes p.place x

-- pages that lead to the same text have buffers of one length
pub typed_kept : (p q : Page) (xs ys : List ℕ) → typed_all p xs ≡ typed_all q ys → length p.bytes ≡ length q.bytes
typed_kept p q xs ys e = sym (typed_length p xs) ∙ ap (λ (r : Page). length r.bytes) e ∙ typed_length q ys

-- nothing is left to type
pub ends : (p : Page) (xs : List ℕ) → xs ≡ [] → p ≡ typed_all p xs
unfolding typed_all
ends p xs e = sym (ap (typed_all p) e)

-- a place in the buffer, or at its end, stays so
pub typed_within : (p : Page) (xs : List ℕ) → p.place ≤ length p.bytes → (typed_all p xs).place ≤ length p.bytes
unfolding typed_all
typed_within p [] h = h
typed_within p (x ∷ xs) h =
    let e = length-set p.bytes p.place x in
    let k : (typed p x).place ≤ length (typed p x).bytes =
    below? p.place (length p.bytes) (λ l. rw (lt-ltb p.place (length p.bytes) l) (omega arith)) (λ l. rw (le-ltb p.place (length p.bytes) l) (omega arith)) in
    let w = typed_within (typed p x) xs k in
    omega arith

-- from the start of a buffer, no more is typed than it holds
pub typed_inside : (d xs e : List ℕ) (n : ℕ) → page e n ≡ typed_all (page d 0) xs → n ≤ length e
typed_inside d xs e n q =
    let w = typed_within (page d 0) xs (omega arith) in
    let l = typed_length (page d 0) xs in
    let p : n ≡ (typed_all (page d 0) xs).place = ap (λ (t : Page). t.place) q in
    let m : length e ≡ length (typed_all (page d 0) xs).bytes = ap (λ (t : Page). length t.bytes) q in
    omega arith

-- the rest of the bytes from place i on
pub typed_rest : (p : Page) (s : List ℕ) (i : ℕ) → i < length s → typed_all p (drop i s) ≡ typed_all (typed p (at s i)) (drop (i + 1) s)
unfolding typed_all
typed_rest p s i h = ap (typed_all p) (drop-cons s i 0 h) ∙ ap (λ (k : ℕ). typed_all (typed p (at s i)) (drop k s)) (sym (add-one i))

-- ---- where the text fits

fits_after : (ys b xs : List ℕ) → length xs ≤ length b
    → typed_all (page (ys ++ b) (length ys)) xs ≡ page (ys ++ (xs ++ drop (length xs) b)) (length ys + length xs)
unfolding typed_all
fits_after ys b [] h = let e : length ys ≡ length ys + 0 = omega arith in ap (page (ys ++ b)) e
fits_after ys [] (x ∷ xs) h = absurd (omega arith)
fits_after ys (z ∷ b) (x ∷ xs) h =
    let m = length-append ys (x ∷ []) in
    let k : length (ys ++ x ∷ []) + length xs ≡ length ys + suc (length xs) = omega arith in
    let e : typed (page (ys ++ z ∷ b) (length ys)) x ≡ page ((ys ++ x ∷ []) ++ b) (length (ys ++ x ∷ [])) =
    sym (typed_there (ys ++ z ∷ b) (length ys) x (omega (arith, length-append ys (z ∷ b))))
    ∙ (λ i. page ((set-append_seam ys z b x ∙ sym (append_assoc ys (x ∷ []) b)) i) (sym m i)) in
    ap (λ (p : Page). typed_all p xs) e
    ∙ fits_after (ys ++ x ∷ []) b xs (omega arith)
    ∙ (λ i. page (append_assoc ys (x ∷ []) (xs ++ drop (length xs) b) i) (k i))

-- Where there is room the buffer starts with the text, and its rest stays.
pub typed_fits : (b xs : List ℕ) → length xs ≤ length b → typed_all (page b 0) xs ≡ page (xs ++ drop (length xs) b) (length xs)
typed_fits b xs h =
    let e : 0 + length xs ≡ length xs = omega arith in fits_after [] b xs h ∙ ap (page (xs ++ drop (length xs) b)) e

-- The same of what was typed: how many bytes, and the buffer.
pub whole_text : (d xs : List ℕ) (n : ℕ) (e : List ℕ) → length xs ≤ length d → page e n ≡ typed_all (page d 0) xs
    → (n ≡ length xs) × (e ≡ xs ++ drop (length xs) d)
whole_text d xs n e h f =
    let q = f ∙ typed_fits d xs h in
    (ap (λ (p : Page). p.place) q, ap (λ (p : Page). p.bytes) q)

-- Where the text is as long as the buffer, the buffer is the text.
pub typed_whole : (b xs e : List ℕ) (n : ℕ) → length b ≡ length xs → page e n ≡ typed_all (page b 0) xs → e ≡ xs
typed_whole b xs e n h q =
    ap (λ (p : Page). p.bytes) (q ∙ typed_fits b xs (omega arith))
    ∙ ap (λ (l : List ℕ). xs ++ l) (drop_of_length-le b {i = length xs} (omega arith))
    ∙ append-nil xs
