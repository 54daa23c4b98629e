-- What is found in a set by value is what the model finds in the state.
-- Assumes nothing.
use mathlib.Core.Path.{◌≡◌, sym, ap, ◌∙◌}
use mathlib.Core.Bool.{Bool, ◌&&◌}
use Prim.Native.Nat.{ℕ, ◌≤◌, ◌<◌}
use native.Mathlib.Omega.{arith}
use lib.Dec.{ltb, eqb}
use Rattle.laws.specs.Choice.{pick, at}
use Rattle.laws.specs.Search.{first_below, list_of}
use Rattle.laws.proofs.Cases.{below?}
use Rattle.laws.proofs.Lists.{at_past, get_or_list_of, list_of_same}
use Rattle.laws.proofs.Search.{first_below_le, first_below_found, first_below_before, first_below_none, first_below_is}
use Rattle.model.specs.Sizes.{pages, sets, ways, lines, set_of}
use Rattle.model.specs.State.{State, line_at, has_key, hit_way}
use Rattle.model.specs.History.{oldest}
use Rattle.model.specs.Parts.{way_for}
use Rattle.model.specs.Valid.{Sized}
use Rattle.numbers.proofs.Leads.{leads_at_law}
use Rattle.cache.specs.declared.Line.{Line}
use Rattle.cache.specs.Sets.{line_from, set_from, empty_line, way_in, has_key_in, find_in, is_empty_in, empty_way, place_in}

-- a way of a set is a line of the state
pub way_is : (s : State) (k w : ℕ) → w < ways → way_in (set_from s k) w ≡ line_from s (line_at k w)
way_is s k w h = get_or_list_of ways (λ w. line_from s (line_at k w)) empty_line w h

-- past the last set each number is 0
pub set_past : (s : State) (k : ℕ) → Sized s → sets ≤ k → set_from s sets ≡ set_from s k
set_past s k z h =
    let C = s.shape.cache in
    let a : (i : ℕ) → lines ≤ i → at C.line_address i ≡ 0 = λ i l. at_past C.line_address i (omega (arith, z.line_address)) in
    let p : (i : ℕ) → lines ≤ i → at C.line_page i ≡ 0 = λ i l. at_past C.line_page i (omega (arith, z.line_page)) in
    let v : (i : ℕ) → lines ≤ i → at s.values.line i ≡ 0 = λ i l. at_past s.values.line i (omega (arith, z.line)) in
    let t : (i : ℕ) → sets ≤ i → at C.history i ≡ 0 = λ i l. at_past C.history i (omega (arith, z.history)) in
    let e : (i j : ℕ) → lines ≤ i → lines ≤ j → line_from s i ≡ line_from s j = λ i j l m. rw (a i l, p i l, v i l, a j m, p j m, v j m) in
    let x : list_of ways (λ w. line_from s (line_at sets w)) ≡ list_of ways (λ w. line_from s (line_at k w)) =
    list_of_same ways empty_line (λ w l. e (line_at sets w) (line_at k w) (omega arith) (omega arith)) in
    let n : at C.history sets ≡ at C.history k = t sets (omega arith) ∙ sym (t k h) in
    λ i. record { ways = x i; history = n i }

-- ---- the same tests

-- the same test, the same first number
first_same : (n : ℕ) (f g : ℕ → Bool) → ((j : ℕ) → j < n → f j ≡ g j) → first_below n f ≡ first_below n g
first_same n f g h =
    below? (first_below n g) n
    (λ l.
    first_below_is f n (first_below n g) l (h (first_below n g) l ∙ first_below_found g n l)
    (λ j m. h j (omega arith) ∙ first_below_before g n j m))
    (λ l.
    let e : first_below n g ≡ n = omega (arith, first_below_le g n) in
    first_below_none f n (λ j m. h j m ∙ first_below_before g n j (omega arith)) ∙ sym e)

same_key : (s : State) (k va p : ℕ) → p < pages → (w : ℕ) → w < ways → has_key_in (way_in (set_from s k) w) va p ≡ has_key s.shape va p (line_at k w)
same_key s k va p h w l =
    ap (λ (x : Line). has_key_in x va p) (way_is s k w l)
    ∙ ap (λ (b : Bool). b && eqb (at s.shape.cache.line_address (line_at k w)) va) (leads_at_law (at s.shape.cache.line_page (line_at k w)) p h)

pub find_is_hit : (s : State) (va p : ℕ) → p < pages → find_in (set_from s (set_of va)) va p ≡ hit_way s.shape va p
unfolding find_in hit_way
find_is_hit s va p h =
    first_same ways (λ w. has_key_in (way_in (set_from s (set_of va)) w) va p) (λ w. has_key s.shape va p (line_at (set_of va) w))
    (same_key s (set_of va) va p h)

pub place_is_way : (s : State) (k : ℕ) → place_in (set_from s k) ≡ way_for s.shape k
unfolding place_in empty_way way_for
place_is_way s k =
    ap (λ (w : ℕ). pick (ltb w ways) w (oldest (at s.shape.cache.history k)))
    (first_same ways (λ w. is_empty_in (way_in (set_from s k) w)) (λ w. eqb (at s.shape.cache.line_page (line_at k w)) 0)
    (λ w l. ap is_empty_in (way_is s k w l)))
