-- A line stored whole and a set put back, in a state; a line saved, taken out, entered.
-- Assumes nothing.
use mathlib.Core.Path.{◌≡◌, refl, sym, ap, ◌∙◌}
use mathlib.Core.Logic.{◌≢◌}
use mathlib.Core.List.{List}
use Prim.Native.Nat.{ℕ, zero, suc, ◌+◌, ◌/◌, ◌%◌, ◌≤◌, ◌<◌}
use native.Mathlib.Omega.{arith}
use native.Mathlib.Numerals.{add-one}
use lib.Dec.{ltb}
use lib.ListN.{set, length}
use lib.Seq.{set_out, set-get_or, get_or-set_same, get_or-set_other}
use borrow.Author.Tests.{lt-ltb, le-ltb}
use Rattle.laws.specs.Choice.{pick, at}
use Rattle.laws.proofs.Cases.{same?, below?, pick_yes, pick_not}
use Rattle.laws.proofs.Lists.{at_other, length_list_of}
use Rattle.model.specs.Sizes.{pages, sets, ways, lines}
use Rattle.model.specs.State.{State, lead, nowhere, is_page, line_at}
use Rattle.model.specs.Parts.{shaped, with_cache, take_out, enter}
use Rattle.model.specs.Valid.{Sized}
use Rattle.std.specs.Prelude.{Some, None}
use Rattle.numbers.specs.Lead.{ma, lead_of, place_of}
use Rattle.host.specs.View.{put, put_memory, history_field}
use Rattle.numbers.proofs.Leads.{place_lead}
use Rattle.cache.specs.declared.Line.{Line}
use Rattle.cache.specs.declared.Set.{Set}
use Rattle.cache.specs.Sets.{line_with, line_from, set_from, empty_line, line_to, way_in, replaced_in}
use Rattle.cache.specs.Lines.{put_whole, put_ways, put_back}
use Rattle.cache.proofs.Sets.{way_is}

-- ---- one line

-- the lists of lines with others in their place
abbrev with_lines : State → List ℕ → List ℕ → List ℕ → State
with_lines s a p v =
    record {
      shape = with_cache s.shape (record { line_address = a; line_page = p; history = s.shape.cache.history });
      values = record { memory = s.values.memory; line = v };
    }

-- a line stored as it was
whole_kept : (s : State) (i : ℕ) → put_whole s i (line_from s i) ≡ s
unfolding put_whole
whole_kept s i j =
    with_lines s (set-get_or s.shape.cache.line_address i 0 j) (set-get_or s.shape.cache.line_page i 0 j) (set-get_or s.values.line i 0 j)

-- another line after a store
line_other : (s : State) (i j : ℕ) (l : Line) → j ≢ i → line_from (put_whole s i l) j ≡ line_from s j
unfolding put_whole
line_other s i j l n q =
    line_with (at_other s.shape.cache.line_address i l.address.0 j n q) (at_other s.shape.cache.line_page i l.page.0 j n q)
    (at_other s.values.line i l.value j n q)

-- nothing past the last line
whole_past : (s : State) (i : ℕ) (l : Line) → Sized s → lines ≤ i → put_whole s i l ≡ s
unfolding put_whole
whole_past s i l z h j =
    with_lines s (set_out s.shape.cache.line_address i l.address.0 (omega (arith, z.line_address)) j)
    (set_out s.shape.cache.line_page i l.page.0 (omega (arith, z.line_page)) j)
    (set_out s.values.line i l.value (omega (arith, z.line)) j)

-- ---- histories

history_is_law : (s : State) (k x : ℕ) → set s.shape.cache.history k x ≡ s.shape.cache.history → put history_field s k x ≡ s
unfolding put
history_is_law s k x e i =
    shaped s (with_cache s.shape (record { line_address = s.shape.cache.line_address; line_page = s.shape.cache.line_page; history = e i }))

pub history_kept : (s : State) (k : ℕ) → put history_field s k (at s.shape.cache.history k) ≡ s
history_kept s k = history_is_law s k (at s.shape.cache.history k) (set-get_or s.shape.cache.history k 0)

history_past : (s : State) (k x : ℕ) → Sized s → sets ≤ k → put history_field s k x ≡ s
history_past s k x z h = history_is_law s k x (set_out s.shape.cache.history k x (omega (arith, z.history)))

-- ---- a set put back

pub ways_none : (s : State) (k : ℕ) (t : Set) → s ≡ put_ways 0 s k t
unfolding put_ways
ways_none s k t = refl

pub ways_more : (s : State) (k n : ℕ) (t : Set) (u v : State) → u ≡ put_ways n s k t → v ≡ put_whole u (line_at k n) (way_in t n) → v ≡ put_ways (n + 1) s k t
unfolding put_ways
ways_more s k n t u v e f = f ∙ ap (λ (x : State). put_whole x (line_at k n) (way_in t n)) e ∙ ap (λ (m : ℕ). put_ways m s k t) (sym (add-one n))

pub ways_all : (s : State) (k : ℕ) (t : Set) (u v : State) → u ≡ put_ways ways s k t → v ≡ put history_field u k t.history → v ≡ put_back s k t
unfolding put_back
ways_all s k t u v e f = f ∙ ap (λ (x : State). put history_field x k t.history) e

-- nothing past the last set
pub put_back_past : (s : State) (k : ℕ) (t : Set) → Sized s → sets ≤ k → put_back s k t ≡ s
unfolding put_back put_ways
put_back_past s k t z h = ap (λ (x : State). put history_field x k t.history) (same ways) ∙ history_past s k t.history z h
  where
    same : (n : ℕ) → put_ways n s k t ≡ s
    same zero = refl
    same (suc n) = ap (λ (x : State). put_whole x (line_at k n) (way_in t n)) (same n) ∙ whole_past s (line_at k n) (way_in t n) z (omega arith)

-- a set whose ways but w are those of the state
module _ (s : State) (k w : ℕ) (t : Set) (f : (j : ℕ) → j < ways → j ≢ w → way_in t j ≡ line_from s (line_at k j)) where
  ways_put : (n : ℕ) → n ≤ ways → put_ways n s k t ≡ pick (ltb w n) (put_whole s (line_at k w) (way_in t w)) s
  unfolding put_ways
  ways_put zero h = sym (pick_not (put_whole s (line_at k w) (way_in t w)) s (le-ltb w 0 (omega arith)))
  ways_put (suc n) h =
      let y = put_whole s (line_at k w) (way_in t w) in
      let back : State → State = λ x. put_whole x (line_at k n) (way_in t n) in
      ap back (ways_put n (omega arith))
      ∙ same? n w
      (λ e.
      ap back (pick_not y s (le-ltb w n (omega arith))) ∙ ap (λ (j : ℕ). put_whole s (line_at k j) (way_in t j)) e
      ∙ sym (pick_yes y s (lt-ltb w (suc n) (omega arith))))
      (λ d.
      below? w n
      (λ l.
      ap back (pick_yes y s (lt-ltb w n l))
      ∙ ap (put_whole y (line_at k n)) (f n (omega arith) d ∙ sym (line_other s (line_at k w) (line_at k n) (way_in t w) (λ q. d (omega arith))))
      ∙ whole_kept y (line_at k n)
      ∙ sym (pick_yes y s (lt-ltb w (suc n) (omega arith))))
      (λ l.
      ap back (pick_not y s (le-ltb w n l)) ∙ ap (put_whole s (line_at k n)) (f n (omega arith) d) ∙ whole_kept s (line_at k n)
      ∙ sym (pick_not y s (le-ltb w (suc n) (omega (arith, d))))))

-- the set as it was, with another history
pub put_back_history : (s : State) (k n : ℕ) → put_back s k (record { ways = (set_from s k).ways; history = n }) ≡ put history_field s k n
unfolding put_back
put_back_history s k n =
    ap (λ (x : State). put history_field x k n)
    (ways_put s k ways (record { ways = (set_from s k).ways; history = n }) (λ j h d. way_is s k j h) ways (omega arith))

-- what was loaded, put back, changes nothing: on every state
pub put_back_loaded : (s : State) (k : ℕ) → put_back s k (set_from s k) ≡ s
put_back_loaded s k = put_back_history s k (at s.shape.cache.history k) ∙ history_kept s k

-- one way replaced
pub put_back_replaced : (s : State) (k w n : ℕ) (l : Line) → w < ways
    → put_back s k (record { ways = (replaced_in (set_from s k) w l).ways; history = n }) ≡ put history_field (put_whole s (line_at k w) l) k n
unfolding put_back
put_back_replaced s k w n l h =
    let x = (set_from s k).ways in
    let t : Set = record { ways = set x w l; history = n } in
    let here : way_in t w ≡ l = get_or-set_same x w l empty_line (omega (arith, length_list_of ways (λ w. line_from s (line_at k w)))) in
    let rest : (j : ℕ) → j < ways → j ≢ w → way_in t j ≡ line_from s (line_at k j) = λ j b d. get_or-set_other x w j l empty_line d ∙ way_is s k j b in
    ap (λ (y : List Line). put_back s k (record { ways = y; history = n })) (pick_yes (set x w l) x (lt-ltb w ways h))
    ∙ ap (λ (y : State). put history_field y k n)
    (ways_put s k w t rest ways (omega arith) ∙ pick_yes (put_whole s (line_at k w) (way_in t w)) s (lt-ltb w ways h) ∙ ap (put_whole s (line_at k w)) here)

-- a line replaced by way of its set
pub line_replaced : (s : State) (i : ℕ) (l : Line) (x y : Set) (u : State) → x ≡ set_from s (i / ways) → y ≡ replaced_in x (i % ways) l → u ≡ put_back s (i / ways) y
    → u ≡ put_whole s i l
unfolding put_whole
line_replaced s i l x y u ex ey eu =
    let k = i / ways in
    let e : line_at k (i % ways) ≡ i = omega arith in
    eu ∙ ap (put_back s k) (ey ∙ ap (λ (t : Set). replaced_in t (i % ways) l) ex)
    ∙ put_back_replaced s k (i % ways) (at s.shape.cache.history k) l (omega arith)
    ∙ history_kept (put_whole s (line_at k (i % ways)) l) k
    ∙ ap (λ (j : ℕ). put_whole s j l) e

-- ---- a line saved

-- to the page that it leads to
pub saved_to : (s : State) (e p v : ℕ) → lead_of e ≡ Some (ma p) → put_memory s p v ≡ put_memory s (lead e) v
saved_to s e p v q = ap (λ (n : ℕ). put_memory s n v) (sym (ap place_of q) ∙ place_lead e)

-- nowhere is past the end of memory
pub saved_nowhere : (s : State) (e v : ℕ) → length s.values.memory ≡ pages → lead_of e ≡ None → s ≡ put_memory s (lead e) v
unfolding put_memory
saved_nowhere s e v l q =
    let m = set_out s.values.memory nowhere v (omega arith) in
    (λ j. record { shape = s.shape; values = record { memory = sym m j; line = s.values.line } })
    ∙ ap (λ (n : ℕ). put_memory s n v) (sym (ap place_of q) ∙ place_lead e)

-- ---- a line taken out, a line entered

pub taken_out : (s : State) (i : ℕ) (l : Line) (t u : State) → l ≡ line_from s i → t ≡ put_memory s (lead l.page.0) l.value → u ≡ put_whole t i empty_line
    → u ≡ take_out s i
unfolding put_whole put_memory take_out
taken_out s i l t u el et eu =
    eu ∙ ap (λ (x : State). put_whole x i empty_line) (et ∙ ap (λ (x : Line). put_memory s (lead x.page.0) x.value) el)

pub enters : (s : State) (i va p v : ℕ) (l : Line) (u : State) → p < pages → v ≡ at s.values.memory p → l ≡ line_to va p v → u ≡ put_whole s i l
    → u ≡ pick (is_page p) (enter s i va p) s
unfolding put_whole enter
enters s i va p v l u h ev el eu =
    eu ∙ ap (put_whole s i) (el ∙ ap (line_to va p) ev) ∙ sym (pick_yes (enter s i va p) s (lt-ltb p pages h))
