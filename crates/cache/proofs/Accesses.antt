-- What an access is, case by case: a page not cacheable, a hit, a miss; and what is found and stored after it.
-- Assumes nothing.
use mathlib.Core.Path.{◌≡◌, refl, sym, ap, ◌∙◌}
use mathlib.Core.Bool.{Bool, true, false, ◌&&◌}
use mathlib.Core.Logic.{◌≢◌}
use mathlib.Core.List.{List}
use Prim.Native.Nat.{ℕ, suc, ◌≤◌, ◌<◌}
use native.Mathlib.Omega.{arith}
use lib.Dec.{ltb, eqb}
use lib.ListN.{length, set, length-set}
use lib.Seq.{set_out, set-get_or, set-set}
use borrow.Author.Tests.{lt-ltb, le-ltb, eqb-true, eq-eqb}
use Rattle.laws.specs.Choice.{pick, at}
use Rattle.laws.specs.Search.{first_below}
use Rattle.laws.proofs.Cases.{split, below?, pick_both, pick_yes}
use Rattle.laws.proofs.Lists.{at_past, at_same, at_other}
use Rattle.laws.proofs.Search.{first_below_le, first_below_before, first_below_none, first_below_is}
use Rattle.model.specs.Sizes.{pages, sets, ways, lines, byte_bound, set_of}
use Rattle.model.specs.State.{State, lead, nowhere, is_page, is_cacheable, no_line, line_at, has_key, hit_way, line_of}
use Rattle.model.specs.Parts.{shaped, with_cache, set_history, translate, take_out, enter, way_for}
use Rattle.model.specs.History.{entered}
use Rattle.model.specs.Read.{access_way, miss_line, access_history, read_step}
use Rattle.model.specs.Write.{store}
use Rattle.model.specs.Valid.{Sized}
use Rattle.host.specs.View.{put, put_memory, put_line, history_field}
use Rattle.host.proofs.Inverse.{Bounded}
use Rattle.cache.specs.declared.Line.{Line}
use Rattle.cache.specs.declared.Set.{Set}
use Rattle.std.specs.Prelude.{Option, Some, None}
use Rattle.std.specs.Option.{unwrap_or}
use Rattle.cache.specs.Sets.{line_with, line_from, set_from, line_to, way_in, find_in, place_in, replaced_in, used_in, entered_in}
use Rattle.cache.specs.Lines.{put_whole, put_back, accessed, missed, found, after, stored_in, line_for, AccessesLine}
use Rattle.cache.proofs.Sets.{way_is, find_is_hit, place_is_way}
use Rattle.cache.proofs.Whole.{history_kept, put_back_history, put_back_replaced}

-- a read is the cache's part and then the TLB's slot
pub read_is_access : (s : State) (va p : ℕ) → read_step s va p ≡ shaped (accessed s va p) (translate (accessed s va p).shape va p)
unfolding read_step accessed
read_is_access s va p = refl

-- a number that is marked is a page
pub marked_page : (s : State) (p : ℕ) → Sized s → 1 ≡ at s.shape.pages.cacheable p → p < pages
marked_page s p z e = below? p pages (λ h. h) (λ h. let a = at_past s.shape.pages.cacheable p (omega (arith, z.cacheable)) in absurd (omega arith))

-- a cacheable number is a page
pub cacheable_page : (s : State) (p : ℕ) → Sized s → is_cacheable s.shape p ≡ true → p < pages
cacheable_page s p z e = marked_page s p z (sym (eqb-true (at s.shape.pages.cacheable p) 1 e))

-- the way for a line that enters is a byte
pub way_small : (s : State) (k : ℕ) → Bounded s → way_for s.shape k < byte_bound
unfolding way_for
way_small s k b =
    let t : ℕ → Bool = λ w. eqb (at s.shape.cache.line_page (line_at k w)) 0 in
    pick_both (λ (x : ℕ). x < byte_bound) (ltb (first_below ways t) ways) (λ e. omega (arith, first_below_le t ways)) (λ e. b.history k)

-- ---- no line

-- at no line nothing changes
nothing : (s : State) (va p : ℕ) → Sized s → enter (take_out s no_line) no_line va p ≡ s
unfolding enter take_out
nothing s va p z =
    let C = s.shape.cache in
    let out : (l : List ℕ) (x y : ℕ) → length l ≡ lines → set (set l no_line x) no_line y ≡ l = λ l x y e. set-set l no_line x y ∙ set_out l no_line y (omega arith) in
    let a = out C.line_address 0 va z.line_address in
    let e = out C.line_page 0 (suc p) z.line_page in
    let v = out s.values.line 0 (at (take_out s no_line).values.memory p) z.line in
    let n : lead (at C.line_page no_line) ≡ nowhere = ap lead (at_past C.line_page no_line (omega (arith, z.line_page))) in
    let m : (take_out s no_line).values.memory ≡ s.values.memory =
    ap (λ (q : ℕ). set s.values.memory q (at s.values.line no_line)) n
    ∙ set_out s.values.memory nowhere (at s.values.line no_line) (omega (arith, z.memory)) in
    λ i. record {
      shape = with_cache s.shape (record { line_address = a i; line_page = e i; history = C.history });
      values = record { memory = m i; line = v i };
    }

-- the history as it was
same_history : (s : State) (k x : ℕ) → set s.shape.cache.history k x ≡ s.shape.cache.history → shaped s (set_history s.shape k x) ≡ s
same_history s k x e i =
    shaped s (with_cache s.shape (record { line_address = s.shape.cache.line_address; line_page = s.shape.cache.line_page; history = e i }))

-- ---- an access

module _ (s : State) (va p : ℕ) where
  no_miss : is_cacheable s.shape p ≡ false → miss_line s.shape va p ≡ no_line
  unfolding miss_line
  no_miss c = split (ltb (hit_way s.shape va p) ways) (λ e. rw e) (λ e. rw (e, c))

  hit_no_miss : ltb (hit_way s.shape va p) ways ≡ true → miss_line s.shape va p ≡ no_line
  unfolding miss_line
  hit_no_miss h = rw h

  no_history : Sized s → is_cacheable s.shape p ≡ false → shaped s (access_history s.shape va p) ≡ s
  unfolding access_history
  no_history z c = rw c (same_history s sets _ (set_out s.shape.cache.history sets _ (omega (arith, z.history))))

  hit_history : is_cacheable s.shape p ≡ true → ltb (hit_way s.shape va p) ways ≡ true → shaped s (access_history s.shape va p) ≡ s
  unfolding access_history
  hit_history c h = rw (c, h) (same_history s (set_of va) (at s.shape.cache.history (set_of va)) (set-get_or s.shape.cache.history (set_of va) 0))

  still : Sized s → shaped s (access_history s.shape va p) ≡ s → miss_line s.shape va p ≡ no_line → accessed s va p ≡ s
  unfolding accessed
  still z e n = (λ j. enter (take_out (e j) (n j)) (n j) va p) ∙ nothing s va p z

  pub access_none : Sized s → is_cacheable s.shape p ≡ false → accessed s va p ≡ s
  access_none z c = still z (no_history z c) (no_miss c)

  access_hit : Sized s → is_cacheable s.shape p ≡ true → ltb (hit_way s.shape va p) ways ≡ true → accessed s va p ≡ s
  access_hit z c h = still z (hit_history c h) (hit_no_miss h)

  access_miss : is_cacheable s.shape p ≡ true → ltb (hit_way s.shape va p) ways ≡ false → accessed s va p ≡ missed s (set_of va) (way_for s.shape (set_of va)) va p
  unfolding accessed missed miss_line access_history access_way
  access_miss c h = rw (c, h)

-- ---- what is found, and what is stored

module _ (s : State) (va p : ℕ) where
  pub found_memory : is_cacheable s.shape p ≡ false → at s.values.memory p ≡ found s va p
  unfolding found
  found_memory c = rw c

  pub stored_memory : (n : ℕ) → is_cacheable s.shape p ≡ false → length s.values.line ≡ lines → put_memory s p n ≡ stored_in s va p n
  unfolding put_memory stored_in store hit_way
  stored_memory n c l =
      let e = set_out s.values.line no_line n (omega arith) in
      rw c (λ i. record { shape = s.shape; values = record { memory = set s.values.memory p n; line = sym e i } })

  module _ (c : is_cacheable s.shape p ≡ true) where
    found_line : (w : ℕ) → hit_way s.shape va p ≡ w → w < ways → at s.values.line (line_at (set_of va) w) ≡ found s va p
    unfolding found
    found_line w e h =
        let i : line_at (set_of va) w ≡ line_of s.shape va p = rw (e, lt-ltb w ways h) in
        ap (at s.values.line) i ∙ sym (pick_yes (at s.values.line (line_of s.shape va p)) (at s.values.memory p) c)

    stored_line : (n w : ℕ) → hit_way s.shape va p ≡ w → w < ways → length s.values.memory ≡ pages
        → put_line s (line_at (set_of va) w) n ≡ stored_in s va p n
    unfolding put_line stored_in store hit_way
    stored_line n w e h m =
        let o = set_out s.values.memory nowhere n (omega arith) in
        rw (c, e, lt-ltb w ways h) (λ i. record { shape = s.shape; values = record { memory = sym o i; line = set s.values.line (line_at (set_of va) w) n } })

    found_nowhere : hit_way s.shape va p ≡ ways → length s.values.line ≡ lines → 0 ≡ found s va p
    unfolding found
    found_nowhere e l = rw (c, e) (sym (at_past s.values.line no_line (omega arith)))

    stored_nowhere : (n : ℕ) → hit_way s.shape va p ≡ ways → length s.values.memory ≡ pages → length s.values.line ≡ lines → s ≡ stored_in s va p n
    unfolding stored_in store hit_way
    stored_nowhere n e m l =
        let o = set_out s.values.memory nowhere n (omega arith) in
        let q = set_out s.values.line no_line n (omega arith) in
        rw (c, e) (λ i. record { shape = s.shape; values = record { memory = sym o i; line = sym q i } })

  -- what is found, stored there again
  store_found : length s.values.memory ≡ pages → length s.values.line ≡ lines → stored_in s va p (found s va p) ≡ s
  unfolding stored_in store hit_way found
  store_found m l =
      let v = s.values in
      let i = line_of s.shape va p in
      split (is_cacheable s.shape p)
      (λ c.
      let o = set_out v.memory nowhere (at v.line i) (omega arith) in
      rw c (λ j. record { shape = s.shape; values = record { memory = o j; line = set-get_or v.line i 0 j } }))
      (λ c.
      let o = set_out v.line no_line (at v.memory p) (omega arith) in
      rw c (λ j. record { shape = s.shape; values = record { memory = set-get_or v.memory p 0 j; line = o j } }))

-- ---- an access for a purpose

pub kept : (q : Option ℕ) (v : ℕ) → unwrap_or q v ≡ after q v
kept None v = refl
kept (Some n) v = refl

module _ (s : State) (va p : ℕ) (z : Sized s) where
  pub accessed_memory : length (accessed s va p).values.memory ≡ pages
  unfolding accessed take_out enter
  accessed_memory = length-set s.values.memory _ _ ∙ z.memory

  accessed_line : length (accessed s va p).values.line ≡ lines
  unfolding accessed take_out enter
  accessed_line = length-set (set s.values.line _ 0) _ _ ∙ length-set s.values.line _ 0 ∙ z.line

  pub accesses : (q : Option ℕ) (v : ℕ) (t u : State) → accessed s va p ≡ t → v ≡ found t va p → u ≡ stored_in t va p (after q v) → AccessesLine s va p q v u
  unfolding line_for
  accesses None v t u a e f =
      let b = e ∙ ap (λ (x : State). found x va p) (sym a) in
      record {
        value = b;
        state = f ∙ (λ j. stored_in (sym a j) va p (b j)) ∙ store_found (accessed s va p) va p accessed_memory accessed_line;
      }
  accesses (Some n) v t u a e f =
      record { value = e ∙ ap (λ (x : State). found x va p) (sym a); state = f ∙ ap (λ (x : State). stored_in x va p n) (sym a) }

-- ---- the code's steps, with what is in between: x is the set of va

-- a line stored with another value
value_stored : (s : State) (i n : ℕ) → put_whole s i (line_with (at s.shape.cache.line_address i) (at s.shape.cache.line_page i) n) ≡ put_line s i n
unfolding put_whole put_line
value_stored s i n j =
    record {
      shape =
          with_cache s.shape
          (record {
            line_address = set-get_or s.shape.cache.line_address i 0 j;
            line_page = set-get_or s.shape.cache.line_page i 0 j;
            history = s.shape.cache.history;
          });
      values = record { memory = s.values.memory; line = set s.values.line i n };
    }

module _ (s : State) (va p : ℕ) (z : Sized s) (c : is_cacheable s.shape p ≡ true) (x : Set) (ex : x ≡ set_from s (set_of va)) where
  is_found : find_in x va p ≡ hit_way s.shape va p
  is_found = ap (λ (t : Set). find_in t va p) ex ∙ find_is_hit s va p (cacheable_page s p z c)

  is_line : (w : ℕ) → w < ways → way_in x w ≡ line_from s (line_at (set_of va) w)
  is_line w h = ap (λ (t : Set). way_in t w) ex ∙ way_is s (set_of va) w h

  is_read : (w : ℕ) → w < ways → (o : Line) → o ≡ way_in x w → o ≡ line_from s (line_at (set_of va) w)
  is_read w h o e = e ∙ is_line w h

  pub access_hits : (w : ℕ) → w ≡ find_in x va p → w < ways → (q : Option ℕ) (o : Line) (n : ℕ) (y t : Set) (u : State) → o ≡ way_in x w
      → n ≡ after q o.value
      → y ≡ replaced_in x w (line_with o.address.0 o.page.0 n) → t ≡ used_in y w → u ≡ put_back s (set_of va) t
      → AccessesLine s va p q o.value u
  unfolding put_whole
  access_hits w ew h q o n y t u eo en ey et eu =
      let k = set_of va in
      let i = line_at k w in
      let e : hit_way s.shape va p ≡ w = sym (ew ∙ is_found) in
      let r = is_read w h o eo in
      let v = ap (λ (l : Line). l.value) r in
      let m : Line = line_with (at s.shape.cache.line_address i) (at s.shape.cache.line_page i) n in
      let b : t ≡ used_in (replaced_in (set_from s k) w m) w =
      et ∙ ap (λ (a : Set). used_in a w) (ey ∙ (λ j. replaced_in (ex j) w (line_with (r j).address.0 (r j).page.0 n))) in
      accesses s va p z q o.value s u (access_hit s va p z c (lt-ltb (hit_way s.shape va p) ways (omega arith)))
      (v ∙ found_line s va p c w e h)
      (eu ∙ ap (put_back s k) b ∙ put_back_replaced s k w (at s.shape.cache.history k) m h ∙ history_kept (put_whole s i m) k
      ∙ value_stored s i n
      ∙ ap (put_line s i) en
      ∙ stored_line s va p c (after q o.value) w e h z.memory)

  module _ (m : ways ≤ find_in x va p) (w : ℕ) (ew : w ≡ place_in x) where
    misses : accessed s va p ≡ missed s (set_of va) w va p
    misses =
        access_miss s va p c (le-ltb (hit_way s.shape va p) ways (omega (arith, is_found)))
        ∙ ap (λ (a : ℕ). missed s (set_of va) a va p) (sym (ew ∙ ap place_in ex ∙ place_is_way s (set_of va)))

    -- no way but the one that the line enters has the key afterwards
    others : (j : ℕ) → j < ways → j ≢ w → has_key (missed s (set_of va) w va p).shape va p (line_at (set_of va) j) ≡ false
    unfolding missed take_out enter hit_way
    others j b d =
        let C = s.shape.cache in
        let k = set_of va in
        let i = line_at k w in
        let n : line_at k j ≢ i = λ e. d (omega arith) in
        let e = at_other (set C.line_page i 0) i (suc p) (line_at k j) n ∙ at_other C.line_page i 0 (line_at k j) n in
        let a = at_other (set C.line_address i 0) i va (line_at k j) n ∙ at_other C.line_address i 0 (line_at k j) n in
        (λ t. eqb (e t) (suc p) && eqb (a t) va)
        ∙ first_below_before (λ w. has_key s.shape va p (line_at k w)) ways j (omega (arith, is_found))

    entered_there : w < ways → hit_way (missed s (set_of va) w va p).shape va p ≡ w
    unfolding missed take_out enter hit_way
    entered_there h =
        let C = s.shape.cache in
        let i = line_at (set_of va) w in
        let e = at_same (set C.line_page i 0) i (suc p) (omega (arith, length-set C.line_page i 0, z.line_page)) in
        let a = at_same (set C.line_address i 0) i va (omega (arith, length-set C.line_address i 0, z.line_address)) in
        first_below_is (λ j. has_key (missed s (set_of va) w va p).shape va p (line_at (set_of va) j)) ways w h
        (λ t. eq-eqb (at (set (set C.line_page i 0) i (suc p)) i) (suc p) e t && eq-eqb (at (set (set C.line_address i 0) i va) i) va a t)
        (λ j b. others j (omega arith) (omega arith))

    entered_nowhere : ways ≤ w → hit_way (missed s (set_of va) w va p).shape va p ≡ ways
    unfolding hit_way
    entered_nowhere h =
        first_below_none (λ j. has_key (missed s (set_of va) w va p).shape va p (line_at (set_of va) j)) ways (λ j b. others j b (omega arith))

    missed_memory : length (missed s (set_of va) w va p).values.memory ≡ pages
    unfolding missed take_out enter
    missed_memory = length-set s.values.memory _ _ ∙ z.memory

    missed_line : length (missed s (set_of va) w va p).values.line ≡ lines
    unfolding missed take_out enter
    missed_line = length-set (set s.values.line _ 0) _ _ ∙ length-set s.values.line _ 0 ∙ z.line

    found_entered : w < ways → found (missed s (set_of va) w va p) va p ≡ at (take_out s (line_at (set_of va) w)).values.memory p
    unfolding missed take_out enter
    found_entered h =
        let i = line_at (set_of va) w in
        sym (found_line (missed s (set_of va) w va p) va p c w (entered_there h) h)
        ∙ at_same (set s.values.line i 0) i (at (take_out s i).values.memory p) (omega (arith, length-set s.values.line i 0, z.line))

    -- the line saved, and the set put back with the line that enters
    miss_put : (n : ℕ)
        → put history_field
        (put_whole
        (put_memory s (lead (at s.shape.cache.line_page (line_at (set_of va) w))) (at s.values.line (line_at (set_of va) w)))
        (line_at (set_of va) w)
        (line_to va p n))
        (set_of va)
        (entered (at s.shape.cache.history (set_of va)) w)
        ≡ put_line (missed s (set_of va) w va p) (line_at (set_of va) w) n
    unfolding put put_whole put_memory put_line missed take_out enter
    miss_put n =
        let C = s.shape.cache in
        let k = set_of va in
        let i = line_at k w in
        let M = set s.values.memory (lead (at C.line_page i)) (at s.values.line i) in
        let a = set-set C.line_address i 0 va in
        let e = set-set C.line_page i 0 (suc p) in
        let l = set-set (set s.values.line i 0) i (at M p) n ∙ set-set s.values.line i 0 n in
        λ j.
        record {
          shape = with_cache s.shape (record { line_address = sym a j; line_page = sym e j; history = set C.history k (entered (at C.history k) w) });
          values = record { memory = M; line = sym l j };
        }

    pub access_misses : w < ways → (q : Option ℕ) (v n : ℕ) (o : Line) (r : State) (l : Line) (y t : Set) (u : State)
        → o ≡ way_in x w
        → r ≡ put_memory s (lead o.page.0) o.value
        → v ≡ at r.values.memory p
        → n ≡ after q v
        → l ≡ line_to va p n
        → y ≡ replaced_in x w l
        → t ≡ entered_in y w
        → u ≡ put_back r (set_of va) t
        → AccessesLine s va p q v u
    unfolding put_memory missed take_out enter
    access_misses h q v n o r l y t u eo er ev en el ey et eu =
        let k = set_of va in
        let i = line_at k w in
        let b = missed s k w va p in
        let d : State = put_memory s (lead (at s.shape.cache.line_page i)) (at s.values.line i) in
        let er' : r ≡ d = er ∙ ap (λ (a : Line). put_memory s (lead a.page.0) a.value) (is_read w h o eo) in
        let to : Line = line_to va p (after q v) in
        let et' : t ≡ entered_in (replaced_in (set_from s k) w to) w =
        et ∙ ap (λ (a : Set). entered_in a w) (ey ∙ (λ j. replaced_in (ex j) w ((el ∙ ap (line_to va p) en) j))) in
        accesses s va p z q v b u misses
        (ev ∙ ap (λ (a : State). at a.values.memory p) er' ∙ sym (found_entered h))
        (eu ∙ (λ j. put_back (er' j) k (et' j)) ∙ put_back_replaced d k w (entered (at s.shape.cache.history k) w) to h ∙ miss_put (after q v)
        ∙ stored_line b va p c (after q v) w (entered_there h) h missed_memory)

    pub access_past : ways ≤ w → (q : Option ℕ) (u : State) → u ≡ missed s (set_of va) w va p → AccessesLine s va p q 0 u
    unfolding missed take_out enter
    access_past h q u eu =
        let b = missed s (set_of va) w va p in
        accesses s va p z q 0 b u misses (found_nowhere b va p c (entered_nowhere h) missed_line)
        (eu ∙ stored_nowhere b va p c (after q 0) (entered_nowhere h) missed_memory missed_line)

-- a line that enters past the last way of its set
pub enters_past : (s : State) (k w va p : ℕ) (x y : Set) (t u v : State) → p < pages → x ≡ set_from s k → y ≡ entered_in x w → t ≡ put_back s k y
    → u ≡ take_out t (line_at k w) → v ≡ pick (is_page p) (enter u (line_at k w) va p) u
    → v ≡ missed s k w va p
unfolding put missed
enters_past s k w va p x y t u v h ex ey et eu ev =
    let b : t ≡ put history_field s k (entered (at s.shape.cache.history k) w) =
    et ∙ ap (put_back s k) (ey ∙ ap (λ (a : Set). entered_in a w) ex) ∙ put_back_history s k (entered (at s.shape.cache.history k) w) in
    ev ∙ pick_yes (enter u (line_at k w) va p) u (lt-ltb p pages h)
    ∙ ap (λ (a : State). enter a (line_at k w) va p) (eu ∙ ap (λ (a : State). take_out a (line_at k w)) b)

-- ---- what is found after an access

module _ (s : State) (va p : ℕ) (z : Sized s) where
  pub found_uncached : is_cacheable s.shape p ≡ false → found (accessed s va p) va p ≡ at s.values.memory p
  found_uncached c = ap (λ (t : State). found t va p) (access_none s va p z c) ∙ sym (found_memory s va p c)

  pub found_hit : is_cacheable s.shape p ≡ true → hit_way s.shape va p < ways
      → found (accessed s va p) va p ≡ at s.values.line (line_at (set_of va) (hit_way s.shape va p))
  found_hit c h =
      ap (λ (t : State). found t va p) (access_hit s va p z c (lt-ltb (hit_way s.shape va p) ways h))
      ∙ sym (found_line s va p c (hit_way s.shape va p) refl h)

  -- memory's, after the line that was in the way is taken out
  pub found_miss : is_cacheable s.shape p ≡ true → ways ≤ hit_way s.shape va p → way_for s.shape (set_of va) < ways
      → found (accessed s va p) va p ≡ at (take_out s (line_at (set_of va) (way_for s.shape (set_of va)))).values.memory p
  found_miss c m h =
      let x = set_from s (set_of va) in
      let k : ways ≤ find_in x va p = omega (arith, is_found s va p z c x refl) in
      let e = sym (place_is_way s (set_of va)) in
      ap (λ (t : State). found t va p) (misses s va p z c x refl k (way_for s.shape (set_of va)) e)
      ∙ found_entered s va p z c x refl k (way_for s.shape (set_of va)) e h

-- the TLB has no part in it
pub found_read : (s : State) (va p : ℕ) → found (read_step s va p) va p ≡ found (accessed s va p) va p
unfolding found hit_way
found_read s va p = ap (λ (t : State). found t va p) (read_is_access s va p)
