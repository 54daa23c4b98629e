-- On a valid state no line holds a number past the last page, so `deleted` and `created` are the model's steps.
-- Assumes nothing.
use mathlib.Core.Path.{◌≡◌, sym, ap, ◌∙◌}
use mathlib.Core.Bool.{Bool, false, ◌&&◌}
use mathlib.Core.List.{List}
use Prim.Native.Nat.{ℕ, suc, ◌≤◌}
use native.Mathlib.Omega.{arith}
use lib.Dec.{eqb}
use lib.ListN.{length, length-set}
use lib.Seq.{ext_get_or, set_out}
use Rattle.laws.specs.Choice.{pick, at}
use Rattle.laws.proofs.Cases.{split, below?, pick_not}
use Rattle.laws.proofs.Tests.{eq⇔, lt⇔, not_so, fails}
use Rattle.laws.proofs.Lists.{at_past, at_any, length_list_of, get_or_list_of}
use Rattle.laws.proofs.Search.{first_below_none}
use Rattle.model.specs.Sizes.{pages, ways, lines, set_of}
use Rattle.model.specs.State.{Shape, State, is_page, nowhere, mapped, has_key, hit_way, no_line, line_at, line_of, present}
use Rattle.model.specs.Parts.{shaped, with_cache, lose_mark, take_out, cleared, take_out_page}
use Rattle.model.specs.New.{old_line, is_shared, share, new_step}
use Rattle.model.specs.Del.{del_step}
use Rattle.model.specs.Valid.{Valid}
use Rattle.acts.specs.Mapped.{former_line, remapped, shared, idle, deleted, created}

-- no line holds a number past the last page
abbrev Sound : List ℕ → Type 0
Sound line_page = (i : ℕ) → at line_page i ≤ pages

-- ---- the line that an address had

module _ (h : Shape) (b : Sound h.cache.line_page) (va : ℕ) where
  no_key : (p : ℕ) → pages ≤ p → (i : ℕ) → has_key h va p i ≡ false
  no_key p l i =
      ap (λ (x : Bool). x && eqb (at h.cache.line_address i) va)
      (not_so (eq⇔ (at h.cache.line_page i) (suc p)) (λ e. omega (arith, b i)))

  no_line_law : (p : ℕ) → pages ≤ p → line_of h va p ≡ no_line
  unfolding hit_way
  no_line_law p l =
      let e : hit_way h va p ≡ ways = first_below_none (λ w. has_key h va p (line_at (set_of va) w)) ways (λ w k. no_key p l (line_at (set_of va) w)) in
      pick_not (line_at (set_of va) (hit_way h va p)) no_line (not_so (lt⇔ (hit_way h va p) ways) (λ k. omega arith))

  pub former_old : former_line h va ≡ old_line h va
  former_old =
      split (is_page (mapped h va)) (λ e. rw e)
      (λ e.
      pick_not (old_line h va) no_line e
      ∙ sym (no_line_law (mapped h va) (below? (mapped h va) pages (λ l. absurd (fails (lt⇔ (mapped h va) pages) e l)) (λ l. l))))

-- ---- a page that is not shared

cleared_same : (P l : List ℕ) → Sound P → length l ≡ lines → cleared P nowhere l ≡ l
cleared_same P l b e =
    let f : ℕ → ℕ = λ i. pick (eqb (at P i) (suc nowhere)) 0 (at l i) in
    ext_get_or 0 (cleared P nowhere l) l (length_list_of lines f ∙ sym e)
    (λ j k.
    get_or_list_of lines f 0 j (omega (arith, length_list_of lines f))
    ∙ pick_not 0 (at l j) (not_so (eq⇔ (at P j) (suc nowhere)) (λ q. omega (arith, b j))))

-- the sizes of the lists that are written
record Sizes (s : State) : Type 0 where
  line_address : length s.shape.cache.line_address ≡ lines
  line_page : length s.shape.cache.line_page ≡ lines
  line : length s.values.line ≡ lines
  memory : length s.values.memory ≡ pages
  cacheable : length s.shape.pages.cacheable ≡ pages

module _ (s : State) (z : Sizes s) (b : Sound s.shape.cache.line_page) where
  nothing_out : take_out_page s nowhere ≡ s
  unfolding take_out_page
  nothing_out =
      let C = s.shape.cache in
      let va = cleared_same C.line_page C.line_address b z.line_address in
      let pa = cleared_same C.line_page C.line_page b z.line_page in
      let li = cleared_same C.line_page s.values.line b z.line in
      let me = set_out s.values.memory nowhere (present s nowhere) (omega (arith, z.memory)) in
      λ j.
      record {
        shape = with_cache s.shape (record { line_address = va j; line_page = pa j; history = C.history });
        values = record { memory = me j; line = li j };
      }

  no_mark_lost : shaped s (lose_mark s.shape nowhere) ≡ s
  no_mark_lost = rw (set_out s.shape.pages.cacheable nowhere 0 (omega (arith, z.cacheable)))

  share_same : (va p : ℕ) → share s va p ≡ shared s va p
  unfolding share shared
  share_same va p =
      split (is_shared s.shape va p) (λ e. rw e)
      (λ e. rw e (ap (λ (x : State). shaped x (lose_mark x.shape nowhere)) nothing_out ∙ no_mark_lost))

-- ---- the steps

module _ (s : State) (v : Valid s) where
  sound : Sound s.shape.cache.line_page
  sound i =
      below? i lines (λ l. omega (arith, v.rule10.cache.line_page i l))
      (λ l. omega (arith, at_past s.shape.cache.line_page i (omega (arith, v.sized.line_page))))

  pub deleted_valid : (va : ℕ) → deleted s va ≡ del_step s va
  unfolding deleted del_step remapped
  deleted_valid va = ap (λ (i : ℕ). idle (remapped (take_out s i) va 0)) (former_old s.shape sound va)

  -- what `created` shares comes after a line is taken out
  module _ (i va e : ℕ) where
    abbrev later : State
    later = remapped (take_out s i) va e

    later_sizes : Sizes later
    unfolding remapped take_out
    later_sizes =
        record {
          line_address = length-set s.shape.cache.line_address i 0 ∙ v.sized.line_address;
          line_page = length-set s.shape.cache.line_page i 0 ∙ v.sized.line_page;
          line = length-set s.values.line i 0 ∙ v.sized.line;
          memory = length-set s.values.memory _ (at s.values.line i) ∙ v.sized.memory;
          cacheable = v.sized.cacheable;
        }

    later_sound : Sound later.shape.cache.line_page
    unfolding remapped take_out
    later_sound j = at_any (λ (x : ℕ). x ≤ pages) s.shape.cache.line_page i 0 j (omega arith) (sound j)

  pub created_valid : (va p : ℕ) → created s va p ≡ new_step s va p
  unfolding created new_step remapped
  created_valid va p =
      ap (λ (i : ℕ). idle (shared (remapped (take_out s i) va (suc p)) va p)) (former_old s.shape sound va)
      ∙ ap idle
      (sym
      (share_same (later (old_line s.shape va) va (suc p)) (later_sizes (old_line s.shape va) va (suc p))
      (later_sound (old_line s.shape va) va (suc p)) va p))
