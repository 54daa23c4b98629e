-- Values that are the same but for those of g's pages, and that the parts of steps leave them so: a line that is taken out or enters does so within one
-- page, so within one owner.
-- Assumes nothing.
use mathlib.Core.Path.{◌≡◌, refl, sym, ap, ◌∙◌}
use mathlib.Core.Logic.{◌≢◌}
use mathlib.Core.List.{List}
use Prim.Native.Nat.{ℕ, suc, ◌<◌}
use native.Mathlib.Omega.{arith}
use lib.Dec.{eqb}
use lib.ListN.{length, set}
use lib.Seq.{set_out}
use borrow.Author.Tests.{lt-ltb, eq-eqb, ne_eqb}
use Rattle.laws.specs.Choice.{pick, at}
use Rattle.laws.proofs.Cases.{same?, below?, pick_not}
use Rattle.laws.proofs.Lists.{at_past, at_same, at_other, length_list_of, get_or_list_of}
use Rattle.model.specs.Sizes.{pages, lines}
use Rattle.model.specs.Names.{owner_guest}
use Rattle.model.specs.State.{Shape, Values, lead, nowhere, line_of_page, present}
use Rattle.model.specs.Parts.{cleared}
use Rattle.model.proofs.RuleTests.{lead_page, lead_past}
use Rattle.model.proofs.Shape.{filled}
use Rattle.keeps.proofs.Stores.{size_set}
use Rattle.keeps.proofs.Present.{paged?}

-- g hides nothing there: the owner is another's or none
abbrev pub Others : ℕ → List ℕ → ℕ → Type 0
Others g owner p = at owner p ≢ owner_guest g

pub record Alike (g : ℕ) (owner line_page : List ℕ) (v w : Values) : Type 0 where
  pub owned : length owner ≡ pages
  pub held : length line_page ≡ length v.line
  pub memories : length v.memory ≡ length w.memory
  pub same_lines : length v.line ≡ length w.line
  pub memory : (p : ℕ) → Others g owner p → at v.memory p ≡ at w.memory p
  pub line : (i : ℕ) → Others g owner (lead (at line_page i)) → at v.line i ≡ at w.line i

-- ---- one store in each of two lists

pub set_both : (l m : List ℕ) (i x y j : ℕ) → length l ≡ length m → (i < length l → j ≡ i → x ≡ y) → (j ≢ i → at l j ≡ at m j) → at (set l i x) j ≡ at (set m i y) j
set_both l m i x y j n e o =
    same? j i
    (λ q.
    below? i (length l) (λ h. rw q (at_same l i x h ∙ e h q ∙ sym (at_same m i y (omega arith))))
    (λ h. at_past (set l i x) j (omega (arith, size_set l i x refl)) ∙ sym (at_past (set m i y) j (omega (arith, size_set m i y refl)))))
    (λ d. at_other l i x j d ∙ o d ∙ sym (at_other m i y j d))

set_sizes : (l m : List ℕ) (i x y : ℕ) → length l ≡ length m → length (set l i x) ≡ length (set m i y)
set_sizes l m i x y n = size_set l i x n ∙ sym (size_set m i y refl)

-- a store outside the list, or at another place
stored_elsewhere : (l : List ℕ) (i x j : ℕ) → (i < length l → j ≢ i) → at (set l i x) j ≡ at l j
stored_elsewhere l i x j n = below? i (length l) (λ h. at_other l i x j (n h)) (λ h. ap (λ (m : List ℕ). at m j) (set_out l i x h))

-- a place that holds p leads to what has p's owner, if p is a page or not
lead_owner : (owner : List ℕ) → length owner ≡ pages → (p : ℕ) → at owner (lead (suc p)) ≡ at owner p
lead_owner owner n p =
    below? p pages (λ h. ap (at owner) (lead_page p h))
    (λ h. ap (at owner) (lead_past p h) ∙ at_past owner nowhere (omega arith) ∙ sym (at_past owner p (omega arith)))

-- ---- what parts of steps do with values

abbrev out_values : List ℕ → ℕ → Values → Values
out_values line_page i v = record { memory = set v.memory (lead (at line_page i)) (at v.line i); line = set v.line i 0 }

abbrev enter_values : ℕ → ℕ → Values → Values
enter_values i p v = record { memory = v.memory; line = set v.line i (at v.memory p) }

abbrev store_values : ℕ → ℕ → ℕ → Values → Values
store_values q i x v = record { memory = set v.memory q x; line = set v.line i x }

-- a page that changes hands holds 0
abbrev hand_values : ℕ → Values → Values
hand_values p v = record { memory = set v.memory p 0; line = v.line }

module _ {g : ℕ} {owner line_page : List ℕ} {v w : Values} (a : Alike g owner line_page v w) where
  -- the page of a line is another's if the line's place leads to one
  line_others : (i p : ℕ) → at line_page i ≡ suc p → Others g owner p → at v.line i ≡ at w.line i
  line_others i p e n = a.line i (λ o. n (sym (ap (λ (x : ℕ). at owner (lead x)) e ∙ lead_owner owner a.owned p) ∙ o))

  pub out : (i : ℕ) → Alike g owner (set line_page i 0) (out_values line_page i v) (out_values line_page i w)
  out i =
      record {
        owned = a.owned;
        held = size_set line_page i 0 a.held ∙ sym (size_set v.line i 0 refl);
        memories = set_sizes v.memory w.memory (lead (at line_page i)) (at v.line i) (at w.line i) a.memories;
        same_lines = set_sizes v.line w.line i 0 0 a.same_lines;
        memory = λ p n. set_both v.memory w.memory (lead (at line_page i)) (at v.line i) (at w.line i) p a.memories
            (λ _ q. a.line i (λ o. n (ap (at owner) q ∙ o))) (λ _. a.memory p n);
        line = λ j n. set_both v.line w.line i 0 0 j a.same_lines (λ _ _. refl)
            (λ d. a.line j (λ o. n (ap (λ (x : ℕ). at owner (lead x)) (at_other line_page i 0 j d) ∙ o)));
      }

  pub entered : (i p : ℕ) → Alike g owner (set line_page i (suc p)) (enter_values i p v) (enter_values i p w)
  entered i p =
      record {
        owned = a.owned;
        held = size_set line_page i (suc p) a.held ∙ sym (size_set v.line i (at v.memory p) refl);
        memories = a.memories;
        same_lines = set_sizes v.line w.line i (at v.memory p) (at w.memory p) a.same_lines;
        memory = a.memory;
        line = λ j n. set_both v.line w.line i (at v.memory p) (at w.memory p) j a.same_lines
            (λ h q. a.memory p (λ o. n (leads_to_law j h q ∙ o)))
            (λ d. a.line j (λ o. n (ap (λ (x : ℕ). at owner (lead x)) (at_other line_page i (suc p) j d) ∙ o)));
      }
    where
      leads_to_law : (j : ℕ) → i < length v.line → j ≡ i → at owner (lead (at (set line_page i (suc p)) j)) ≡ at owner p
      leads_to_law j h q =
          ap (λ (x : ℕ). at owner (lead (at (set line_page i (suc p)) x))) q
          ∙ ap (λ (x : ℕ). at owner (lead x)) (at_same line_page i (suc p) (omega (arith, a.held)))
          ∙ lead_owner owner a.owned p

  -- one value at the same places
  pub stored : (q i x : ℕ) → Alike g owner line_page (store_values q i x v) (store_values q i x w)
  stored q i x =
      record {
        owned = a.owned;
        held = a.held ∙ sym (size_set v.line i x refl);
        memories = set_sizes v.memory w.memory q x x a.memories;
        same_lines = set_sizes v.line w.line i x x a.same_lines;
        memory = λ p n. set_both v.memory w.memory q x x p a.memories (λ _ _. refl) (λ _. a.memory p n);
        line = λ j n. set_both v.line w.line i x x j a.same_lines (λ _ _. refl) (λ _. a.line j n);
      }

  -- any value where g's values are, in the first of the two
  pub own_stored : (q i x : ℕ) → (q < length v.memory → at owner q ≡ owner_guest g) → (i < length v.line → at owner (lead (at line_page i)) ≡ owner_guest g)
      → Alike g owner line_page (store_values q i x v) w
  own_stored q i x e f =
      record {
        owned = a.owned;
        held = a.held ∙ sym (size_set v.line i x refl);
        memories = size_set v.memory q x a.memories;
        same_lines = size_set v.line i x a.same_lines;
        memory = λ p n. stored_elsewhere v.memory q x p (λ h z. n (ap (at owner) z ∙ e h)) ∙ a.memory p n;
        line = λ j n. stored_elsewhere v.line i x j (λ h z. n (ap (λ (k : ℕ). at owner (lead (at line_page k))) z ∙ f h)) ∙ a.line j n;
      }

  pub alike_sym : Alike g owner line_page w v
  alike_sym =
      record {
        owned = a.owned;
        held = a.held ∙ a.same_lines;
        memories = sym a.memories;
        same_lines = sym a.same_lines;
        memory = λ p n. sym (a.memory p n);
        line = λ i n. sym (a.line i n);
      }

  -- a page that changes hands, and that g has not or no line has
  pub handed : (p o : ℕ) → ((i : ℕ) → lead (at line_page i) ≡ p → Others g owner p) → Alike g (set owner p o) line_page (hand_values p v) (hand_values p w)
  handed p o f =
      record {
        owned = size_set owner p o a.owned;
        held = a.held;
        memories = set_sizes v.memory w.memory p 0 0 a.memories;
        same_lines = a.same_lines;
        memory = λ q n. set_both v.memory w.memory p 0 0 q a.memories (λ _ _. refl) (λ d. a.memory q (λ z. n (at_other owner p o q d ∙ z)));
        line = λ i n. a.line i
            (λ z. same? (lead (at line_page i)) p (λ e. f i e (ap (at owner) (sym e) ∙ z)) (λ d. n (at_other owner p o (lead (at line_page i)) d ∙ z)));
      }

-- ---- a page's present value, and every line of it taken out

module _ {g : ℕ} (h : Shape) {v w : Values} (a : Alike g h.pages.owner h.cache.line_page v w) where
  pub present_alike : (p : ℕ) → Others g h.pages.owner p → present (filled h v) p ≡ present (filled h w) p
  unfolding present
  present_alike p n =
      paged? h p
      (λ l e. rw (lt-ltb (line_of_page h p) lines l) (line_others a (line_of_page h p) p e n))
      (λ e _. rw e (a.memory p n))

  abbrev page_values : ℕ → Values → Values
  page_values p x = record { memory = set x.memory p (present (filled h x) p); line = cleared h.cache.line_page p x.line }

  pub page_out : (p : ℕ) → Alike g h.pages.owner (cleared h.cache.line_page p h.cache.line_page) (page_values p v) (page_values p w)
  page_out p =
      record {
        owned = a.owned;
        held = length_list_of lines (clear h.cache.line_page) ∙ sym (length_list_of lines (clear v.line));
        memories = set_sizes v.memory w.memory p (present (filled h v) p) (present (filled h w) p) a.memories;
        same_lines = length_list_of lines (clear v.line) ∙ sym (length_list_of lines (clear w.line));
        memory = λ q n. set_both v.memory w.memory p (present (filled h v) p) (present (filled h w) p) q a.memories
            (λ _ e. present_alike p (λ o. n (ap (at h.pages.owner) e ∙ o))) (λ _. a.memory q n);
        line = λ i n.
            below? i lines
            (λ b. get_or_list_of lines (clear v.line) 0 i b
            ∙ same? (at h.cache.line_page i) (suc p) (λ e. rw (eq-eqb (at h.cache.line_page i) (suc p) e))
            (λ d.
            let t = ne_eqb (at h.cache.line_page i) (suc p) d in
            rw t (a.line i (λ o. n (ap (λ (x : ℕ). at h.pages.owner (lead x)) (get_or_list_of lines (clear h.cache.line_page) 0 i b ∙ pick_not 0 (at h.cache.line_page i) t) ∙ o))))
            ∙ sym (get_or_list_of lines (clear w.line) 0 i b))
            (λ b. at_past (cleared h.cache.line_page p v.line) i (omega (arith, length_list_of lines (clear v.line)))
            ∙ sym (at_past (cleared h.cache.line_page p w.line) i (omega (arith, length_list_of lines (clear w.line)))));
      }
    where
      clear : List ℕ → ℕ → ℕ
      clear l i = pick (eqb (at h.cache.line_page i) (suc p)) 0 (at l i)
