-- Opening, loading and saving: what is refused, and by which number; what was saved loads to the same state, what was loaded saves to the same
-- bytes, and from the first version to those of the version that is written; a byte out of its range is refused with 1.
-- Assumes nothing.
use mathlib.Core.Path.{◌≡◌, refl, sym, ap, subst, ◌∙◌}
use mathlib.Core.Logic.{◌≢◌}
use mathlib.Core.List.{List, [], ◌∷◌, ◌++◌}
use Prim.Native.Nat.{ℕ, zero, suc, ◌+◌, ◌≤◌, ◌<◌}
use native.Mathlib.Omega.{arith}
use lib.Dec.{eqb}
use lib.ListN.{length, drop}
use Rattle.laws.specs.Choice.{at}
use Rattle.laws.specs.Cut.{cut, begin, size, part, total}
use Rattle.laws.proofs.Cases.{split, pick_both}
use Rattle.laws.proofs.Tests.{eq⇔, fails, not_so}
use Rattle.laws.proofs.Lists.{at_past}
use Rattle.laws.proofs.Cut.{cut_get}
use Rattle.model.specs.Sizes.{image_head_bytes}
use Rattle.model.specs.Names.{write_back}
use Rattle.model.specs.State.{State}
use Rattle.model.specs.Records.{Bytes}
use Rattle.model.specs.Rules.{Below}
use Rattle.model.specs.Valid.{Valid, valid?}
use Rattle.model.specs.Fields.{field_sizes, field_bounds, Small, state_of, state_fields}
use Rattle.model.specs.Image.{first_version, first_fields, lengths, version_written, image_bytes, version_in, head, is_image, Image, image_of, fields_in, held, done, not_valid, not_image, image_number, Read, opened, loaded, Written, saved}
use Rattle.model.proofs.Valid.{valid⇔}
use Rattle.model.proofs.Fields.{state_fields_back, words_small, long_small}
use Rattle.model.proofs.Image.{image⇔, fields_at, rest_small, fields_first, rest_long, image_is, image_held, held_written, held_image}

-- ---- each answer, and when it is given

module _ (s : State) (i : List ℕ) where
  pub open_other : (Image i → ⊥) → opened s i ≡ record { answer = not_image; state = s }
  unfolding opened
  open_other n = rw (not_so (image⇔ i) n)

  pub open_image : Image i → opened s i ≡ record { answer = done; state = held i }
  unfolding opened
  open_image m = rw ((image⇔ i).1 m)

  -- 16 before 1
  pub load_other : (Image i → ⊥) → loaded s i ≡ record { answer = not_image; state = s }
  unfolding loaded
  load_other n = rw (not_so (image⇔ i) n)

  pub load_invalid : Image i → (Valid (held i) → ⊥) → loaded s i ≡ record { answer = not_valid; state = s }
  unfolding loaded
  load_invalid m n = rw ((image⇔ i).1 m, not_so (valid⇔ (held i)) n)

  pub load_valid : Image i → Valid (held i) → loaded s i ≡ record { answer = done; state = held i }
  unfolding loaded
  load_valid m v = rw ((image⇔ i).1 m, (valid⇔ (held i)).1 v)

  pub load_done : (loaded s i).answer ≡ done → Image i × Valid (held i)
  load_done e =
      split (is_image i)
      (λ t. split (valid? (held i)) (λ v. ((image⇔ i).0 t, (valid⇔ (held i)).0 v))
      (λ v. let z : 1 ≡ 0 = ap image_number (sym (ap (λ (r : Read). r.answer) (load_invalid ((image⇔ i).0 t) (fails (valid⇔ (held i)) v))) ∙ e) in absurd (omega arith)))
      (λ t. let z : 16 ≡ 0 = ap image_number (sym (ap (λ (r : Read). r.answer) (load_other (fails (image⇔ i) t))) ∙ e) in absurd (omega arith))

module _ (s : State) (b : List ℕ) where
  -- 1 before 16
  pub save_invalid : (Valid s → ⊥) → saved s b ≡ record { answer = not_valid; buffer = b }
  unfolding saved
  save_invalid n = rw (not_so (valid⇔ s) n)

  pub save_other : Valid s → (length b ≡ image_bytes → ⊥) → saved s b ≡ record { answer = not_image; buffer = b }
  unfolding saved
  save_other v n = rw ((valid⇔ s).1 v, not_so (eq⇔ (length b) image_bytes) n)

  pub save_valid : Valid s → length b ≡ image_bytes → saved s b ≡ record { answer = done; buffer = image_of s }
  unfolding saved
  save_valid v l = rw ((valid⇔ s).1 v, (eq⇔ (length b) image_bytes).1 l)

  pub save_done : (saved s b).answer ≡ done → Valid s × (length b ≡ image_bytes)
  save_done e =
      split (valid? s)
      (λ v. split (eqb (length b) image_bytes) (λ l. ((valid⇔ s).0 v, (eq⇔ (length b) image_bytes).0 l))
      (λ l. let z : 16 ≡ 0 = ap image_number (sym (ap (λ (r : Written). r.answer) (save_other ((valid⇔ s).0 v) (fails (eq⇔ (length b) image_bytes) l))) ∙ e) in absurd (omega arith)))
      (λ v. let z : 1 ≡ 0 = ap image_number (sym (ap (λ (r : Written). r.answer) (save_invalid (fails (valid⇔ s) v))) ∙ e) in absurd (omega arith))

-- ---- what is refused changes nothing

pub open_same : (s : State) (i : List ℕ) → (opened s i).answer ≢ done → (opened s i).state ≡ s
unfolding opened
open_same s i = pick_both (λ (r : Read). r.answer ≢ done → r.state ≡ s) (is_image i) (λ t n. absurd (n refl)) (λ t n. refl)

pub load_same : (s : State) (i : List ℕ) → (loaded s i).answer ≢ done → (loaded s i).state ≡ s
unfolding loaded
load_same s i =
    pick_both (λ (r : Read). r.answer ≢ done → r.state ≡ s) (is_image i)
    (λ t. pick_both (λ (r : Read). r.answer ≢ done → r.state ≡ s) (valid? (held i)) (λ v n. absurd (n refl)) (λ v n. refl)) (λ t n. refl)

pub save_same : (s : State) (b : List ℕ) → (saved s b).answer ≢ done → (saved s b).buffer ≡ b
unfolding saved
save_same s b =
    pick_both (λ (r : Written). r.answer ≢ done → r.buffer ≡ b) (valid? s)
    (λ v. pick_both (λ (r : Written). r.answer ≢ done → r.buffer ≡ b) (eqb (length b) image_bytes) (λ l n. absurd (n refl)) (λ l n. refl)) (λ v n. refl)

-- ---- there and back

-- what was saved loads, on any state, to the state that was saved
pub saved_loads : (s : State) (b : List ℕ) → (saved s b).answer ≡ done → (t : State) → loaded t (saved s b).buffer ≡ record { answer = done; state = s }
saved_loads s b e t =
    let v = (save_done s b e).0 in
    let k : held (image_of s) ≡ s = image_held s v in
    ap (λ (w : Written). loaded t w.buffer) (save_valid s b v (save_done s b e).1)
    ∙ load_valid t (image_of s) (image_is s v.sized) (subst Valid (sym k) v)
    ∙ ap (λ (u : State). record { answer = done; state = u }) k

-- what was loaded saves, to any buffer of that length: its fields behind the head that is written
loaded_written : (s : State) (i : List ℕ) → Bytes i → (loaded s i).answer ≡ done → (b : List ℕ) → length b ≡ image_bytes
    → saved (loaded s i).state b ≡ record { answer = done; buffer = head ++ fields_in i }
loaded_written s i w e b l =
    let m = load_done s i e in
    ap (λ (r : Read). saved r.state b) (load_valid s i m.0 m.1)
    ∙ save_valid (held i) b m.1 l
    ∙ ap (λ (c : List ℕ). record { answer = done; buffer = c }) (held_written i w m.0)

-- of the version that is written the same bytes
pub loaded_saves : (s : State) (i : List ℕ) → Bytes i → version_in i ≡ version_written → (loaded s i).answer ≡ done → (b : List ℕ) → length b ≡ image_bytes
    → saved (loaded s i).state b ≡ record { answer = done; buffer = i }
loaded_saves s i w v e b l =
    let m = (load_done s i e).0 in
    loaded_written s i w e b l ∙ ap (λ (c : List ℕ). record { answer = done; buffer = c }) (sym (held_written i w m) ∙ held_image i w m v)

-- of the first version its fields and write-back
pub first_saves : (s : State) (i : List ℕ) → Bytes i → version_in i ≡ first_version → (loaded s i).answer ≡ done → (b : List ℕ) → length b ≡ image_bytes
    → saved (loaded s i).state b ≡ record { answer = done; buffer = head ++ (drop image_head_bytes i ++ (write_back ∷ [])) }
first_saves s i w v e b l =
    loaded_written s i w e b l ∙ ap (λ (r : List ℕ). record { answer = done; buffer = head ++ r }) (fields_first i v)

-- and it is write-back
pub first_back : (i : List ℕ) → Image i → version_in i ≡ first_version → (held i).shape.policy ≡ write_back
unfolding held
first_back i m v =
    let l : length i ≡ at lengths first_version = m.long ∙ ap (at lengths) v in
    sym (cut_get field_sizes first_fields 0 (fields_in i) (omega arith)) ∙ fields_at i (begin field_sizes first_fields + 0)
    ∙ at_past i (image_head_bytes + (begin field_sizes first_fields + 0)) (omega arith)

-- ---- a byte out of its range

-- the first so many bytes of each part are below its bound
abbrev Within : List ℕ → List ℕ → List (List ℕ) → Type 0
Within [] bs ps = Unit {0}
Within (n ∷ ns) [] ps = ⊥
Within (n ∷ ns) (b ∷ bs) [] = ⊥
Within (n ∷ ns) (b ∷ bs) (p ∷ ps) = Below p n b × Within ns bs ps

within_at : (ns bs : List ℕ) (ps : List (List ℕ)) → Within ns bs ps → (f k : ℕ) → k < size ns f → at (part ps f) k < at bs f
within_at [] bs ps w f k h = absurd (omega arith)
within_at (n ∷ ns) [] ps w f k h = elim w [ ]
within_at (n ∷ ns) (b ∷ bs) [] w f k h = elim w [ ]
within_at (n ∷ ns) (b ∷ bs) (p ∷ ps) w zero k h = w.0 k h
within_at (n ∷ ns) (b ∷ bs) (p ∷ ps) w (suc f) k h = within_at ns bs ps w.1 f k h

-- of the fields of a valid state
fields_within : (s : State) → Valid s → Within field_sizes field_bounds (state_fields s)
fields_within s v =
    let P = v.rule10.pages in
    let G = v.rule10.guests in
    let C = v.rule10.cache in
    let T = v.rule10.tlb in
    let tail : Within (drop 12 field_sizes) (drop 12 field_bounds) (drop 12 (state_fields s)) =
    (C.line_address, (C.line_page, (C.history, (T.slot_address, (T.slot_page, (λ k h. words_small s.values.memory k, (λ k h. words_small s.values.line k, (one_below v.rule10.policy, tt)))))))) in (
      P.owner,
      (
        P.kind,
        (
          P.cacheable,
          (
            P.entry,
            (
              P.physical,
              (
                λ k h. long_small s.shape.pages.free k,
                (
                  G.current,
                  (
                    G.call,
                    (
                      G.call_a,
                      (
                        G.call_b,
                        (one_below G.active, (one_below G.mode, tail)),
                      ),
                    ),
                  ),
                ),
              ),
            ),
          ),
        ),
      ),
    )
  where
    one_below : {x b : ℕ} → x < b → Below (x ∷ []) 1 b
    one_below h zero k = h
    one_below h (suc i) k = absurd (omega arith)

-- byte k of field f of an image, past the field's bound: refused with 1, and the state stays
pub out_of_range : (s : State) (i : List ℕ) → Bytes i → Image i → (f k : ℕ) → k < size field_sizes f
    → at field_bounds f ≤ at i (image_head_bytes + (begin field_sizes f + k)) → loaded s i ≡ record { answer = not_valid; state = s }
unfolding held
out_of_range s i w m f k h past =
    load_invalid s i m (λ v.
    let xs : List ℕ = fields_in i in
    let small : Small xs = rest_small i w in
    let l : length xs ≡ total field_sizes = rest_long i m in
    let e : at i (image_head_bytes + (begin field_sizes f + k)) ≡ at (part (cut field_sizes xs) f) k =
    sym (fields_at i (begin field_sizes f + k)) ∙ cut_get field_sizes f k xs h in
    let g : at (part (state_fields (state_of (cut field_sizes xs))) f) k ≡ at (part (cut field_sizes xs) f) k =
    ap (λ (ps : List (List ℕ)). at (part ps f) k) (state_fields_back xs l small) in
    let b = within_at field_sizes field_bounds (state_fields (held i)) (fields_within (held i) v) f k h in
    absurd (omega arith))
