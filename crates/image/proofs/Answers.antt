-- At most one answer, and one content of what was lent, meets each promise. What is refused leaves every byte. By the bytes: what was saved loads, what
-- was loaded saves, of the first version as of the one that is written, equal images are those of equal hosts, and a byte out of its range is refused with 1.
-- Assumes nothing.
use mathlib.Core.Path.{◌≡◌, refl, sym, ap, ◌∙◌}
use mathlib.Core.Logic.{◌≢◌, ◌↔◌}
use mathlib.Core.List.{List, [], ◌∷◌, ◌++◌}
use Prim.Native.Nat.{ℕ, ◌+◌, ◌≤◌, ◌<◌}
use lib.ListN.{length, drop}
use Rattle.std.proofs.Common.{Ok, Err}
use Rattle.laws.specs.Choice.{at}
use Rattle.laws.specs.Cut.{begin, size}
use Rattle.model.specs.Sizes.{image_head_bytes}
use Rattle.model.specs.State.{State}
use Rattle.model.specs.Records.{Bytes}
use Rattle.model.specs.Fields.{field_sizes, field_bounds}
use Rattle.model.specs.Names.{write_back}
use Rattle.model.specs.Image.{first_version, version_written, image_bytes, version_in, head, Image, image_of, ImageAnswer, done, not_valid, not_image, Read, loaded, Written, saved}
use Rattle.model.proofs.Image.{image_inj}
use Rattle.model.proofs.Saving.{open_same, load_same, save_same, load_valid, load_done, save_valid, save_done, saved_loads, loaded_saves, first_saves, first_back, out_of_range}
use Rattle.host.specs.View.{view, Whole}
use Rattle.host.proofs.Inverse.{view_inj}
use Rattle.numbers.specs.declared.refusal.Refusal.TheVariants.{NotValid}
use Rattle.image.specs.Promises.{Answer, answer_to, Opens, Loads, Saves}

pub one_open : (s : State) (i : List ℕ) {a b : Answer} {x y : List ℕ} → Whole x → Whole y → Opens s i a (view x) → Opens s i b (view y) → (a ≡ b) × (x ≡ y)
one_open s i {x = x} {y = y} h k p q = (p.answer ∙ sym q.answer, view_inj x y h k (p.state ∙ sym q.state))

pub one_load : (s : State) (i : List ℕ) {a b : Answer} {x y : List ℕ} → Whole x → Whole y → Loads s i a (view x) → Loads s i b (view y) → (a ≡ b) × (x ≡ y)
one_load s i {x = x} {y = y} h k p q = (p.answer ∙ sym q.answer, view_inj x y h k (p.state ∙ sym q.state))

pub one_save : (s : State) (b : List ℕ) {a d : Answer} {c e : List ℕ} → Saves s b a c → Saves s b d e → (a ≡ d) × (c ≡ e)
one_save s b p q = (p.answer ∙ sym q.answer, p.buffer ∙ sym q.buffer)

pub done_is : {m : ImageAnswer} → Ok tt ≡ answer_to m → m ≡ done
done_is {m = done} e = refl
done_is {m = not_valid} e = cc
done_is {m = not_image} e = cc

-- ---- what is refused

pub refused_open : (i : List ℕ) {a : Answer} {x y : List ℕ} → Whole x → Whole y → Opens (view x) i a (view y) → a ≢ Ok tt → y ≡ x
refused_open i {x = x} {y = y} h k p n = view_inj y x k h (p.state ∙ open_same (view x) i (λ e. n (p.answer ∙ ap answer_to e)))

pub refused_load : (i : List ℕ) {a : Answer} {x y : List ℕ} → Whole x → Whole y → Loads (view x) i a (view y) → a ≢ Ok tt → y ≡ x
refused_load i {x = x} {y = y} h k p n = view_inj y x k h (p.state ∙ load_same (view x) i (λ e. n (p.answer ∙ ap answer_to e)))

pub refused_save : (s : State) (b : List ℕ) {a : Answer} {c : List ℕ} → Saves s b a c → a ≢ Ok tt → c ≡ b
refused_save s b p n = p.buffer ∙ save_same s b (λ e. n (p.answer ∙ ap answer_to e))

-- ---- there and back

-- what was saved loads over any host, and gives the host that was saved, every byte
pub saved_loads_bytes : (x y z b : List ℕ) {i : List ℕ} {a : Answer} → Whole x → Whole z → Saves (view x) b (Ok tt) i → Loads (view y) i a (view z)
    → (a ≡ Ok tt) × (z ≡ x)
saved_loads_bytes x y z b {i} h k p q =
    let e : loaded (view y) i ≡ record { answer = done; state = view x } =
    ap (loaded (view y)) p.buffer ∙ saved_loads (view x) b (done_is p.answer) (view y) in
    (q.answer ∙ ap (λ (r : Read). answer_to r.answer) e, view_inj z x k h (q.state ∙ ap (λ (r : Read). r.state) e))

-- what was loaded saves to any buffer of that length, and gives these bytes
gives : (x y b : List ℕ) {i c k : List ℕ} {a : Answer} → Loads (view x) i (Ok tt) (view y) → Saves (view y) b a c
    → saved (loaded (view x) i).state b ≡ record { answer = done; buffer = k } → (a ≡ Ok tt) × (c ≡ k)
gives x y b {k = k} p q f =
    let e : saved (view y) b ≡ record { answer = done; buffer = k } = ap (λ (s : State). saved s b) p.state ∙ f in
    (q.answer ∙ ap (λ (r : Written). answer_to r.answer) e, q.buffer ∙ ap (λ (r : Written). r.buffer) e)

-- of the version that is written, the image that was loaded, every byte
pub loaded_saves_bytes : (x y b : List ℕ) {i c : List ℕ} {a : Answer} → Bytes i → version_in i ≡ version_written → length b ≡ image_bytes
    → Loads (view x) i (Ok tt) (view y) → Saves (view y) b a c → (a ≡ Ok tt) × (c ≡ i)
loaded_saves_bytes x y b {i} w v l p q = gives x y b p q (loaded_saves (view x) i w v (done_is p.answer) b l)

-- of the first version, its fields and write-back behind the head that is written
pub first_saves_bytes : (x y b : List ℕ) {i c : List ℕ} {a : Answer} → Bytes i → version_in i ≡ first_version → length b ≡ image_bytes
    → Loads (view x) i (Ok tt) (view y) → Saves (view y) b a c → (a ≡ Ok tt) × (c ≡ head ++ (drop image_head_bytes i ++ (write_back ∷ [])))
first_saves_bytes x y b {i} w v l p q = gives x y b p q (first_saves (view x) i w v (done_is p.answer) b l)

-- and a host that was loaded from one is write-back
pub first_loads_bytes : (x y : List ℕ) {i : List ℕ} → version_in i ≡ first_version → Loads (view x) i (Ok tt) (view y) → (view y).shape.policy ≡ write_back
first_loads_bytes x y {i} v p =
    let m = load_done (view x) i (done_is p.answer) in
    ap (λ (s : State). s.shape.policy) (p.state ∙ ap (λ (r : Read). r.state) (load_valid (view x) i m.0 m.1)) ∙ first_back i m.0 v

-- ---- equal hosts and equal images

saved_is : (s : State) (b : List ℕ) {i : List ℕ} → Saves s b (Ok tt) i → i ≡ image_of s
saved_is s b p =
    let m = save_done s b (done_is p.answer) in
    p.buffer ∙ ap (λ (w : Written). w.buffer) (save_valid s b m.0 m.1)

pub same_image : (x y b c : List ℕ) {i j : List ℕ} → Whole x → Whole y → Saves (view x) b (Ok tt) i → Saves (view y) c (Ok tt) j → (x ≡ y) ↔ (i ≡ j)
same_image x y b c h k p q = (
  (λ e. saved_is (view x) b p ∙ ap (λ (z : List ℕ). image_of (view z)) e ∙ sym (saved_is (view y) c q)),
  (λ e. view_inj x y h k
      (image_inj (view x) (view y) (save_done (view x) b (done_is p.answer)).0 (save_done (view y) c (done_is q.answer)).0
      (sym (saved_is (view x) b p) ∙ e ∙ saved_is (view y) c q))),
)

-- ---- a byte out of its range

-- byte k of field f past the field's bound: refused with 1, and every byte of the host stays
pub past_its_bound : (i : List ℕ) → Bytes i → Image i → (f k : ℕ) → k < size field_sizes f
    → at field_bounds f ≤ at i (image_head_bytes + (begin field_sizes f + k)) → {a : Answer} {x y : List ℕ} → Whole x → Whole y
    → Loads (view x) i a (view y) → (a ≡ Err NotValid) × (y ≡ x)
past_its_bound i w m f k h past {x = x} {y = y} u v p =
    let e = out_of_range (view x) i w m f k h past in
    (p.answer ∙ ap (λ (r : Read). answer_to r.answer) e, view_inj y x v u (p.state ∙ ap (λ (r : Read). r.state) e))
