-- The head, and behind it the host's bytes.
-- Assumes nothing.
use mathlib.Core.Path.{◌≡◌, sym, ap, ◌∙◌}
use mathlib.Core.List.{List, [], ◌++◌, append-nil}
use native.Mathlib.Omega.{arith}
use Prim.Native.Nat.{ℕ, ◌-◌}
use lib.ListN.{length, take, drop, length-append, length-drop, length-take, drop_of_length-le}
use Rattle.model.specs.Sizes.{image_head_bytes}
use Rattle.image.proofs.Copies.{put_law, image_bytes_law}
use Rattle.image.proofs.put.Goals as goal

pub returns : goal.returns
returns c =
    let a = c.args in
    let w = c.copy_from_slice.new.self in
    let r = drop image_head_bytes a.out.now in
    let n = length (w ++ r) - image_head_bytes in
    let p = take n (drop image_head_bytes (w ++ r)) in
    let l : length p ≡ n = omega (arith, length-take n (drop image_head_bytes (w ++ r)), length-drop image_head_bytes (w ++ r)) in
    let m : n ≡ length a.h.now = omega (arith, length-append w r, length-drop image_head_bytes a.out.now, ap length c.copy_from_slice.ensures.after) in
    let none : drop (length a.h.now) p ≡ [] = drop_of_length-le p {i = length a.h.now} (omega arith) in
    let x : c.fill.new.to ≡ a.h.now = c.fill.ensures ∙ ap (λ (t : List ℕ). a.h.now ++ t) none ∙ append-nil a.h.now in
    rw x (put_law w r a.h.now c.copy_from_slice.ensures.after ∙ sym (image_bytes_law a.h.now (record { long = c.told-h; small = c.fits-h })))
