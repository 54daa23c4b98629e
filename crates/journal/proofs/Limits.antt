-- The refusals of a journal's form, one after another.
-- Assumes nothing.
use mathlib.Core.Path.{◌≡◌}
use mathlib.Core.Bool.{Bool, true, false}
use Prim.Native.Nat.{ℕ, ◌*◌, ◌≤◌, ◌<◌}
use native.Mathlib.Omega.{arith}
use lib.Dec.{ltb}
use Rattle.laws.proofs.Tests.{lt⇔, not_so}
use Rattle.model.specs.Sizes.{record_limit, answer_bytes}
use Rattle.model.specs.Journal.{whole_records, form_refusal}

module _ (t : Bool) (n m : ℕ) where
  pub no_journal : t ≡ false → 13 ≡ form_refusal t n m
  unfolding form_refusal
  no_journal e = rw e

  module _ (e : t ≡ true) where
    pub too_long : record_limit < whole_records n → 14 ≡ form_refusal t n m
    unfolding form_refusal
    too_long h = rw (e, (lt⇔ record_limit (whole_records n)).1 h)

    module _ (h : whole_records n ≤ record_limit) where
      short : ltb record_limit (whole_records n) ≡ false
      short = not_so (lt⇔ record_limit (whole_records n)) (λ k. omega arith)

      pub no_room : m < answer_bytes * whole_records n → 15 ≡ form_refusal t n m
      unfolding form_refusal
      no_room k = rw (e, short, (lt⇔ m (answer_bytes * whole_records n)).1 k)

      pub fits : answer_bytes * whole_records n ≤ m → 0 ≡ form_refusal t n m
      unfolding form_refusal
      fits k = rw (e, short, not_so (lt⇔ m (answer_bytes * whole_records n)) (λ q. omega arith))
