-- The lists of the state that an image holds have their sizes.
-- Assumes nothing.
use mathlib.Core.List.{List}
use Prim.Native.Nat.{ℕ}
use native.Mathlib.Omega.{arith}
use Rattle.model.specs.Valid.{Sized}
use Rattle.model.specs.Image.{Image, fields_in, held}
use Rattle.model.proofs.Image.{rest_long}
use Rattle.host.specs.View.{view}
use Rattle.host.proofs.Inverse.{long_sized}

pub held_sized : (i : List ℕ) → Image i → Sized (held i)
unfolding held view
held_sized i m = long_sized (fields_in i) (omega (arith, rest_long i m))
