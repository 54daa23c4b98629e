-- What is told of a rule, of every state of bytes.
-- Assumes nothing.
use mathlib.Core.List.{List}
use Prim.Native.Nat.{ℕ}
use Rattle.findings.specs.Findings.{Known, Told, ToldValid}
use Rattle.findings.proofs.Told.{told, told_valid}
use Rattle.host.specs.View.{view, Whole}
use Rattle.host.proofs.Inverse.{view_sized}

pub told_bytes : (h : List ℕ) → Whole h → (n : ℕ) → Known n → Told n (view h)
told_bytes h w n k = told n k (view h) (view_sized h w)

pub valid_bytes : (h : List ℕ) → Whole h → ToldValid (view h)
valid_bytes h w = told_valid (view h) (view_sized h w)
