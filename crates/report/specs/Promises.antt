-- What the functions of this crate promise: the text typed into the output from its start, how many bytes of it, and the status.
-- Assumes nothing.
use Rattle.std.specs.Prelude.{◌≡◌, List, ℕ}
use Rattle.model.specs.State.{State}
use Rattle.print.specs.Text.{page, typed_all}
use Rattle.print.specs.declared.status.Printed.{Printed}
use Rattle.print.specs.Status.{digit_of}
use Rattle.report.specs.Report.{state_lines, state_status, image_lines, image_status}

-- the state s is checked and printed to d: the buffer e, and p says how many bytes were typed and the status
pub record ReportsHost (s : State) (d : List ℕ) (p : Printed) (e : List ℕ) : Type 0 where
  pub output : page e p.bytes ≡ typed_all (page d 0) (state_lines s)
  pub status : digit_of p.status ≡ state_status s

-- the same of the bytes of an image, or of what is none
pub record ReportsImage (i : List ℕ) (d : List ℕ) (p : Printed) (e : List ℕ) : Type 0 where
  pub output : page e p.bytes ≡ typed_all (page d 0) (image_lines i)
  pub status : digit_of p.status ≡ image_status i
