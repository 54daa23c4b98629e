-- What the functions of this crate promise: the state, the answers, and the text typed into the output from its start.
-- Assumes nothing.
use Rattle.std.specs.Prelude.{◌≡◌, ℕ, ◌/◌, Bool, List, length, Result, Ok, Err}
use Rattle.model.specs.Sizes.{answer_bytes}
use Rattle.model.specs.State.{State}
use Rattle.model.specs.Image.{loaded}
use Rattle.model.specs.Journal.{journal}
use Rattle.model.specs.Pieces.{AfterCall, feed}
use Rattle.numbers.specs.declared.refusal.Refusal.{Refusal}
use Rattle.journal.specs.declared.Report.{Report}
use Rattle.print.specs.Text.{page, typed_all}
use Rattle.print.specs.declared.status.Printed.{Printed}
use Rattle.print.specs.Status.{digit_of}
use Rattle.output.specs.declared.stream.Told.{Told}
use Rattle.output.specs.declared.stream.Streamed.{Streamed}
use Rattle.output.specs.Output.{printed, status_of, load_lines, load_status}
use Rattle.output.specs.Stream.{call_status, call_told, piece_lines}

-- the records whose answers are printed
abbrev pub taken_in : Result Report Refusal → ℕ
taken_in (Ok r) = r.taken
taken_in (Err n) = 0

-- the journal j is run on the state s, with the answer buffer b, and printed to d: t is the state after it, c and e are the buffers, p says how many
-- bytes were printed and the program's status
pub record Prints (s : State) (j b d : List ℕ) (p : Printed) (t : State) (c e : List ℕ) : Type 0 where
  pub state : t ≡ (journal s j b).state
  pub answers : c ≡ (journal s j b).buffer
  pub output : page e p.bytes ≡ typed_all (page d 0) (printed (journal s j b))
  pub status : digit_of p.status ≡ status_of (journal s j b).verdict

-- the image i is loaded on the state s, and its refusal printed to d: the state t, the buffer e, and p as above
pub record PrintsLoad (s : State) (i d : List ℕ) (p : Printed) (t : State) (e : List ℕ) : Type 0 where
  pub state : t ≡ (loaded s i).state
  pub output : page e p.bytes ≡ typed_all (page d 0) (load_lines (loaded s i).answer)
  pub status : digit_of p.status ≡ load_status (loaded s i).answer

-- ---- journals in pieces

-- with an allowance of as many records as the answer buffer has room for
abbrev pub fed : State → List ℕ → List ℕ → Bool → List ℕ → AfterCall
fed s k piece last b = feed s k piece (length b / answer_bytes) last b

-- the piece, with what is kept, k, is run on the state s, with the answer buffer b, and printed to d, after what was told before, t: u is the state
-- after it, l what is kept, c and e are the buffers, r says how many bytes were printed and taken, the program's status, and what is told with it
pub record Streams (s : State) (k : List ℕ) (t : Told) (piece : List ℕ) (last : Bool) (b d : List ℕ) (r : Streamed) (u : State) (l c e : List ℕ) : Type 0 where
  pub state : u ≡ (fed s k piece last b).state
  pub kept : l ≡ (fed s k piece last b).kept
  pub answers : c ≡ (fed s k piece last b).buffer
  pub output : page e r.bytes ≡ typed_all (page d 0) (piece_lines k t piece last (fed s k piece last b))
  pub status : digit_of r.status ≡ call_status (fed s k piece last b).fed
  pub taken : r.taken ≡ (fed s k piece last b).fed.bytes
  pub told : r.told ≡ call_told t (fed s k piece last b).fed (fed s k piece last b).buffer
