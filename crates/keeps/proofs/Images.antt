-- From a valid state, whatever state is loaded over.
-- Assumes nothing.
use mathlib.Core.Path.{◌≡◌, sym, ap, ◌∙◌}
use mathlib.Core.List.{List, ◌++◌}
use Prim.Native.Nat.{ℕ}
use lib.ListN.{length}
use Rattle.laws.proofs.Search.{Each}
use Rattle.model.specs.State.{State}
use Rattle.model.specs.Records.{Bytes}
use Rattle.model.specs.Valid.{Valid}
use Rattle.model.specs.Step.{step}
use Rattle.model.specs.Run.{Ran, run}
use Rattle.model.specs.Image.{image_bytes, done, Read, Written, saved}
use Rattle.model.proofs.Run.{run_append}
use Rattle.model.proofs.Saving.{save_valid, saved_loads}
use Rattle.keeps.specs.Images.{back, OneRun}
use Rattle.keeps.proofs.Keeps.{run_keeps}

pub saved_run : (s t : State) (b : List ℕ) (xs ys : List (List ℕ)) → Valid s → Each Bytes xs → length b ≡ image_bytes → OneRun s t b xs ys
saved_run s t b xs ys v w l =
    let e : (saved (run s xs).state b).answer ≡ done =
    ap (λ (r : Written). r.answer) (save_valid (run s xs).state b (run_keeps v xs w) l) in
    let f : back s t b xs ≡ record { answer = done; state = (run s xs).state } = saved_loads (run s xs).state b e t in
    let g : (back s t b xs).state ≡ (run s xs).state = ap (λ (r : Read). r.state) f in
    let h = sym (run_append step s xs ys) in
    record {
      saves = e;
      loads = ap (λ (r : Read). r.answer) f;
      answers = ap (λ (u : State). (run s xs).answers ++ (run u ys).answers) g ∙ ap (λ (r : Ran). r.answers) h;
      state = ap (λ (u : State). (run u ys).state) g ∙ ap (λ (r : Ran). r.state) h;
    }
