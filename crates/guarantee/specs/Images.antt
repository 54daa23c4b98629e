-- A host that was saved and loaded goes on as if it had never stopped: by the bytes that `journal::run`, `image::save` and `image::load` leave.
-- Assumes nothing.
use Rattle.std.specs.Prelude.{◌≡◌, Ok, List, ◌++◌, ℕ, ◌*◌, take}
use Rattle.model.specs.Sizes.{answer_bytes}
use Rattle.model.specs.Run.{Ran, run}
use Rattle.model.specs.Journal.{records_of, written}
use Rattle.host.specs.View.{view}
use Rattle.image.specs.Promises.{Answer}

-- one run over the records of two journals, on the host's bytes x
abbrev pub run_of_both : List ℕ → List ℕ → List ℕ → Ran
run_of_both x j k = run (view x) (records_of j ++ records_of k)

-- Journal j was run on the bytes x, which led to y, with n answers at the start of c; y was saved and loaded over some bytes, which led to z; journal k
-- was run on these, which led to t, with m answers at the start of e.
pub record GoesOn (x j : List ℕ) (n : ℕ) (c y : List ℕ) (saves loads : Answer) (z k : List ℕ) (m : ℕ) (e t : List ℕ) : Type 0 where
  pub saved : saves ≡ Ok tt
  pub loaded : loads ≡ Ok tt
  pub same : z ≡ y
  pub answers : take (answer_bytes * n) c ++ take (answer_bytes * m) e ≡ written (run_of_both x j k).answers
  pub state : view t ≡ (run_of_both x j k).state
