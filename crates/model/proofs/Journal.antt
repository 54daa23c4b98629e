-- A journal's answers, written one after another; and its report: accepted is the zeros among the answers, accepted and refused make taken.
-- Assumes nothing.
use mathlib.Core.Path.{◌≡◌, refl, sym, ap, ◌∙◌}
use mathlib.Core.Bool.{Bool, true, false}
use mathlib.Core.Logic.{◌≢◌}
use mathlib.Core.List.{List, [], ◌∷◌, ◌++◌, append_assoc}
use Prim.Native.Nat.{ℕ, suc, ◌+◌, ◌*◌}
use native.Mathlib.Omega.{arith}
use lib.Dec.{eqb}
use lib.ListN.{length, drop}
use lib.Seq.{get_or-append-add}
use borrow.Author.Tests.{eqb-true, eqb-false}
use Rattle.laws.specs.Choice.{pick, at}
use Rattle.laws.specs.Search.{count_below}
use Rattle.laws.proofs.Cases.{split}
use Rattle.laws.proofs.Lists.{length_list_of}
use Rattle.laws.proofs.Search.{count_front, count_same}
use Rattle.model.specs.Sizes.{answer_bytes}
use Rattle.model.specs.State.{State}
use Rattle.model.specs.Step.{Answer, number_of, step}
use Rattle.model.specs.Run.{run}
use Rattle.model.specs.Journal.{taken, record_at, records_of, answer_bytes_of, number_at, written, pasted, accepted_in, refused_in, report_of, After, journal_refusal, played, away, journal}
use Rattle.model.proofs.Run.{run_length}

-- a journal is run, or turned away with all as it was
pub either {ℓ} : (P : After → Type ℓ) (s : State) (j b : List ℕ) → (journal_refusal s j b ≡ 0 → P (played (run s (records_of j)) j b))
    → (journal_refusal s j b ≢ 0 → P (away s b (journal_refusal s j b))) → P (journal s j b)
unfolding journal
either P s j b f g = go (eqb (journal_refusal s j b) 0) refl
  where
    go : (t : Bool) → eqb (journal_refusal s j b) 0 ≡ t
        → P (elim t [ true ↦ played (run s (records_of j)) j b | false ↦ away s b (journal_refusal s j b) ])
    go true e = f (eqb-true (journal_refusal s j b) 0 e)
    go false e = g (eqb-false (journal_refusal s j b) 0 e)

-- the answers to a journal's records: as many as it takes
answered : (s : State) (j : List ℕ) → length (run s (records_of j)).answers ≡ taken j
answered s j = run_length step s (records_of j) ∙ length_list_of (taken j) (record_at j)

-- ---- answers one after another

pub written_more : (xs ys : List Answer) → written (xs ++ ys) ≡ written xs ++ written ys
written_more [] ys = refl
written_more (x ∷ xs) ys =
    ap (λ (l : List ℕ). answer_bytes_of x ++ l) (written_more xs ys) ∙ sym (append_assoc (answer_bytes_of x) (written xs) (written ys))

pub length_written : (xs : List Answer) → length (written xs) ≡ answer_bytes * length xs
length_written [] = refl
length_written (x ∷ xs) = let e = length_written xs in omega arith

-- ---- the report

in_all : (xs : List Answer) → accepted_in xs + refused_in xs ≡ length xs
in_all [] = refl
in_all (x ∷ xs) = let h = in_all xs in split (eqb (number_of x) 0) (λ e. rw e (omega arith)) (λ e. rw e (omega arith))

-- among the written answers the numbers are theirs, whatever follows them
zeros : (xs : List Answer) (b : List ℕ) → count_below (length xs) (λ n. eqb (number_at (written xs ++ b) n) 0) ≡ accepted_in xs
unfolding count_below
zeros [] b = refl
zeros (x ∷ xs) b =
    count_front (length xs) (λ n. eqb (number_at (written (x ∷ xs) ++ b) n) 0)
    ∙ ap (λ (k : ℕ). pick (eqb (number_of x) 0) 1 0 + k)
    (count_same (length xs) (λ i h. ap (λ (k : ℕ). eqb k 0) (later i)) ∙ zeros xs b)
  where
    later : (i : ℕ) → number_at (written (x ∷ xs) ++ b) (suc i) ≡ number_at (written xs ++ b) i
    later i =
        let e : answer_bytes * suc i ≡ answer_bytes + answer_bytes * i = omega arith in
        ap (λ (l : List ℕ). number_at l (suc i)) (append_assoc (answer_bytes_of x) (written xs) b)
        ∙ ap (at (answer_bytes_of x ++ (written xs ++ b))) e
        ∙ get_or-append-add (answer_bytes_of x) (written xs ++ b) (answer_bytes * i) 0

pub accepted_and_refused : (s : State) (j b : List ℕ)
    → (report_of (journal s j b).verdict).accepted + (report_of (journal s j b).verdict).refused ≡ (report_of (journal s j b).verdict).taken
accepted_and_refused s j b =
    either (λ a. (report_of a.verdict).accepted + (report_of a.verdict).refused ≡ (report_of a.verdict).taken) s j b
    (λ e. in_all (run s (records_of j)).answers ∙ answered s j)
    (λ n. refl)

pub accepted_zeros : (s : State) (j b : List ℕ)
    → (report_of (journal s j b).verdict).accepted
    ≡ count_below (report_of (journal s j b).verdict).taken (λ n. eqb (number_at (journal s j b).buffer n) 0)
unfolding count_below
accepted_zeros s j b =
    either (λ a. (report_of a.verdict).accepted ≡ count_below (report_of a.verdict).taken (λ n. eqb (number_at a.buffer n) 0)) s j b
    (λ e. let xs = (run s (records_of j)).answers in
    sym (ap (λ (n : ℕ). count_below n (λ i. eqb (number_at (pasted xs b) i) 0)) (sym (answered s j)) ∙ zeros xs (drop (answer_bytes * length xs) b)))
    (λ n. refl)
