-- The table of sample runs with check 1 in every answer: the form to quote. From the fresh machine every state is valid, so that check 1 never
-- applies, and `model` has computed the rest.
-- Assumes nothing.
use mathlib.Core.Path.{◌≡◌, refl, ap, ap₂, ◌∙◌}
use mathlib.Core.Bool.{Bool, true, false, ◌&&◌}
use mathlib.Core.List.{List, [], ◌∷◌}
use Prim.Native.Nat.{ℕ}
use native.Mathlib.Omega.{arith}
use lib.Dec.{ltb, eqb}
use Rattle.laws.specs.Choice.{at, ◌⇔◌}
use Rattle.laws.specs.Search.{all_in, seek_from, list_from}
use Rattle.laws.proofs.Tests.{and⇔, lt⇔, true⇔}
use Rattle.laws.proofs.Search.{all_in⇔, Each}
use Rattle.model.specs.Sizes.{byte_bound}
use Rattle.model.specs.Names.{write_back, write_through}
use Rattle.model.specs.State.{State}
use Rattle.model.specs.Records.{Bytes}
use Rattle.model.specs.Valid.{Valid}
use Rattle.model.specs.Step.{Outcome, number_of, value_of, judge, step}
use Rattle.model.specs.Journal.{records_of}
use Rattle.model.specs.Samples.{Exchange, Sample, Group, passes, all_pass, groups_pass, samples, nine_journal, all_samples}
use Rattle.model.specs.ThroughSamples.{through_samples, through_pass}
use Rattle.model.proofs.Samples.{samples_pass}
use Rattle.model.proofs.ThroughSamples.{through_pass_law}
use Rattle.keeps.proofs.Accepted.{step_judge}
use Rattle.keeps.proofs.Fresh.{fresh_valid}
use Rattle.keeps.proofs.Keeps.{judge_keeps, run_judges}

-- ---- the records are bytes, by one test

abbrev bytes? : List ℕ → Bool
bytes? l = all_in (λ i x. ltb x byte_bound) l

bytes⇔ : (l : List ℕ) → bytes? l ⇔ Bytes l
bytes⇔ l = all_in⇔ (λ i x. ltb x byte_bound) 0 l (λ i h. lt⇔ (at l i) byte_bound)

exchanges? : List Exchange → Bool
exchanges? [] = true
exchanges? (x ∷ xs) = bytes? x.bytes && exchanges? xs

rows? : List Sample → Bool
rows? [] = true
rows? (x ∷ xs) = exchanges? x.records && rows? xs

groups? : List Group → Bool
groups? [] = true
groups? (g ∷ gs) = exchanges? g.start && rows? g.rows && groups? gs

records? : List (List ℕ) → Bool
records? [] = true
records? (r ∷ rs) = bytes? r && records? rs

are_bytes : (rs : List (List ℕ)) → records? rs ≡ true → Each Bytes rs
unfolding records?
are_bytes [] e = tt
are_bytes (r ∷ rs) e = let d = (and⇔ (bytes⇔ r) (true⇔ (records? rs))).0 e in (d.0, are_bytes rs d.1)

-- ---- on a valid state the two steps pass the same

after : Bool → Bool → Bool
after b t = elim b [ true ↦ t | false ↦ false ]

right : Exchange → Outcome → Bool
right l o = eqb (number_of o.answer) l.number && eqb (value_of o.answer) l.value

-- if the tests of the end, which may go on with more samples, pass the same on valid states
same_passes : (ls : List Exchange) (t u : State → Bool) → ((s : State) → Valid s → t s ≡ u s) → exchanges? ls ≡ true → {s : State} → Valid s
    → passes step s ls t ≡ passes judge s ls u
unfolding passes exchanges? after right
same_passes [] t u h b {s} v = h s v
same_passes (l ∷ ls) t u h b {s} v =
    let d = (and⇔ (bytes⇔ l.bytes) (true⇔ (exchanges? ls))).0 b in
    ap (λ (o : Outcome). after (right l o) (passes step o.state ls t)) (step_judge s l.bytes v)
    ∙ ap (after (right l (judge s l.bytes))) (same_passes ls t u h d.1 (judge_keeps v l.bytes d.0))

same_all : (xs : List Sample) → rows? xs ≡ true → {s : State} → Valid s → all_pass step s xs ≡ all_pass judge s xs
unfolding all_pass rows? after
same_all [] b v = refl
same_all (x ∷ xs) b v =
    let d = (and⇔ (true⇔ (exchanges? x.records)) (true⇔ (rows? xs))).0 b in
    ap₂ after (same_passes x.records x.end x.end (λ r w. refl) d.0 v) (same_all xs d.1 v)

same_groups : (gs : List Group) → groups? gs ≡ true → {s : State} → Valid s → groups_pass step s gs ≡ groups_pass judge s gs
unfolding groups_pass groups? after
same_groups [] b v = refl
same_groups (g ∷ gs) b v =
    let d = (and⇔ (and⇔ (true⇔ (exchanges? g.start)) (true⇔ (rows? g.rows))) (true⇔ (groups? gs))).0 b in
    ap₂ after
    (same_passes g.start (λ t. all_pass step t g.rows) (λ t. all_pass judge t g.rows) (λ r w. same_all g.rows d.0.1 w) d.0.0 v)
    (same_groups gs d.1 v)

-- ---- the table

samples_bytes : groups? samples ≡ true
unfolding groups? rows? exchanges? seek_from samples
samples_bytes = refl

through_bytes : groups? through_samples ≡ true
unfolding groups? rows? exchanges? seek_from through_samples
through_bytes = refl

nine_bytes_law : records? (records_of nine_journal) ≡ true
unfolding records? seek_from list_from
nine_bytes_law = refl

pub samples_pass_checked : all_samples step ≡ true
unfolding all_samples
samples_pass_checked =
    let back = fresh_valid write_back (omega arith) in
    rw (
      same_groups samples samples_bytes back,
      run_judges back (records_of nine_journal) (are_bytes (records_of nine_journal) nine_bytes_law),
    )
    samples_pass

-- and under write-through
pub through_pass_checked : through_pass step ≡ true
unfolding through_pass
through_pass_checked = same_groups through_samples through_bytes (fresh_valid write_through (omega arith)) ∙ through_pass_law
