-- What follows for calls since begin: they come to the journal that they took, the cuts do not matter, a caller who goes on is done in the end, and
-- what is taken of bytes is bytes.
-- Assumes nothing.
use mathlib.Core.Path.{◌≡◌, refl, sym, ap, subst, ◌∙◌}
use mathlib.Core.Bool.{true}
use mathlib.Core.List.{List, [], ◌∷◌, ◌++◌}
use Prim.Native.Nat.{ℕ, ◌+◌, ◌*◌, ◌-◌, ◌≤◌, ◌<◌}
use native.Mathlib.Omega.{arith}
use lib.ListN.{length, take, drop, length-drop, take-append-drop, get_or-append}
use lib.Seq.{get_or-append-add}
use Rattle.laws.specs.Choice.{at}
use Rattle.laws.proofs.Cases.{below?, pick_yes}
use Rattle.laws.proofs.Lists.{length_list_of}
use Rattle.laws.proofs.Search.{Each}
use Rattle.model.specs.Sizes.{byte_bound, record_bytes, answer_bytes, header_bytes}
use Rattle.model.specs.State.{State}
use Rattle.model.specs.Records.{Bytes}
use Rattle.model.specs.Valid.{valid?}
use Rattle.model.specs.Run.{run}
use Rattle.model.specs.Journal.{taken, record_at, records_of, written, After, journal_refusal, played, journal}
use Rattle.model.specs.Pieces.{header_count, begun_count, beginning}
use Rattle.model.proofs.Journal.{either}
use Rattle.model.proofs.Bytes.{any_byte, part_bytes}
use Rattle.stream.specs.Calls.{Call, Calls, taken_by, answers_by, stopped_by, Offered}
use Rattle.stream.specs.Streamed.{Streamed}
use Rattle.stream.specs.Outcomes.{AsJournal}
use Rattle.stream.proofs.Call.{takes_some, once_stopped, refused_leaves}
use Rattle.stream.proofs.Streamed.{answers_first, streamed}

-- ---- a whole journal

played_whole : (s : State) (j b : List ℕ) → journal_refusal s j b ≡ 0 → journal s j b ≡ played (run s (records_of j)) j b
played_whole s j b e = either (λ (a : After). a ≡ played (run s (records_of j)) j b) s j b (λ q. refl) (λ n. absurd (n e))

-- The theorem to quote: calls that took all of a journal that may be run.
pub whole_journal : (s t : State) (j b l : List ℕ) (xs : List Call) → Calls s beginning xs t l → taken_by xs ≡ j → journal_refusal s j b ≡ 0
    → AsJournal s j b (answers_by xs) t l
whole_journal s t j b l xs c e r =
    let p : Streamed s j (answers_by xs) (stopped_by xs) t l =
    subst (λ (x : List ℕ). Streamed s x (answers_by xs) (stopped_by xs) t l) e (streamed s t l xs c) in
    let q = sym (played_whole s j b r) in
    record {
      state = p.state ∙ ap (λ (a : After). a.state) q;
      answers =
          p.answers
          ∙ sym (answers_first s (records_of j) b (taken j) (length_list_of (taken j) (record_at j)))
          ∙ ap (λ (a : After). take (answer_bytes * taken j) a.buffer) q;
      begun = ap begun_count p.kept ∙ omega (arith, length-drop (header_bytes + record_bytes * taken j) j);
    }

-- ---- the cuts

-- The theorem to quote: two ways to take the same bytes.
pub same_bytes_law : (s t u : State) (l m : List ℕ) (xs ys : List Call) → Calls s beginning xs t l → Calls s beginning ys u m → taken_by xs ≡ taken_by ys
    → (t ≡ u) × (answers_by xs ≡ answers_by ys)
same_bytes_law s t u l m xs ys c d e =
    let p = streamed s t l xs c in
    let q = streamed s u m ys d in (
      p.state ∙ ap (λ (j : List ℕ). (run s (records_of j)).state) e ∙ sym q.state,
      p.answers ∙ ap (λ (j : List ℕ). written (run s (records_of j)).answers) e ∙ sym q.answers,
    )

-- ---- a caller who goes on

-- The theorem to quote: offered again what was not taken, with as many calls as bytes, all of it is taken.
pub done_in_the_end : (s t : State) (k l piece : List ℕ) (xs : List Call) → Calls s k xs t l → Offered piece xs → length piece ≤ length xs
    → taken_by xs ≡ piece
done_in_the_end s t k l [] [] c o h = refl
done_in_the_end s t k l (y ∷ piece) [] c o h = absurd (omega arith)
done_in_the_end s t k l piece (x ∷ xs) (u, m, g, c) (e, a, z, o) h =
    let n = x.fed.bytes in
    let some : 0 < length piece → 0 < n = λ q. takes_some g z a (omega (arith, ap length e)) in
    let fewer : length (drop n piece) ≤ length xs =
    below? 0 (length piece) (λ q. omega (arith, some q, length-drop n piece)) (λ q. omega (arith, length-drop n piece)) in
    ap (λ (i : List ℕ). take n i ++ taken_by xs) e
    ∙ ap (λ (i : List ℕ). take n piece ++ i) (done_in_the_end u t m l (drop n piece) xs c o fewer)
    ∙ take-append-drop n piece

-- ---- bytes

both_bytes : (x y : List ℕ) → Bytes x → Bytes y → Bytes (x ++ y)
both_bytes x y v w i h =
    below? i (length x) (λ l. subst (λ (n : ℕ). n < byte_bound) (sym (get_or-append x y 0 i l)) (v i l))
    (λ l.
    let e : i ≡ length x + (i - length x) = omega arith in
    subst (λ (n : ℕ). n < byte_bound) (sym (ap (at (x ++ y)) e ∙ get_or-append-add x y (i - length x) 0)) (any_byte y w (i - length x)))

pub taken_bytes : (xs : List Call) → Each (λ x. Bytes x.piece) xs → Bytes (taken_by xs)
taken_bytes [] w = λ i h. absurd (omega arith)
taken_bytes (x ∷ xs) (v, w) = both_bytes (take x.fed.bytes x.piece) (taken_by xs) (part_bytes x.piece v 0 x.fed.bytes) (taken_bytes xs w)

-- ---- after 13

-- once the header count is past its range, every call on a valid state is refused with 13, and leaves the state
pub thirteen_again : (s t : State) (k l : List ℕ) (xs : List Call) → Calls s k xs t l → header_bytes < header_count k → valid? s ≡ true
    → Each (λ x. x.fed.number ≡ 13) xs × (t ≡ s)
thirteen_again s t k l [] c h v = (tt, c.0)
thirteen_again s t k l (x ∷ xs) (u, m, p, q) h v =
    let o = once_stopped p h in
    let n : x.fed.number ≡ 13 = o.0 ∙ pick_yes 13 1 v in
    let e = (refused_leaves p (λ z. omega (arith, n))).state in
    let r = thirteen_again u t m l xs q o.1 (ap valid? e ∙ v) in
    ((n, r.0), r.1 ∙ e)
