-- A record that was put together, and those that lie one after another, as one run.
-- Assumes nothing.
use mathlib.Core.Path.{◌≡◌, refl, sym, ap, subst, ◌∙◌}
use mathlib.Core.Bool.{Bool, true, false, true≢false}
use mathlib.Core.Logic.{◌≢◌}
use mathlib.Core.List.{List, [], ◌∷◌, ◌++◌, append_assoc, append-nil}
use Prim.Native.Nat.{ℕ, zero, suc, ◌+◌, ◌*◌, ◌-◌, ◌/◌, ◌≤◌, ◌<◌}
use native.Mathlib.Omega.{arith}
use lib.Dec.{eqb}
use lib.ListN.{length, take, drop, length-take, length-drop, drop_of_length-le}
use lib.Seq.{sets-eq, length-sets, take_all, take_at, drop_at, drop-drop}
use Rattle.laws.proofs.Cases.{below?, pick_yes, pick_not}
use Rattle.laws.proofs.Tests.{eq⇔, lt⇔, not_so}
use Rattle.laws.proofs.Lists.{length_list_of}
use Rattle.laws.proofs.Search.{Each}
use Rattle.model.specs.Sizes.{record_bytes, answer_bytes}
use Rattle.model.specs.State.{State}
use Rattle.model.specs.Records.{Bytes}
use Rattle.model.specs.Valid.{valid?}
use Rattle.model.specs.Step.{Answer, Outcome}
use Rattle.model.specs.Run.{Ran, run_by, run}
use Rattle.model.specs.Journal.{answer_bytes_of, written, pasted, accepted_in}
use Rattle.model.proofs.Run.{run_length}
use Rattle.steps.specs.Acting.{judged}
use Rattle.steps.specs.declared.Ran as code
use Rattle.steps.specs.Parts.{record_from, records_from, together_count, joined_records, runnable, most_of, took_of, RunsFirst, Runs, RunsJoined, RunsMost}
use Rattle.std.specs.Prelude.{Result, Ok, Err}
use Rattle.numbers.specs.declared.refusal.Refusal.{Refusal}
use Rattle.numbers.specs.declared.refusal.Refusal.TheVariants.{NotValid}
use Rattle.steps.specs.Turns.{answer_at, Plays, JudgesFirst, PlaysJoined}
use Rattle.steps.proofs.Running.{records_from_bytes, run_as_judged, counts_most}

pub none_together : (l : List ℕ) → length l ≡ 0 → together_count l ≡ 0
none_together [] e = refl
none_together (x ∷ l) e = absurd (omega arith)

pub one_together : (l : List ℕ) → length l ≢ 0 → together_count l ≡ 1
one_together [] n = absurd (n refl)
one_together (x ∷ l) n = refl

-- whether there are no bytes, as code asks
module _ (l : List ℕ) {b : Bool} (e : b ≡ eqb (length l) 0) where
  pub is_none : b ≡ true → length l ≡ 0
  is_none t = (eq⇔ (length l) 0).0 (sym e ∙ t)

  pub is_one : b ≡ false → length l ≢ 0
  is_one t n = true≢false (sym ((eq⇔ (length l) 0).1 n) ∙ sym e ∙ t)

pub first_most : {s : State} {l b : List ℕ} {k : ℕ} {t : State} {c : List ℕ} → JudgesFirst s l b k t c → k ≤ 1
first_most {s} {l} q = let e = counts_most (judged s l).answer in omega (arith, q.counted)

-- behind the first answer there is room for the others
pub room_behind : (n : ℕ) {s : State} {l b : List ℕ} {k : ℕ} {t : State} {c : List ℕ} → JudgesFirst s l b k t c → answer_bytes * n ≤ length b
    → answer_bytes * (n - 1) ≤ length (take (length c - answer_bytes) (drop answer_bytes c))
room_behind n {s} {l} {b} {c = c} q h =
    let e : length c ≡ length b = ap length q.buffer ∙ length-sets b 0 (answer_bytes_of (judged s l).answer) in
    omega (arith, length-take (length c - answer_bytes) (drop answer_bytes c), length-drop answer_bytes c)

-- ---- played

accepted_most : (xs : List Answer) → accepted_in xs ≤ length xs
accepted_most [] = omega arith
accepted_most (x ∷ xs) = let e = accepted_most xs in let f = counts_most x in omega arith

pub played_most : {s : State} {j : List ℕ} {start n : ℕ} {b : List ℕ} {k : ℕ} {t : State} {c : List ℕ} → Plays s j start n b k t c → k ≤ n
played_most {s} {j} {start} {n} p =
    let rs = records_from j start n in
    omega (arith, accepted_most (run_by judged s rs).answers, run_length judged s rs, length_list_of n (record_from j start), p.counted)

module _ (s : State) (first j : List ℕ) (start : ℕ) (b : List ℕ) where
  -- there is none: the others
  pub none_joined : length first ≡ 0 → {n k : ℕ} {t : State} {c : List ℕ} → Plays s j start n b k t c → PlaysJoined s first j start n b k t c
  none_joined e {n} {k} {t} {c} p =
      subst (λ (l : List ℕ). PlaysJoined s l j start n b k t c) (sym (empty first e)) (record { counted = p.counted; state = p.state; buffer = p.buffer })
    where
      empty : (l : List ℕ) → length l ≡ 0 → l ≡ []
      empty [] e = refl
      empty (x ∷ l) e = absurd (omega arith)

  -- there is one, and nothing is run
  pub nothing_joined : length first ≢ 0 → {n : ℕ} → n ≡ 0 → PlaysJoined s first j start n b 0 s b
  unfolding run_by
  nothing_joined h {n} e = subst (λ (m : ℕ). PlaysJoined s first j start m b 0 s b) (sym e) (go first h)
    where
      go : (l : List ℕ) → length l ≢ 0 → PlaysJoined s l j start 0 b 0 s b
      go [] h = absurd (h refl)
      go (x ∷ l) h = record { counted = refl; state = refl; buffer = refl }

-- an answer, and others behind it
pasted_behind : (x : Answer) (xs : List Answer) (b : List ℕ) → answer_bytes ≤ length b
    → take answer_bytes (answer_at b 0 x) ++ pasted xs (drop answer_bytes (answer_at b 0 x)) ≡ pasted (x ∷ xs) b
pasted_behind x xs b h =
    let e : answer_at b 0 x ≡ answer_bytes_of x ++ drop answer_bytes b = sets-eq (answer_bytes_of x) b 0 (omega arith) in
    let m : answer_bytes + answer_bytes * length xs ≡ answer_bytes * length (x ∷ xs) = omega arith in
    ap (λ (l : List ℕ). take answer_bytes l ++ pasted xs (drop answer_bytes l)) e
    ∙ ap (λ (l : List ℕ). l ++ pasted xs (drop answer_bytes (answer_bytes_of x ++ drop answer_bytes b))) (take_at (answer_bytes_of x) (drop answer_bytes b) answer_bytes refl)
    ∙ ap (λ (l : List ℕ). answer_bytes_of x ++ pasted xs l) (drop_at (answer_bytes_of x) (drop answer_bytes b) answer_bytes refl)
    ∙ ap (λ (l : List ℕ). answer_bytes_of x ++ written xs ++ l) (drop-drop (answer_bytes * length xs) answer_bytes b ∙ ap (λ (i : ℕ). drop i b) m)
    ∙ sym (append_assoc (answer_bytes_of x) (written xs) (drop (answer_bytes * length (x ∷ xs)) b))

-- there is one, and then the others
pub first_joined : (s : State) (first j : List ℕ) (start : ℕ) (b : List ℕ) → length first ≢ 0 → {n k : ℕ} {t : State} {c : List ℕ} → n ≢ 0
    → answer_bytes ≤ length b → JudgesFirst s first b k t c → {m : ℕ} {u : State} {d : List ℕ}
    → Plays t j start (n - 1) (drop answer_bytes c) m u d → PlaysJoined s first j start n b (k + m) u (take answer_bytes c ++ d)
unfolding run_by
first_joined s first j start b h {n} {k} {t} {c} z w q {m} {u} {d} p =
    let e : suc (n - 1) ≡ n = omega arith in
    let p' = subst (λ (x : State). Plays x j start (n - 1) (drop answer_bytes c) m u d) q.state p in
    subst (λ (i : ℕ). PlaysJoined s first j start i b (k + m) u (take answer_bytes c ++ d)) e (go first h q p')
  where
    go : (l : List ℕ) → length l ≢ 0 → JudgesFirst s l b k t c → Plays (judged s l).state j start (n - 1) (drop answer_bytes c) m u d
        → PlaysJoined s l j start (suc (n - 1)) b (k + m) u (take answer_bytes c ++ d)
    go [] h q p = absurd (h refl)
    go (x ∷ l) h q p =
        let o : Outcome = judged s (x ∷ l) in
        let r : Ran = run_by judged o.state (records_from j start (n - 1)) in
        record {
          counted = (λ i. q.counted i + p.counted i);
          state = p.state;
          buffer =
              ap (λ (y : List ℕ). take answer_bytes c ++ y) p.buffer
              ∙ ap (λ (y : List ℕ). take answer_bytes y ++ pasted r.answers (drop answer_bytes y)) q.buffer
              ∙ pasted_behind o.answer r.answers b w;
        }

-- the same of the part of the buffer behind the first answer, as it is lent
pub behind_first : (s : State) (first j : List ℕ) (start : ℕ) (b : List ℕ) → length first ≢ 0 → {n k : ℕ} {t : State} {c : List ℕ} → n ≢ 0
    → answer_bytes ≤ length b → JudgesFirst s first b k t c → {m : ℕ} {u : State} {d : List ℕ}
    → Plays t j start (n - 1) (take (length c - answer_bytes) (drop answer_bytes c)) m u d
    → PlaysJoined s first j start n b (k + m) u (take answer_bytes c ++ (d ++ drop (length c - answer_bytes) (drop answer_bytes c)))
behind_first s first j start b h {n} {k} {t} {c} z w q {m} {u} {d} p =
    let e = length-drop answer_bytes c in
    let x : take (length c - answer_bytes) (drop answer_bytes c) ≡ drop answer_bytes c =
    take_all (length c - answer_bytes) (drop answer_bytes c) (omega arith) in
    let y : d ++ drop (length c - answer_bytes) (drop answer_bytes c) ≡ d =
    ap (λ (l : List ℕ). d ++ l) (drop_of_length-le (drop answer_bytes c) {i = length c - answer_bytes} (omega arith)) ∙ append-nil d in
    subst (λ (l : List ℕ). PlaysJoined s first j start n b (k + m) u (take answer_bytes c ++ l)) (sym y)
    (first_joined s first j start b h z w q (subst (λ (l : List ℕ). Plays t j start (n - 1) l m u d) x p))

-- ---- on a valid state

joined_bytes : (first j : List ℕ) → Bytes first → Bytes j → (start n : ℕ) → Each Bytes (joined_records first j start n)
joined_bytes [] j x y start n = records_from_bytes j y start n
joined_bytes (a ∷ l) j x y start zero = tt
joined_bytes (a ∷ l) j x y start (suc n) = (x, records_from_bytes j y start n)

module _ (s : State) (first j : List ℕ) (start : ℕ) (b : List ℕ) where
  pub most_played : (a n : ℕ) → n ≡ most_of a first j start b → valid? s ≡ true → Bytes first → Bytes j → {k : ℕ} {t : State} {c : List ℕ}
      → PlaysJoined s first j start n b k t c → RunsMost a s first j start b (Ok (record { taken = n; accepted = k })) t c
  most_played a n q e x y {k} {t} {c} p =
      let rs = joined_records first j start n in
      let r : run_by judged s rs ≡ run s rs = run_as_judged s e rs (joined_bytes first j x y start n) in
      subst (λ (m : ℕ). RunsJoined m s first j start b (Ok (record { taken = n; accepted = k })) t c) q
      (record {
        result =
            ap (λ (i : ℕ). Ok (record { taken = n; accepted = i })) (p.counted ∙ ap (λ (z : Ran). accepted_in z.answers) r)
            ∙ sym (pick_yes (Ok (took_of (run s rs) n)) (Err NotValid) e);
        state = p.state ∙ ap (λ (z : Ran). z.state) r ∙ sym (pick_yes (run s rs).state s e);
        buffer = p.buffer ∙ ap (λ (z : Ran). pasted z.answers b) r ∙ sym (pick_yes (pasted (run s rs).answers b) b e);
      })

  pub most_refused : (a : ℕ) → valid? s ≡ false → RunsMost a s first j start b (Err NotValid) s b
  most_refused a e =
      let n = most_of a first j start b in
      let r = run s (joined_records first j start n) in
      record {
        result = sym (pick_not (Ok (took_of r n)) (Err NotValid) e);
        state = sym (pick_not r.state s e);
        buffer = sym (pick_not (pasted r.answers b) b e);
      }

-- ---- with no record put together, and as many allowed as there can be

module _ (j : List ℕ) (start : ℕ) (b : List ℕ) where
  abbrev room : ℕ
  room = length b / answer_bytes

  abbrev whole : ℕ
  whole = (length j - start) / record_bytes

  pub whole_runnable : whole ≤ room → whole ≡ runnable j start b
  whole_runnable h = sym (pick_not room whole (not_so (lt⇔ room whole) (λ k. omega arith)))

  room_runnable : room < whole → room ≡ runnable j start b
  room_runnable h = sym (pick_yes room whole ((lt⇔ room whole).1 h))

  runnable_most : (n : ℕ) → length j ≤ n → most_of n [] j start b ≡ runnable j start b
  runnable_most n h =
      below? room whole
      (λ k. let e : most_of n [] j start b ≡ room = omega arith in e ∙ room_runnable k)
      (λ k. let e : most_of n [] j start b ≡ whole = omega arith in e ∙ whole_runnable k)

pub runs_all : (s : State) (j : List ℕ) (start : ℕ) (b : List ℕ) (n : ℕ) → length j ≤ n → {r : Result code.Ran Refusal} {t : State} {c : List ℕ}
    → RunsMost n s [] j start b r t c → Runs s j start b r t c
runs_all s j start b n h {r} {t} {c} p =
    subst (λ (m : ℕ). RunsFirst m s j start b r t c) (runnable_most j start b n h)
    (record { result = p.result; state = p.state; buffer = p.buffer })
