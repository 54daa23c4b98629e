-- Demand 3 of `journal::run`: of one journal, and of journals one after another on one host; from any state to which a past led, from any valid
-- state with a book that agrees with it, and from the fresh machine.
-- Assumes nothing.
use mathlib.Core.Path.{◌≡◌, sym, ap, subst, ◌∙◌}
use mathlib.Core.List.{List, [], ◌∷◌, ◌++◌}
use Prim.Native.Nat.{ℕ, ◌<◌}
use Rattle.laws.proofs.Search.{Each}
use Rattle.model.specs.Sizes.{policies, header_bytes}
use Rattle.model.specs.State.{State}
use Rattle.model.specs.Fresh.{fresh_with}
use Rattle.model.specs.Records.{Bytes}
use Rattle.model.specs.Valid.{Valid}
use Rattle.model.specs.Run.{run}
use Rattle.model.specs.Journal.{taken, records_of, journal, After, played}
use Rattle.history.specs.Past.{Book, Past, fresh_book}
use Rattle.history.specs.Agrees.{Agrees}
use Rattle.history.specs.Rations.{Kept}
use Rattle.history.proofs.Rations.{kept_first, fresh_kept}
use Rattle.host.specs.View.{view}
use Rattle.journal.specs.declared.Report.{Report}
use Rattle.std.specs.Prelude.{Result, Ok, Err}
use Rattle.numbers.specs.declared.refusal.Refusal.{Refusal}
use Rattle.numbers.specs.Refusals.{refusal_number}
use Rattle.journal.specs.Promises.{verdict_from, Runs}
use Rattle.journal.proofs.Answers.{turned_same}
use Rattle.journal.proofs.Reports.{played_journal}
use Rattle.journal.proofs.Prefix.{run_valid, run_form, all_taken_law}
use Rattle.guarantee.specs.Guarantee.{Guarantee, Turn, Turns, past_of, Answers, AllGuarantee}
use Rattle.guarantee.proofs.Answered.{answered}

-- ---- one journal

pub journal_on : {b : Book} {s : State} {past : Past} {u : State} → Kept b s past u → (j : List ℕ) → Bytes j → (buffer : List ℕ)
    → {r : Report} {t : State} {c : List ℕ} → Runs u j buffer (Ok r) t c → Guarantee b s past j header_bytes r.taken t c
journal_on {b} {s} {past} {u} k j w buffer {r} {t} {c} p =
    let ended : journal u j buffer ≡ played (run u (records_of j)) j buffer = played_journal u j buffer (run_valid u j buffer p) (run_form u j buffer p) in
    subst (λ (n : ℕ). Guarantee b s past j header_bytes n t c) (sym (all_taken_law u j buffer p))
    (answered k j w header_bytes (taken j) buffer (p.state ∙ ap (λ (x : After). x.state) ended) (p.buffer ∙ ap (λ (x : After). x.buffer) ended))

pub guaranteed : {s : State} → Valid s → {b : Book} → Agrees s b → (j : List ℕ) → Bytes j → (buffer : List ℕ) {r : Report} {t : State} {c : List ℕ}
    → Runs s j buffer (Ok r) t c → Guarantee b s [] j header_bytes r.taken t c
guaranteed v a = journal_on (kept_first v a)

-- The theorem to quote: a journal of any bytes, run on the fresh machine with any policy.
pub fresh_guaranteed : (policy : ℕ) → policy < policies → (x y j buffer c : List ℕ) (r : Report) → view x ≡ fresh_with policy → Bytes j
    → Runs (view x) j buffer (Ok r) (view y) c → Guarantee fresh_book (fresh_with policy) [] j header_bytes r.taken (view y) c
fresh_guaranteed policy known x y j buffer c r e w p =
    journal_on (fresh_kept policy known) j w buffer (subst (λ (s : State). Runs s j buffer (Ok r) (view y) c) e p)

-- ---- journals one after another

module _ {b : Book} {s : State} where
  -- one of them, run or refused
  turn_kept : {past : Past} {u : State} → Kept b s past u → (j : List ℕ) → Bytes j → (before : List ℕ) (v : Result Report Refusal) {t : State} (after : List ℕ)
      → Runs u j before v t after → Kept b s (past_of past j v after) t × Answers b past j before v after
  turn_kept k j w before (Ok r) after p = let g = journal_on k j w before p in (g.kept, g.answers)
  turn_kept {past} {u} k j w before (Err n) {t} after p =
      let e = turned_same u j before (refusal_number n) p.verdict in
      (subst (λ (x : State). Kept b s past x) (sym (p.state ∙ e.0)) k, p.buffer ∙ e.1)

  pub journals_on : {past : Past} {u : State} → Kept b s past u → (xs : List Turn) → Each (λ x. Bytes x.journal) xs → {t : State} → Turns u xs t
      → AllGuarantee b s past xs t
  journals_on {past} k [] w {t} e = record { kept = subst (λ (x : State). Kept b s past x) (sym e) k; answers = tt }
  journals_on {past = past} {u = u} k (x ∷ xs) w {t = t} (v, p, q) =
      let o = turn_kept k x.journal w.0 x.before x.verdict x.after p in
      let g = journals_on {past = past_of past x.journal x.verdict x.after} {u = v} o.0 xs w.1 {t = t} q in
      record { kept = g.kept; answers = (o.1, g.answers) }

-- a refused one among them leaves all as it was: the others go as they would without it
pub refused_leaves : (s t : State) (ys : List Turn) (x : Turn) (xs : List Turn) (n : Refusal) → x.verdict ≡ Err n → Turns s (ys ++ x ∷ xs) t
    → Turns s (ys ++ xs) t
refused_leaves s t [] x xs n e (u, p, q) =
    subst (λ (v : State). Turns v xs t) (p.state ∙ (turned_same s x.journal x.before (refusal_number n) (ap verdict_from (sym e) ∙ p.verdict)).0) q
refused_leaves s t (y ∷ ys) x xs n e (u, p, q) = (u, p, refused_leaves u t ys x xs n e q)

pub all_guaranteed : {s : State} → Valid s → {b : Book} → Agrees s b → (xs : List Turn) → Each (λ x. Bytes x.journal) xs → {t : State} → Turns s xs t
    → AllGuarantee b s [] xs t
all_guaranteed v a = journals_on (kept_first v a)

-- The theorem to quote: journals of any bytes, one after another from the fresh machine on, with any policy.
pub fresh_all : (policy : ℕ) → policy < policies → (x y : List ℕ) (xs : List Turn) → view x ≡ fresh_with policy → Each (λ x. Bytes x.journal) xs
    → Turns (view x) xs (view y) → AllGuarantee fresh_book (fresh_with policy) [] xs (view y)
fresh_all policy known x y xs e w p = journals_on (fresh_kept policy known) xs w (subst (λ (s : State). Turns s xs (view y)) e p)
