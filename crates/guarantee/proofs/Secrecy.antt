-- Secrecy of `journal::run`: two journals of any bytes that differ in a guest's secret alone, on one host or on hosts that look the same, show the same in
-- their answer buffers and leave hosts that look the same.
-- Assumes nothing.
use mathlib.Core.Path.{◌≡◌, refl, sym, ap, ap₂, ◌∙◌}
use mathlib.Core.List.{List, [], ◌∷◌, map}
use Prim.Native.Nat.{ℕ, zero, suc, ◌+◌, ◌<◌}
use native.Mathlib.Nat.{add-zero, add-suc, suc-add}
use native.Mathlib.Omega.{arith}
use lib.ListN.{length}
use Rattle.laws.specs.Choice.{pick, at}
use Rattle.laws.proofs.Cases.{split}
use Rattle.laws.proofs.Search.{Each}
use Rattle.laws.proofs.Lists.{get_or_list_of}
use Rattle.model.specs.State.{State}
use Rattle.model.specs.Records.{Bytes}
use Rattle.model.specs.Valid.{Valid}
use Rattle.model.specs.Step.{Answer, number_of, value_of, step}
use Rattle.model.specs.Run.{run, run_by}
use Rattle.model.specs.Journal.{records_of, number_at, value_at, pasted, After}
use Rattle.model.proofs.Bytes.{records_bytes}
use Rattle.model.proofs.Valid.{valid⇔}
use Rattle.secrecy.specs.Secrecy.{is_active, hidden, hide, open_records, Sight, seen_by, seen, AllBytes}
use Rattle.secrecy.proofs.Secret.{secret_from}
use Rattle.host.specs.View.{view}
use Rattle.std.specs.Prelude.{Ok}
use Rattle.image.specs.Promises.{Loads}
use Rattle.journal.specs.declared.Report.{Report}
use Rattle.journal.specs.Promises.{Runs}
use Rattle.journal.proofs.Prefix.{run_valid}
use Rattle.guarantee.specs.Secrecy.{Reply, replies_from, KeepsSecret}
use Rattle.guarantee.proofs.Reading.{run_below, numbers_back, values_back}
use Rattle.guarantee.proofs.Images.{image_state, ended, run_state}

-- ---- the replies are what is seen

abbrev reply_in : Sight → Reply
reply_in x = record { number = x.number; value = x.value }

-- answer i of the buffer is the first of these, and so on
abbrev Stand : List ℕ → ℕ → List Answer → Type 0
Stand c i xs = (k : ℕ) → k < length xs → (number_at c (i + k) ≡ at (map number_of xs) k) × (value_at c (i + k) ≡ at (map value_of xs) k)

replies_seen : (g : ℕ) (s : State) (rs : List (List ℕ)) (i : ℕ) (c : List ℕ) → Stand c i (run s rs).answers → replies_from g s rs i c ≡ map reply_in (seen g s rs)
unfolding run_by replies_from seen_by
replies_seen g s [] i c h = refl
replies_seen g s (r ∷ rs) i c h =
    let o = step s r in
    let ih = replies_seen g o.state rs (suc i) c (λ k l. let z = h (suc k) (omega arith) in rw (suc-add i k, ← (add-suc i k)) z) in
    let z = rw (add-zero i) at (h 0 (omega arith)) in
    split (hidden g s r) (λ e. rw e ih)
    (λ e. rw e (λ j. record { number = z.0 j; value = pick (is_active g s) 0 (z.1 j) } ∷ ih j))

-- a journal that was run leaves them so
module _ (s : State) (j b : List ℕ) (w : Bytes j) {r : Report} {t : State} {c : List ℕ} (p : Runs s j b (Ok r) t c) where
  abbrev answers : List Answer
  answers = (run s (records_of j)).answers

  was_valid : Valid s
  was_valid = (valid⇔ s).0 (run_valid s j b p)

  stand : Stand c 0 answers
  stand k h =
      let e : c ≡ pasted answers b = p.buffer ∙ ap (λ (a : After). a.buffer) (ended s j b p) in
      let n = numbers_back answers b in
      let v = values_back answers b (run_below was_valid (records_of j) (records_bytes j w)) in
      let z : 0 + k ≡ k = omega arith in (
        ap₂ number_at e z ∙ sym (get_or_list_of (length answers) (number_at (pasted answers b)) 0 k h) ∙ ap (λ (l : List ℕ). at l k) n,
        ap₂ value_at e z ∙ sym (get_or_list_of (length answers) (value_at (pasted answers b)) 0 k h) ∙ ap (λ (l : List ℕ). at l k) v,
      )

all_bytes : (rs : List (List ℕ)) → Each Bytes rs → AllBytes rs
all_bytes [] b i = λ j h. absurd (omega arith)
all_bytes (r ∷ rs) b zero = b.0
all_bytes (r ∷ rs) b (suc i) = all_bytes rs b.1 i

-- ---- the theorems

-- on two hosts that look the same
pub journals_secret : (g : ℕ) (x j b c y z k e d t : List ℕ) {r q : Report} → hide g (view x) ≡ hide g (view z) → Bytes j → Bytes k
    → Runs (view x) j b (Ok r) (view y) c → Runs (view z) k e (Ok q) (view t) d
    → open_records g (view x) (records_of j) ≡ open_records g (view z) (records_of k) → KeepsSecret g x j c y z k d t
journals_secret g x j b c y z k e d t same w u p q told =
    let o =
    secret_from g (view x) (view z) (was_valid (view x) j b w p) (was_valid (view z) k e u q) same (records_of j) (records_of k)
    (all_bytes (records_of j) (records_bytes j w)) (all_bytes (records_of k) (records_bytes k u)) told in
    record {
      replies =
          replies_seen g (view x) (records_of j) 0 c (stand (view x) j b w p)
          ∙ ap (map reply_in) o.seen
          ∙ sym (replies_seen g (view z) (records_of k) 0 d (stand (view z) k e u q));
      between = o.seen;
      left = ap (hide g) (run_state (view x) j b p) ∙ o.left ∙ sym (ap (hide g) (run_state (view z) k e q));
    }

-- The theorem to quote: two journals of any bytes on one host.
pub journal_secret : (g : ℕ) (x j b c y k e d t : List ℕ) {r q : Report} → Bytes j → Bytes k → Runs (view x) j b (Ok r) (view y) c
    → Runs (view x) k e (Ok q) (view t) d → open_records g (view x) (records_of j) ≡ open_records g (view x) (records_of k) → KeepsSecret g x j c y x k d t
journal_secret g x j b c y k e d t = journals_secret g x j b c y x k e d t refl

-- on hosts over which one image was loaded
pub loaded_secret : (g : ℕ) (m n i x j b c y z k e d t : List ℕ) {r q : Report} → Loads (view m) i (Ok tt) (view x) → Loads (view n) i (Ok tt) (view z)
    → Bytes j → Bytes k → Runs (view x) j b (Ok r) (view y) c → Runs (view z) k e (Ok q) (view t) d
    → open_records g (view x) (records_of j) ≡ open_records g (view z) (records_of k) → KeepsSecret g x j c y z k d t
loaded_secret g m n i x j b c y z k e d t l o = journals_secret g x j b c y z k e d t (ap (hide g) (image_state l ∙ sym (image_state o)))
