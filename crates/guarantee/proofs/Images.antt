-- After an image was loaded: demand 3 from what the image has, of one journal, of journals one after another, of a journal in pieces and of records;
-- and a run, a save, a load and a run are one run.
-- Assumes nothing.
use mathlib.Core.Path.{◌≡◌, sym, ap, subst, ◌∙◌}
use mathlib.Core.List.{List, [], ◌++◌}
use Prim.Native.Nat.{ℕ, ◌*◌}
use lib.ListN.{length, take, drop}
use lib.Seq.{take_at}
use Rattle.laws.proofs.Search.{Each}
use Rattle.laws.proofs.Lists.{length_list_of}
use Rattle.model.specs.Sizes.{answer_bytes, header_bytes}
use Rattle.model.specs.State.{State}
use Rattle.model.specs.Records.{Bytes}
use Rattle.model.specs.Valid.{Valid}
use Rattle.model.specs.Step.{step}
use Rattle.model.specs.Step as model
use Rattle.model.specs.Run.{Ran, run}
use Rattle.model.specs.Journal.{taken, record_at, records_of, written, played, journal, After}
use Rattle.model.specs.Image.{image_bytes, held, Read, Written}
use Rattle.model.specs.Pieces.{beginning}
use Rattle.model.proofs.Bytes.{records_bytes}
use Rattle.model.proofs.Run.{run_append, run_length}
use Rattle.model.proofs.Journal.{written_more, length_written}
use Rattle.model.proofs.Valid.{valid⇔}
use Rattle.model.proofs.Saving.{load_valid, load_done, save_valid}
use Rattle.keeps.proofs.Keeps.{run_keeps}
use Rattle.stream.specs.Calls.{Call, Calls, taken_by, answers_by}
use Rattle.history.specs.Agrees.{book_of}
use Rattle.history.proofs.Drawn.{drawn_agrees}
use Rattle.host.specs.View.{view, Whole}
use Rattle.std.specs.Prelude.{Ok}
use Rattle.image.specs.Promises.{Answer, answer_to, Loads, Saves}
use Rattle.image.proofs.Answers.{done_is, saved_loads_bytes}
use Rattle.journal.specs.declared.Report.{Report}
use Rattle.journal.specs.Promises.{Runs}
use Rattle.journal.proofs.Reports.{played_journal}
use Rattle.journal.proofs.Prefix.{run_valid, run_form, all_taken_law}
use Rattle.guarantee.specs.Guarantee.{Guarantee, Turn, Turns, AllGuarantee}
use Rattle.guarantee.specs.Images.{GoesOn}
use Rattle.steps.specs.Parts as parts
use Rattle.guarantee.proofs.Parts.{part_guaranteed}
use Rattle.guarantee.proofs.Journals.{guaranteed, all_guaranteed}
use Rattle.guarantee.proofs.Pieces.{fed_guaranteed}

-- ---- demand 3 after a load

-- an image that loads holds a valid state, and that is the state after it
module _ {s t : State} {i : List ℕ} (p : Loads s i (Ok tt) t) where
  image_valid : Valid (held i)
  image_valid = (load_done s i (done_is p.answer)).1

  pub image_state : t ≡ held i
  image_state =
      let m = load_done s i (done_is p.answer) in
      p.state ∙ ap (λ (r : Read). r.state) (load_valid s i m.0 m.1)

-- The theorem to quote: a journal of any bytes, run after an image was loaded.
pub loaded_guaranteed : (x y z i j buffer c : List ℕ) (r : Report) → Loads (view x) i (Ok tt) (view y) → Bytes j
    → Runs (view y) j buffer (Ok r) (view z) c → Guarantee (book_of (held i)) (held i) [] j header_bytes r.taken (view z) c
loaded_guaranteed x y z i j buffer c r l w p =
    guaranteed (image_valid l) (drawn_agrees (image_valid l)) j w buffer
    (subst (λ (s : State). Runs s j buffer (Ok r) (view z) c) (image_state l) p)

-- journals of any bytes, one after another
pub loaded_all : (x y z i : List ℕ) (xs : List Turn) → Loads (view x) i (Ok tt) (view y) → Each (λ t. Bytes t.journal) xs → Turns (view y) xs (view z)
    → AllGuarantee (book_of (held i)) (held i) [] xs (view z)
loaded_all x y z i xs l w p =
    all_guaranteed (image_valid l) (drawn_agrees (image_valid l)) xs w
    (subst (λ (s : State). Turns s xs (view z)) (image_state l) p)

-- a journal of any bytes, fed in any pieces
pub loaded_fed : (x y z i l : List ℕ) (xs : List Call) → Loads (view x) i (Ok tt) (view y) → Each (λ c. Bytes c.piece) xs
    → Calls (view y) beginning xs (view z) l
    → Guarantee (book_of (held i)) (held i) [] (taken_by xs) header_bytes (taken (taken_by xs)) (view z) (answers_by xs)
loaded_fed x y z i l xs p w c =
    fed_guaranteed (image_valid p) (drawn_agrees (image_valid p)) xs w l
    (subst (λ (s : State). Calls s beginning xs (view z) l) (image_state p) c)

-- records of any bytes, from any place on
pub loaded_part : (x y z i j : List ℕ) (start : ℕ) (buffer c : List ℕ) (n k : ℕ) → Loads (view x) i (Ok tt) (view y) → Bytes j
    → parts.Runs (view y) j start buffer (Ok (record { taken = n; accepted = k })) (view z) c → Guarantee (book_of (held i)) (held i) [] j start n (view z) c
loaded_part x y z i j start buffer c n k l w p =
    part_guaranteed (image_valid l) (drawn_agrees (image_valid l)) j w start buffer
    (subst (λ (s : State). parts.Runs s j start buffer (Ok (record { taken = n; accepted = k })) (view z) c) (image_state l) p)

-- ---- one run

-- what a journal that was run leaves: the answers to its records, and the state
module _ (s : State) (j b : List ℕ) {r : Report} {t : State} {c : List ℕ} (p : Runs s j b (Ok r) t c) where
  pub ended : journal s j b ≡ played (run s (records_of j)) j b
  ended = played_journal s j b (run_valid s j b p) (run_form s j b p)

  pub run_state : t ≡ (run s (records_of j)).state
  run_state = p.state ∙ ap (λ (a : After). a.state) ended

  run_answers : take (answer_bytes * r.taken) c ≡ written (run s (records_of j)).answers
  run_answers =
      let xs : List model.Answer = (run s (records_of j)).answers in
      ap (take (answer_bytes * r.taken)) (p.buffer ∙ ap (λ (a : After). a.buffer) ended)
      ∙ take_at (written xs) (drop (answer_bytes * length xs) b) (answer_bytes * r.taken)
      (length_written xs
      ∙ ap (λ (n : ℕ). answer_bytes * n) (run_length step s (records_of j) ∙ length_list_of (taken j) (record_at j) ∙ sym (all_taken_law s j b p)))

  run_ends_valid : Bytes j → Valid t
  run_ends_valid w =
      subst Valid (sym run_state) (run_keeps ((valid⇔ s).0 (run_valid s j b p)) (records_of j) (records_bytes j w))

-- a journal, a save, a load over any bytes and a journal: as the records of both, one after another
pub goes_on : (x y u z t j b c o i k d e : List ℕ) {r q : Report} {f g : Answer} → Whole y → Whole z → Bytes j → length o ≡ image_bytes
    → Runs (view x) j b (Ok r) (view y) c → Saves (view y) o f i → Loads (view u) i g (view z) → Runs (view z) k d (Ok q) (view t) e
    → GoesOn x j r.taken c y f g z k q.taken e t
goes_on x y u z t j b c o i k d e {r} {q} {f} {g} hy hz w l p m n v =
    let first : Ran = run (view x) (records_of j) in
    let saves : f ≡ Ok tt =
    m.answer ∙ ap (λ (a : Written). answer_to a.answer) (save_valid (view y) o (run_ends_valid (view x) j b p w) l) in
    let back = saved_loads_bytes y u z o hy hz (subst (λ (a : Answer). Saves (view y) o a i) saves m) n in
    let from : view z ≡ first.state = ap view back.1 ∙ run_state (view x) j b p in
    let both = sym (run_append step (view x) (records_of j) (records_of k)) in
    record {
      saved = saves;
      loaded = back.0;
      same = back.1;
      answers =
          (λ h. run_answers (view x) j b p h ++ run_answers (view z) k d v h)
          ∙ ap (λ (s : State). written first.answers ++ written (run s (records_of k)).answers) from
          ∙ sym (written_more first.answers (run first.state (records_of k)).answers)
          ∙ ap (λ (a : Ran). written a.answers) both;
      state = run_state (view z) k d v ∙ ap (λ (s : State). (run s (records_of k)).state) from ∙ ap (λ (a : Ran). a.state) both;
    }
