-- A call of feed has room for the answers of its records; what is typed of it is what the model prints; and it takes some of its piece, and no more.
-- Assumes nothing.
use Rattle.std.proofs.Common.{◌≡◌, ℕ, ◌+◌, ◌-◌, ◌*◌, ◌/◌, ◌<◌, ◌≤◌, Bool, true, ◌&&◌, eqb, ltb, ◌≢◌, List, length, take, drop, sym, ap, ◌∙◌, arith, length-append, length-drop, length-take, eq-eqb, ne_eqb}
use Rattle.std.specs.List.{concat}
use Rattle.std.specs.Simd.{first_chunks}
use Rattle.laws.proofs.Cases.{split, below?, pick_both, pick_yes, pick_not}
use Rattle.laws.proofs.Lists.{length_list_of}
use Rattle.laws.proofs.Tests.{lt⇔, le⇔, and⇔, true⇔, fails}
use Rattle.model.specs.Sizes.{header_bytes, record_bytes, answer_bytes, begun_most, count_bytes}
use Rattle.model.specs.State.{State}
use Rattle.model.specs.Valid.{valid?}
use Rattle.model.specs.Step.{Answer, step}
use Rattle.model.specs.Run.{run}
use Rattle.model.specs.Pieces.{header_count, begun_count, begun, header_part, header_goes_on, is_journal, at_hand, whole_in, records_in, to_run, feed_refusal, Fed, AfterCall, is_left, bytes_taken, begun_after, Feeds}
use Rattle.model.proofs.Run.{run_length}
use Rattle.model.proofs.Pieces.{either, refusal_valid, refusal_invalid, no_journal, fits, not_refused, fed_valid}
use Rattle.steps.proofs.Storing.{length_pasted}
use Rattle.print.specs.Text.{page, typed_all}
use Rattle.print.proofs.Typing.{typed_inside}
use Rattle.output.specs.declared.stream.Told.{Told}
use Rattle.output.specs.declared.stream.Streamed.{Streamed}
use Rattle.output.specs.Output.{refused_line, ran_status, refused_status}
use Rattle.output.specs.Stream.{told_after, ran_lines, call_status, piece_lines}
use Rattle.output.proofs.Chunks.{of_first}
use Rattle.output.specs.Promises.{fed, Streams}
use Rattle.print.specs.Status.{digit_of}
use Rattle.print.specs.declared.status.Status.{Status}
use Rattle.print.specs.declared.status.Status.TheVariants.{Passed}

-- ---- a piece

module _ (k piece : List ℕ) where
  hand_long : length (at_hand k piece) ≡ length (begun k) + (length piece - header_part k piece)
  hand_long = omega (arith, length-append (begun k) (drop (header_part k piece) piece), length-drop (header_part k piece) piece)

  pub begun_short : (last : Bool) → is_journal k piece last ≡ true → length (begun k) ≤ begun_most
  begun_short last e =
      let r = and⇔ (le⇔ (header_count k) header_bytes) (le⇔ (begun_count k) begun_most) in
      let j = (and⇔ (and⇔ r (true⇔ (header_goes_on k piece))) (true⇔ _)).0 e in
      omega (arith, j.0.0.1, length-take (begun_count k) (drop count_bytes k))

  taken_most : (n : ℕ) → bytes_taken k piece n ≤ length piece
  taken_most n =
      pick_both (λ m. m ≤ length piece) (is_left k piece n)
      (λ e. omega (arith, (lt⇔ n (whole_in (length (at_hand k piece)))).0 e, hand_long))
      (λ e. omega arith)

  taken_least : (a : ℕ) → length (begun k) ≤ begun_most → 0 < a → 0 < length piece → 0 < bytes_taken k piece (to_run k piece a)
  taken_least a h p q =
      pick_both (λ m. 0 < m) (is_left k piece (to_run k piece a))
      (λ e. omega (arith, (lt⇔ (to_run k piece a) (whole_in (length (at_hand k piece)))).0 e))
      (λ e. omega arith)

  -- what is left at hand is less than a record
  pub begun_most_law : (a : ℕ) → length (begun k) ≤ begun_most → length (begun_after k piece (to_run k piece a)) ≤ begun_most
  begun_most_law a h =
      let n = to_run k piece a in
      pick_both (λ (l : List ℕ). length l ≤ begun_most) (is_left k piece n)
      (λ e. pick_both (λ (l : List ℕ). length l ≤ begun_most) (eqb n 0) (λ z. h) (λ z. omega arith))
      (λ e. let f = fails (lt⇔ n (whole_in (length (at_hand k piece)))) e in
      let g : whole_in (length (at_hand k piece)) ≤ n = below? n (whole_in (length (at_hand k piece))) (λ l. absurd (f l)) (λ l. l) in
      omega (arith, length-drop (record_bytes * n) (at_hand k piece)))

-- ---- a call

module _ (s : State) (k piece : List ℕ) (last : Bool) (b : List ℕ) where
  abbrev allowed : ℕ
  allowed = length b / answer_bytes

  abbrev answers : List Answer
  answers = (run s (records_in (at_hand k piece) (to_run k piece allowed))).answers

  answered : length answers ≡ to_run k piece allowed
  answered =
      run_length step s (records_in (at_hand k piece) (to_run k piece allowed))
      ∙ length_list_of (to_run k piece allowed) (λ i. take record_bytes (drop (record_bytes * i) (at_hand k piece)))

  room : answer_bytes * (fed s k piece last b).fed.records ≤ length (fed s k piece last b).buffer
  room =
      either s k piece allowed last b (λ (a : AfterCall). answer_bytes * a.fed.records ≤ length a.buffer)
      (λ e. let n = answered in
      let p = length_pasted answers b (omega arith) in
      omega arith)
      (λ e. omega arith)

  -- what it answered, the buffer after it
  pub room_for_lines : {f : Fed} {t : State} {l c : List ℕ} → Feeds s k piece allowed last b f t l c → answer_bytes * f.records ≤ length c
  room_for_lines {f} {c = c} w =
      let p : f.records ≡ (fed s k piece last b).fed.records = ap (λ (x : Fed). x.records) w.answer in
      let q : length c ≡ length (fed s k piece last b).buffer = ap length w.buffer in
      omega (arith, room)

  -- 15 is never given
  pub never_15 : feed_refusal s k piece allowed last b ≢ 15
  never_15 e =
      split (valid? s)
      (λ v. split (is_journal k piece last)
      (λ j. omega (arith, refusal_valid s k piece allowed last b v, fits k piece allowed last (length b) j (omega arith)))
      (λ j. omega (arith, refusal_valid s k piece allowed last b v, no_journal k piece allowed last (length b) j)))
      (λ v. omega (arith, refusal_invalid s k piece allowed last b v))

  -- what a call tells, by what was typed of it
  module _ (t : Told) (d : List ℕ) {f : Fed} {u : State} {l c e : List ℕ} {n : ℕ} (w : Feeds s k piece allowed last b f u l c) where
    pub streams_ran : {xs : List (List ℕ)} {v : Told} {short : Bool} → f.number ≡ 0 → short ≡ ltb (header_count k) header_bytes
        → xs ≡ first_chunks answer_bytes f.records c
        → page e n ≡ typed_all (page d 0) (ran_lines short (last && eqb f.bytes (length piece)) t (length xs) l (concat xs))
        → v ≡ told_after t (length xs) (concat xs)
        → Streams s k t piece last b d (record { bytes = n; status = Passed; taken = f.bytes; told = v }) u l c e
    streams_ran {short = short} z x y p q =
        let a = fed s k piece last b in
        let g : a.fed.number ≡ 0 = sym (ap (λ (h : Fed). h.number) w.answer) ∙ z in
        let m = eq-eqb a.fed.number 0 g in
        let o = of_first short (last && eqb f.bytes (length piece)) t f.records l c (room_for_lines w) y in
        record {
          state = w.state;
          kept = w.kept;
          answers = w.buffer;
          output =
              p
              ∙ ap (typed_all (page d 0)) o.0
              ∙ (λ i. typed_all (page d 0) (ran_lines (x i) (last && eqb (w.answer i).bytes (length piece)) t (w.answer i).records (w.kept i) (w.buffer i)))
              ∙ ap (typed_all (page d 0)) (sym (pick_yes _ (refused_line a.fed.number) m));
          status = sym (pick_yes ran_status refused_status m);
          taken = ap (λ (h : Fed). h.bytes) w.answer;
          told = q ∙ o.1 ∙ (λ i. told_after t (w.answer i).records (w.buffer i)) ∙ sym (pick_yes _ t m);
        }

    pub streams_refused : {v : Status} → f.number ≢ 0 → page e n ≡ typed_all (page d 0) (refused_line f.number) → digit_of v ≡ refused_status
        → Streams s k t piece last b d (record { bytes = n; status = v; taken = f.bytes; told = t }) u l c e
    streams_refused z p q =
        let a = fed s k piece last b in
        let m = ne_eqb a.fed.number 0 (λ g. z (ap (λ (h : Fed). h.number) w.answer ∙ g)) in
        record {
          state = w.state;
          kept = w.kept;
          answers = w.buffer;
          output =
              p
              ∙ (λ i. typed_all (page d 0) (refused_line (w.answer i).number))
              ∙ ap (typed_all (page d 0)) (sym (pick_not _ (refused_line a.fed.number) m));
          status = q ∙ sym (pick_not ran_status refused_status m);
          taken = ap (λ (h : Fed). h.bytes) w.answer;
          told = sym (pick_not _ t m);
        }

  -- ---- what it promises

  module _ {t : Told} {d : List ℕ} {r : Streamed} {u : State} {l c e : List ℕ} (w : Streams s k t piece last b d r u l c e) where
    -- what was printed lies in the buffer
    pub streamed_inside : r.bytes ≤ length e
    streamed_inside = typed_inside d (piece_lines k t piece last (fed s k piece last b)) e r.bytes w.output

    pub taken_inside : r.taken ≤ length piece
    taken_inside =
        let m = either s k piece allowed last b (λ (a : AfterCall). a.fed.bytes ≤ length piece) (λ z. taken_most k piece (to_run k piece allowed)) (λ z. omega arith) in
        omega (arith, w.taken)

    -- where a record fits the answer buffer, a call that is not refused takes some of a piece
    pub taken_some : digit_of r.status ≡ ran_status → answer_bytes ≤ length b → 0 < length piece → 0 < r.taken
    taken_some z p q =
        let m =
        either s k piece allowed last b (λ (a : AfterCall). call_status a.fed ≡ ran_status → 0 < a.fed.bytes)
        (λ n x. taken_least k piece allowed (begun_short k piece last (not_refused k piece allowed last (length b) (fed_valid s k piece allowed last b n).1).0) (omega arith) q)
        (λ n x. let y = pick_not ran_status refused_status (ne_eqb (feed_refusal s k piece allowed last b) 0 n) in absurd (omega arith)) in
        omega (arith, w.taken, m (sym w.status ∙ z))
