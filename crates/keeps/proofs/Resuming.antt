-- Any guest runs again within three records: of a guest with no pending call, and of one with one.
-- Assumes nothing.
use mathlib.Core.Path.{◌≡◌, refl, sym, ap, subst, ◌∙◌}
use mathlib.Core.Bool.{true, false}
use mathlib.Core.List.{List, [], ◌∷◌, map}
use mathlib.Core.Option.{Option, none, some}
use Prim.Native.Nat.{ℕ, ◌≤◌, ◌<◌}
use native.Mathlib.Omega.{arith}
use lib.ListN.{length}
use borrow.Author.Tests.{eq-eqb, ne_eqb}
use Rattle.laws.specs.Choice.{at}
use Rattle.laws.proofs.Lists.{at_same, at_other}
use Rattle.model.specs.Sizes.{guests}
use Rattle.model.specs.Names.{waiting}
use Rattle.model.specs.State.{Shape, State}
use Rattle.model.specs.Records.{Action, switch, chmod, drop, call_none, InRange, encode}
use Rattle.model.specs.Checks.{asked}
use Rattle.model.specs.Parts.{take_out, enter, load_stealth}
use Rattle.model.specs.Switch.{switch_step}
use Rattle.model.specs.Chmod.{chmod_step}
use Rattle.model.specs.Drop.{drop_step}
use Rattle.model.specs.Valid.{Valid}
use Rattle.model.specs.Step.{own_checks, refusal, next, value, Answer, done, refused, Outcome, refuse, act, judge, step}
use Rattle.model.specs.Run.{Ran, run_by}
use Rattle.model.proofs.Records.{decode_encode}
use Rattle.keeps.specs.Allowed.{Idle, HasCall, Allowed}
use Rattle.keeps.specs.Resumes.{is_idle, resume, resume_blindly, sent, Resumed, declined, Resumes}
use Rattle.keeps.proofs.Accepted.{acted, step_judge}
use Rattle.keeps.proofs.Keeps.{next_valid}
use Rattle.keeps.proofs.Answers.{accepted_outcome}

-- ---- one record, and those behind it

-- an answer before those of a run
answered : Answer → Ran → Ran
answered a t = record { answers = a ∷ t.answers; state = t.state }

-- an outcome, and what comes of the records behind it
then : Outcome → List Action → Ran
then o xs = answered o.answer (sent o.state xs)

-- with no call to drop, drop is refused with 4, and all is as it was
four : (s : State) (g : ℕ) → s.shape.guests.mode ≡ waiting → Idle s.shape g → refusal s.shape (drop g) ≡ 4
unfolding refusal asked own_checks
four s g m e = rw (m, e)

module _ {s : State} (v : Valid s) where
  sends : (x : Action) → InRange x → Allowed s.shape x → (xs : List Action) → sent s (x ∷ xs) ≡ then (record { answer = done (value s x); state = next s x }) xs
  unfolding run_by answered then
  sends x r a xs =
      ap (λ (o : Outcome). then o xs) (accepted_outcome s (encode x) (record { valid = v; action = x; in_range = r; encoded = refl; allowed = a }))

  no_call : (g : ℕ) → g < guests → s.shape.guests.mode ≡ waiting → Idle s.shape g → step s (encode (drop g)) ≡ refuse s 4
  unfolding judge
  no_call g h m e =
      step_judge s (encode (drop g)) v
      ∙ ap (λ (o : Option Action). elim o [ none ↦ refuse s 2 | some x ↦ act s x ]) (decode_encode (drop g) h)
      ∙ acted (λ o. o ≡ refuse s 4) s (drop g) (λ z. absurd (let q = sym z ∙ four s g m e in omega arith)) (λ z. ap (refuse s) (four s g m e))

-- ---- what the records are

calls_so : (h : Shape) (g : ℕ) → HasCall h g → is_idle h g ≡ false
calls_so h g c = ne_eqb (at h.guests.call g) call_none c

pub idle_so : (h : Shape) (g : ℕ) → Idle h g → is_idle h g ≡ true
idle_so h g e = eq-eqb (at h.guests.call g) call_none e

pub with_call : (h : Shape) (g : ℕ) → HasCall h g → resume h g ≡ drop g ∷ switch g ∷ chmod ∷ []
with_call h g c = rw (calls_so h g c)

pub without_call : (h : Shape) (g : ℕ) → Idle h g → resume h g ≡ switch g ∷ chmod ∷ []
without_call h g e = rw (idle_so h g e)

-- they lead to t, and so do the three without looking
resumes : {s : State} {g : ℕ} (xs : List Action) (t : State) → resume s.shape g ≡ xs → length xs ≤ 3
    → sent s xs ≡ record { answers = map (λ x. done 0) xs; state = t } → Resumed s.shape t.shape g
    → sent s (resume_blindly g) ≡ record { answers = declined s.shape g ∷ done 0 ∷ done 0 ∷ []; state = t } → Resumes s g
resumes {s} {g} xs t r n e q b =
    let ended : (sent s (resume s.shape g)).state ≡ t = ap (λ (ys : List Action). (sent s ys).state) r ∙ ap (λ (u : Ran). u.state) e in
    record {
      few = subst (λ (ys : List Action). length ys ≤ 3) (sym r) n;
      accepted = subst (λ (ys : List Action). (sent s ys).answers ≡ map (λ x. done 0) ys) (sym r) (ap (λ (u : Ran). u.answers) e);
      resumed = subst (λ (u : State). Resumed s.shape u.shape g) (sym ended) q;
      blind = ap (λ (u : Ran). u.answers) b;
      same = ap (λ (u : Ran). u.state) b ∙ sym ended;
    }

-- ---- a guest without a call

module _ {s : State} (v : Valid s) (m : s.shape.guests.mode ≡ waiting) {g : ℕ} (h : g < guests) (e : Idle s.shape g) where
  turned : sent s (switch g ∷ chmod ∷ []) ≡ record { answers = done 0 ∷ done 0 ∷ []; state = chmod_step (switch_step s g) }
  unfolding next value run_by answered then switch_step take_out enter load_stealth
  turned =
      sends v (switch g) h (record { waits = m; idle = e }) (chmod ∷ [])
      ∙ ap (answered (done 0))
      (sends (next_valid v (switch g) h (record { waits = m; idle = e })) chmod tt (record { waits = m; idle = e }) [])

  turned_resumed : Resumed s.shape (chmod_step (switch_step s g)).shape g
  unfolding chmod_step switch_step take_out enter load_stealth
  turned_resumed = record { is_active = refl; runs = refl; others = λ i n. (refl, refl, refl) }

  blindly_turned : sent s (resume_blindly g) ≡ record { answers = refused 4 ∷ done 0 ∷ done 0 ∷ []; state = chmod_step (switch_step s g) }
  unfolding run_by answered then
  blindly_turned = ap (λ (o : Outcome). then o (switch g ∷ chmod ∷ [])) (no_call v g h m e) ∙ ap (answered (refused 4)) turned

  pub idle_resumes : Resumes s g
  idle_resumes =
      resumes (switch g ∷ chmod ∷ []) (chmod_step (switch_step s g)) (without_call s.shape g e) (omega arith) turned turned_resumed
      (blindly_turned ∙ rw (idle_so s.shape g e))

-- ---- a guest with one

module _ {s : State} (v : Valid s) (m : s.shape.guests.mode ≡ waiting) {g : ℕ} (h : g < guests) (c : HasCall s.shape g) where
  dropped : State
  dropped = drop_step s g

  dropped_valid : Valid dropped
  unfolding next dropped
  dropped_valid = next_valid v (drop g) h (record { waits = m; calls = c })

  dropped_idle : Idle dropped.shape g
  unfolding drop_step dropped
  dropped_idle = at_same s.shape.guests.call g 0 (omega (arith, v.sized.call))

  dropped_resumed : Resumed s.shape (chmod_step (switch_step dropped g)).shape g
  unfolding drop_step dropped chmod_step switch_step take_out enter load_stealth
  dropped_resumed =
      let G = s.shape.guests in
      record { is_active = refl; runs = refl; others = λ i n. (at_other G.call g 0 i n, at_other G.call_a g 0 i n, at_other G.call_b g 0 i n) }

  dropped_sent : sent s (resume_blindly g) ≡ record { answers = done 0 ∷ done 0 ∷ done 0 ∷ []; state = chmod_step (switch_step dropped g) }
  unfolding next value answered then drop_step dropped
  dropped_sent =
      sends v (drop g) h (record { waits = m; calls = c }) (switch g ∷ chmod ∷ []) ∙ ap (answered (done 0)) (turned dropped_valid m h dropped_idle)

  pub call_resumes : Resumes s g
  call_resumes =
      resumes (resume_blindly g) (chmod_step (switch_step dropped g)) (with_call s.shape g c) (omega arith) dropped_sent dropped_resumed
      (dropped_sent ∙ rw (calls_so s.shape g c))
