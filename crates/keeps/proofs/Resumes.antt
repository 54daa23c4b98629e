-- Whenever the host has control, any guest runs again within three records: `host_resumes`, of every valid state and every guest, the active one or
-- another, whatever call it has.
-- Assumes nothing.
use mathlib.Core.Path.{◌≡◌, sym, ap, subst, ◌∙◌}
use mathlib.Core.Logic.{◌≢◌}
use mathlib.Core.List.{List, [], ◌∷◌, map}
use Prim.Native.Nat.{ℕ, ◌<◌}
use Rattle.laws.specs.Choice.{at}
use Rattle.laws.proofs.Cases.{same?}
use Rattle.model.specs.Sizes.{guests}
use Rattle.model.specs.Names.{waiting, running}
use Rattle.model.specs.State.{State}
use Rattle.model.specs.Records.{Action, switch, chmod, drop, call_none}
use Rattle.model.specs.Valid.{Valid}
use Rattle.model.specs.Step.{done, refused}
use Rattle.keeps.specs.Allowed.{Idle, HasCall}
use Rattle.keeps.specs.Resumes.{resume, sent, Resumed, Resumes}
use Rattle.keeps.proofs.Resuming.{idle_so, without_call, with_call, idle_resumes, call_resumes}

-- ---- any guest

pub host_resumes : {s : State} → Valid s → s.shape.guests.mode ≡ waiting → (g : ℕ) → g < guests → Resumes s g
host_resumes {s} v m g h = same? (at s.shape.guests.call g) call_none (idle_resumes v m h) (call_resumes v m h)

-- ---- spelled out

-- where the guest has a call, and where it has none: the records, their answers, and the state that they lead to
pub record Spelled (s : State) (g : ℕ) : Type 0 where
  pub call : HasCall s.shape g → (sent s (drop g ∷ switch g ∷ chmod ∷ [])).answers ≡ done 0 ∷ done 0 ∷ done 0 ∷ []
  pub none : Idle s.shape g → (sent s (switch g ∷ chmod ∷ [])).answers ≡ done 0 ∷ done 0 ∷ []
  pub blind : Idle s.shape g → (sent s (drop g ∷ switch g ∷ chmod ∷ [])).answers ≡ refused 4 ∷ done 0 ∷ done 0 ∷ []
  pub same : Idle s.shape g → (sent s (drop g ∷ switch g ∷ chmod ∷ [])).state ≡ (sent s (switch g ∷ chmod ∷ [])).state
  pub is_active : (sent s (drop g ∷ switch g ∷ chmod ∷ [])).state.shape.guests.active ≡ g
  pub runs : (sent s (drop g ∷ switch g ∷ chmod ∷ [])).state.shape.guests.mode ≡ running
  pub calls : (i : ℕ) → i ≢ g → at (sent s (drop g ∷ switch g ∷ chmod ∷ [])).state.shape.guests.call i ≡ at s.shape.guests.call i
  pub call_as : (i : ℕ) → i ≢ g → at (sent s (drop g ∷ switch g ∷ chmod ∷ [])).state.shape.guests.call_a i ≡ at s.shape.guests.call_a i
  pub call_bs : (i : ℕ) → i ≢ g → at (sent s (drop g ∷ switch g ∷ chmod ∷ [])).state.shape.guests.call_b i ≡ at s.shape.guests.call_b i

all_accepted : {s : State} {g : ℕ} → Resumes s g → (xs : List Action) → resume s.shape g ≡ xs → (sent s xs).answers ≡ map (λ x. done 0) xs
all_accepted {s} r xs e = subst (λ (ys : List Action). (sent s ys).answers ≡ map (λ x. done 0) ys) e r.accepted

pub resumes_spelled : {s : State} → Valid s → s.shape.guests.mode ≡ waiting → (g : ℕ) → g < guests → Spelled s g
resumes_spelled {s} v m g h =
    let r : Resumes s g = host_resumes v m g h in
    let q = subst (λ (t : State). Resumed s.shape t.shape g) (sym r.same) r.resumed in
    record {
      call = λ c. all_accepted r (drop g ∷ switch g ∷ chmod ∷ []) (with_call s.shape g c);
      none = λ e. all_accepted r (switch g ∷ chmod ∷ []) (without_call s.shape g e);
      blind = λ e. rw (idle_so s.shape g e) at r.blind;
      same = λ e. r.same ∙ ap (λ (xs : List Action). (sent s xs).state) (without_call s.shape g e);
      is_active = q.is_active;
      runs = q.runs;
      calls = λ i n. (q.others i n).0;
      call_as = λ i n. (q.others i n).1;
      call_bs = λ i n. (q.others i n).2;
    }
