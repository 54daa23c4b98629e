-- Demand 3: every run is as its past says, from any valid state with a book that agrees with it; the fresh machine is one.
-- Assumes nothing.
use mathlib.Core.Path.{◌≡◌, refl, sym, ap, ◌∙◌}
use mathlib.Core.List.{List, []}
use Prim.Native.Nat.{ℕ, zero, suc, ◌+◌, ◌*◌, ◌<◌}
use native.Mathlib.Omega.{arith}
use Rattle.laws.specs.Choice.{at}
use Rattle.laws.proofs.Search.{Each}
use Rattle.model.specs.Sizes.{guests, physicals, policies}
use Rattle.model.specs.Names.{kind_data}
use Rattle.model.specs.State.{State, present}
use Rattle.model.specs.Fresh.{fresh_with}
use Rattle.model.specs.Records.{Bytes}
use Rattle.model.specs.Valid.{Valid}
use Rattle.model.specs.Step.{value_of, step}
use Rattle.model.specs.Run.{run}
use Rattle.keeps.specs.Allowed.{Accepts}
use Rattle.keeps.proofs.Fresh.{fresh_valid}
use Rattle.keeps.proofs.Answers.{accepted_outcome}
use Rattle.history.specs.Past.{Past, Book, fresh_book, active_in, current_in, kind_in, link_in, value_in, pins_in, unpins_in, answer_in}
use Rattle.history.specs.Agrees.{Has, Agrees}
use Rattle.history.specs.Rations.{owned, past_of, Kept, RationsOn, Rations}
use Rattle.history.proofs.Step.{value_agrees}
use Rattle.history.proofs.Places.{one_place, guest_owner, all_pages, host_zero}
use Rattle.history.proofs.Runs.{Tells, run_tells, run_values}
use Rattle.history.proofs.Fresh.{fresh_agrees, fresh_owned}

-- where the book has a data page, the state has one, with the book's value
data_found : {s : State} {b : Book} → Agrees s b → (g pa : ℕ) → g < guests → pa < physicals → b.kind g pa ≡ kind_data
    → (p : ℕ) × Has s.shape.pages.physical g pa p × (present s p ≡ b.value g pa)
data_found {s} {b} a g pa hg ha k = go (at s.shape.pages.physical (physicals * g + pa)) refl
  where
    go : (e : ℕ) → at s.shape.pages.physical (physicals * g + pa) ≡ e → (p : ℕ) × Has s.shape.pages.physical g pa p × (present s p ≡ b.value g pa)
    go zero e = absurd (omega (arith, k, a.chart.none g pa hg ha e))
    go (suc p) e =
        let h : Has s.shape.pages.physical g pa p = record { guest = hg; address = ha; holds = e } in
        (p, h, a.value g pa p h (sym (a.chart.kind g pa p h) ∙ k))

module _ {b : Book} {s : State} {past : Past} {u : State} where
  -- what a past tells is all that is kept
  kept_told : Tells (owned s.shape) b past u → Kept b s past u
  kept_told t =
      record {
        valid = t.valid;
        pinned = t.counted;
        whole = all_pages t.valid;
        places = one_place t.valid;
        owners = guest_owner t.valid;
        found = data_found t.agrees;
        holds = t.agrees.value;
        hosts = host_zero t.valid;
        agrees = t.agrees;
      }

  told_kept : Kept b s past u → Tells (owned s.shape) b past u
  told_kept k = record { valid = k.valid; agrees = k.agrees; counted = k.pinned }

-- what a past kept, a run that goes on keeps
pub rations_on : {b : Book} {s : State} {past : Past} {u : State} → Kept b s past u → (rs : List (List ℕ)) → Each Bytes rs → RationsOn b s past u rs
rations_on k rs w = let t = told_kept k in record { kept = kept_told (run_tells t rs w); answers = run_values t rs w }

module _ {s : State} (v : Valid s) {b : Book} (a : Agrees s b) where
  -- before any action
  pub kept_first : Kept b s [] s
  unfolding active_in current_in kind_in link_in value_in pins_in unpins_in
  kept_first = kept_told (record { valid = v; agrees = a; counted = λ g hg. refl })

  pub rations : (rs : List (List ℕ)) → Each Bytes rs → Rations b s rs
  rations = rations_on kept_first

  -- after any records, the next one that is accepted answers what the past before it says
  pub accepted_answer : (rs : List (List ℕ)) → Each Bytes rs → (r : List ℕ) (x : Accepts (run s rs).state r)
      → value_of (step (run s rs).state r).answer ≡ answer_in b (past_of s rs) x.action
  unfolding active_in current_in link_in value_in
  accepted_answer rs w r x =
      let t = (rations rs w).kept in
      rw (accepted_outcome (run s rs).state r x) (value_agrees t.valid t.agrees x.action x.in_range x.allowed)

-- ---- the fresh machine, with any policy

module _ (p : ℕ) (known : p < policies) where
  pub fresh_kept : Kept fresh_book (fresh_with p) [] (fresh_with p)
  fresh_kept = kept_first (fresh_valid p known) (fresh_agrees p)

  pub fresh_rations : (rs : List (List ℕ)) → Each Bytes rs → Rations fresh_book (fresh_with p) rs
  fresh_rations = rations_on fresh_kept

  -- a guest owns its first page and those that it pinned, less those that it unpinned
  pub fresh_pinned : (rs : List (List ℕ)) → Each Bytes rs → (g : ℕ) → g < guests
      → owned (run (fresh_with p) rs).state.shape g + unpins_in fresh_book (past_of (fresh_with p) rs) g ≡ 1 + pins_in fresh_book (past_of (fresh_with p) rs) g
  fresh_pinned rs w g h =
      (fresh_rations rs w).kept.pinned g h ∙ ap (λ (x : ℕ). x + pins_in fresh_book (past_of (fresh_with p) rs) g) (fresh_owned p g h)
