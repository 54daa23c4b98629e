-- Two hosts that are alike but for the policy and the values in memory answer alike, and stay alike. What is refused and what the shapes become turn on
-- no value and on no policy; and the values are what one history says of both, by demand 3.
-- Assumes nothing.
use mathlib.Core.Path.{◌≡◌, refl, sym, ap, ap₂, ◌∙◌, subst}
use mathlib.Core.List.{List, [], ◌∷◌}
use mathlib.Core.Option.{Option, none, some}
use Prim.Native.Nat.{ℕ, zero, suc, ◌<◌}
use native.Mathlib.Omega.{arith}
use lib.ListN.{drop}
use lib.Seq.{ext_get_or}
use Rattle.laws.specs.Choice.{at}
use Rattle.laws.proofs.Cases.{same?}
use Rattle.laws.proofs.Search.{Each}
use Rattle.model.specs.Sizes.{lines}
use Rattle.model.specs.State.{Shape, State, present}
use Rattle.model.specs.Parts.{with_policy}
use Rattle.model.specs.Records.{Action, Bytes, decode}
use Rattle.model.specs.Valid.{Valid}
use Rattle.model.specs.Step.{done, refused, number_of, value_of, Outcome, refuse, refusal, next, act, judge, step}
use Rattle.model.specs.Run.{run_by, run}
use Rattle.model.proofs.Shape.{filled, shape_alone, refusal_alone, policy_alone, policy_stays}
use Rattle.keeps.proofs.Core.{GuestData, core_of}
use Rattle.keeps.proofs.Accepted.{acted, judged, stepped, step_judge}
use Rattle.keeps.proofs.Answers.{done_as}
use Rattle.keeps.proofs.Keeps.{step_keeps}
use Rattle.history.specs.Past.{Past, Book, past_after, values_after}
use Rattle.history.specs.Agrees.{Has, Agrees, book_of}
use Rattle.history.specs.Rations.{numbers, values, Kept}
use Rattle.history.specs.Policies.{Alike, SameRuns}
use Rattle.history.proofs.Holds.{present_holds}
use Rattle.history.proofs.Charts.{ChartOf}
use Rattle.history.proofs.Places.{nobody_zero}
use Rattle.history.proofs.Rations.{rations}
use Rattle.history.proofs.Drawn.{drawn_agrees}

-- ---- shapes and numbers

-- all but the policies of the shapes is the same
abbrev SameShape : State → State → Type 0
SameShape s t = with_policy t.shape s.shape.policy ≡ s.shape

-- of the outcomes of a record: its answers are the same if their values are
record Paired (o q : Outcome) : Type 0 where
  shape : SameShape o.state q.state
  number : number_of q.answer ≡ number_of o.answer
  answer : value_of q.answer ≡ value_of o.answer → q.answer ≡ o.answer

module _ (s t : State) (e : SameShape s t) where
  same_refusal : (x : Action) → refusal t.shape x ≡ refusal s.shape x
  same_refusal x = sym (refusal_alone t.shape s.shape.policy x) ∙ ap (λ (h : Shape). refusal h x) e

  same_next : (x : Action) → SameShape (next s x) (next t x)
  same_next x =
      ap (with_policy (next t x).shape) (policy_stays s x)
      ∙ sym (policy_alone t.shape t.values s.shape.policy x)
      ∙ ap (λ (h : Shape). (next (filled h t.values) x).shape) e
      ∙ shape_alone s.shape t.values s.values x

  act_paired : (x : Action) → Paired (act s x) (act t x)
  act_paired x =
      acted (λ o. Paired o (act t x)) s x
      (λ z. acted (Paired (done_as s x)) t x (λ _. record { shape = same_next x; number = refl; answer = ap done }) (λ n. absurd (n (same_refusal x ∙ z))))
      (λ n. acted (Paired (refuse s (refusal s.shape x))) t x (λ z. absurd (n (sym (same_refusal x) ∙ z)))
      (λ _. record { shape = e; number = same_refusal x; answer = λ _. ap refused (same_refusal x) }))

  judge_paired : (r : List ℕ) → Paired (judge s r) (judge t r)
  unfolding judge
  judge_paired r = go (decode r)
    where
      go : (o : Option Action) → Paired (elim o [ none ↦ refuse s 2 | some x ↦ act s x ]) (elim o [ none ↦ refuse t 2 | some x ↦ act t x ])
      go none = record { shape = e; number = refl; answer = λ _. refl }
      go (some x) = act_paired x

-- of runs
record PairedRuns (s t : State) (rs : List (List ℕ)) : Type 0 where
  shape : SameShape (run s rs).state (run t rs).state
  numbers : numbers t rs ≡ numbers s rs
  answers : values t rs ≡ values s rs → (run t rs).answers ≡ (run s rs).answers

run_paired : {s t : State} → Valid s → Valid t → SameShape s t → (rs : List (List ℕ)) → Each Bytes rs → PairedRuns s t rs
unfolding run_by
run_paired v w e [] b = record { shape = e; numbers = refl; answers = λ _. refl }
run_paired {s} {t} v w e (r ∷ rs) b =
    let o : Paired (step s r) (step t r) = rw (step_judge s r v, step_judge t r w) (judge_paired s t e r) in
    let u = run_paired {s = (step s r).state} {t = (step t r).state} (step_keeps v r b.0) (step_keeps w r b.0) o.shape rs b.1 in
    record {
      shape = u.shape;
      numbers = ap₂ ◌∷◌ o.number u.numbers;
      answers = λ h. ap₂ ◌∷◌ (o.answer (ap (λ (l : List ℕ). at l 0) h)) (u.answers (ap (drop 1) h));
    }

-- ---- the policy stays

step_policy : (s : State) (r : List ℕ) → (step s r).state.shape.policy ≡ s.shape.policy
step_policy s r =
    stepped Stays s r (λ _. refl) (λ _. judged Stays s r (λ _. refl) (λ x _. acted Stays s x (λ _. policy_stays s x) (λ _. refl)))
  where
    Stays : Outcome → Type 0
    Stays o = o.state.shape.policy ≡ s.shape.policy

pub run_policy : (s : State) (rs : List (List ℕ)) → (run s rs).state.shape.policy ≡ s.shape.policy
unfolding run_by
run_policy s [] = refl
run_policy s (r ∷ rs) = run_policy (step s r).state rs ∙ step_policy s r

-- ---- one book for both

pub alike_agrees : {s t : State} → Alike s t → {b : Book} → Agrees s b → Agrees t b
alike_agrees {s} {t} l {b} a =
    record {
      chart = subst (λ (h : Shape). ChartOf h b) (sym l.shape) a.chart;
      value = λ g pa p h d.
          l.present p
          ∙ a.value g pa p (subst (λ (x : Shape). Has x.pages.physical g pa p) l.shape h) (ap (λ (x : Shape). at x.pages.kind p) (sym l.shape) ∙ d);
    }

-- ---- what one past left on both

module _ (s t : State) (e : SameShape s t) where
  -- where a guest has a data page it is what the past says; any other page is 0
  same_present : {b : Book} {first second : State} {past : Past} → Kept b first past s → Kept b second past t → (p : ℕ) → present t p ≡ present s p
  same_present k l p =
      same? (present t p) (present s p) (λ q. q)
      (λ n.
      let nobody : GuestData s.shape p → ⊥ = λ d. n (told d) in
      absurd (n (nobody_zero l.valid p (λ d. nobody (moved d)) ∙ sym (nobody_zero k.valid p nobody))))
    where
      moved : GuestData t.shape p → GuestData s.shape p
      moved d =
          record {
            page = d.page;
            is_data = ap (λ (h : Shape). at h.pages.kind p) (sym e) ∙ d.is_data;
            guest = d.guest;
            known = d.known;
            owned = ap (λ (h : Shape). at h.pages.owner p) (sym e) ∙ d.owned;
          }

      told : GuestData s.shape p → present t p ≡ present s p
      told d =
          let h = (k.owners d.guest p d.known d.page).0 d.owned in
          l.holds d.guest h.0 p (subst (λ (x : Shape). Has x.pages.physical d.guest h.0 p) (sym e) h.1)
          (ap (λ (x : Shape). at x.pages.kind p) e ∙ d.is_data)
          ∙ sym (k.holds d.guest h.0 p h.1 d.is_data)

  -- a line has its page's present value, an empty way 0
  same_line : Valid s → Valid t → ((p : ℕ) → present t p ≡ present s p) → t.values.line ≡ s.values.line
  same_line v w f =
      ext_get_or 0 t.values.line s.values.line (w.sized.line ∙ sym v.sized.line)
      (λ i h. go i (omega (arith, w.sized.line)) (at s.shape.cache.line_page i) refl)
    where
      there : (i : ℕ) → at t.shape.cache.line_page i ≡ at s.shape.cache.line_page i
      there i = ap (λ (h : Shape). at h.cache.line_page i) e

      go : (i : ℕ) → i < lines → (x : ℕ) → at s.shape.cache.line_page i ≡ x → at t.values.line i ≡ at s.values.line i
      go i h zero z = (w.rule10.cache.empty i h (there i ∙ z)).1 ∙ sym (v.rule10.cache.empty i h z).1
      go i h (suc p) z =
          (present_holds (core_of w) p).in_line i h (there i ∙ z) ∙ f p ∙ sym ((present_holds (core_of v) p).in_line i h z)

  kept_alike : {b : Book} {first second : State} {past : Past} → Kept b first past s → Kept b second past t → Alike s t
  kept_alike k l =
      let p = same_present k l in
      record { shape = e; line = same_line k.valid l.valid p; present = p }

-- ---- the theorem

pub alike_runs : {s t : State} → Valid s → Valid t → Alike s t → (rs : List (List ℕ)) → Each Bytes rs → SameRuns s t rs
alike_runs {s} {t} v w l rs b =
    let a = drawn_agrees v in
    let x = rations v a rs b in
    let y = rations w (alike_agrees l a) rs b in
    let u = run_paired v w l.shape rs b in
    let k = subst (λ (ns : List ℕ). Kept (book_of s) t (past_after [] rs ns) (run t rs).state) u.numbers y.kept in
    record {
      answers = u.answers (y.answers ∙ ap (values_after (book_of s) [] rs) u.numbers ∙ sym x.answers);
      alike = kept_alike (run s rs).state (run t rs).state u.shape x.kept k;
      first_policy = run_policy s rs;
      second_policy = run_policy t rs;
    }
