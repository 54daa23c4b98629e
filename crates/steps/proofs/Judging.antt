-- An action on the bytes, taken apart; and on a valid state it is the model's, whatever the bytes of the record.
-- Assumes nothing.
use mathlib.Core.Path.{◌≡◌, refl, sym, ap, subst, ◌∙◌}
use mathlib.Core.Bool.{Bool, true, false, true≢false}
use mathlib.Core.Logic.{◌≢◌}
use mathlib.Core.List.{List}
use mathlib.Core.Option.{Option, none, some}
use Prim.Native.Nat.{ℕ}
use native.Mathlib.Omega.{arith}
use lib.Dec.{eqb}
use borrow.Author.Tests.{eqb-true, eqb-false}
use Rattle.laws.specs.Choice.{pick}
use Rattle.laws.proofs.Cases.{pick_yes}
use Rattle.laws.proofs.Tests.{lt⇔}
use Rattle.model.specs.Sizes.{pages}
use Rattle.model.specs.State.{State, is_page, mapped, here, present}
use Rattle.model.specs.Records.{Action, silent, read, read_hyper, write, write_hyper, new, new_sm, del, switch, lswitch, hcall, ret_ctrl, chmod, pin, unpin, drop, InRange, Bytes, decode}
use Rattle.model.specs.Checks.{lowest_free}
use Rattle.model.specs.Valid.{Valid, valid?}
use Rattle.model.specs.Read.{read_step}
use Rattle.model.specs.Write.{write_step}
use Rattle.model.specs.NewSm.{new_sm_step}
use Rattle.model.specs.Unpin.{unpin_step}
use Rattle.model.specs.Step.{refusal, next, value, Outcome, done, refused, refuse, act, judge, step}
use Rattle.model.proofs.Valid.{valid⇔}
use Rattle.model.proofs.Records.{encode_decode}
use Rattle.keeps.specs.Allowed.{Allowed, Access}
use Rattle.keeps.proofs.Allowed.{is_here, is_mapped_law}
use Rattle.keeps.proofs.Accepted.{refused_not}
use Rattle.keeps.proofs.Accepted as keeps
use Rattle.keeps.proofs.Keeps.{lowest_free_law}
use Rattle.cache.specs.Lines.{found}
use Rattle.acts.specs.Mapped.{created}
use Rattle.acts.proofs.Pages.{for_page}
use Rattle.acts.proofs.Damage.{deleted_valid, created_valid}
use Rattle.acts.proofs.Pinning.{pinned_valid}
use Rattle.records.specs.declared.Action as coded
use Rattle.records.specs.Actions.{action_to, decoded_of}
use Rattle.records.proofs.Typed.{kind_decoded}
use Rattle.asks.specs.Actions.{action_from}
use Rattle.asks.proofs.Actions.{from_to}
use Rattle.std.specs.Prelude.{Result, Ok, Err, Some, None}
use Rattle.std.specs.Prelude as code
use Rattle.numbers.specs.declared.refusal.Refusal.{Refusal}
use Rattle.numbers.specs.declared.refusal.Refusal.TheVariants.{NotValid, NoRecord}
use Rattle.numbers.specs.Refusals.{refusal_number}
use Rattle.steps.proofs.Refusals.{some_number}
use Rattle.steps.specs.Acting.{performed, answered, read_at, acted, judged}
use Rattle.steps.specs.Promises.{answer_from, Gives}
use Rattle.steps.proofs.Reading.{found_valid}

-- ---- taken apart

acted? {ℓ} : (P : Outcome → Type ℓ) (s : State) (x : Action)
    → (refusal s.shape x ≡ 0 → P (record { answer = done (answered s x); state = performed s x }))
    → (refusal s.shape x ≢ 0 → P (refuse s (refusal s.shape x))) → P (acted s x)
unfolding acted
acted? P s x f g = go (eqb (refusal s.shape x) 0) refl
  where
    go : (b : Bool) → eqb (refusal s.shape x) 0 ≡ b
        → P (elim b [ true ↦ record { answer = done (answered s x); state = performed s x } | false ↦ refuse s (refusal s.shape x) ])
    go true e = f (eqb-true (refusal s.shape x) 0 e)
    go false e = g (eqb-false (refusal s.shape x) 0 e)

module _ (s : State) (x : Action) where
  pub acted_refused : (r : Refusal) → refusal_number r ≡ refusal s.shape x → Gives (acted s x) (Err r) s
  acted_refused r e =
      acted? (λ o. Gives o (Err r) s) s x (λ q. absurd (some_number r (e ∙ q))) (λ q. record { answer = ap refused e; state = refl })

  pub acted_done : 0 ≡ refusal s.shape x → (t : State) (v : ℕ) → v ≡ answered s x → t ≡ performed s x → Gives (acted s x) (Ok v) t
  acted_done e t v p q =
      acted? (λ o. Gives o (Ok v) t) s x (λ z. record { answer = ap done p; state = q }) (λ z. absurd (z (sym e)))

module _ (s t : State) (l : List ℕ) (d : code.Option coded.Action) (e : d ≡ decoded_of (decode l)) where
  pub judged_bad : d ≡ None → Gives (judged s l) (Err NoRecord) s
  unfolding judged
  judged_bad f = go (decode l) refl
    where
      go : (o : Option Action) → decode l ≡ o → Gives (elim o [ none ↦ refuse s 2 | some x ↦ acted s x ]) (Err NoRecord) s
      go none g = record { answer = refl; state = refl }
      go (some x) g = let z : ◌≡◌ {A = ℕ} 0 1 = cc (e, f, g) in absurd (omega arith)

  pub judged_is : (x : coded.Action) → d ≡ Some x → (a : Result ℕ Refusal) → answer_from a ≡ (acted s (action_from x)).answer
      → t ≡ (acted s (action_from x)).state → Gives (judged s l) a t
  unfolding judged
  judged_is x f a p q = go (decode l) refl
    where
      go : (o : Option Action) → decode l ≡ o → Gives (elim o [ none ↦ refuse s 2 | some y ↦ acted s y ]) a t
      go none g = let z : ◌≡◌ {A = ℕ} 0 1 = cc (e, f, g) in absurd (omega arith)
      go (some y) g =
          let h : action_to y ≡ x = cc (e, f, g) in
          let k : action_from x ≡ y = ap action_from (sym h) ∙ from_to y (kind_decoded l y g) in
          subst (λ (z : Action). Gives (acted s z) a t) k (record { answer = p; state = q })

-- ---- on a valid state

module _ {s : State} (v : Valid s) where
  accessed : {m va : ℕ} (f : ℕ → State) → Access s.shape m va → pick (is_page (mapped s.shape va)) (f (mapped s.shape va)) s ≡ f (mapped s.shape va)
  accessed {m} {va} f a = for_page (mapped s.shape va) (f (mapped s.shape va)) s (is_mapped_law s.shape a.is_page a.maps)

  read_there : {m va : ℕ} → Access s.shape m va → read_at s va ≡ present s (mapped s.shape va)
  read_there {m} {va} a =
      let p = mapped s.shape va in
      let h = is_mapped_law s.shape a.is_page a.maps in
      pick_yes (found (read_step s va p) va p) 0 ((lt⇔ p pages).1 h) ∙ found_valid v va (omega (arith, a.unreserved.below)) h

  pub performed_valid : (x : Action) → InRange x → Allowed s.shape x → performed s x ≡ next s x
  unfolding performed next
  performed_valid silent r a = refl
  performed_valid (read va) r a = accessed (read_step s va) a
  performed_valid (read_hyper va) r a = accessed (read_step s va) a
  performed_valid (write va w) r a = accessed (λ p. write_step s va p w) a
  performed_valid (write_hyper va w) r a = accessed (λ p. write_step s va p w) a
  performed_valid (new va pa) r a =
      let p = here s.shape pa in for_page p (created s va p) s (is_here a.there) ∙ created_valid s v va p
  performed_valid (new_sm pa) r a = let p = here s.shape pa in for_page p (new_sm_step s p) s (is_here a.there)
  performed_valid (del va) r a = deleted_valid s v va
  performed_valid (switch g) r a = refl
  performed_valid (lswitch pa) r a = refl
  performed_valid (hcall c x b) r a = refl
  performed_valid ret_ctrl r a = refl
  performed_valid chmod r a = refl
  performed_valid (pin pa k) r a =
      pinned_valid s pa k v ((lt⇔ (lowest_free s.shape.pages.free) pages).1 (lowest_free_law v a.is_page a.marked).0)
  performed_valid (unpin pa) r a = let p = here s.shape pa in for_page p (unpin_step s pa p) s (is_here a.there)
  performed_valid (drop g) r a = refl

  pub answered_valid : (x : Action) → Allowed s.shape x → answered s x ≡ value s x
  unfolding answered value
  answered_valid silent a = refl
  answered_valid (read va) a = read_there a
  answered_valid (read_hyper va) a = read_there a
  answered_valid (write va w) a = refl
  answered_valid (write_hyper va w) a = refl
  answered_valid (new va pa) a = refl
  answered_valid (new_sm pa) a = refl
  answered_valid (del va) a = refl
  answered_valid (switch g) a = refl
  answered_valid (lswitch pa) a = refl
  answered_valid (hcall c x b) a = refl
  answered_valid ret_ctrl a = refl
  answered_valid chmod a = refl
  answered_valid (pin pa k) a = refl
  answered_valid (unpin pa) a = refl
  answered_valid (drop g) a = refl

  pub acted_valid : (x : Action) → InRange x → acted s x ≡ act s x
  acted_valid x r =
      acted? (λ o. o ≡ act s x) s x
      (λ e.
      let a = (refused_not v x r).0 e in
      keeps.acted (λ o. record { answer = done (answered s x); state = performed s x } ≡ o) s x
      (λ q i. record { answer = done (answered_valid x a i); state = performed_valid x r a i })
      (λ q. absurd (q e)))
      (λ n. keeps.acted (λ o. refuse s (refusal s.shape x) ≡ o) s x (λ q. absurd (n q)) (λ q. refl))

  pub judged_valid : (l : List ℕ) → Bytes l → judged s l ≡ judge s l
  unfolding judged
  judged_valid l b =
      keeps.judged (λ o. judged s l ≡ o) s l
      (λ e. ap (λ (o : Option Action). elim o [ none ↦ refuse s 2 | some x ↦ acted s x ]) e)
      (λ x e.
      ap (λ (o : Option Action). elim o [ none ↦ refuse s 2 | some y ↦ acted s y ]) e
      ∙ acted_valid x (encode_decode l x b e).0)

-- ---- any bytes on any state

module _ (s t : State) (l : List ℕ) where
  pub step_refused : valid? s ≡ false → Gives (step s l) (Err NotValid) s
  step_refused e =
      keeps.stepped (λ o. Gives o (Err NotValid) s) s l (λ n. record { answer = refl; state = refl })
      (λ v. absurd (true≢false (sym ((valid⇔ s).1 v) ∙ e)))

  pub step_judged : valid? s ≡ true → Bytes l → (a : Result ℕ Refusal) → Gives (judged s l) a t → Gives (step s l) a t
  step_judged e b a p =
      let v = (valid⇔ s).0 e in
      subst (λ (o : Outcome). Gives o a t) (judged_valid v l b ∙ sym (keeps.step_judge s l v)) p
