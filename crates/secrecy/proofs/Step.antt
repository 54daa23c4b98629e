-- One record: told and judged on the state with g hidden, it is answered and leads on as it does itself; and a hidden one leaves the state, with g hidden.
-- Assumes nothing.
use mathlib.Core.Path.{◌≡◌, refl, sym, ap, subst, ◌∙◌}
use mathlib.Core.Bool.{true, false, ◌&&◌, true≢false}
use mathlib.Core.Logic.{◌⊎◌, inl, inr}
use mathlib.Core.List.{List}
use mathlib.Core.Option.{Option, none, some}
use Prim.Native.Nat.{ℕ, ◌<◌}
use native.Mathlib.Omega.{arith}
use borrow.Author.Tests.{eqb-false}
use Rattle.laws.specs.Choice.{pick, at}
use Rattle.laws.proofs.Cases.{split, pick_yes}
use Rattle.laws.proofs.Tests.{eq⇔, true⇔, and⇔}
use Rattle.model.specs.Sizes.{pages, addresses, stealth, slot_of}
use Rattle.model.specs.State.{Tlb, Values, State, active, table, mapped, line_of_page, present}
use Rattle.model.specs.Records.{Action, silent, read, read_hyper, write, write_hyper, new, new_sm, del, switch, lswitch, hcall, ret_ctrl, chmod, pin, unpin, drop, InRange, Bytes, fields_of, has_value, decode}
use Rattle.model.specs.Checks.{has_entries, asked}
use Rattle.model.specs.Read.{read_step}
use Rattle.model.specs.Write.{store, write_step}
use Rattle.model.specs.Valid.{Valid}
use Rattle.model.specs.Step.{Outcome, number_of, value_of, refuse, own_checks, refusal, next, value, act, judge, step}
use Rattle.model.proofs.Records.{encode_decode}
use Rattle.keeps.specs.Allowed.{Access, Allowed}
use Rattle.keeps.proofs.Core.{core_of}
use Rattle.keeps.proofs.Allowed.{not_reserved, is_mapped_law}
use Rattle.keeps.proofs.Accepted.{refused_not, acted, judged, step_judge}
use Rattle.keeps.proofs.Answers.{done_as}
use Rattle.keeps.proofs.Stores.{size_set}
use Rattle.secrecy.specs.Secrecy.{is_active, is_access, hidden, blanked, told, slot_hidden, hide, sight}
use Rattle.secrecy.proofs.Alike.{present_alike}
use Rattle.secrecy.proofs.Hide.{slot_hidden_law, hide_alike, hide_same}
use Rattle.secrecy.proofs.Alone.{tlb_refusal, tlb_alone, SizedTlb, slots_alone}
use Rattle.secrecy.proofs.Steps.{besides, AlikeIn, mapped_own, next_alike, own_write}
use Rattle.secrecy.proofs.Stealth.{read_hidden, write_hidden}
use Rattle.secrecy.proofs.Records.{Wrote, told_write}

-- what is seen of two outcomes is the same: on s, and on what g's secrets do not show
pub record Shown (g : ℕ) (s : State) (o q : Outcome) : Type 0 where
  pub number : number_of o.answer ≡ number_of q.answer
  pub value : pick (is_active g s) 0 (value_of o.answer) ≡ pick (is_active g s) 0 (value_of q.answer)
  pub after : hide g o.state ≡ hide g q.state

-- two outcomes, by other words for each
shown_as : {g : ℕ} {s : State} {o q p r : Outcome} → o ≡ p → q ≡ r → Shown g s p r → Shown g s o q
shown_as {g} {s} {o} {r = r} e f h = subst (Shown g s o) (sym f) (subst (λ (x : Outcome). Shown g s x r) (sym e) h)

judge_none : (s : State) (r : List ℕ) → decode r ≡ none → judge s r ≡ refuse s 2
unfolding judge
judge_none s r e = ap (λ (o : Option Action). elim o [ none ↦ refuse s 2 | some x ↦ act s x ]) e

judge_some : (s : State) (r : List ℕ) (x : Action) → decode r ≡ some x → judge s r ≡ act s x
unfolding judge
judge_some s r x e = ap (λ (o : Option Action). elim o [ none ↦ refuse s 2 | some x ↦ act s x ]) e

-- ---- on a state with another TLB and other values, alike

module _ {g : ℕ} {s : State} (v : Valid s) (u : Tlb) (w : Values) (a : AlikeIn g s w) (y : SizedTlb u) (e : slot_hidden s.shape.tlb ≡ slot_hidden u) where
  abbrev other : State
  other = besides s u w

  sized : SizedTlb s.shape.tlb
  sized = record { slot_address = v.sized.slot_address; slot_page = v.sized.slot_page }

  -- it looks the same
  same_before : hide g s ≡ hide g other
  same_before = hide_same s other refl e a

  -- ---- one action on both

  next_same : (x : Action) → InRange x → Allowed s.shape x → hide g (next s x) ≡ hide g (next other x)
  next_same x r l =
      hide_same (next s x) (next other x) (tlb_alone s.shape s.shape.tlb u s.values w x)
      (slots_alone sized y e s.shape s.values w x) (next_alike v u a x r l)

  -- a page that another guest reads is not g's
  read_same : is_active g s ≡ false → (va : ℕ) → va < addresses → mapped s.shape va < pages → present s (mapped s.shape va) ≡ present other (mapped s.shape va)
  unfolding line_of_page present
  read_same n va hv hp =
      present_alike s.shape a (mapped s.shape va)
      (λ o. eqb-false (active s.shape) g n (omega (arith, mapped_own (core_of v) va hv hp)))

  value_same : is_active g s ≡ false → (x : Action) → InRange x → Allowed s.shape x → value s x ≡ value other x
  unfolding table value
  value_same n silent r l = refl
  value_same n (read va) r l = read_same n va r (is_mapped_law s.shape l.is_page l.maps)
  value_same n (read_hyper va) r l = read_same n va r (is_mapped_law s.shape l.is_page l.maps)
  value_same n (write va x) r l = refl
  value_same n (write_hyper va x) r l = refl
  value_same n (new va pa) r l = refl
  value_same n (new_sm pa) r l = refl
  value_same n (del va) r l = refl
  value_same n (switch k) r l = refl
  value_same n (lswitch pa) r l = refl
  value_same n (hcall c x b) r l = refl
  value_same n ret_ctrl r l = refl
  value_same n chmod r l = refl
  value_same n (pin pa k) r l = refl
  value_same n (unpin pa) r l = refl
  value_same n (drop k) r l = refl

  -- ---- two actions that are refused alike

  act_shown : (x z : Action) → InRange x → refusal other.shape z ≡ refusal s.shape x
      → (Allowed s.shape x → pick (is_active g s) 0 (value s x) ≡ pick (is_active g s) 0 (value other z))
      → (Allowed s.shape x → hide g (next s x) ≡ hide g (next other z)) → Shown g s (act s x) (act other z)
  act_shown x z r q f k =
      acted (λ o. Shown g s o (act other z)) s x
      (λ p.
      let l = (refused_not v x r).0 p in
      acted (Shown g s (done_as s x)) other z (λ _. record { number = refl; value = f l; after = k l }) (λ n. absurd (n (q ∙ p))))
      (λ n. acted (Shown g s (refuse s (refusal s.shape x))) other z (λ p. absurd (n (sym q ∙ p)))
      (λ _. record { number = sym q; value = refl; after = same_before }))

  same_shown : (x : Action) → InRange x → Shown g s (act s x) (act other x)
  same_shown x r =
      act_shown x x r (tlb_refusal s.shape u x)
      (λ l. split (is_active g s) (λ t. pick_yes 0 (value s x) t ∙ sym (pick_yes 0 (value other x) t))
      (λ t. ap (pick (is_active g s) 0) (value_same t x r l)))
      (next_same x r)

  -- ---- two writes of g's

  module _ (t : active s.shape ≡ g) (va x z : ℕ) (hv : va < addresses) where
    own_alike : {m : ℕ} → Access s.shape m va → AlikeIn g (write_step s va (mapped s.shape va) x) (write_step other va (mapped s.shape va) z).values
    own_alike l = own_write v t u a va x z hv (not_reserved va l.unreserved) (is_mapped_law s.shape l.is_page l.maps)

    write_shown : InRange (write va x) → Shown g s (act s (write va x)) (act other (write va z))
    unfolding table has_entries asked own_checks refusal store write_step value next
    write_shown r =
        act_shown (write va x) (write va z) r refl (λ l. refl)
        (λ l. hide_same (next s (write va x)) (next other (write va z)) (tlb_alone s.shape s.shape.tlb u s.values w (write va x))
        (slots_alone sized y e s.shape s.values w (write va x)) (own_alike l))

    hyper_shown : InRange (write_hyper va x) → Shown g s (act s (write_hyper va x)) (act other (write_hyper va z))
    unfolding table has_entries asked own_checks refusal store write_step value next
    hyper_shown r =
        act_shown (write_hyper va x) (write_hyper va z) r refl (λ l. refl)
        (λ l. hide_same (next s (write_hyper va x)) (next other (write_hyper va z)) (tlb_alone s.shape s.shape.tlb u s.values w (write_hyper va x))
        (slots_alone sized y e s.shape s.values w (write_hyper va x)) (own_alike l))

  -- ---- bytes

  refused_shown : (r q : List ℕ) → decode r ≡ none → decode q ≡ none → Shown g s (judge s r) (judge other q)
  refused_shown r q d k = shown_as (judge_none s r d) (judge_none other q k) (record { number = refl; value = refl; after = same_before })

  whole_shown : (r : List ℕ) → Bytes r → Shown g s (judge s r) (judge other r)
  whole_shown r b =
      judged (λ o. Shown g s o (judge other r)) s r (λ d. subst (λ (o : Outcome). Shown g s o (judge other r)) (judge_none s r d) (refused_shown r r d d))
      (λ x d. shown_as refl (judge_some other r x d) (same_shown x (encode_decode r x b d).0))

  blanked_shown : (r : List ℕ) → Bytes r → active s.shape ≡ g → has_value (at r 0) ≡ true → Shown g s (judge s r) (judge other (blanked r))
  blanked_shown r b t h = go (told_write r h)
    where
      q : List ℕ
      q = blanked r

      go : (((decode r ≡ none) × (decode q ≡ none)) ⊎ Wrote write r q) ⊎ (((decode r ≡ none) × (decode q ≡ none)) ⊎ Wrote write_hyper r q)
          → Shown g s (judge s r) (judge other q)
      go (inl (inl d)) = refused_shown r q d.0 d.1
      go (inl (inr d)) =
          let k = (encode_decode r (write d.address d.first) b d.is_first).0 in
          shown_as (judge_some s r (write d.address d.first) d.is_first) (judge_some other q (write d.address d.second) d.is_second)
          (write_shown t d.address d.first d.second k.0 k)
      go (inr (inl d)) = refused_shown r q d.0 d.1
      go (inr (inr d)) =
          let k = (encode_decode r (write_hyper d.address d.first) b d.is_first).0 in
          shown_as (judge_some s r (write_hyper d.address d.first) d.is_first) (judge_some other q (write_hyper d.address d.second) d.is_second)
          (hyper_shown t d.address d.first d.second k.0 k)

  told_shown : (r : List ℕ) → Bytes r → Shown g s (judge s r) (judge other (told g s r))
  unfolding told
  told_shown r b =
      split (is_active g s && has_value (at r 0))
      (λ t. let h = (and⇔ (eq⇔ (active s.shape) g) (true⇔ (has_value (at r 0)))).0 t in rw t (blanked_shown r b h.0 h.1))
      (λ t. rw t (whole_shown r b))

-- ---- on the state with g hidden

module _ (g : ℕ) {s : State} (v : Valid s) where
  -- a record does what its told form does where g is hidden
  pub step_shown : (r : List ℕ) → Bytes r → Shown g s (step s r) (judge (hide g s) (told g s r))
  unfolding hide
  step_shown r b =
      shown_as (step_judge s r v) refl
      (told_shown v (slot_hidden s.shape.tlb) (hide g s).values (hide_alike g s v.sized)
      (record {
        slot_address = size_set s.shape.tlb.slot_address (slot_of stealth) 0 v.sized.slot_address;
        slot_page = size_set s.shape.tlb.slot_page (slot_of stealth) 0 v.sized.slot_page;
      })
      (sym (slot_hidden_law s.shape.tlb 0 0)) r b)

  -- and so it is seen
  pub sight_shown : (r : List ℕ) → Bytes r → sight g s (step s r) ≡ sight g (hide g s) (judge (hide g s) (told g s r))
  unfolding hide
  sight_shown r b =
      let h = step_shown r b in λ i. record { number = h.number i; value = h.value i; before = hidden_twice i; after = h.after i }
    where
      hidden_twice : hide g s ≡ hide g (hide g s)
      hidden_twice = hide_same s (hide g s) refl (sym (slot_hidden_law s.shape.tlb 0 0)) (hide_alike g s v.sized)

  -- ---- hidden records

  -- an access is done, at the stealth address
  reads : {m va : ℕ} → va ≡ stealth → Access s.shape m va → hide g (read_step s va (mapped s.shape va)) ≡ hide g s
  reads e l =
      subst (λ (a : ℕ). mapped s.shape a < pages → hide g (read_step s a (mapped s.shape a)) ≡ hide g s) (sym e) (λ h. read_hidden v h g)
      (is_mapped_law s.shape l.is_page l.maps)

  writes : active s.shape ≡ g → (x : ℕ) {m va : ℕ} → va ≡ stealth → Access s.shape m va → hide g (write_step s va (mapped s.shape va) x) ≡ hide g s
  writes t x e l =
      subst (λ (a : ℕ). mapped s.shape a < pages → hide g (write_step s a (mapped s.shape a) x) ≡ hide g s) (sym e) (λ h. write_hidden v h t x)
      (is_mapped_law s.shape l.is_page l.maps)

  hidden_next : active s.shape ≡ g → (x : Action) → is_access (fields_of x).kind ≡ true → (fields_of x).a ≡ stealth → Allowed s.shape x → hide g (next s x) ≡ hide g s
  unfolding next
  hidden_next t silent k e l = absurd (true≢false (sym k))
  hidden_next t (read va) k e l = reads e l
  hidden_next t (read_hyper va) k e l = reads e l
  hidden_next t (write va x) k e l = writes t x e l
  hidden_next t (write_hyper va x) k e l = writes t x e l
  hidden_next t (new va pa) k e l = absurd (true≢false (sym k))
  hidden_next t (new_sm pa) k e l = absurd (true≢false (sym k))
  hidden_next t (del va) k e l = absurd (true≢false (sym k))
  hidden_next t (switch n) k e l = absurd (true≢false (sym k))
  hidden_next t (lswitch pa) k e l = absurd (true≢false (sym k))
  hidden_next t (hcall c x b) k e l = absurd (true≢false (sym k))
  hidden_next t ret_ctrl k e l = absurd (true≢false (sym k))
  hidden_next t chmod k e l = absurd (true≢false (sym k))
  hidden_next t (pin pa n) k e l = absurd (true≢false (sym k))
  hidden_next t (unpin pa) k e l = absurd (true≢false (sym k))
  hidden_next t (drop n) k e l = absurd (true≢false (sym k))

  -- a hidden record leaves what is not hidden, whatever its answer
  pub hidden_leaves : (r : List ℕ) → Bytes r → hidden g s r ≡ true → hide g (step s r).state ≡ hide g s
  unfolding hidden
  hidden_leaves r b h =
      let z = (and⇔ (and⇔ (eq⇔ (active s.shape) g) (true⇔ (is_access (at r 0)))) (eq⇔ (at r 1) stealth)).0 h in
      ap (λ (o : Outcome). hide g o.state) (step_judge s r v)
      ∙ judged (λ o. hide g o.state ≡ hide g s) s r (λ _. refl)
      (λ x d.
      let k = encode_decode r x b d in
      acted (λ o. hide g o.state ≡ hide g s) s x
      (λ p. hidden_next z.0.0 x (ap (λ (l : List ℕ). is_access (at l 0)) k.1 ∙ z.0.1) (ap (λ (l : List ℕ). at l 1) k.1 ∙ z.1) ((refused_not v x k.0).0 p))
      (λ _. refl))
