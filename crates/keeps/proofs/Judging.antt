-- An allowed action leads from a valid state to a valid one, and so do any bytes that are judged.
-- Assumes nothing.
use mathlib.Core.Path.{◌≡◌}
use mathlib.Core.List.{List}
use Prim.Native.Nat.{ℕ, suc, ◌+◌, ◌*◌, ◌<◌}
use native.Mathlib.Omega.{arith}
use borrow.Author.Tests.{eqb-true, eq-eqb}
use Rattle.laws.specs.Choice.{at}
use Rattle.laws.specs.Bits.{bit, marks}
use Rattle.laws.proofs.Cases.{below?}
use Rattle.laws.proofs.Search.{first_below_found, first_below_least}
use Rattle.model.specs.Sizes.{physicals, pages, addresses, stealth}
use Rattle.model.specs.Names.{kind_data, kind_table}
use Rattle.model.specs.State.{State, active, mapped, here}
use Rattle.model.specs.Records.{Action, silent, read, read_hyper, write, write_hyper, new, new_sm, del, switch, lswitch, hcall, ret_ctrl, chmod, pin, unpin, drop, InRange, Bytes}
use Rattle.model.specs.Rules.{Maps}
use Rattle.model.specs.Valid.{Valid}
use Rattle.model.specs.Checks.{lowest_free}
use Rattle.model.specs.Step.{next, judge}
use Rattle.model.proofs.Records.{encode_decode}
use Rattle.keeps.specs.Allowed.{Allowed, At}
use Rattle.keeps.proofs.Core.{core_of, leads_nowhere_law, maps_here}
use Rattle.keeps.proofs.Allowed.{not_reserved, of_here, is_here, at_here, is_mapped_law}
use Rattle.keeps.proofs.Accepted.{refused_not, acted, judged}
use Rattle.keeps.proofs.Read.{read_step_valid}
use Rattle.keeps.proofs.Write.{write_step_valid}
use Rattle.keeps.proofs.New.{new_step_valid}
use Rattle.keeps.proofs.Del.{del_step_valid}
use Rattle.keeps.proofs.Hcall.{hcall_step_valid}
use Rattle.keeps.proofs.RetCtrl.{ret_ctrl_step_valid}
use Rattle.keeps.proofs.Chmod.{chmod_step_valid}
use Rattle.keeps.proofs.Pin.{pin_step_valid}
use Rattle.keeps.proofs.Unpin.{unpin_step_valid}
use Rattle.keeps.proofs.Drop.{drop_step_valid}
use Rattle.keeps.proofs.Switch.{switch_step_valid}
use Rattle.keeps.proofs.Lswitch.{lswitch_step_valid}
use Rattle.keeps.proofs.NewSm.{new_sm_step_valid}

-- ---- what an allowed action hands to its step

module _ {s : State} (v : Valid s) where
  -- the lowest free page is one
  pub lowest_free_law : {p : ℕ} → p < pages → bit s.shape.pages.free p ≡ 1
      → (lowest_free s.shape.pages.free < pages) × (bit s.shape.pages.free (lowest_free s.shape.pages.free) ≡ 1)
  unfolding lowest_free
  lowest_free_law {p} h e =
      let f = s.shape.pages.free in
      let l = first_below_least (marks f) pages p (eq-eqb (bit f p) 1 e) in
      let b : lowest_free f < pages = omega arith in
      (b, eqb-true (bit f (lowest_free f)) 1 (first_below_found (marks f) pages b))

  -- a physical address that leads to no page is empty
  pub unused : {pa : ℕ} → pa < physicals → ((p : ℕ) → At s.shape pa p → ⊥) → at s.shape.pages.physical (physicals * active s.shape + pa) ≡ 0
  unused {pa} h n =
      let i = physicals * active s.shape + pa in
      below? (here s.shape pa) pages (λ b. absurd (n (here s.shape pa) (at_here s.shape pa b)))
      (λ b. leads_nowhere_law (at s.shape.pages.physical i) (v.rule10.pages.physical i (omega (arith, v.rule10.guests.active))) b)

  pub next_valid : (x : Action) → InRange x → Allowed s.shape x → Valid (next s x)
  unfolding next
  next_valid silent r a = v
  next_valid (read va) r a = read_step_valid v va r (not_reserved va a.unreserved) (is_mapped_law s.shape a.is_page a.maps)
  next_valid (read_hyper va) r a = read_step_valid v va r (not_reserved va a.unreserved) (is_mapped_law s.shape a.is_page a.maps)
  next_valid (write va x) r a = write_step_valid v va x r.0 (not_reserved va a.unreserved) (is_mapped_law s.shape a.is_page a.maps) r.1
  next_valid (write_hyper va x) r a = write_step_valid v va x r.0 (not_reserved va a.unreserved) (is_mapped_law s.shape a.is_page a.maps) r.1
  next_valid (new va pa) r a =
      new_step_valid v va pa r.0 r.1 (not_reserved va a.unreserved) a.not_stealth (is_here a.there)
      (of_here (λ x. at s.shape.pages.kind x ≡ kind_data) a.there a.is_data)
      (of_here (λ x. (m : ℕ) → Maps s.shape.pages.kind s.shape.pages.entry m stealth x → ⊥) a.there (λ m l. a.not_hidden (m, l)))
  next_valid (new_sm pa) r a =
      new_sm_step_valid v pa r (is_here a.there) (of_here (λ x. at s.shape.pages.kind x ≡ kind_data) a.there a.is_data)
      (of_here (λ x. at s.shape.pages.cacheable x ≡ 1) a.there a.is_cacheable)
      (of_here (λ x. (m va : ℕ) → Maps s.shape.pages.kind s.shape.pages.entry m va x → va ≡ stealth) a.there (λ m va l. a.not_elsewhere va (m, l)))
      (below? (mapped s.shape stealth) pages (λ b. absurd (a.unmapped (mapped s.shape stealth) b (maps_here (core_of v) stealth (omega arith) b))) (λ b. b))
  next_valid (del va) r a = del_step_valid v va r (not_reserved va a.unreserved)
  next_valid (switch g) r a = switch_step_valid v g r a.waits
  next_valid (lswitch pa) r a =
      lswitch_step_valid v pa r (is_here a.there) (of_here (λ x. at s.shape.pages.kind x ≡ kind_table) a.there a.is_table)
  next_valid (hcall c x b) r a = hcall_step_valid v c x b r
  next_valid ret_ctrl r a = ret_ctrl_step_valid v
  next_valid chmod r a = chmod_step_valid v a.idle
  next_valid (pin pa k) r a =
      let f = lowest_free_law a.is_page a.marked in
      pin_step_valid v pa k (lowest_free s.shape.pages.free) r.0 r.1 f.0 f.1 (unused r.0 a.unused)
  next_valid (unpin pa) r a =
      unpin_step_valid v pa (here s.shape pa) r (is_here a.there)
      (of_here (λ x. at s.shape.pages.physical (physicals * active s.shape + pa) ≡ suc x) a.there a.there.registered)
      a.not_current
      (of_here (λ x. (va : ℕ) → va < addresses → at s.shape.pages.entry (addresses * x + va) ≡ 0) a.there a.no_entries)
      (of_here (λ x. (m va : ℕ) → Maps s.shape.pages.kind s.shape.pages.entry m va x → ⊥) a.there (λ m va l. a.unmapped va (m, l)))
  next_valid (drop g) r a = drop_step_valid v g r

-- ---- any bytes

pub judge_keeps : {s : State} → Valid s → (l : List ℕ) → Bytes l → Valid (judge s l).state
judge_keeps {s} v l b =
    judged (λ o. Valid o.state) s l (λ e. v)
    (λ x d.
    let r = (encode_decode l x b d).0 in
    acted (λ o. Valid o.state) s x (λ e. next_valid v x r ((refused_not v x r).0 e)) (λ n. v))
