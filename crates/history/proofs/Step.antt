-- One step: from a valid state and a book that agree, an allowed action leads to a state and a book that agree, and answers what the book says.
-- Assumes nothing.
use mathlib.Core.Path.{◌≡◌, refl}
use mathlib.Core.List.{[], ◌∷◌}
use Prim.Native.Nat.{ℕ, suc, ◌+◌, ◌*◌, ◌<◌}
use Rattle.laws.specs.Choice.{at}
use Rattle.model.specs.Sizes.{physicals, addresses, stealth}
use Rattle.model.specs.Names.{kind_table}
use Rattle.model.specs.State.{State, active, here}
use Rattle.model.specs.Records.{Action, silent, read, read_hyper, write, write_hyper, new, new_sm, del, switch, lswitch, hcall, ret_ctrl, chmod, pin, unpin, drop, InRange}
use Rattle.model.specs.Rules.{Maps}
use Rattle.model.specs.Valid.{Valid}
use Rattle.model.specs.Checks.{lowest_free}
use Rattle.model.specs.Step.{next, value}
use Rattle.keeps.specs.Allowed.{Allowed, MapsTo}
use Rattle.keeps.proofs.Allowed.{not_reserved, of_here, is_here, is_mapped_law}
use Rattle.keeps.proofs.Keeps.{lowest_free_law, unused}
use Rattle.history.specs.Past.{Book, active_in, current_in, kind_in, link_in, value_in, book_after, answer_in}
use Rattle.history.specs.Agrees.{Agrees}
use Rattle.history.proofs.Quiet.{hcall_agrees, ret_ctrl_agrees, chmod_agrees, drop_agrees}
use Rattle.history.proofs.Access.{read_agrees, write_agrees, read_value}
use Rattle.history.proofs.Turns.{switch_agrees, lswitch_agrees}
use Rattle.history.proofs.Mapping.{new_agrees, new_sm_agrees, del_agrees}
use Rattle.history.proofs.Pinning.{pin_agrees, unpin_agrees}

module _ {s : State} (v : Valid s) {b : Book} (a : Agrees s b) where
  pub next_agrees : (x : Action) → InRange x → Allowed s.shape x → Agrees (next s x) (book_after b (x ∷ []))
  unfolding next active_in current_in kind_in link_in value_in
  next_agrees silent r w = a
  next_agrees (read va) r w = read_agrees v va r (not_reserved va w.unreserved) (is_mapped_law s.shape w.is_page w.maps) a
  next_agrees (read_hyper va) r w = read_agrees v va r (not_reserved va w.unreserved) (is_mapped_law s.shape w.is_page w.maps) a
  next_agrees (write va y) r w = write_agrees v va r.0 (not_reserved va w.unreserved) (is_mapped_law s.shape w.is_page w.maps) a y
  next_agrees (write_hyper va y) r w = write_agrees v va r.0 (not_reserved va w.unreserved) (is_mapped_law s.shape w.is_page w.maps) a y
  next_agrees (new va pa) r w = new_agrees v a va pa r.0 r.1 (is_here w.there)
  next_agrees (new_sm pa) r w =
      new_sm_agrees v a pa r (is_here w.there) (of_here (λ p. (va : ℕ) → MapsTo s.shape va p → va ≡ stealth) w.there w.not_elsewhere) w.unmapped
  next_agrees (del va) r w = del_agrees v a va r
  next_agrees (switch g) r w = switch_agrees v a g r w.waits
  next_agrees (lswitch pa) r w =
      lswitch_agrees v a pa r (is_here w.there) (of_here (λ p. at s.shape.pages.kind p ≡ kind_table) w.there w.is_table)
  next_agrees (hcall c x y) r w = hcall_agrees a c x y
  next_agrees ret_ctrl r w = ret_ctrl_agrees a
  next_agrees chmod r w = chmod_agrees a
  next_agrees (pin pa k) r w =
      let f = lowest_free_law v w.is_page w.marked in
      pin_agrees v a pa (lowest_free s.shape.pages.free) r.0 f.0 k r.1 f.1 (unused v r.0 w.unused)
  next_agrees (unpin pa) r w =
      unpin_agrees v a pa (here s.shape pa) r (is_here w.there)
      (of_here (λ p. at s.shape.pages.physical (physicals * active s.shape + pa) ≡ suc p) w.there w.there.registered) w.not_current
      (of_here (λ p. (va : ℕ) → va < addresses → at s.shape.pages.entry (addresses * p + va) ≡ 0) w.there w.no_entries)
      (of_here (λ p. (m va : ℕ) → Maps s.shape.pages.kind s.shape.pages.entry m va p → ⊥) w.there (λ m va l. w.unmapped va (m, l)))
  next_agrees (drop g) r w = drop_agrees a g

  pub value_agrees : (x : Action) → InRange x → Allowed s.shape x → value s x ≡ answer_in b [] x
  unfolding value active_in current_in link_in value_in
  value_agrees silent r w = refl
  value_agrees (read va) r w = read_value v va r (not_reserved va w.unreserved) (is_mapped_law s.shape w.is_page w.maps) a
  value_agrees (read_hyper va) r w = read_value v va r (not_reserved va w.unreserved) (is_mapped_law s.shape w.is_page w.maps) a
  value_agrees (write va y) r w = refl
  value_agrees (write_hyper va y) r w = refl
  value_agrees (new va pa) r w = refl
  value_agrees (new_sm pa) r w = refl
  value_agrees (del va) r w = refl
  value_agrees (switch g) r w = refl
  value_agrees (lswitch pa) r w = refl
  value_agrees (hcall c x y) r w = refl
  value_agrees ret_ctrl r w = refl
  value_agrees chmod r w = refl
  value_agrees (pin pa k) r w = refl
  value_agrees (unpin pa) r w = refl
  value_agrees (drop g) r w = refl
