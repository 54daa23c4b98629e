-- Under write-through memory follows what is written: an access with that, by the policy.
-- Assumes nothing.
use mathlib.Core.Path.{◌≡◌, sym, ap, ◌∙◌}
use mathlib.Core.Bool.{true, false}
use Prim.Native.Nat.{ℕ}
use native.Mathlib.Omega.{arith}
use lib.ListN.{set}
use lib.Seq.{set_out}
use Rattle.laws.specs.Choice.{at}
use Rattle.laws.proofs.Cases.{split}
use Rattle.model.specs.State.{State, nowhere, is_cacheable, is_through, hit_way}
use Rattle.model.specs.Parts.{take_out, enter}
use Rattle.model.specs.Read.{access_history}
use Rattle.model.specs.Write.{store}
use Rattle.model.specs.Valid.{Sized}
use Rattle.host.specs.View.{put_memory}
use Rattle.std.specs.Prelude.{Option, Some, None}
use Rattle.cache.specs.Lines.{accessed, stored_in, line_for, AccessesLine, through_for, accessed_for, Accesses}
use Rattle.cache.proofs.Accesses.{access_none, found_memory, found_uncached, stored_memory, accessed_memory, accesses}

-- ---- an access for a purpose, whole

module _ (s : State) (va p : ℕ) (z : Sized s) where
  -- to a page that is not cacheable it adds nothing
  stored_uncached : (n : ℕ) → is_cacheable s.shape p ≡ false → stored_in (accessed s va p) va p n ≡ store (accessed s va p) va p n
  unfolding hit_way stored_in store accessed take_out enter access_history
  stored_uncached n c = rw c

  stored_through : (n : ℕ) → is_cacheable s.shape p ≡ true
      → through_for (Some n) (stored_in (accessed s va p) va p n) p ≡ store (accessed s va p) va p n
  unfolding hit_way through_for put_memory stored_in store accessed take_out enter access_history
  stored_through n c =
      let m = (accessed s va p).values.memory in
      let o : set m nowhere n ≡ m = set_out m nowhere n (omega (arith, accessed_memory s va p z)) in
      split (is_through s.shape) (λ t. rw (c, t, o)) (λ t. rw (c, t))

  -- it is in memory alone: what is read there, and what is written
  pub access_read : is_cacheable s.shape p ≡ false → (v : ℕ) → v ≡ at s.values.memory p → Accesses s va p None v s
  unfolding accessed_for
  access_read c v e = record { value = e ∙ sym (found_uncached s va p z c); state = sym (access_none s va p z c) }

  pub access_written : is_cacheable s.shape p ≡ false → (v n : ℕ) (u : State) → v ≡ at s.values.memory p → u ≡ put_memory s p n → Accesses s va p (Some n) v u
  unfolding line_for accessed_for
  access_written c v n u e g =
      let a = accesses s va p z (Some n) v s u (access_none s va p z c) (e ∙ found_memory s va p c) (g ∙ stored_memory s va p n c z.line) in
      record { value = a.value; state = a.state ∙ stored_uncached n c }

  pub access_through : is_cacheable s.shape p ≡ true → (q : Option ℕ) (v : ℕ) (t u : State) → AccessesLine s va p q v t → u ≡ through_for q t p
      → Accesses s va p q v u
  unfolding line_for accessed_for through_for
  access_through c None v t u a e = record { value = a.value; state = e ∙ a.state }
  access_through c (Some n) v t u a e =
      record { value = a.value; state = e ∙ ap (λ (x : State). through_for (Some n) x p) a.state ∙ stored_through n c }
