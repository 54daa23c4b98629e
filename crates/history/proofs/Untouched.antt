-- What a guest has is left alone while another guest is active.
-- Assumes nothing.
use mathlib.Core.Path.{◌≡◌, refl}
use mathlib.Core.Bool.{false}
use mathlib.Core.Logic.{◌≢◌}
use mathlib.Core.List.{◌∷◌}
use Prim.Native.Nat.{ℕ}
use lib.Dec.{eqb}
use borrow.Author.Tests.{ne_eqb}
use Rattle.model.specs.Records.{Action, silent, read, read_hyper, write, write_hyper, new, new_sm, del, switch, lswitch, hcall, ret_ctrl, chmod, pin, unpin, drop}
use Rattle.history.specs.Past.{Past, Book, active_in, current_in, kind_in, link_in, value_in}

-- An action while guest g is not active leaves its current table, its pages' kinds, where its tables lead, and its pages' values.
module _ (b : Book) (past : Past) (g : ℕ) (n : g ≢ active_in b past) where
  off : eqb g (active_in b past) ≡ false
  off = ne_eqb g (active_in b past) n

  pub others_leave : (x : Action)
      → (current_in b (x ∷ past) g ≡ current_in b past g) × ((pa : ℕ) → kind_in b (x ∷ past) g pa ≡ kind_in b past g pa)
      × ((pt va : ℕ) → link_in b (x ∷ past) g pt va ≡ link_in b past g pt va) × ((pa : ℕ) → value_in b (x ∷ past) g pa ≡ value_in b past g pa)
  unfolding current_in kind_in link_in value_in
  others_leave silent = (refl, (λ pa. refl), (λ pt va. refl), λ pa. refl)
  others_leave (read vb) = (refl, (λ pa. refl), (λ pt va. refl), λ pa. refl)
  others_leave (read_hyper vb) = (refl, (λ pa. refl), (λ pt va. refl), λ pa. refl)
  others_leave (write vb v) = (refl, (λ pa. refl), (λ pt va. refl), λ pa. rw off)
  others_leave (write_hyper vb v) = (refl, (λ pa. refl), (λ pt va. refl), λ pa. rw off)
  others_leave (new vb qa) = (refl, (λ pa. refl), (λ pt va. rw off), λ pa. refl)
  others_leave (new_sm qa) = (refl, (λ pa. refl), (λ pt va. rw off), λ pa. refl)
  others_leave (del vb) = (refl, (λ pa. refl), (λ pt va. rw off), λ pa. refl)
  others_leave (switch h) = (refl, (λ pa. refl), (λ pt va. refl), λ pa. refl)
  others_leave (lswitch qa) = (rw off, (λ pa. refl), (λ pt va. refl), λ pa. refl)
  others_leave (hcall c y z) = (refl, (λ pa. refl), (λ pt va. refl), λ pa. refl)
  others_leave ret_ctrl = (refl, (λ pa. refl), (λ pt va. refl), λ pa. refl)
  others_leave chmod = (refl, (λ pa. refl), (λ pt va. refl), λ pa. refl)
  others_leave (pin qa k) = (refl, (λ pa. rw off), (λ pt va. rw off), λ pa. rw off)
  others_leave (unpin qa) = (refl, (λ pa. rw off), (λ pt va. refl), λ pa. refl)
  others_leave (drop h) = (refl, (λ pa. refl), (λ pt va. refl), λ pa. refl)
