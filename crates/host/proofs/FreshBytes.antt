-- Bytes that are the fresh machine's at each place are viewed as the fresh machine: one computed equation.
-- Assumes nothing.
use mathlib.Core.Path.{◌≡◌, refl, sym, ap, ◌∙◌}
use mathlib.Core.List.{List}
use Prim.Native.Nat.{ℕ, ◌<◌}
use native.Mathlib.Omega.{arith}
use lib.ListN.{length}
use lib.Seq.{ext_get_or}
use Rattle.laws.specs.Choice.{at}
use Rattle.laws.specs.Search.{list_from, list_of}
use Rattle.laws.proofs.Lists.{length_list_of, get_or_list_of}
use Rattle.model.specs.Fresh.{fresh_pages, fresh_guests, fresh_cache, fresh_with, fresh}
use Rattle.model.specs.Fields.{words}
use Rattle.model.specs.State.{State}
use Rattle.host.specs.View.{bytes, view, put_policy}
use Rattle.host.specs.FreshBytes.{fresh_byte}

view_fresh : view (list_of bytes fresh_byte) ≡ fresh
unfolding list_from words view fresh_byte fresh_pages fresh_guests fresh_cache fresh_with
view_fresh = refl

pub filled_fresh : (xs : List ℕ) → length xs ≡ bytes → ((j : ℕ) → j < bytes → at xs j ≡ fresh_byte j) → view xs ≡ fresh
filled_fresh xs l e = ap view same ∙ view_fresh
  where
    same : xs ≡ list_of bytes fresh_byte
    same =
        ext_get_or 0 xs (list_of bytes fresh_byte) (l ∙ sym (length_list_of bytes fresh_byte))
        (λ j h. e j (omega arith) ∙ sym (get_or_list_of bytes fresh_byte 0 j (omega arith)))

-- with the policy that is stored behind
pub fresh_stored : (s u : State) (n p : ℕ) → s ≡ fresh → n ≡ p → u ≡ put_policy s n → u ≡ fresh_with p
unfolding put_policy fresh_with
fresh_stored s u n p e f g = g ∙ (λ i. put_policy (e i) (f i))
