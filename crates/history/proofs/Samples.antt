-- Pasts by hand: what the definitions of Past.antt say of the nine records, of a page pinned again, and of two guests at one address.
-- Assumes nothing.
use mathlib.Core.Path.{◌≡◌, refl}
use mathlib.Core.List.{List, [], ◌∷◌, map}
use Prim.Native.Nat.{ℕ}
use Rattle.model.specs.Records.{Action, read, write, write_hyper, new, del, switch, hcall, ret_ctrl, chmod, pin, unpin, call_new, call_del, call_pin, call_unpin, encode, decode}
use Rattle.history.specs.Past.{Past, fresh_book, active_in, current_in, link_in, value_in, pins_in, unpins_in, past_after, values_after}

-- a data page at physical 1, mapped at 0, written and read
abbrev nine : List Action
nine = hcall call_pin 1 0 ∷ pin 1 0 ∷ chmod ∷ hcall call_new 0 1 ∷ new 0 1 ∷ chmod ∷ write 0 300 ∷ read 0 ∷ read 1 ∷ []

abbrev nine_numbers : List ℕ
nine_numbers = 0 ∷ 0 ∷ 0 ∷ 0 ∷ 0 ∷ 0 ∷ 0 ∷ 0 ∷ 6 ∷ []

pub nine_values : values_after fresh_book [] (map encode nine) nine_numbers ≡ 0 ∷ 0 ∷ 0 ∷ 0 ∷ 0 ∷ 0 ∷ 0 ∷ 300 ∷ 0 ∷ []
unfolding values_after decode active_in current_in link_in value_in
nine_values = refl

-- the accepted ones, latest first
abbrev eight : Past
eight = read 0 ∷ write 0 300 ∷ chmod ∷ new 0 1 ∷ hcall call_new 0 1 ∷ chmod ∷ pin 1 0 ∷ hcall call_pin 1 0 ∷ []

pub nine_past : past_after [] (map encode nine) nine_numbers ≡ eight
unfolding past_after decode
nine_past = refl

-- unpinned and pinned again, the page starts at 0
abbrev again : Past
again = pin 1 0 ∷ hcall call_pin 1 0 ∷ chmod ∷ unpin 1 ∷ hcall call_unpin 1 0 ∷ chmod ∷ del 0 ∷ hcall call_del 0 0 ∷ eight

pub again_value : (value_in fresh_book eight 0 1 ≡ 300) × (value_in fresh_book again 0 1 ≡ 0)
unfolding active_in current_in link_in value_in
again_value = (refl, refl)

pub again_counts : (pins_in fresh_book again 0 ≡ 2) × (unpins_in fresh_book again 0 ≡ 1)
unfolding active_in pins_in unpins_in
again_counts = (refl, refl)

-- guest 1 does the same at the same addresses, and the host writes for it: guest 0's page is as it was
abbrev both : Past
both = write_hyper 0 500 ∷ ret_ctrl ∷ write 0 400 ∷ chmod ∷ new 0 1 ∷ hcall call_new 0 1 ∷ chmod ∷ pin 1 0 ∷ hcall call_pin 1 0 ∷ chmod ∷ switch 1 ∷ ret_ctrl ∷ eight

pub both_values : (value_in fresh_book both 0 1 ≡ 300) × (value_in fresh_book both 1 1 ≡ 500)
unfolding active_in current_in link_in value_in
both_values = (refl, refl)
