-- The table of fields says where each begins and how long it is: one test, computed over the whole table.
-- Assumes nothing.
use mathlib.Core.Path.{◌≡◌, refl}
use mathlib.Core.Bool.{Bool, true, ◌&&◌}
use mathlib.Core.List.{List, [], ◌∷◌}
use Prim.Native.Nat.{ℕ, ◌<◌}
use lib.Dec.{eqb}
use lib.ListN.{get_or}
use Rattle.laws.specs.Search.{seek_from, all_in}
use Rattle.laws.proofs.Tests.{eq⇔, and⇔}
use Rattle.laws.proofs.Search.{at_entry}
use Rattle.host.specs.declared.Field.{Field}
use Rattle.laws.specs.Cut.{begin, size}
use Rattle.host.specs.View.{sizes}

abbrev pub field : ℕ → ℕ → Field
field a n = record { start = a; size = n }

abbrev pub fields : List Field
fields =
    field 0 64 ∷ field 64 64 ∷ field 128 64 ∷ field 192 4096 ∷ field 4288 64 ∷ field 4352 8 ∷ field 4360 4 ∷ field 4364 4 ∷ field 4368 4 ∷ field 4372 4
    ∷ field 4376 1 ∷ field 4377 1 ∷ field 4378 16 ∷ field 4394 16 ∷ field 4410 8 ∷ field 4418 8 ∷ field 4426 8 ∷ []

right : ℕ → Field → Bool
right k f = eqb f.start (begin sizes k) && eqb f.size (size sizes k)

all_right : all_in right fields ≡ true
unfolding right seek_from
all_right = refl

pub placed : (k : ℕ) → k < 17 → ((get_or fields k (field 0 0)).start ≡ begin sizes k) × ((get_or fields k (field 0 0)).size ≡ size sizes k)
unfolding right
placed k h =
    let f = get_or fields k (field 0 0) in
    (and⇔ (eq⇔ f.start (begin sizes k)) (eq⇔ f.size (size sizes k))).0 (at_entry right (field 0 0) fields all_right k h)
