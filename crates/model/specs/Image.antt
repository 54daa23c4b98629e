-- docs/HOST.md, "Images": the whole state as bytes, and what is refused of them.
-- Assumes nothing.
use Rattle.std.specs.Prelude.{◌≡◌, Bool, ◌&&◌, ◌⊎◌, List, [], ◌∷◌, ◌++◌, ℕ, ◌+◌, ◌*◌, ◌/◌, ◌%◌, ◌<◌, eqb, length, take, drop}
use Rattle.laws.specs.Choice.{pick, at}
use Rattle.laws.specs.Search.{all_below}
use Rattle.laws.specs.Cut.{cut, total, joined}
use Rattle.model.specs.Sizes.{byte_bound, mark_bytes, image_head_bytes}
use Rattle.model.specs.Names.{write_back}
use Rattle.model.specs.State.{State}
use Rattle.model.specs.Fields.{field_sizes, state_of, state_fields}
use Rattle.model.specs.Valid.{valid?}

-- ---- mark, version and length

-- the bytes RPS
abbrev pub mark : List ℕ
mark = 82 ∷ 80 ∷ 83 ∷ []

-- The first version had every field but the last, the policy.
abbrev pub first_version : ℕ
first_version = 1

abbrev pub first_fields : ℕ
first_fields = 19

-- The bytes of an image, by its version: 0 where there is no such version.
abbrev pub lengths : List ℕ
lengths =
    0  -- 0
    ∷ (image_head_bytes + total (take first_fields field_sizes))  -- 1
    ∷ (image_head_bytes + total field_sizes)  -- 2
    ∷ []

-- the version that is written, and its length
abbrev pub version_written : ℕ
version_written = 2

abbrev pub image_bytes : ℕ
image_bytes = at lengths version_written

-- 16 bits behind the mark, low byte first
abbrev pub version_in : List ℕ → ℕ
version_in i = at i mark_bytes + byte_bound * at i (mark_bytes + 1)

-- the bytes before the fields, of the version that is written
abbrev pub head : List ℕ
head = mark ++ (version_written % byte_bound ∷ version_written / byte_bound ∷ [])

-- mark, version and length are those of an image: a test, and what it comes to (`image⇔` in proofs/Image.antt)
unfoldable pub is_image : List ℕ → Bool
is_image i = all_below mark_bytes (λ k. eqb (at i k) (at mark k)) && eqb (length i) (at lengths (version_in i))

pub record Image (i : List ℕ) : Type 0 where
  pub marked : (k : ℕ) → k < mark_bytes → at i k ≡ at mark k
  pub version : (version_in i ≡ first_version) ⊎ (version_in i ≡ version_written)
  pub long : length i ≡ at lengths (version_in i)

-- ---- a state and its image

unfoldable pub image_of : State → List ℕ
image_of s = head ++ joined (state_fields s)

-- the bytes of an image's fields: one of the first version has no policy, and is write-back
abbrev pub fields_in : List ℕ → List ℕ
fields_in i = drop image_head_bytes i ++ pick (eqb (version_in i) first_version) (write_back ∷ []) []

-- the state that an image holds
unfoldable pub held : List ℕ → State
held i = state_of (cut field_sizes (fields_in i))

-- ---- open, load, save

pub data ImageAnswer : Type 0 where
  done : ImageAnswer
  not_valid : ImageAnswer
  not_image : ImageAnswer

abbrev pub image_number : ImageAnswer → ℕ
image_number done = 0
image_number not_valid = 1
image_number not_image = 16

-- what reading an image gives on a state
pub record Read : Type 0 where
  pub answer : ImageAnswer
  pub state : State

unfoldable pub opened : State → List ℕ → Read
opened s i = pick (is_image i) (record { answer = done; state = held i }) (record { answer = not_image; state = s })

-- 16 before 1
unfoldable pub loaded : State → List ℕ → Read
loaded s i =
    pick (is_image i) (pick (valid? (held i)) (record { answer = done; state = held i }) (record { answer = not_valid; state = s }))
    (record { answer = not_image; state = s })

-- what saving a state gives on a buffer
pub record Written : Type 0 where
  pub answer : ImageAnswer
  pub buffer : List ℕ

-- 1 before 16
unfoldable pub saved : State → List ℕ → Written
saved s b =
    pick (valid? s) (pick (eqb (length b) image_bytes) (record { answer = done; buffer = image_of s }) (record { answer = not_image; buffer = b }))
    (record { answer = not_valid; buffer = b })
