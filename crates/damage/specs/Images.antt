-- docs/IMAGE.md and docs/HOST.md, "Images", as tests: where each field stands, what is an image, and the image after the nine records, whole and damaged.
-- The numbers here are spelled as the documents spell them.
-- Assumes nothing.
use Rattle.std.specs.Prelude.{Bool, true, false, ◌&&◌, List, [], ◌∷◌, ◌++◌, ℕ, ◌+◌, eqb, set, replicate, take}
use Rattle.std.specs.Bool.{beq}
use Rattle.laws.specs.Choice.{at}
use Rattle.laws.specs.Search.{all_in}
use Rattle.laws.specs.Cut.{begin}
use Rattle.model.specs.Sizes.{image_head_bytes}
use Rattle.model.specs.Names.{write_back, write_through}
use Rattle.model.specs.State.{State}
use Rattle.model.specs.Fresh.{fresh_with, fresh}
use Rattle.model.specs.Fields.{field_sizes, field_bounds}
use Rattle.model.specs.Image.{is_image, held, ImageAnswer, image_number, loaded, saved}
use Rattle.model.specs.Step.{judge}
use Rattle.model.specs.Samples.{passes, yields, nine}

-- where each field begins, and the end
abbrev pub offsets : List ℕ
offsets =
    5 ∷ 69 ∷ 133 ∷ 197 ∷ 4293 ∷ 4357 ∷ 4365 ∷ 4369 ∷ 4373 ∷ 4377 ∷ 4381 ∷ 4382 ∷ 4383 ∷ 4399 ∷ 4415 ∷ 4423 ∷ 4431 ∷ 4439 ∷ 4695 ∷ 4759 ∷ 4760 ∷ []

unfoldable pub offsets_right : Bool
offsets_right = all_in (λ f o. eqb o (image_head_bytes + begin field_sizes f)) offsets

-- what each byte of a field is below in a valid state; 256 where any byte is
abbrev pub bounds : List ℕ
bounds = 6 ∷ 3 ∷ 2 ∷ 65 ∷ 65 ∷ 256 ∷ 16 ∷ 6 ∷ 64 ∷ 16 ∷ 4 ∷ 2 ∷ 64 ∷ 65 ∷ 2 ∷ 64 ∷ 65 ∷ 256 ∷ 256 ∷ 2 ∷ []

unfoldable pub bounds_right : Bool
bounds_right = all_in (λ f b. eqb b (at field_bounds f)) bounds

-- bytes, how many zeros follow them, and whether all of it is an image
abbrev pub heads : List (List ℕ × ℕ × Bool)
heads =
    (82 ∷ 80 ∷ 83 ∷ 1 ∷ 0 ∷ [], 4754, true)
    ∷ (82 ∷ 80 ∷ 83 ∷ 1 ∷ 0 ∷ [], 4753, false)
    ∷ (82 ∷ 80 ∷ 83 ∷ 1 ∷ 0 ∷ [], 4755, false)
    ∷ (82 ∷ 80 ∷ 83 ∷ 2 ∷ 0 ∷ [], 4755, true)
    ∷ (82 ∷ 80 ∷ 83 ∷ 2 ∷ 0 ∷ [], 4754, false)
    ∷ (82 ∷ 80 ∷ 83 ∷ 2 ∷ 0 ∷ [], 4756, false)
    ∷ (114 ∷ 80 ∷ 83 ∷ 2 ∷ 0 ∷ [], 4755, false)
    ∷ (82 ∷ 112 ∷ 83 ∷ 2 ∷ 0 ∷ [], 4755, false)
    ∷ (82 ∷ 80 ∷ 74 ∷ 2 ∷ 0 ∷ [], 4755, false)
    ∷ (82 ∷ 80 ∷ 83 ∷ 0 ∷ 0 ∷ [], 4755, false)
    ∷ (82 ∷ 80 ∷ 83 ∷ 3 ∷ 0 ∷ [], 4755, false)
    ∷ (82 ∷ 80 ∷ 83 ∷ 1 ∷ 1 ∷ [], 4754, false)
    ∷ (82 ∷ 80 ∷ 83 ∷ 0 ∷ 1 ∷ [], 4754, false)
    ∷ (82 ∷ 80 ∷ 83 ∷ 2 ∷ 1 ∷ [], 4755, false)
    ∷ (82 ∷ 80 ∷ 83 ∷ 0 ∷ 2 ∷ [], 4755, false)
    ∷ (82 ∷ 80 ∷ 83 ∷ 1 ∷ 0 ∷ [], 0, false)
    ∷ (82 ∷ 80 ∷ 83 ∷ 2 ∷ 0 ∷ [], 0, false)
    ∷ (82 ∷ 80 ∷ 83 ∷ [], 0, false)
    ∷ ([], 0, false)
    ∷ []

unfoldable pub heads_right : Bool
heads_right = all_in (λ k x. beq (is_image (x.0 ++ replicate x.1 0)) x.2) heads

-- ---- after the nine records

abbrev pub gives : ImageAnswer → ℕ → Bool
gives a n = eqb (image_number a) n

-- 300 stands in the line and not in memory, the last byte is the policy, and 300 is read from what the image holds
unfoldable pub nine_held : List ℕ → Bool
nine_held i =
    eqb (at i 4695) 44 && eqb (at i 4696) 1 && eqb (at i 4697) 0 && eqb (at i 4698) 0
    && eqb (at i 4471) 0 && eqb (at i 4472) 0 && eqb (at i 4473) 0 && eqb (at i 4474) 0
    && eqb (at i 4759) 0
    && passes judge (held i) (yields 0 300) (λ s. true)

-- the image loads; a mark of 2 is refused with 1; with another letter, with 16
unfoldable pub nine_loads : List ℕ → Bool
nine_loads i =
    gives (loaded fresh i).answer 0 && gives (loaded fresh (set i 133 2)).answer 1 && gives (loaded fresh (set (set i 133 2) 0 114)).answer 16

-- a buffer of another length is refused with 16; with a mark of 2 in the state, with 1
unfoldable pub nine_saves : State → List ℕ → Bool
nine_saves s i =
    gives (saved s (replicate 4759 9)).answer 16 && gives (saved s (replicate 4761 9)).answer 16
    && gives (saved (held (set i 133 2)) (replicate 4759 9)).answer 1

-- as write-through it is refused with 1: the line is not what memory has
unfoldable pub nine_through : List ℕ → Bool
nine_through i = gives (loaded fresh (set i 4759 1)).answer 1

-- The same bytes as version 1, without the policy, are the same host, write-back.
unfoldable pub nine_first : List ℕ → Bool
nine_first i =
    let j = take 4759 (set i 3 1) in
    gives (loaded fresh j).answer 0 && passes judge (held j) (yields 0 300) (λ s. eqb s.shape.policy write_back)

-- a version with the other's length is refused with 16
unfoldable pub nine_lengths : List ℕ → Bool
nine_lengths i = gives (loaded fresh (set i 3 1)).answer 16 && gives (loaded fresh (take 4759 i)).answer 16

-- under write-through 300 stands in memory too, and the image loads
unfoldable pub through_held : List ℕ → Bool
through_held i =
    eqb (at i 4695) 44 && eqb (at i 4696) 1 && eqb (at i 4471) 44 && eqb (at i 4472) 1 && eqb (at i 4759) 1 && gives (loaded fresh i).answer 0

-- a test of the state and of its image, under a policy
unfoldable pub after_nine : ℕ → (State → List ℕ → Bool) → Bool
after_nine p t =
    passes judge (fresh_with p) nine
    (λ s.
    let w = saved s (replicate 4760 9) in
    gives w.answer 0 && t s w.buffer)

unfoldable pub nine_kept : Bool
nine_kept = after_nine write_back (λ s i. nine_held i && nine_loads i && nine_saves s i)

unfoldable pub nine_versions : Bool
nine_versions = after_nine write_back (λ s i. nine_through i && nine_first i && nine_lengths i)

unfoldable pub through_kept : Bool
through_kept = after_nine write_through (λ s i. through_held i)
