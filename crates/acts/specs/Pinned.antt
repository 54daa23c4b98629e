-- pin on any state whatever: the model's step where its numbers are in range, and nothing elsewhere.
-- Assumes nothing.
use Rattle.std.specs.Prelude.{Bool, ◌&&◌, ℕ, ltb}
use Rattle.laws.specs.Choice.{pick}
use Rattle.model.specs.Sizes.{guests}
use Rattle.model.specs.State.{State, active, is_page}
use Rattle.model.specs.Checks.{lowest_free}
use Rattle.model.specs.Pin.{pin_step}
use Rattle.host.specs.View.{put, put_memory, owner_field, kind_field, cacheable_field}

-- The active guest is in range, so that what is stored for it is a byte, and p is a page.
abbrev pub pinnable : State → ℕ → Bool
pinnable s p = ltb (active s.shape) guests && is_page p

-- pin with the lowest page that is free
unfoldable pub pinned : State → ℕ → ℕ → State
pinned s a k =
    pick (pinnable s (lowest_free s.shape.pages.free)) (pin_step s a k (lowest_free s.shape.pages.free)) s

-- page p has owner o and kind k, is cacheable and holds 0
unfoldable pub renewed : State → ℕ → ℕ → ℕ → State
renewed s p o k = put_memory (put cacheable_field (put kind_field (put owner_field s p o) p k) p 1) p 0
