-- read, read_hyper.
-- Assumes nothing.
use Rattle.std.specs.Prelude.{◌||◌, not, List, [], ◌∷◌, ℕ, ltb}
use Rattle.laws.specs.Choice.{pick, at}
use Rattle.model.specs.Sizes.{sets, ways, set_of, reserved}
use Rattle.model.specs.State.{Shape, State, is_cacheable, hit_way, no_line, line_at}
use Rattle.model.specs.History.{used, entered}
use Rattle.model.specs.Checks.{Asked, Check}
use Rattle.model.specs.Parts.{shaped, set_history, translate, take_out, enter, way_for}

-- of read, read_hyper, write and write_hyper
abbrev pub access_checks : Asked → ℕ → List Check
access_checks q va = (5, reserved va) ∷ (6, not (q.maps va)) ∷ []

-- the way of va's set that an access to page p uses: on a hit that of the line
unfoldable pub access_way : Shape → ℕ → ℕ → ℕ
access_way h va p = pick (ltb (hit_way h va p) ways) (hit_way h va p) (way_for h (set_of va))

-- the line that an access fills: none on a hit, and none for a page not cacheable
unfoldable pub miss_line : Shape → ℕ → ℕ → ℕ
miss_line h va p = pick (ltb (hit_way h va p) ways || not (is_cacheable h p)) no_line (line_at (set_of va) (way_for h (set_of va)))

-- the set's history after an access that uses a way of it; a page not cacheable uses none
unfoldable pub access_history : Shape → ℕ → ℕ → Shape
access_history h va p =
    set_history h (pick (is_cacheable h p) (set_of va) sets)
    (pick (ltb (hit_way h va p) ways) (used (at h.cache.history (set_of va)) (access_way h va p))
    (entered (at h.cache.history (set_of va)) (access_way h va p)))

-- On a miss a line is taken out if it must be, and the line enters; the TLB slot gets the pair in every case.
unfoldable pub read_step : State → ℕ → ℕ → State
read_step s va p =
    let i = miss_line s.shape va p in
    let t = enter (take_out (shaped s (access_history s.shape va p)) i) i va p in
    shaped t (translate t.shape va p)
