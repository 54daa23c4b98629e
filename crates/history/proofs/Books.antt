-- The book that a past leaves, taken apart: one past after another.
-- Assumes nothing.
use mathlib.Core.Path.{◌≡◌, refl, sym, ap, ◌∙◌}
use mathlib.Core.List.{[], ◌∷◌, ◌++◌}
use Rattle.model.specs.Records.{Action}
use Rattle.history.specs.Past.{Past, Book, active_in, current_in, kind_in, link_in, value_in, book_after}

-- the latest action by itself
pub book_latest : (b : Book) (x : Action) (past : Past) → book_after b (x ∷ past) ≡ book_after (book_after b past) (x ∷ [])
unfolding active_in current_in kind_in link_in value_in
book_latest b x past = refl

-- a past that goes on from another starts with the other's book
pub book_append : (b : Book) (later past : Past) → book_after b (later ++ past) ≡ book_after (book_after b past) later
unfolding active_in current_in kind_in link_in value_in
book_append b [] past = refl
book_append b (x ∷ later) past =
    book_latest b x (later ++ past)
    ∙ ap (λ (c : Book). book_after c (x ∷ [])) (book_append b later past)
    ∙ sym (book_latest (book_after b past) x later)
