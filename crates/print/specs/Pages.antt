-- The page of the code, read as that of Text.antt.
-- Assumes nothing.
use Rattle.std.specs.Prelude.{List, ℕ}
use Rattle.std.specs.Borrow.{MutBor}
use Rattle.print.specs.declared.Page.{Page}
use Rattle.print.specs.Text as text

-- the lent buffer, with nothing typed
abbrev pub blank : MutBor (List ℕ) → Page
blank o = record { out = o; place = 0 }

-- the lent buffer, with the next byte to go to a place
abbrev pub begun : MutBor (List ℕ) → ℕ → Page
begun o i = record { out = o; place = i }

-- what is on a page
abbrev pub seen : Page → text.Page
seen p = text.page p.out.now p.place

-- the same lent buffer, with something else on the page
abbrev pub showing : Page → text.Page → Page
showing p t = record { out = record p.out { now = t.bytes }; place = t.place }

unfoldable pub typed_on : Page → ℕ → Page
typed_on p x = showing p (text.typed (seen p) x)

unfoldable pub typed_all_on : Page → List ℕ → Page
typed_all_on p xs = showing p (text.typed_all (seen p) xs)
