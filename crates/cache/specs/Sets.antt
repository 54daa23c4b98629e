-- A set of the cache as a value, read from a state, and what is done with one.
-- Assumes nothing.
use Rattle.std.specs.Prelude.{Bool, ◌&&◌, ℕ, suc, ltb, eqb, get_or, set, Option, Some, None}
use Rattle.laws.specs.Choice.{pick, at}
use Rattle.laws.specs.Search.{first_below, list_of}
use Rattle.model.specs.Sizes.{ways}
use Rattle.model.specs.State.{State, line_at}
use Rattle.model.specs.History.{oldest, used, entered}
use Rattle.numbers.specs.Lead.{lead_of, leads_at}
use Rattle.cache.specs.declared.Line.{Line}
use Rattle.cache.specs.declared.Set.{Set}

-- the line of address va that holds e, with the value v
abbrev pub line_with : ℕ → ℕ → ℕ → Line
line_with va e v = record { address = record { 0 = va }; page = record { 0 = e }; value = v }

-- line i, and set k, of a state
abbrev pub line_from : State → ℕ → Line
line_from s i = line_with (at s.shape.cache.line_address i) (at s.shape.cache.line_page i) (at s.values.line i)

abbrev pub set_from : State → ℕ → Set
set_from s k = record { ways = list_of ways (λ w. line_from s (line_at k w)); history = at s.shape.cache.history k }

-- the empty line: every number 0
abbrev pub empty_line : Line
empty_line = line_with 0 0 0

-- the line (va, p) with the value v
abbrev pub line_to : ℕ → ℕ → ℕ → Line
line_to va p v = line_with va (suc p) v

-- way w of a set; past the last, the empty line, which no code reads
abbrev pub way_in : Set → ℕ → Line
way_in t w = get_or t.ways w empty_line

abbrev pub has_key_in : Line → ℕ → ℕ → Bool
has_key_in l va p = leads_at (lead_of l.page.0) p && eqb l.address.0 va

-- a number that is found below n, and n where none is, as an answer of code
abbrev pub if_below : ℕ → ℕ → Option ℕ
if_below n i = pick (ltb i n) (Some i) None

-- the way that has the key, or `ways`
unfoldable pub find_in : Set → ℕ → ℕ → ℕ
find_in t va p = first_below ways (λ w. has_key_in (way_in t w) va p)

abbrev pub is_empty_in : Line → Bool
is_empty_in l = eqb l.page.0 0

-- the lower empty way, or `ways`
unfoldable pub empty_way : Set → ℕ
empty_way t = first_below ways (λ w. is_empty_in (way_in t w))

-- the way for a line that enters: the lower empty one; if none, the one the history names
unfoldable pub place_in : Set → ℕ
place_in t = pick (ltb (empty_way t) ways) (empty_way t) (oldest t.history)

-- way w replaced; nothing past the last
abbrev pub replaced_in : Set → ℕ → Line → Set
replaced_in t w l = record { ways = pick (ltb w ways) (set t.ways w l) t.ways; history = t.history }

abbrev pub used_in : Set → ℕ → Set
used_in t w = record { ways = t.ways; history = used t.history w }

abbrev pub entered_in : Set → ℕ → Set
entered_in t w = record { ways = t.ways; history = entered t.history w }
