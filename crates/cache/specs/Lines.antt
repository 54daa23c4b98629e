-- The cache in a state: a set put back, an access, the lines of a page.
-- Assumes nothing.
use Rattle.std.specs.Prelude.{◌≡◌, Bool, ◌&&◌, List, ℕ, zero, suc, ltb, eqb, set, Option, Some, None}
use Rattle.laws.specs.Choice.{pick, at}
use Rattle.laws.specs.Search.{list_of}
use Rattle.model.specs.Sizes.{ways, lines}
use Rattle.model.specs.Names.{write_back}
use Rattle.model.specs.State.{Shape, State, is_cacheable, is_through, line_at, line_of}
use Rattle.model.specs.History.{entered}
use Rattle.model.specs.Parts.{shaped, with_policy, with_cache, set_line, set_history, take_out, enter}
use Rattle.model.specs.Read.{miss_line, access_history}
use Rattle.model.specs.Write.{store}
use Rattle.host.specs.View.{put, put_memory, history_field}
use Rattle.cache.specs.declared.Line.{Line}
use Rattle.cache.specs.declared.Set.{Set}
use Rattle.cache.specs.Sets.{way_in}

-- ---- a set put back

-- line i is l
unfoldable pub put_whole : State → ℕ → Line → State
put_whole s i l =
    record {
      shape = set_line s.shape i l.address.0 l.page.0;
      values = record { memory = s.values.memory; line = set s.values.line i l.value };
    }

-- the first n ways of set k are those of t
unfoldable pub put_ways : ℕ → State → ℕ → Set → State
put_ways zero s k t = s
put_ways (suc n) s k t = put_whole (put_ways n s k t) (line_at k n) (way_in t n)

-- set k is t, each way and the history
unfoldable pub put_back : State → ℕ → Set → State
put_back s k t = put history_field (put_ways ways s k t) k t.history

-- ---- an access

-- What a read does to the cache; `read_is_access` in proofs/Accesses.antt says that the TLB's slot is the rest of it.
unfoldable pub accessed : State → ℕ → ℕ → State
accessed s va p =
    let i = miss_line s.shape va p in
    enter (take_out (shaped s (access_history s.shape va p)) i) i va p

-- a line enters way w of set k, in place of one that is taken out
unfoldable pub missed : State → ℕ → ℕ → ℕ → ℕ → State
missed s k w va p =
    enter (take_out (shaped s (set_history s.shape k (entered (at s.shape.cache.history k) w))) (line_at k w)) (line_at k w) va p

-- the value of the line, or memory's if the page is not cacheable: where `store` stores, that is what was stored
unfoldable pub found : State → ℕ → ℕ → ℕ
found s va p = pick (is_cacheable s.shape p) (at s.values.line (line_of s.shape va p)) (at s.values.memory p)

-- what it holds after an access that found v there
abbrev pub after : Option ℕ → ℕ → ℕ
after None v = v
after (Some n) v = n

-- the line, or memory if the page is not cacheable, holds n: what `store` does under write-back
unfoldable pub stored_in : State → ℕ → ℕ → ℕ → State
stored_in s va p n = record { shape = s.shape; values = (store (shaped s (with_policy s.shape write_back)) va p n).values }

unfoldable pub line_for : Option ℕ → State → ℕ → ℕ → State
line_for None s va p = accessed s va p
line_for (Some n) s va p = stored_in (accessed s va p) va p n

-- an access but for write-through
pub record AccessesLine (s : State) (va p : ℕ) (x : Option ℕ) (v : ℕ) (t : State) : Type 0 where
  pub value : v ≡ found (accessed s va p) va p
  pub state : t ≡ line_for x s va p

-- and under write-through memory holds what is written too
unfoldable pub through_for : Option ℕ → State → ℕ → State
through_for None s p = s
through_for (Some n) s p = pick (is_through s.shape) (put_memory s p n) s

-- the state after an access for a purpose
unfoldable pub accessed_for : Option ℕ → State → ℕ → ℕ → State
accessed_for None s va p = accessed s va p
accessed_for (Some n) s va p = store (accessed s va p) va p n

-- An access to page p at va: v is what the line, or memory, has once the line is there, and t the state.
pub record Accesses (s : State) (va p : ℕ) (x : Option ℕ) (v : ℕ) (t : State) : Type 0 where
  pub value : v ≡ found (accessed s va p) va p
  pub state : t ≡ accessed_for x s va p

-- ---- the lines of a page

-- line i is of page p
abbrev pub is_of : Shape → ℕ → ℕ → Bool
is_of h p i = eqb (at h.cache.line_page i) (suc p)

-- 0 at each line of page p below n, as it was at the others
unfoldable pub zeroed : ℕ → List ℕ → ℕ → List ℕ → List ℕ
zeroed n line_page p l = list_of lines (λ i. pick (ltb i n && eqb (at line_page i) (suc p)) 0 (at l i))

-- each line of page p below n is empty
unfoldable pub cleared_below : ℕ → State → ℕ → State
cleared_below n s p =
    let P = s.shape.cache.line_page in
    record {
      shape = with_cache s.shape (record { line_address = zeroed n P p s.shape.cache.line_address; line_page = zeroed n P p P; history = s.shape.cache.history });
      values = record { memory = s.values.memory; line = zeroed n P p s.values.line };
    }
