-- The five parts of a state, and what each needs: the pages with their values in memory, the guests, the cache with its lines' values, the TLB, and
-- the policy with what it asks of the values in lines and memory.
-- A step shows the parts that it changes, and takes the others as they were. Each need is over the lists that it reads, so that a part is as it
-- was where these lists are.
-- Assumes nothing.
use mathlib.Core.Path.{◌≡◌, sym, ◌∙◌}
use mathlib.Core.List.{List}
use Prim.Native.Nat.{ℕ, suc, ◌*◌, ◌<◌}
use lib.ListN.{length}
use Rattle.laws.specs.Choice.{at}
use Rattle.model.specs.Sizes.{guests, physicals, pages, addresses, sets, lines, slots, policies, value_bound}
use Rattle.model.specs.State.{Pages, Guests, Cache, Tlb, Shape, Values, State}
use Rattle.model.specs.Rules.{Maps, Line, Rule1, Rule2, Rule3, Rule4, Rule5, Rule6, Rule7, Rule11, Below, PagesIn, GuestsIn, CacheIn, TlbIn}
use Rattle.model.specs.Parts.{shaped, with_guests, with_tlb, with_policy}
use Rattle.keeps.proofs.Core.{Core}

pub record PagesPart (p : Pages) (v : List ℕ) : Type 0 where
  pub owner : length p.owner ≡ pages
  pub kind : length p.kind ≡ pages
  pub cacheable : length p.cacheable ≡ pages
  pub entry : length p.entry ≡ pages * addresses
  pub physical : length p.physical ≡ guests * physicals
  pub value : length v ≡ pages
  pub rule2 : Rule2 p.owner p.kind p.cacheable v p.free
  pub rule3 : Rule3 p.owner p.physical
  pub rule4 : Rule4 p.owner p.kind p.entry
  pub rule6 : Rule6 p.kind p.cacheable p.entry
  pub ranges : PagesIn p
  pub values : Below v pages value_bound

pub record GuestsPart (owner kind physical : List ℕ) (g : Guests) : Type 0 where
  pub current : length g.current ≡ guests
  pub call : length g.call ≡ guests
  pub call_a : length g.call_a ≡ guests
  pub call_b : length g.call_b ≡ guests
  pub rule1 : Rule1 g.call g.call_a g.call_b g.active g.mode
  pub rule5 : Rule5 owner kind physical g.current
  pub ranges : GuestsIn g

pub record CachePart (kind cacheable entry : List ℕ) (c : Cache) (v : List ℕ) : Type 0 where
  pub line_address : length c.line_address ≡ lines
  pub line_page : length c.line_page ≡ lines
  pub history : length c.history ≡ sets
  pub value : length v ≡ lines
  pub rule7 : Rule7 kind cacheable entry c.line_address c.line_page
  pub ranges : CacheIn c v
  pub values : Below v lines value_bound

pub record TlbPart (t : Tlb) : Type 0 where
  pub slot_address : length t.slot_address ≡ slots
  pub slot_page : length t.slot_page ≡ slots
  pub ranges : TlbIn t

pub record PolicyPart (line_page memory line : List ℕ) (policy : ℕ) : Type 0 where
  pub range : policy < policies
  pub rule11 : Rule11 line_page memory line policy

-- ---- a state's parts

-- what guests and lines need among the pages of a state
abbrev pub GuestsOf : Shape → Guests → Type 0
GuestsOf h g = GuestsPart h.pages.owner h.pages.kind h.pages.physical g

abbrev pub CacheOf : Shape → Cache → List ℕ → Type 0
CacheOf h c v = CachePart h.pages.kind h.pages.cacheable h.pages.entry c v

abbrev pub PolicyOf : Shape → Values → Type 0
PolicyOf h v = PolicyPart h.cache.line_page v.memory v.line h.policy

module _ {s : State} (c : Core s) where
  pub pages_of : PagesPart s.shape.pages s.values.memory
  pages_of =
      record {
        owner = c.sized.owner;
        kind = c.sized.kind;
        cacheable = c.sized.cacheable;
        entry = c.sized.entry;
        physical = c.sized.physical;
        value = c.sized.memory;
        rule2 = c.rule2;
        rule3 = c.rule3;
        rule4 = c.rule4;
        rule6 = c.rule6;
        ranges = c.rule10.pages;
        values = c.rule10.values.memory;
      }

  pub guests_of : GuestsOf s.shape s.shape.guests
  guests_of =
      record {
        current = c.sized.current;
        call = c.sized.call;
        call_a = c.sized.call_a;
        call_b = c.sized.call_b;
        rule1 = c.rule1;
        rule5 = c.rule5;
        ranges = c.rule10.guests;
      }

  pub cache_of : CacheOf s.shape s.shape.cache s.values.line
  cache_of =
      record {
        line_address = c.sized.line_address;
        line_page = c.sized.line_page;
        history = c.sized.history;
        value = c.sized.line;
        rule7 = c.rule7;
        ranges = c.rule10.cache;
        values = c.rule10.values.line;
      }

  pub tlb_of : TlbPart s.shape.tlb
  tlb_of = record { slot_address = c.sized.slot_address; slot_page = c.sized.slot_page; ranges = c.rule10.tlb }

  pub policy_of : PolicyOf s.shape s.values
  policy_of = record { range = c.rule10.policy; rule11 = c.rule11 }

-- ---- and the state of five parts

pub core_from : {s : State} → PagesPart s.shape.pages s.values.memory → GuestsOf s.shape s.shape.guests
    → CacheOf s.shape s.shape.cache s.values.line → TlbPart s.shape.tlb
    → PolicyOf s.shape s.values → Core s
core_from p g c t w =
    record {
      sized =
          record {
            owner = p.owner;
            kind = p.kind;
            cacheable = p.cacheable;
            entry = p.entry;
            physical = p.physical;
            current = g.current;
            call = g.call;
            call_a = g.call_a;
            call_b = g.call_b;
            line_address = c.line_address;
            line_page = c.line_page;
            history = c.history;
            slot_address = t.slot_address;
            slot_page = t.slot_page;
            memory = p.value;
            line = c.value;
          };
      rule1 = g.rule1;
      rule2 = p.rule2;
      rule3 = p.rule3;
      rule4 = p.rule4;
      rule5 = g.rule5;
      rule6 = p.rule6;
      rule7 = c.rule7;
      rule10 =
          record {
            pages = p.ranges;
            guests = g.ranges;
            cache = c.ranges;
            tlb = t.ranges;
            values = record { memory = p.values; line = c.values };
            policy = w.range;
          };
      rule11 = w.rule11;
    }

-- one part alone

pub guests_core : {s : State} {g : Guests} → Core s → GuestsOf s.shape g → Core (shaped s (with_guests s.shape g))
guests_core c g = core_from (pages_of c) g (cache_of c) (tlb_of c) (policy_of c)

pub tlb_core : {s : State} {t : Tlb} → Core s → TlbPart t → Core (shaped s (with_tlb s.shape t))
tlb_core c t = core_from (pages_of c) (guests_of c) (cache_of c) t (policy_of c)

pub policy_core : {s : State} {p : ℕ} → Core s → PolicyOf (with_policy s.shape p) s.values → Core (shaped s (with_policy s.shape p))
policy_core c p = core_from (pages_of c) (guests_of c) (cache_of c) (tlb_of c) p

-- ---- the same lines among other pages

-- a line whose page has the same mark and kind, and is mapped as before
pub line_among : {kind cacheable entry K L E : List ℕ} {i va p : ℕ} → Line kind cacheable entry i va p → at L p ≡ at cacheable p → at K p ≡ at kind p
    → ((m : ℕ) → Maps kind entry m va p → Maps K E m va p) → Line K L E i va p
line_among l c k f =
    record {
      address = l.address;
      in_set = l.in_set;
      page = l.page;
      is_cacheable = c ∙ l.is_cacheable;
      is_data = k ∙ l.is_data;
      mapped = (l.mapped.0, f l.mapped.0 l.mapped.1);
    }

-- a cache where rule 7 holds still
pub mapped_part : {K L M kind cacheable entry : List ℕ} {c : Cache} {v : List ℕ} → Rule7 kind cacheable entry c.line_address c.line_page
    → CachePart K L M c v → CachePart kind cacheable entry c v
mapped_part r p =
    record {
      line_address = p.line_address;
      line_page = p.line_page;
      history = p.history;
      value = p.value;
      rule7 = r;
      ranges = p.ranges;
      values = p.values;
    }

-- ---- lines that were there before

-- neither the value of a line changed nor that of its page in memory
pub policy_kept : {K M L line_page memory line : List ℕ} {policy : ℕ} → PolicyPart K M L policy
    → ((i p : ℕ) → i < lines → at line_page i ≡ suc p → (at K i ≡ suc p) × (at line i ≡ at L i) × (at memory p ≡ at M p))
    → PolicyPart line_page memory line policy
policy_kept w f =
    record {
      range = w.range;
      rule11 = record { same = λ t i p hi hp e. let z = f i p hi e in z.1 ∙ w.rule11.same t i p hi hp z.0 ∙ sym z.2 };
    }
