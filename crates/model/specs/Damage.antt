-- Words to write damaged states with: the tests of a state, a change of one number, and a row of the table in Damaged.antt.
-- Assumes nothing.
use Rattle.std.specs.Prelude.{Bool, true, false, List, [], ◌∷◌, ℕ, suc, ◌+◌, ◌*◌, eqb, set, get_or}
use Rattle.laws.specs.Choice.{at}
use Rattle.laws.specs.Bits.{marked, unmarked}
use Rattle.model.specs.Sizes.{guests, physicals, pages, addresses}
use Rattle.model.specs.Names.{owner_guest}
use Rattle.model.specs.State.{State, table}
use Rattle.model.specs.RuleTests.{rule1?, rule2?, rule3?, rule4?, rule5?, rule6?, rule7?, rule8?, rule9?, rule10?, rule11?}
use Rattle.model.specs.Valid.{sized?}

-- ---- the tests of a state: place n is rule n's, place 0 that of the sizes

unfoldable pub rule_tests : List (State → Bool)
rule_tests =
    sized?
    ∷ (λ s. rule1? s.shape.guests.call s.shape.guests.call_a s.shape.guests.call_b s.shape.guests.active s.shape.guests.mode)
    ∷ (λ s. rule2? s.shape.pages.owner s.shape.pages.kind s.shape.pages.cacheable s.values.memory s.shape.pages.free)
    ∷ (λ s. rule3? s.shape.pages.owner s.shape.pages.physical)
    ∷ (λ s. rule4? s.shape.pages.owner s.shape.pages.kind s.shape.pages.entry)
    ∷ (λ s. rule5? s.shape.pages.owner s.shape.pages.kind s.shape.pages.physical s.shape.guests.current)
    ∷ (λ s. rule6? s.shape.pages.kind s.shape.pages.cacheable s.shape.pages.entry)
    ∷ (λ s. rule7? s.shape.pages.kind s.shape.pages.cacheable s.shape.pages.entry s.shape.cache.line_address s.shape.cache.line_page)
    ∷ (λ s. rule8? s.shape.pages.entry s.shape.tlb.slot_address s.shape.tlb.slot_page (table s.shape))
    ∷ (λ s. rule9? s.shape.pages.entry s.shape.cache.line_address s.shape.cache.line_page s.shape.cache.history (table s.shape))
    ∷ rule10?
    ∷ (λ s. rule11? s.shape.cache.line_page s.values.memory s.values.line s.shape.policy)
    ∷ []

abbrev pub rule_test : ℕ → State → Bool
rule_test n s = get_or rule_tests n sized? s

-- ---- a change: one number of one list, which are numbered as `columns` orders them

pub record Change : Type 0 where
  pub column : ℕ
  pub place : ℕ
  pub to : ℕ → ℕ

abbrev pub puts : ℕ → ℕ → ℕ → Change
puts c i x = record { column = c; place = i; to = λ y. x }

abbrev pub owner : ℕ → ℕ → Change
owner p x = puts 0 p x

abbrev pub kind : ℕ → ℕ → Change
kind p x = puts 1 p x

abbrev pub cacheable : ℕ → ℕ → Change
cacheable p x = puts 2 p x

-- of table m at va, and of guest g at pa: the page plus one
abbrev pub entry : ℕ → ℕ → ℕ → Change
entry m va e = puts 3 (addresses * m + va) e

abbrev pub physical : ℕ → ℕ → ℕ → Change
physical g pa e = puts 4 (physicals * g + pa) e

abbrev pub frees : ℕ → Change
frees p = record { column = 5; place = 0; to = λ m. marked m p }

abbrev pub takes : ℕ → Change
takes p = record { column = 5; place = 0; to = λ m. unmarked m p }

abbrev pub current : ℕ → ℕ → Change
current g pa = puts 6 g pa

abbrev pub active : ℕ → Change
active g = puts 10 0 g

abbrev pub mode : ℕ → Change
mode m = puts 11 0 m

abbrev pub history : ℕ → ℕ → Change
history k x = puts 14 k x

abbrev pub memory : ℕ → ℕ → Change
memory p v = puts 17 p v

abbrev pub policy : ℕ → Change
policy x = puts 19 0 x

-- guest g's call, line i and slot i as wholes
abbrev pub calling : ℕ → ℕ → ℕ → ℕ → List Change
calling g c a b = puts 7 g c ∷ puts 8 g a ∷ puts 9 g b ∷ []

abbrev pub lined : ℕ → ℕ → ℕ → ℕ → List Change
lined i va e v = puts 12 i va ∷ puts 13 i e ∷ puts 18 i v ∷ []

abbrev pub slotted : ℕ → ℕ → ℕ → List Change
slotted i va e = puts 15 i va ∷ puts 16 i e ∷ []

-- page p is owned by o, of kind k, and not marked free; and stands at guest g's physical pa
abbrev pub owned : ℕ → ℕ → ℕ → List Change
owned p o k = owner p o ∷ kind p k ∷ takes p ∷ []

abbrev pub given : ℕ → ℕ → ℕ → ℕ → List Change
given g pa p k = physical g pa (suc p) ∷ owned p (owner_guest g) k

-- the list, or the number, after a change
abbrev pub change : Change → ℕ → List ℕ → List ℕ
change c n l = elim (eqb c.column n) [ true ↦ set l c.place (c.to (at l c.place)) | false ↦ l ]

abbrev pub change_one : Change → ℕ → ℕ → ℕ
change_one c n x = elim (eqb c.column n) [ true ↦ c.to x | false ↦ x ]

abbrev pub changed_by : State → Change → State
changed_by s c =
    let P = s.shape.pages in
    let G = s.shape.guests in
    let C = s.shape.cache in
    let T = s.shape.tlb in
    record {
      shape =
          record {
            pages =
                record {
                  owner = change c 0 P.owner;
                  kind = change c 1 P.kind;
                  cacheable = change c 2 P.cacheable;
                  entry = change c 3 P.entry;
                  physical = change c 4 P.physical;
                  free = change_one c 5 P.free;
                };
            guests =
                record {
                  current = change c 6 G.current;
                  call = change c 7 G.call;
                  call_a = change c 8 G.call_a;
                  call_b = change c 9 G.call_b;
                  active = change_one c 10 G.active;
                  mode = change_one c 11 G.mode;
                };
            cache =
                record {
                  line_address = change c 12 C.line_address;
                  line_page = change c 13 C.line_page;
                  history = change c 14 C.history;
                };
            tlb = record { slot_address = change c 15 T.slot_address; slot_page = change c 16 T.slot_page };
            policy = change_one c 19 s.shape.policy;
          };
      values = record { memory = change c 17 s.values.memory; line = change c 18 s.values.line };
    }

unfoldable pub changed : State → List Change → State
changed s [] = s
changed s (c ∷ cs) = changed (changed_by s c) cs

-- ---- a row: the rule it is about, whether that holds, every rule that is broken, and the changes

pub record Damage : Type 0 where
  pub rule : ℕ
  pub holds : Bool
  pub broken : List ℕ
  pub changes : List Change

-- rule n is broken, alone or with others; rule n holds, though others may be broken
abbrev pub breaks : ℕ → List Change → Damage
breaks n cs = record { rule = n; holds = false; broken = n ∷ []; changes = cs }

abbrev pub with : ℕ → List ℕ → List Change → Damage
with n others cs = record { rule = n; holds = false; broken = n ∷ others; changes = cs }

abbrev pub spares : ℕ → List ℕ → List Change → Damage
spares n others cs = record { rule = n; holds = true; broken = others; changes = cs }

-- the first number that is no owner, and the first that leads nowhere
abbrev pub no_owner : ℕ
no_owner = owner_guest guests

abbrev pub leads_nowhere : ℕ
leads_nowhere = suc pages
