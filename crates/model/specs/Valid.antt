-- docs/HOST.md, "Valid states": a state is valid if its lists have their sizes and the eleven rules hold.
-- Assumes nothing.
use Rattle.std.specs.Prelude.{◌≡◌, Bool, ◌&&◌, ◌*◌, eqb, length}
use Rattle.laws.specs.Search.{all_in}
use Rattle.model.specs.Sizes.{guests, physicals, pages, addresses, lines, sets, slots}
use Rattle.model.specs.State.{State, table}
use Rattle.model.specs.Rules.{Rule1, Rule2, Rule3, Rule4, Rule5, Rule6, Rule7, Rule8, Rule9, Rule10, Rule11}
use Rattle.model.specs.RuleTests.{columns, rule1?, rule2?, rule3?, rule4?, rule5?, rule6?, rule7?, rule8?, rule9?, rule10?, rule11?}

-- the sizes of the state's lists: what its bytes always have
pub record Sized (s : State) : Type 0 where
  pub owner : length s.shape.pages.owner ≡ pages
  pub kind : length s.shape.pages.kind ≡ pages
  pub cacheable : length s.shape.pages.cacheable ≡ pages
  pub entry : length s.shape.pages.entry ≡ pages * addresses
  pub physical : length s.shape.pages.physical ≡ guests * physicals
  pub current : length s.shape.guests.current ≡ guests
  pub call : length s.shape.guests.call ≡ guests
  pub call_a : length s.shape.guests.call_a ≡ guests
  pub call_b : length s.shape.guests.call_b ≡ guests
  pub line_address : length s.shape.cache.line_address ≡ lines
  pub line_page : length s.shape.cache.line_page ≡ lines
  pub history : length s.shape.cache.history ≡ sets
  pub slot_address : length s.shape.tlb.slot_address ≡ slots
  pub slot_page : length s.shape.tlb.slot_page ≡ slots
  pub memory : length s.values.memory ≡ pages
  pub line : length s.values.line ≡ lines

pub record Valid (s : State) : Type 0 where
  pub sized : Sized s
  pub rule1 : Rule1 s.shape.guests.call s.shape.guests.call_a s.shape.guests.call_b s.shape.guests.active s.shape.guests.mode
  pub rule2 : Rule2 s.shape.pages.owner s.shape.pages.kind s.shape.pages.cacheable s.values.memory s.shape.pages.free
  pub rule3 : Rule3 s.shape.pages.owner s.shape.pages.physical
  pub rule4 : Rule4 s.shape.pages.owner s.shape.pages.kind s.shape.pages.entry
  pub rule5 : Rule5 s.shape.pages.owner s.shape.pages.kind s.shape.pages.physical s.shape.guests.current
  pub rule6 : Rule6 s.shape.pages.kind s.shape.pages.cacheable s.shape.pages.entry
  pub rule7 : Rule7 s.shape.pages.kind s.shape.pages.cacheable s.shape.pages.entry s.shape.cache.line_address s.shape.cache.line_page
  pub rule8 : Rule8 s.shape.pages.entry s.shape.tlb.slot_address s.shape.tlb.slot_page (table s.shape)
  pub rule9 : Rule9 s.shape.pages.entry s.shape.cache.line_address s.shape.cache.line_page s.shape.cache.history (table s.shape)
  pub rule10 : Rule10 s
  pub rule11 : Rule11 s.shape.cache.line_page s.values.memory s.values.line s.shape.policy

-- ---- the same as a test: `valid⇔` in proofs/Valid.antt says that it passes exactly if the state is valid

unfoldable pub sized? : State → Bool
sized? s = all_in (λ i c. eqb (length c.numbers) c.size) (columns s)

unfoldable pub valid? : State → Bool
valid? s =
    let P = s.shape.pages in
    let G = s.shape.guests in
    let C = s.shape.cache in
    let T = s.shape.tlb in
    sized? s && rule1? G.call G.call_a G.call_b G.active G.mode
    && rule2? P.owner P.kind P.cacheable s.values.memory P.free
    && rule3? P.owner P.physical
    && rule4? P.owner P.kind P.entry
    && rule5? P.owner P.kind P.physical G.current
    && rule6? P.kind P.cacheable P.entry
    && rule7? P.kind P.cacheable P.entry C.line_address C.line_page
    && rule8? P.entry T.slot_address T.slot_page (table s.shape)
    && rule9? P.entry C.line_address C.line_page C.history (table s.shape)
    && rule10? s
    && rule11? C.line_page s.values.memory s.values.line s.shape.policy
