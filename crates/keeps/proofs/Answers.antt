-- What an accepted record answers and where it leads; a read answers what the cache holds for its address, which is the page's present value.
-- Assumes nothing.
use mathlib.Core.Path.{◌≡◌, refl, sym, ap, ◌∙◌}
use mathlib.Core.List.{List}
use mathlib.Core.Option.{some, some-injective, none-ne-some}
use Prim.Native.Nat.{ℕ, ◌<◌}
use lib.Dec.{ltb}
use Rattle.laws.specs.Choice.{pick, at}
use Rattle.model.specs.Sizes.{addresses, lines}
use Rattle.model.specs.State.{State, mapped, line_of, present}
use Rattle.model.specs.Records.{Action, read, read_hyper, decode}
use Rattle.model.specs.Valid.{Valid}
use Rattle.model.specs.Step.{Outcome, done, value, next, act, step}
use Rattle.model.proofs.Records.{decode_encode}
use Rattle.keeps.specs.Allowed.{Access, Accepts}
use Rattle.keeps.proofs.Accepted.{refused_not, acted, judged, stepped}
use Rattle.keeps.proofs.Allowed.{is_mapped_law}
use Rattle.keeps.proofs.Present.{lookup_present}

-- done, with the action's value and its next state
abbrev pub done_as : State → Action → Outcome
done_as s x = record { answer = done (value s x); state = next s x }

pub accepted_outcome : (s : State) (l : List ℕ) (a : Accepts s l) → step s l ≡ done_as s a.action
accepted_outcome s l a =
    let x = a.action in
    let d : decode l ≡ some x = ap decode (sym a.encoded) ∙ decode_encode x a.in_range in
    stepped (λ o. o ≡ done_as s x) s l (λ n. absurd (n a.valid))
    (λ v. judged (λ o. o ≡ done_as s x) s l (λ e. absurd (none-ne-some x (sym e ∙ d)))
    (λ y e.
    ap (act s) (some-injective y x (sym e ∙ d))
    ∙ acted (λ o. o ≡ done_as s x) s x (λ r. refl) (λ n. absurd (n ((refused_not a.valid x a.in_range).1 a.allowed)))))

-- what a lookup in the address's set finds, else what memory holds
abbrev pub found : State → ℕ → ℕ
found s va =
    let p = mapped s.shape va in
    pick (ltb (line_of s.shape va p) lines) (at s.values.line (line_of s.shape va p)) (at s.values.memory p)

-- an allowed read, of the guest or of the host, answers the present value of the page that it reads, and that is what a lookup finds
pub read_answers : {s : State} → Valid s → {m : ℕ} (va : ℕ) → va < addresses → Access s.shape m va
    → (value s (read va) ≡ present s (mapped s.shape va)) × (value s (read_hyper va) ≡ present s (mapped s.shape va))
    × (found s va ≡ present s (mapped s.shape va))
unfolding value
read_answers {s} v va h a = (refl, refl, lookup_present v va h (is_mapped_law s.shape a.is_page a.maps))
