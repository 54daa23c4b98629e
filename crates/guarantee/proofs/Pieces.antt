-- Demand 3 of a journal in pieces: of any calls of feed since begin, by what they took and what they answered; from any state to which a past led,
-- from any valid state with a book that agrees with it, and from the fresh machine.
-- Assumes nothing.
use mathlib.Core.Path.{◌≡◌, subst}
use mathlib.Core.List.{List, []}
use Prim.Native.Nat.{ℕ, ◌<◌}
use Rattle.laws.proofs.Search.{Each}
use Rattle.model.specs.Sizes.{policies, header_bytes}
use Rattle.model.specs.State.{State}
use Rattle.model.specs.Fresh.{fresh_with}
use Rattle.model.specs.Records.{Bytes}
use Rattle.model.specs.Valid.{Valid}
use Rattle.model.specs.Journal.{taken}
use Rattle.model.specs.Pieces.{beginning}
use Rattle.stream.specs.Calls.{Call, Calls, taken_by, answers_by}
use Rattle.history.specs.Past.{Book, fresh_book}
use Rattle.history.specs.Agrees.{Agrees}
use Rattle.history.proofs.Rations.{kept_first, fresh_kept}
use Rattle.host.specs.View.{view}
use Rattle.guarantee.specs.Guarantee.{Guarantee}
pub use Rattle.guarantee.proofs.Fed.{fed_on_law}

pub fed_guaranteed : {s : State} → Valid s → {b : Book} → Agrees s b → (xs : List Call) → Each (λ x. Bytes x.piece) xs
    → {t : State} (l : List ℕ) → Calls s beginning xs t l
    → Guarantee b s [] (taken_by xs) header_bytes (taken (taken_by xs)) t (answers_by xs)
fed_guaranteed v a = fed_on_law (kept_first v a)

-- The theorem to quote: a journal of any bytes, fed in any pieces to the fresh machine with any policy.
pub fresh_fed : (policy : ℕ) → policy < policies → (x y l : List ℕ) (xs : List Call) → view x ≡ fresh_with policy → Each (λ x. Bytes x.piece) xs
    → Calls (view x) beginning xs (view y) l
    → Guarantee fresh_book (fresh_with policy) [] (taken_by xs) header_bytes (taken (taken_by xs)) (view y) (answers_by xs)
fresh_fed policy known x y l xs e w c =
    fed_on_law (fresh_kept policy known) xs w l (subst (λ (s : State). Calls s beginning xs (view y) l) e c)
