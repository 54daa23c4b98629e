-- Demand 3 of `steps::run`: from any state to which a past led, from any valid state with a book that agrees with it, and from the fresh machine.
-- Assumes nothing.
use mathlib.Core.Path.{◌≡◌, ap, subst, ◌∙◌}
use mathlib.Core.Bool.{true}
use mathlib.Core.List.{List, []}
use Prim.Native.Nat.{ℕ, ◌<◌}
use Rattle.laws.proofs.Cases.{pick_yes}
use Rattle.model.specs.Sizes.{policies}
use Rattle.model.specs.State.{State}
use Rattle.model.specs.Fresh.{fresh_with}
use Rattle.model.specs.Records.{Bytes}
use Rattle.model.specs.Valid.{Valid, valid?}
use Rattle.model.specs.Run.{Ran, run}
use Rattle.model.specs.Journal.{pasted}
use Rattle.model.proofs.Valid.{valid⇔}
use Rattle.history.specs.Past.{Book, Past, fresh_book}
use Rattle.history.specs.Agrees.{Agrees}
use Rattle.history.specs.Rations.{Kept}
use Rattle.history.proofs.Rations.{kept_first, fresh_kept}
use Rattle.host.specs.View.{view}
use Rattle.std.specs.Prelude.{Ok, Err}
use Rattle.numbers.specs.declared.refusal.Refusal.TheVariants.{NotValid}
use Rattle.steps.specs.declared.Ran as code
use Rattle.steps.specs.Parts.{runnable, records_from, took_of, Runs}
use Rattle.guarantee.specs.Guarantee.{Guarantee}
use Rattle.guarantee.proofs.Answered.{answered}

-- n records were taken, from `start` on
pub part_on : {b : Book} {s : State} {past : Past} {u : State} → Kept b s past u → (j : List ℕ) → Bytes j → (start : ℕ) (buffer : List ℕ)
    → {n k : ℕ} {t : State} {c : List ℕ} → Runs u j start buffer (Ok (record { taken = n; accepted = k })) t c → Guarantee b s past j start n t c
part_on {b} {s} {past} {u} h j w start buffer {n} {k} {t} {c} p =
    let v : valid? u ≡ true = (valid⇔ u).1 h.valid in
    let m = runnable j start buffer in
    let r : Ran = run u (records_from j start m) in
    let q : Ok (record { taken = n; accepted = k }) ≡ Ok (took_of r m) = p.result ∙ pick_yes (Ok (took_of r m)) (Err NotValid) v in
    let f : took_of r m ≡ record { taken = n; accepted = k } = cc q in
    let e : m ≡ n = ap (λ (x : code.Ran). x.taken) f in
    subst (λ (i : ℕ). Guarantee b s past j start i t c) e
    (answered h j w start m buffer (p.state ∙ pick_yes r.state u v) (p.buffer ∙ pick_yes (pasted r.answers buffer) buffer v))

pub part_guaranteed : {s : State} → Valid s → {b : Book} → Agrees s b → (j : List ℕ) → Bytes j → (start : ℕ) (buffer : List ℕ)
    → {n k : ℕ} {t : State} {c : List ℕ} → Runs s j start buffer (Ok (record { taken = n; accepted = k })) t c → Guarantee b s [] j start n t c
part_guaranteed v a = part_on (kept_first v a)

-- The theorem to quote: records of any bytes, from any place on, run on the fresh machine with any policy.
pub fresh_part : (policy : ℕ) → policy < policies → (x y j : List ℕ) (start : ℕ) (buffer c : List ℕ) (n k : ℕ) → view x ≡ fresh_with policy → Bytes j
    → Runs (view x) j start buffer (Ok (record { taken = n; accepted = k })) (view y) c → Guarantee fresh_book (fresh_with policy) [] j start n (view y) c
fresh_part policy known x y j start buffer c n k e w p =
    part_on (fresh_kept policy known) j w start buffer (subst (λ (s : State). Runs s j start buffer (Ok (record { taken = n; accepted = k })) (view y) c) e p)
