-- A number of a refusal, or 0, is that of one outcome only. (Other answers: `one_answer` of `laws`.)
-- Assumes nothing.
use mathlib.Core.Path.{◌≡◌, refl, sym, ap, ◌∙◌}
use mathlib.Core.List.{List, [], ◌∷◌}
use Prim.Native.Nat.{ℕ}
use lib.ListN.{get_or}
use Rattle.std.specs.Prelude.{Result, Ok, Err}
use Rattle.numbers.specs.declared.refusal.Refusal.{Refusal}
use Rattle.numbers.specs.declared.refusal.Refusal.TheVariants.{NotValid, NoRecord, WrongMode, WrongCall, Reserved, Unmapped, NoPage, OtherKind, Stealthy, Taken, NoneFree, InUse, NoJournal, TooLong, NoRoom, NotImage}
use Rattle.numbers.specs.Refusals.{refusal_number, code_of}

-- the refusals in order, behind what is not refused
abbrev outcomes : List (Result Unit Refusal)
outcomes =
    Ok tt ∷ Err NotValid ∷ Err NoRecord ∷ Err WrongMode ∷ Err WrongCall ∷ Err Reserved ∷ Err Unmapped ∷ Err NoPage ∷ Err OtherKind ∷ Err Stealthy ∷ Err Taken ∷ Err NoneFree ∷ Err InUse ∷ Err NoJournal ∷ Err TooLong ∷ Err NoRoom ∷ Err NotImage ∷ []

pub outcome_at : (r : Result Unit Refusal) → get_or outcomes (code_of r) (Ok tt) ≡ r
outcome_at (Ok x) = refl
outcome_at (Err NotValid) = refl
outcome_at (Err NoRecord) = refl
outcome_at (Err WrongMode) = refl
outcome_at (Err WrongCall) = refl
outcome_at (Err Reserved) = refl
outcome_at (Err Unmapped) = refl
outcome_at (Err NoPage) = refl
outcome_at (Err OtherKind) = refl
outcome_at (Err Stealthy) = refl
outcome_at (Err Taken) = refl
outcome_at (Err NoneFree) = refl
outcome_at (Err InUse) = refl
outcome_at (Err NoJournal) = refl
outcome_at (Err TooLong) = refl
outcome_at (Err NoRoom) = refl
outcome_at (Err NotImage) = refl

pub one_code : (n : ℕ) (r s : Result Unit Refusal) → code_of r ≡ n → code_of s ≡ n → r ≡ s
one_code n r s e f = sym (outcome_at r) ∙ ap (λ (k : ℕ). get_or outcomes k (Ok tt)) (e ∙ sym f) ∙ outcome_at s

abbrev refusals : List Refusal
refusals =
    NotValid ∷ NotValid ∷ NoRecord ∷ WrongMode ∷ WrongCall ∷ Reserved ∷ Unmapped ∷ NoPage ∷ OtherKind ∷ Stealthy ∷ Taken ∷ NoneFree ∷ InUse ∷ NoJournal ∷ TooLong ∷ NoRoom ∷ NotImage ∷ []

pub refusal_at : (r : Refusal) → get_or refusals (refusal_number r) NotValid ≡ r
refusal_at NotValid = refl
refusal_at NoRecord = refl
refusal_at WrongMode = refl
refusal_at WrongCall = refl
refusal_at Reserved = refl
refusal_at Unmapped = refl
refusal_at NoPage = refl
refusal_at OtherKind = refl
refusal_at Stealthy = refl
refusal_at Taken = refl
refusal_at NoneFree = refl
refusal_at InUse = refl
refusal_at NoJournal = refl
refusal_at TooLong = refl
refusal_at NoRoom = refl
refusal_at NotImage = refl

-- two refusals of one number are one
pub one_refusal : (r s : Refusal) → refusal_number r ≡ refusal_number s → r ≡ s
one_refusal r s e = sym (refusal_at r) ∙ ap (λ (k : ℕ). get_or refusals k NotValid) e ∙ refusal_at s
