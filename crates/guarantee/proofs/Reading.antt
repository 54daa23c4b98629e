-- Answers that stand in a buffer, read back: their numbers, and their values, which are below 2 ^ 32.
-- Assumes nothing.
use mathlib.Core.Path.{◌≡◌, refl, sym, ap, ap₂, ◌∙◌}
use mathlib.Core.List.{List, [], ◌∷◌, ◌++◌, map, append_assoc}
use Prim.Native.Nat.{ℕ, suc, ◌+◌, ◌*◌, ◌<◌}
use native.Mathlib.Omega.{arith}
use lib.ListN.{length, drop}
use lib.Seq.{drop-append-add, get_or-drop}
use Rattle.laws.specs.Choice.{at}
use Rattle.laws.specs.Search.{list_from, list_of}
use Rattle.laws.proofs.Lists.{list_from_shift, list_of_same}
use Rattle.laws.proofs.Search.{Each}
use Rattle.model.specs.Sizes.{answer_bytes, answer_value_at, value_bound}
use Rattle.model.specs.State.{State}
use Rattle.model.specs.Records.{Action, silent, read, read_hyper, write, write_hyper, new, new_sm, del, switch, lswitch, hcall, ret_ctrl, chmod, pin, unpin, Bytes, word_at}
use Rattle.model.specs.Records as records
use Rattle.model.specs.Valid.{Valid}
use Rattle.model.specs.Step.{Answer, number_of, value_of, value, Outcome, step}
use Rattle.model.specs.Run.{run, run_by}
use Rattle.model.specs.Journal.{answer_bytes_of, number_at, value_at, written, pasted}
use Rattle.model.proofs.Records.{word_back}
use Rattle.keeps.proofs.Core.{core_of}
use Rattle.keeps.proofs.Share.{present_below}
use Rattle.keeps.proofs.Accepted.{stepped, judged, acted}
use Rattle.keeps.proofs.Keeps.{step_keeps}
use Rattle.guarantee.specs.Guarantee.{numbers_in, values_in}

-- ---- values

value_below : {s : State} → Valid s → (x : Action) → value s x < value_bound
unfolding value
value_below v silent = omega arith
value_below v (read va) = present_below (core_of v) _
value_below v (read_hyper va) = present_below (core_of v) _
value_below v (write va w) = omega arith
value_below v (write_hyper va w) = omega arith
value_below v (new va pa) = omega arith
value_below v (new_sm pa) = omega arith
value_below v (del va) = omega arith
value_below v (switch g) = omega arith
value_below v (lswitch pa) = omega arith
value_below v (hcall c a b) = omega arith
value_below v ret_ctrl = omega arith
value_below v chmod = omega arith
value_below v (pin pa k) = omega arith
value_below v (unpin pa) = omega arith
value_below v (records.drop g) = omega arith

abbrev Small : Answer → Type 0
Small a = value_of a < value_bound

step_below : {s : State} → Valid s → (r : List ℕ) → Small (step s r).answer
step_below {s} v r =
    stepped (λ (o : Outcome). Small o.answer) s r (λ n. omega arith)
    (λ w. judged (λ (o : Outcome). Small o.answer) s r (λ e. omega arith)
    (λ x e. acted (λ (o : Outcome). Small o.answer) s x (λ q. value_below v x) (λ q. omega arith)))

pub run_below : {s : State} → Valid s → (rs : List (List ℕ)) → Each Bytes rs → Each Small (run s rs).answers
unfolding run_by
run_below v [] b = tt
run_below {s = s} v (r ∷ rs) b = (step_below v r, run_below {s = (step s r).state} (step_keeps v r b.0) rs b.1)

-- ---- answers one after another

-- what is read of an answer's bytes, whatever follows them, is read of each in turn
module _ {A : Type 0} (G : List ℕ → A) (f : Answer → A) where
  Reads : Answer → Type 0
  Reads x = (l : List ℕ) → G (answer_bytes_of x ++ l) ≡ f x

  each_read : (xs : List Answer) → Each Reads xs → (d : List ℕ)
      → list_of (length xs) (λ i. G (drop (answer_bytes * i) (written xs ++ d))) ≡ map f xs
  unfolding list_from Reads
  each_read [] h d = refl
  each_read (x ∷ xs) h d =
      let l = written xs ++ d in
      let a = append_assoc (answer_bytes_of x) (written xs) d in
      ap₂ ◌∷◌ (ap G a ∙ h.0 l)
      (list_from_shift (length xs) 0 (λ i. G (drop (answer_bytes * i) (written (x ∷ xs) ++ d)))
      ∙ list_of_same (length xs) (f x) (λ i k. ap G (ap (drop (answer_bytes * suc i)) a ∙ later x l i))
      ∙ each_read xs h.1 d)
    where
      later : (x : Answer) (l : List ℕ) (i : ℕ) → drop (answer_bytes * suc i) (answer_bytes_of x ++ l) ≡ drop (answer_bytes * i) l
      later x l i =
          let e : answer_bytes * suc i ≡ answer_bytes + answer_bytes * i = omega arith in
          ap (λ (k : ℕ). drop k (answer_bytes_of x ++ l)) e ∙ drop-append-add (answer_bytes_of x) l (answer_bytes * i)

number_read : (x : Answer) → Reads (λ l. number_at l 0) number_of x
unfolding Reads
number_read x l = refl

value_read : (x : Answer) → Small x → Reads (λ l. value_at l 0) value_of x
unfolding Reads
value_read x h l = word_back (value_of x) h

each_of {ℓ κ μ} : {A : Type ℓ} {P : A → Type κ} {Q : A → Type μ} → ((x : A) → P x → Q x) → (xs : List A) → Each P xs → Each Q xs
each_of f [] h = tt
each_of f (x ∷ xs) h = (f x h.0, each_of f xs h.1)

each_any {ℓ κ} : {A : Type ℓ} {P : A → Type κ} → ((x : A) → P x) → (xs : List A) → Each P xs
each_any f [] = tt
each_any f (x ∷ xs) = (f x, each_any f xs)

module _ (xs : List Answer) (b : List ℕ) where
  abbrev rest : List ℕ
  rest = drop (answer_bytes * length xs) b

  pub numbers_back : numbers_in (pasted xs b) (length xs) ≡ map number_of xs
  numbers_back =
      list_of_same (length xs) 0 (λ i h. sym (get_or-drop (answer_bytes * i) (pasted xs b) 0 0 ∙ ap (at (pasted xs b)) (omega arith)))
      ∙ each_read (λ l. number_at l 0) number_of xs (each_any number_read xs) rest

  pub values_back : Each Small xs → values_in (pasted xs b) (length xs) ≡ map value_of xs
  values_back h =
      list_of_same (length xs) 0 (λ i k. sym (word_drop (pasted xs b) (answer_bytes * i) answer_value_at))
      ∙ each_read (λ l. value_at l 0) value_of xs (each_of value_read xs h) rest
    where
      word_drop : (l : List ℕ) (p k : ℕ) → word_at (drop p l) k ≡ word_at l (p + k)
      word_drop l p k =
          let e : at (drop p l) k ≡ at l (p + k) = get_or-drop p l k 0 in
          let f : at (drop p l) (k + 1) ≡ at l (p + k + 1) = get_or-drop p l (k + 1) 0 ∙ ap (at l) (omega arith) in
          let g : at (drop p l) (k + 2) ≡ at l (p + k + 2) = get_or-drop p l (k + 2) 0 ∙ ap (at l) (omega arith) in
          let h : at (drop p l) (k + 3) ≡ at l (p + k + 3) = get_or-drop p l (k + 3) 0 ∙ ap (at l) (omega arith) in
          omega arith
