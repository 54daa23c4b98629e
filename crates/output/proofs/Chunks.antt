-- Answers, each by itself, and as they lie in the buffer: their numbers, their values and their lines, and how many of them are done.
-- Assumes nothing.
use Rattle.std.proofs.Common.{◌≡◌, ℕ, zero, suc, ◌+◌, ◌-◌, ◌*◌, ◌%◌, ◌<◌, ◌≤◌, Bool, eqb, List, [], ◌∷◌, ◌++◌, length, take, drop, get_or, sym, refl, ap, ◌∙◌, arith, append_assoc, length-append, length-drop, add-one}
use Rattle.std.proofs.lemmas.List.{take-append-drop, drop-drop}
use Rattle.std.proofs.lemmas.List.Recursion.{is_count_by}
use Rattle.std.specs.List.{concat, count_by}
use Rattle.std.specs.Simd.{first_chunks}
use Rattle.laws.specs.Choice.{pick, at}
use Rattle.laws.specs.Search.{count_below}
use Rattle.laws.proofs.Cases.{split}
use Rattle.laws.proofs.Search.{count_front, count_same}
use Rattle.model.specs.Sizes.{answer_bytes, answer_value_at}
use Rattle.model.specs.Records.{word_at}
use Rattle.model.specs.Journal.{number_at, value_at}
use Rattle.print.specs.declared.Page.{Page}
use Rattle.print.specs.Pages.{typed_all_on}
use Rattle.print.proofs.Pages.{none_on, more_on}
use Rattle.model.specs.Pieces.{begun_count}
use Rattle.output.specs.declared.stream.Told.{Told}
use Rattle.output.specs.Output.{title_line, record_line, record_lines}
use Rattle.output.specs.Stream.{count_bound, told_records, accepted_among, told_after, record_lines_from, end_lines, became_whole, ran_lines}
use Rattle.output.proofs.Joined.{at_front, at_behind, lines_front, lines_from_start}

-- each answer has its bytes
abbrev pub Answers : List (List ℕ) → Type 0
Answers xs = (i : ℕ) → i < length xs → length (get_or xs i []) ≡ answer_bytes

answer_byte : (xs : List (List ℕ)) → Answers xs → (i j k : ℕ) → k ≡ answer_bytes * i + j → i < length xs → j < answer_bytes
    → at (concat xs) k ≡ at (get_or xs i []) j
answer_byte [] w i j k e h l = absurd (omega arith)
answer_byte (x ∷ xs) w zero j k e h l =
    let m : length x ≡ answer_bytes = w 0 (omega arith) in
    let z : k ≡ j = omega arith in
    ap (at (x ++ concat xs)) z ∙ at_front x (concat xs) j (omega arith)
answer_byte (x ∷ xs) w (suc i) j k e h l =
    let m : length x ≡ answer_bytes = w 0 (omega arith) in
    at_behind x (concat xs) (answer_bytes * i + j) k (omega arith) ∙ answer_byte xs (λ n b. w (suc n) (omega arith)) i j (answer_bytes * i + j) refl (omega arith) l

module _ (xs : List (List ℕ)) (w : Answers xs) (i : ℕ) (h : i < length xs) where
  number_of : number_at (concat xs) i ≡ at (get_or xs i []) 0
  number_of = answer_byte xs w i 0 (answer_bytes * i) (omega arith) h (omega arith)

  value_byte : (j : ℕ) → j < answer_bytes - answer_value_at → at (concat xs) (answer_bytes * i + answer_value_at + j) ≡ at (get_or xs i []) (answer_value_at + j)
  value_byte j l = answer_byte xs w i (answer_value_at + j) (answer_bytes * i + answer_value_at + j) (omega arith) h (omega arith)

  value_of : value_at (concat xs) i ≡ word_at (get_or xs i []) answer_value_at
  value_of =
      let a = answer_byte xs w i answer_value_at (answer_bytes * i + answer_value_at) refl h (omega arith) in
      let b = value_byte 1 (omega arith) in
      let c = value_byte 2 (omega arith) in
      let d = value_byte 3 (omega arith) in
      omega arith

  -- the line of the next answer, behind those of the first i
  pub one_more_line : (p : Page) (k : ℕ) {q r : Page} → q ≡ typed_all_on p (record_lines_from k i (concat xs))
      → r ≡ typed_all_on q (record_line ((k + (i + 1)) % count_bound) (at (get_or xs i []) 0) (word_at (get_or xs i []) answer_value_at))
      → r ≡ typed_all_on p (record_lines_from k (i + 1) (concat xs))
  unfolding record_lines_from
  one_more_line p k {q} e f =
      f
      ∙ (λ j. typed_all_on (e j) (record_line ((k + (i + 1)) % count_bound) (sym number_of j) (sym value_of j)))
      ∙ more_on p (record_lines_from k i (concat xs)) (record_line ((k + (i + 1)) % count_bound) (number_at (concat xs) i) (value_at (concat xs) i))
      ∙ ap (λ (j : ℕ). typed_all_on p (record_lines_from k j (concat xs))) (sym (add-one i))

pub no_line : (p : Page) (k : ℕ) (b : List ℕ) → p ≡ typed_all_on p (record_lines_from k 0 b)
unfolding record_lines_from
no_line p k b = sym (none_on p)

-- ---- how many are done

count_listed : {A : Type 0} (f : A → Bool) (d : A) → (xs : List A) → count_below (length xs) (λ i. f (get_or xs i d)) ≡ count_by f xs
unfolding count_below
count_listed f d =
    is_count_by (λ xs. count_below (length xs) (λ i. f (get_or xs i d))) f refl
    (λ x xs. count_front (length xs) (λ i. f (get_or (x ∷ xs) i d)) ∙ split (f x) (λ e. rw e (omega arith)) (λ e. rw e (omega arith)))

pub done_among : (xs : List (List ℕ)) → Answers xs → count_by (λ x. eqb (at x 0) 0) xs ≡ accepted_among (length xs) (concat xs)
done_among xs w =
    sym (count_listed (λ x. eqb (at x 0) 0) [] xs)
    ∙ count_same (length xs) (λ i h. ap (λ (n : ℕ). eqb n 0) (sym (number_of xs w i h)))

-- ---- the first answers in a buffer

pub first_of_first : {A : Type 0} (k n m : ℕ) (b : List A) → n ≤ m → take n (first_chunks k m b) ≡ first_chunks k n b
first_of_first k zero m b h = refl
first_of_first k (suc n) zero b h = absurd (omega arith)
first_of_first k (suc n) (suc m) b h = ap (λ l. take k b ∷ l) (first_of_first k n m (drop k b) (omega arith))

length_first : {A : Type 0} (k n : ℕ) (b : List A) → length (first_chunks k n b) ≡ n
length_first k zero b = refl
length_first k (suc n) b = ap suc (length_first k n (drop k b))

-- the others lie behind them
joined_first : (n : ℕ) (b : List ℕ) → answer_bytes * n ≤ length b → concat (first_chunks answer_bytes n b) ++ drop (answer_bytes * n) b ≡ b
joined_first zero b h = refl
joined_first (suc n) b h =
    let x = take answer_bytes b in
    let y = drop answer_bytes b in
    let xs = concat (first_chunks answer_bytes n y) in
    let e : answer_bytes * suc n ≡ answer_bytes + answer_bytes * n = omega arith in
    let d = ap (λ (i : ℕ). drop i b) e ∙ sym (drop-drop (answer_bytes * n) answer_bytes b) in
    append_assoc x xs (drop (answer_bytes * suc n) b)
    ∙ ap (λ (l : List ℕ). x ++ (xs ++ l)) d
    ∙ ap (λ (l : List ℕ). x ++ l) (joined_first n y (omega (arith, length-drop answer_bytes b)))
    ∙ take-append-drop answer_bytes b

module _ (n : ℕ) (b : List ℕ) (h : answer_bytes * n ≤ length b) where
  abbrev first : List ℕ
  first = concat (first_chunks answer_bytes n b)

  first_long : length first ≡ answer_bytes * n
  first_long = omega (arith, length-append first (drop (answer_bytes * n) b), ap length (joined_first n b h), length-drop (answer_bytes * n) b)

  lines_of_first : (k : ℕ) → record_lines_from k n first ≡ record_lines_from k n b
  lines_of_first k = sym (lines_front first (drop (answer_bytes * n) b) k n (omega (arith, first_long))) ∙ ap (record_lines_from k n) (joined_first n b h)

  done_of_first : accepted_among n first ≡ accepted_among n b
  done_of_first =
      count_same n (λ i l. ap (λ (m : ℕ). eqb m 0) (sym (at_front first (drop (answer_bytes * n) b) (answer_bytes * i) (omega (arith, first_long)))
      ∙ ap (λ (c : List ℕ). number_at c i) (joined_first n b h)))

  told_of_first : (t : Told) → told_after t n first ≡ told_after t n b
  told_of_first t =
      λ i. record {
        accepted = (t.accepted + done_of_first i) % count_bound;
        refused = (t.refused + (n - done_of_first i)) % count_bound;
      }

-- what is printed of them and told with them
pub of_first : (short ended : Bool) (t : Told) (n : ℕ) (l b : List ℕ) {xs : List (List ℕ)} → answer_bytes * n ≤ length b → xs ≡ first_chunks answer_bytes n b
    → (ran_lines short ended t (length xs) l (concat xs) ≡ ran_lines short ended t n l b)
    × (told_after t (length xs) (concat xs) ≡ told_after t n b)
of_first short ended t n l b h e =
    let xs = first_chunks answer_bytes n b in
    let m = length_first answer_bytes n b in
    let u = told_of_first n b h t in (
      ap (λ (x : List (List ℕ)). ran_lines short ended t (length x) l (concat x)) e
          ∙ ap (λ (i : ℕ). ran_lines short ended t i l (concat xs)) m
          ∙ (λ i. (pick (became_whole short l) title_line [] ++ lines_of_first n b h (told_records t) i) ++ end_lines ended (begun_count l) (u i)),
      ap (λ (x : List (List ℕ)). told_after t (length x) (concat x)) e ∙ ap (λ (i : ℕ). told_after t i (concat xs)) m ∙ u,
    )

-- of a whole journal
pub lines_of_all : (n : ℕ) (b : List ℕ) {xs : List (List ℕ)} → answer_bytes * n ≤ length b → n < count_bound → xs ≡ first_chunks answer_bytes n b
    → record_lines_from 0 (length xs) (concat xs) ≡ record_lines n b
lines_of_all n b h k e =
    let xs = first_chunks answer_bytes n b in
    ap (λ (l : List (List ℕ)). record_lines_from 0 (length l) (concat l)) e
    ∙ ap (λ (m : ℕ). record_lines_from 0 m (concat xs)) (length_first answer_bytes n b)
    ∙ lines_of_first n b h 0
    ∙ lines_from_start n b k
