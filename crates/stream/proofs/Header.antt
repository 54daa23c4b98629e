-- The header of what was taken: a piece goes on with it, and then with what lies behind it.
-- Assumes nothing.
use mathlib.Core.Path.{◌≡◌, sym, ap, subst, ◌∙◌}
use mathlib.Core.Bool.{true}
use mathlib.Core.List.{List, [], ◌++◌, append_assoc, append-nil}
use Prim.Native.Nat.{ℕ, ◌+◌, ◌-◌, ◌≤◌, ◌<◌, min}
use native.Mathlib.Omega.{arith}
use lib.Dec.{eqb}
use lib.ListN.{length, take, drop, length-append, length-take, length-drop, drop_of_length-le}
use lib.Seq.{take_all, take-nil, take-add, take-append-le, drop-append-le, get_or-take, get_or-drop, ext_get_or}
use Rattle.laws.specs.Choice.{at}
use Rattle.laws.specs.Search.{all_below}
use Rattle.laws.proofs.Cases.{below?}
use Rattle.laws.proofs.Tests.{eq⇔}
use Rattle.laws.proofs.Search.{all⇔}
use Rattle.model.specs.Sizes.{header_bytes}
use Rattle.model.specs.Journal.{header}
use Rattle.stream.proofs.Records.{body}

-- bytes that begin a journal: its header, or a part of it
abbrev pub Begins : List ℕ → Type 0
Begins j = take header_bytes j ≡ take (length j) header

module _ (j piece : List ℕ) where
  -- header bytes in j, and in the piece
  abbrev had : ℕ
  had = min (length j) header_bytes

  abbrev part : ℕ
  part = min (header_bytes - had) (length piece)

  -- j with these, and the piece without them
  abbrev joined : List ℕ
  joined = j ++ take part piece

  abbrev rest : List ℕ
  rest = drop part piece

  long : length joined ≡ length j + part
  long = omega (arith, length-append j (take part piece), length-take part piece)

  -- the header is still short only where the piece ends
  nothing_behind : (q : ℕ) → length joined < header_bytes → take q rest ≡ []
  nothing_behind q l =
      let e = long in
      ap (take q) (drop_of_length-le piece {i = part} (omega arith)) ∙ take-nil q

  in_two : (q : ℕ) → j ++ take (part + q) piece ≡ joined ++ take q rest
  in_two q = ap (λ (l : List ℕ). j ++ l) (take-add part q piece) ∙ sym (append_assoc j (take part piece) (take q rest))

  -- a header that was whole is left as it is
  same_joined : header_bytes ≤ length j → joined ≡ j
  same_joined l =
      let e : part ≡ 0 = omega arith in
      ap (λ (n : ℕ). j ++ take n piece) e ∙ append-nil j

  -- ---- what lies behind the header

  body_joined : body joined ≡ body j
  body_joined =
      let e = long in
      below? (length j) header_bytes
      (λ l. drop_of_length-le joined {i = header_bytes} (omega arith) ∙ sym (drop_of_length-le j {i = header_bytes} (omega arith)))
      (λ l. ap body (same_joined l))

  pub body_after : (q : ℕ) → body (j ++ take (part + q) piece) ≡ body j ++ take q rest
  body_after q =
      ap body (in_two q)
      ∙ below? (length joined) header_bytes
      (λ l. rw (nothing_behind q l) (ap body (append-nil joined) ∙ body_joined ∙ sym (append-nil (body j))))
      (λ l. drop-append-le header_bytes joined (take q rest) l ∙ ap (λ (x : List ℕ). x ++ take q rest) body_joined)

  -- ---- the header

  pub count_after : (q : ℕ) → min (length (j ++ take (part + q) piece)) header_bytes ≡ had + part
  count_after q =
      omega (arith, length-append j (take (part + q) piece), length-take (part + q) piece)

  module _ (b : Begins j) (g : all_below part (λ i. eqb (at piece i) (at header (had + i))) ≡ true) where
    goes_on : take part piece ≡ take part (drop had header)
    goes_on =
        let e = length-take part piece in
        let f = length-take part (drop had header) in
        let k = length-drop had header in
        ext_get_or 0 (take part piece) (take part (drop had header)) (omega arith)
        (λ i l.
        let m : i < part = omega arith in
        get_or-take part piece i 0 m
        ∙ (all⇔ part (λ n a. eq⇔ (at piece n) (at header (had + n)))).0 g i m
        ∙ sym (get_or-take part (drop had header) i 0 m ∙ get_or-drop had header i 0))

    begins_joined : Begins joined
    begins_joined =
        let e = long in
        below? (length j) header_bytes
        (λ l.
        let n : had ≡ length j = omega arith in
        let first : j ≡ take (length j) header = sym (take_all header_bytes j (omega arith)) ∙ b in
        let then : take part piece ≡ take part (drop (length j) header) = goes_on ∙ ap (λ (i : ℕ). take part (drop i header)) n in
        take_all header_bytes joined (omega arith)
        ∙ (λ h. first h ++ then h)
        ∙ sym (take-add (length j) part header)
        ∙ ap (λ (i : ℕ). take i header) (sym e))
        (λ l. subst Begins (sym (same_joined l)) b)

    pub begins_after : (q : ℕ) → Begins (j ++ take (part + q) piece)
    begins_after q =
        subst Begins (sym (in_two q))
        (below? (length joined) header_bytes
        (λ l. subst Begins (sym (ap (λ (x : List ℕ). joined ++ x) (nothing_behind q l) ∙ append-nil joined)) begins_joined)
        (λ l.
        take-append-le header_bytes joined (take q rest) l
        ∙ begins_joined
        ∙ take_all (length joined) header (omega arith)
        ∙ sym (take_all (length (joined ++ take q rest)) header (omega (arith, length-append joined (take q rest))))))
