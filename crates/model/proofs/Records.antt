-- Every byte string is the encoding of exactly one action in range, or is bad.
-- Assumes nothing.
use mathlib.Core.Path.{◌≡◌, refl, sym, ap, ap₂, ◌∙◌, subst}
use mathlib.Core.Bool.{Bool, true, false, ◌&&◌, true≢false}
use mathlib.Core.Logic.{◌⊎◌, inl, inr, ◌≢◌, ⊎_elim}
use mathlib.Core.List.{List, [], ◌∷◌}
use mathlib.Core.Option.{Option, none, some, some-injective, none-ne-some}
use Prim.Native.Nat.{ℕ, zero, suc, ◌+◌, ◌*◌, ◌/◌, ◌%◌, ◌^◌, ◌≤◌, ◌<◌}
use native.Mathlib.Nat.{div-div-eq-div-mul, div-add-mod, mod-eq_of_lt}
use native.Mathlib.Omega.{arith}
use lib.Dec.{eqb}
use lib.ListN.{length}
use borrow.Author.Tests.{ne_eqb, eq-eqb}
use Rattle.laws.specs.Choice.{pick, ◌⇔◌}
use Rattle.laws.proofs.Cases.{split}
use Rattle.laws.proofs.Tests.{eq⇔, lt⇔, and⇔, or⇔, pick⇔, true⇔, as⇔}
use Rattle.model.specs.Sizes.{stealth, calls, kinds, record_bytes, byte_bound, value_bound}
use Rattle.model.specs.Records.{row_of, kind_hcall, kind_of_call, Action, silent, read, read_hyper, write, write_hyper, new, new_sm, del, switch, lswitch, hcall, ret_ctrl, chmod, pin, unpin, drop, Fields, fields, fields_of, CallInRange, InRange, word_bytes, bytes_of, encode, Bytes, fields_in, has_value, limit_kind, well_formed, action_of, decode}
use Rattle.model.specs.Rules.{Within}
use Rattle.model.proofs.RuleTests.{within⇔}

-- ---- bytes and fields

-- a number below 2 ^ 32 is that of its bytes
digits : (v q₁ q₂ q₃ r₀ r₁ r₂ : ℕ) → byte_bound * q₁ + r₀ ≡ v → byte_bound * q₂ + r₁ ≡ q₁ → byte_bound * q₃ + r₂ ≡ q₂
    → r₀ + byte_bound * r₁ + byte_bound ^ 2 * r₂ + byte_bound ^ 3 * q₃ ≡ v
digits v q₁ q₂ q₃ r₀ r₁ r₂ e f g = omega arith

pub word_back : (v : ℕ) → v < value_bound
    → v % byte_bound + byte_bound * (v / byte_bound % byte_bound) + byte_bound ^ 2 * (v / byte_bound ^ 2 % byte_bound) + byte_bound ^ 3 * (v / byte_bound ^ 3 % byte_bound) ≡ v
word_back v h =
    let top : v / byte_bound ^ 3 % byte_bound ≡ v / byte_bound ^ 3 = mod-eq_of_lt (omega arith) in
    rw top
    (digits v (v / byte_bound) (v / byte_bound ^ 2) (v / byte_bound ^ 3) (v % byte_bound) (v / byte_bound % byte_bound) (v / byte_bound ^ 2 % byte_bound)
    (div-add-mod v byte_bound)
    (rw (div-div-eq-div-mul v byte_bound byte_bound) at (div-add-mod (v / byte_bound) byte_bound))
    (rw (div-div-eq-div-mul v (byte_bound ^ 2) byte_bound) at (div-add-mod (v / byte_bound ^ 2) byte_bound)))

fields_back : (f : Fields) → f.value < value_bound → fields_in (bytes_of f) ≡ f
fields_back f h = ap (fields f.kind f.a f.b f.call) (word_back f.value h)

-- four bytes are those of their number
pub word_forth : (a b c d : ℕ) → a < byte_bound → b < byte_bound → c < byte_bound → d < byte_bound
    → word_bytes (a + byte_bound * b + byte_bound ^ 2 * c + byte_bound ^ 3 * d) ≡ a ∷ b ∷ c ∷ d ∷ []
word_forth a b c d ha hb hc hd =
    let v = a + byte_bound * b + byte_bound ^ 2 * c + byte_bound ^ 3 * d in
    let q₁ : v / byte_bound ≡ b + byte_bound * c + byte_bound ^ 2 * d = omega arith in
    let q₂ : v / byte_bound ^ 2 ≡ c + byte_bound * d = omega arith in
    let q₃ : v / byte_bound ^ 3 ≡ d = omega arith in
    let e₀ : v % byte_bound ≡ a = omega arith in
    let e₁ : v / byte_bound % byte_bound ≡ b = ap (λ (x : ℕ). x % byte_bound) q₁ ∙ (let z : (b + byte_bound * c + byte_bound ^ 2 * d) % byte_bound ≡ b = omega arith in z) in
    let e₂ : v / byte_bound ^ 2 % byte_bound ≡ c = ap (λ (x : ℕ). x % byte_bound) q₂ ∙ low c d hc in
    let e₃ : v / byte_bound ^ 3 % byte_bound ≡ d = ap (λ (x : ℕ). x % byte_bound) q₃ ∙ mod-eq_of_lt hd in
    λ i. e₀ i ∷ e₁ i ∷ e₂ i ∷ e₃ i ∷ []
  where
    low : (x y : ℕ) → x < byte_bound → (x + byte_bound * y) % byte_bound ≡ x
    low x y h = omega arith

bytes_back : (l : List ℕ) → Bytes l → length l ≡ record_bytes → bytes_of (fields_in l) ≡ l
bytes_back [] h e = absurd (omega arith)
bytes_back (a ∷ []) h e = absurd (omega arith)
bytes_back (a ∷ b ∷ []) h e = absurd (omega arith)
bytes_back (a ∷ b ∷ c ∷ []) h e = absurd (omega arith)
bytes_back (a ∷ b ∷ c ∷ d ∷ []) h e = absurd (omega arith)
bytes_back (a ∷ b ∷ c ∷ d ∷ v ∷ []) h e = absurd (omega arith)
bytes_back (a ∷ b ∷ c ∷ d ∷ v ∷ w ∷ []) h e = absurd (omega arith)
bytes_back (a ∷ b ∷ c ∷ d ∷ v ∷ w ∷ x ∷ []) h e = absurd (omega arith)
bytes_back (a ∷ b ∷ c ∷ d ∷ v ∷ w ∷ x ∷ y ∷ []) h e =
    ap (λ (t : List ℕ). a ∷ b ∷ c ∷ d ∷ t)
    (word_forth v w x y (h 4 (omega arith)) (h 5 (omega arith)) (h 6 (omega arith)) (h 7 (omega arith)))
bytes_back (a ∷ b ∷ c ∷ d ∷ v ∷ w ∷ x ∷ y ∷ z ∷ l) h e = absurd (omega arith)

word_below : (l : List ℕ) → Bytes l → length l ≡ record_bytes → (fields_in l).value < value_bound
word_below l h e = omega (arith, h 4 (omega arith), h 5 (omega arith), h 6 (omega arith), h 7 (omega arith))

-- ---- well formed fields, in words

record Formed (f : Fields) : Type 0 where
  known : f.kind < kinds
  call_known : f.kind ≡ kind_hcall → f.call < calls
  call_zero : f.kind ≢ kind_hcall → f.call ≡ 0
  limits : Within (row_of (limit_kind f)) f.a f.b
  value_zero : has_value f.kind ≡ false → f.value ≡ 0

formed⇔ : (f : Fields) → well_formed f ⇔ Formed f
formed⇔ f =
    as⇔
    (and⇔
    (and⇔ (and⇔ (lt⇔ f.kind kinds) (pick⇔ (eq⇔ f.kind kind_hcall) (lt⇔ f.call calls) (eq⇔ f.call 0)))
    (within⇔ (row_of (limit_kind f)) f.a f.b))
    (or⇔ (true⇔ (has_value f.kind)) (eq⇔ f.value 0)))
    (λ w. record {
      known = w.0.0.0;
      call_known = w.0.0.1.0;
      call_zero = w.0.0.1.1;
      limits = w.0.1;
      value_zero = λ e. ⊎_elim (λ t. absurd (true≢false (sym t ∙ e))) (λ z. z) w.1;
    })
    (λ w. (((w.known, (w.call_known, w.call_zero)), w.limits), split (has_value f.kind) inl (λ e. inr (w.value_zero e))))

-- ---- the table of kinds: fields that are well formed are those of an action in range, and the other way round

-- a call's limits, from its action's row
pub call_in : (c a b : ℕ) → c < calls → Within (row_of (kind_of_call c)) a b → CallInRange c a b
call_in zero a b h w = (omega (arith, w.a_high), omega (arith, w.b_high))
call_in (suc zero) a b h w = (w.a_high, w.b_high)
call_in (suc (suc zero)) a b h w = (w.a_high, omega (arith, w.b_high))
call_in (suc (suc (suc zero))) a b h w = (w.a_high, omega (arith, w.b_high))
call_in (suc (suc (suc (suc zero)))) a b h w = (w.a_high, w.b_high)
call_in (suc (suc (suc (suc (suc zero))))) a b h w = (w.a_high, omega (arith, w.b_high))
call_in (suc (suc (suc (suc (suc (suc c)))))) a b h w = absurd (omega arith)

pub in_call : (c a b : ℕ) → CallInRange c a b → (c < calls) × Within (row_of (kind_of_call c)) a b
in_call zero a b h = (omega arith, record { a_low = omega arith; a_high = omega (arith, h.0); b_low = omega arith; b_high = omega (arith, h.1) })
in_call (suc zero) a b h = (omega arith, record { a_low = omega arith; a_high = h.0; b_low = omega arith; b_high = h.1 })
in_call (suc (suc zero)) a b h = (omega arith, record { a_low = omega arith; a_high = h.0; b_low = omega arith; b_high = omega (arith, h.1) })
in_call (suc (suc (suc zero))) a b h = (omega arith, record { a_low = omega arith; a_high = h.0; b_low = omega arith; b_high = omega (arith, h.1) })
in_call (suc (suc (suc (suc zero)))) a b h = (omega arith, record { a_low = omega arith; a_high = h.0; b_low = omega arith; b_high = h.1 })
in_call (suc (suc (suc (suc (suc zero))))) a b h = (omega arith, record { a_low = omega arith; a_high = h.0; b_low = omega arith; b_high = omega (arith, h.1) })
in_call (suc (suc (suc (suc (suc (suc c)))))) a b h = absurd h

-- what an action's fields are to be
record Sound (f : Fields) : Type 0 where
  in_range : InRange (action_of f)
  same : fields_of (action_of f) ≡ f

-- an unused argument, and one that may be one number alone
zero_of : {x : ℕ} → x < 1 → x ≡ 0
zero_of h = omega arith

one_of : {x n : ℕ} → n ≤ x → x < suc n → x ≡ n
one_of h k = omega arith

module _ (a b c v : ℕ) (hv : v < value_bound) where
  sound : (k : ℕ) → Formed (fields k a b c v) → Sound (fields k a b c v)
  sound zero w = record { in_range = tt; same = rw (zero_of w.limits.a_high, zero_of w.limits.b_high, w.call_zero (λ e. omega arith), w.value_zero refl) }
  sound (suc zero) w = record { in_range = w.limits.a_high; same = rw (zero_of w.limits.b_high, w.call_zero (λ e. omega arith), w.value_zero refl) }
  sound (suc (suc zero)) w = record { in_range = w.limits.a_high; same = rw (zero_of w.limits.b_high, w.call_zero (λ e. omega arith), w.value_zero refl) }
  sound (suc (suc (suc zero))) w = record { in_range = (w.limits.a_high, hv); same = rw (zero_of w.limits.b_high, w.call_zero (λ e. omega arith)) }
  sound (suc (suc (suc (suc zero)))) w = record { in_range = (w.limits.a_high, hv); same = rw (zero_of w.limits.b_high, w.call_zero (λ e. omega arith)) }
  sound (suc (suc (suc (suc (suc zero))))) w = record { in_range = (w.limits.a_high, w.limits.b_high); same = rw (w.call_zero (λ e. omega arith), w.value_zero refl) }
  sound (suc (suc (suc (suc (suc (suc zero)))))) w = record { in_range = w.limits.b_high; same = rw (one_of w.limits.a_low w.limits.a_high, w.call_zero (λ e. omega arith), w.value_zero refl) }
  sound (suc (suc (suc (suc (suc (suc (suc zero))))))) w = record { in_range = w.limits.a_high; same = rw (zero_of w.limits.b_high, w.call_zero (λ e. omega arith), w.value_zero refl) }
  sound (suc (suc (suc (suc (suc (suc (suc (suc zero)))))))) w = record { in_range = w.limits.a_high; same = rw (zero_of w.limits.b_high, w.call_zero (λ e. omega arith), w.value_zero refl) }
  sound (suc (suc (suc (suc (suc (suc (suc (suc (suc zero))))))))) w = record { in_range = w.limits.a_high; same = rw (zero_of w.limits.b_high, w.call_zero (λ e. omega arith), w.value_zero refl) }
  sound (suc (suc (suc (suc (suc (suc (suc (suc (suc (suc zero)))))))))) w = record { in_range = call_in c a b (w.call_known refl) w.limits; same = rw (w.value_zero refl) }
  sound (suc (suc (suc (suc (suc (suc (suc (suc (suc (suc (suc zero))))))))))) w = record { in_range = tt; same = rw (zero_of w.limits.a_high, zero_of w.limits.b_high, w.call_zero (λ e. omega arith), w.value_zero refl) }
  sound (suc (suc (suc (suc (suc (suc (suc (suc (suc (suc (suc (suc zero)))))))))))) w = record { in_range = tt; same = rw (zero_of w.limits.a_high, zero_of w.limits.b_high, w.call_zero (λ e. omega arith), w.value_zero refl) }
  sound (suc (suc (suc (suc (suc (suc (suc (suc (suc (suc (suc (suc (suc zero))))))))))))) w = record { in_range = (w.limits.a_high, w.limits.b_high); same = rw (w.call_zero (λ e. omega arith), w.value_zero refl) }
  sound (suc (suc (suc (suc (suc (suc (suc (suc (suc (suc (suc (suc (suc (suc zero)))))))))))))) w = record { in_range = w.limits.a_high; same = rw (zero_of w.limits.b_high, w.call_zero (λ e. omega arith), w.value_zero refl) }
  sound (suc (suc (suc (suc (suc (suc (suc (suc (suc (suc (suc (suc (suc (suc (suc zero))))))))))))))) w = record { in_range = w.limits.a_high; same = rw (zero_of w.limits.b_high, w.call_zero (λ e. omega arith), w.value_zero refl) }
  sound (suc (suc (suc (suc (suc (suc (suc (suc (suc (suc (suc (suc (suc (suc (suc (suc k)))))))))))))))) w = absurd (omega (arith, w.known))

-- ---- actions

in_value : (x : Action) → InRange x → (fields_of x).value < value_bound
in_value silent h = omega arith
in_value (read va) h = omega arith
in_value (read_hyper va) h = omega arith
in_value (write va v) h = h.1
in_value (write_hyper va v) h = h.1
in_value (new va pa) h = omega arith
in_value (new_sm pa) h = omega arith
in_value (del va) h = omega arith
in_value (switch g) h = omega arith
in_value (lswitch pa) h = omega arith
in_value (hcall c a b) h = omega arith
in_value ret_ctrl h = omega arith
in_value chmod h = omega arith
in_value (pin pa k) h = omega arith
in_value (unpin pa) h = omega arith
in_value (drop g) h = omega arith

-- fields of a kind that is no hcall
other : (k a b v : ℕ) → k < kinds → k ≢ kind_hcall → Within (row_of k) a b → (has_value k ≡ false → v ≡ 0) → Formed (fields k a b 0 v)
other k a b v h n w z =
    record { known = h; call_known = λ e. absurd (n e); call_zero = λ e. refl; limits = rw (ne_eqb k kind_hcall n) w; value_zero = z }

formed : (x : Action) → InRange x → Formed (fields_of x)
formed silent h = other 0 0 0 0 (omega arith) (λ e. omega arith) (omega arith) (λ e. refl)
formed (read va) h = other 1 va 0 0 (omega arith) (λ e. omega arith) (omega arith) (λ e. refl)
formed (read_hyper va) h = other 2 va 0 0 (omega arith) (λ e. omega arith) (omega arith) (λ e. refl)
formed (write va v) h = other 3 va 0 v (omega arith) (λ e. omega arith) (omega arith) (λ e. absurd (true≢false e))
formed (write_hyper va v) h = other 4 va 0 v (omega arith) (λ e. omega arith) (omega arith) (λ e. absurd (true≢false e))
formed (new va pa) h = other 5 va pa 0 (omega arith) (λ e. omega arith) (omega arith) (λ e. refl)
formed (new_sm pa) h = other 6 stealth pa 0 (omega arith) (λ e. omega arith) (omega arith) (λ e. refl)
formed (del va) h = other 7 va 0 0 (omega arith) (λ e. omega arith) (omega arith) (λ e. refl)
formed (switch g) h = other 8 g 0 0 (omega arith) (λ e. omega arith) (omega arith) (λ e. refl)
formed (lswitch pa) h = other 9 pa 0 0 (omega arith) (λ e. omega arith) (omega arith) (λ e. refl)
formed (hcall c a b) h =
    let w = in_call c a b h in
    record { known = omega arith; call_known = λ e. w.0; call_zero = λ e. absurd (e refl); limits = w.1; value_zero = λ e. refl }
formed ret_ctrl h = other 11 0 0 0 (omega arith) (λ e. omega arith) (omega arith) (λ e. refl)
formed chmod h = other 12 0 0 0 (omega arith) (λ e. omega arith) (omega arith) (λ e. refl)
formed (pin pa k) h = other 13 pa k 0 (omega arith) (λ e. omega arith) (omega arith) (λ e. refl)
formed (unpin pa) h = other 14 pa 0 0 (omega arith) (λ e. omega arith) (omega arith) (λ e. refl)
formed (drop g) h = other 15 g 0 0 (omega arith) (λ e. omega arith) (omega arith) (λ e. refl)

-- an action is that of its fields
back : (x : Action) → action_of (fields_of x) ≡ x
back silent = refl
back (read va) = refl
back (read_hyper va) = refl
back (write va v) = refl
back (write_hyper va v) = refl
back (new va pa) = refl
back (new_sm pa) = refl
back (del va) = refl
back (switch g) = refl
back (lswitch pa) = refl
back (hcall c a b) = refl
back ret_ctrl = refl
back chmod = refl
back (pin pa k) = refl
back (unpin pa) = refl
back (drop g) = refl

-- ---- records

decoded_as : (l : List ℕ) (f : Fields) → length l ≡ record_bytes → fields_in l ≡ f → well_formed f ≡ true → decode l ≡ some (action_of f)
unfolding decode
decoded_as l f n e w =
    ap (λ (g : Fields). pick {A = Option Action} (eqb (length l) record_bytes && well_formed g) (some (action_of g)) none) e
    ∙ ap₂ (λ (b c : Bool). pick {A = Option Action} (b && c) (some (action_of f)) none) (eq-eqb (length l) record_bytes n) w

pub decode_encode : (x : Action) → InRange x → decode (encode x) ≡ some x
decode_encode x h =
    decoded_as (encode x) (fields_of x) refl (fields_back (fields_of x) (in_value x h)) ((formed⇔ (fields_of x)).1 (formed x h))
    ∙ ap {B = Option Action} some (back x)

pub encode_decode : (l : List ℕ) (x : Action) → Bytes l → decode l ≡ some x → InRange x × (encode x ≡ l)
unfolding decode
encode_decode l x h e =
    split (eqb (length l) record_bytes && well_formed (fields_in l))
    (λ t.
    let w = (and⇔ (eq⇔ (length l) record_bytes) (formed⇔ (fields_in l))).0 t in
    let f = fields_in l in
    let z = sound f.a f.b f.call f.value (word_below l h w.0) f.kind w.1 in
    let q : action_of (fields_in l) ≡ x = some-injective (action_of (fields_in l)) x (rw t at e) in
    subst (λ (y : Action). InRange y × (encode y ≡ l)) q (z.in_range, ap bytes_of z.same ∙ bytes_back l h w.0))
    (λ t. absurd (none-ne-some x (rw t at e)))

-- bytes that are no record of an action in range
pub Bad : List ℕ → Type 0
Bad l = (decode l ≡ none) × ((x : Action) → InRange x → encode x ≢ l)

-- bytes that are the record of this action in range and of no other
pub record Encodes (l : List ℕ) (x : Action) : Type 0 where
  pub decoded : decode l ≡ some x
  pub in_range : InRange x
  pub encoded : encode x ≡ l
  pub alone : (y : Action) → InRange y → encode y ≡ l → y ≡ x

pub every_record : (l : List ℕ) → Bytes l → Bad l ⊎ ((x : Action) × Encodes l x)
unfolding Bad
every_record l h = go (decode l) refl
  where
    go : (o : Option Action) → decode l ≡ o → Bad l ⊎ ((x : Action) × Encodes l x)
    go none e = inl (e, λ x r q. none-ne-some x (sym e ∙ ap decode (sym q) ∙ decode_encode x r))
    go (some x) e =
        let z = encode_decode l x h e in
        inr (
          x,
          record {
            decoded = e;
            in_range = z.0;
            encoded = z.1;
            alone = λ y r q. some-injective y x (sym (decode_encode y r) ∙ ap decode q ∙ e);
          },
        )
