-- The counts of a stream.
-- Assumes nothing.
use Rattle.std.proofs.Common.{◌≡◌, ℕ, ◌+◌, ◌-◌, ◌%◌, List, ap, ◌∙◌}
use Rattle.output.specs.declared.stream.Told.{Told}
use Rattle.output.specs.Stream.{count_bound, accepted_among, told_after}

-- ---- counts

-- with n more records, a of them accepted
pub counted : (t : Told) (n : ℕ) (b : List ℕ) {a x y : ℕ} → a ≡ accepted_among n b → x ≡ (t.accepted + a) % count_bound
    → y ≡ (t.refused + (n - a)) % count_bound → (record { accepted = x; refused = y }) ≡ told_after t n b
counted t n b e f g =
    let v = f ∙ ap (λ (k : ℕ). (t.accepted + k) % count_bound) e in
    let w = g ∙ ap (λ (k : ℕ). (t.refused + (n - k)) % count_bound) e in
    λ i. record { accepted = v i; refused = w i }
