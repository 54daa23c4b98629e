-- How many places each part has in a state of bytes, and that rule 10's test of a number by its field is the model's.
-- Assumes nothing.
use mathlib.Core.Path.{◌≡◌, refl, sym, ap}
use mathlib.Core.Bool.{true}
use mathlib.Core.List.{[], ◌∷◌}
use Prim.Native.Nat.{ℕ, zero, suc, ◌<◌, ◌^◌}
use native.Mathlib.Omega.{arith}
use lib.Dec.{ltb}
use borrow.Author.Tests.{lt-ltb}
use Rattle.laws.specs.Choice.{at}
use Rattle.model.specs.Sizes.{guests, pages, policies, value_bound}
use Rattle.model.specs.Names.{running}
use Rattle.model.specs.State.{State}
use Rattle.model.specs.RuleTests.{columns}
use Rattle.model.specs.Valid.{Sized}
use Rattle.model.specs.Broken.{places_in, passes_at}
use Rattle.host.proofs.Inverse.{Bounded}
use Rattle.ranges.specs.Ranges.{number_in_range}
use Rattle.broken.specs.Findings.{Part, Calls, Pages, Addresses, Reached, Entries, Tables, Unshared, Lines, Slots, StealthWays, StealthHistory, Numbers, Arguments, EmptyLines, EmptySlots, Through, column_sizes, size_for, numbers_of, part_for}

-- ---- how many places

sizes_of : (k : ℕ) (s : State) → Sized s → places_in (numbers_of k s) ≡ at column_sizes k
unfolding columns
sizes_of zero s z = z.owner
sizes_of (suc zero) s z = z.kind
sizes_of (suc (suc zero)) s z = z.cacheable
sizes_of (suc (suc (suc zero))) s z = z.entry
sizes_of (suc (suc (suc (suc zero)))) s z = z.physical
sizes_of (suc (suc (suc (suc (suc zero))))) s z = refl
sizes_of (suc (suc (suc (suc (suc (suc zero)))))) s z = z.current
sizes_of (suc (suc (suc (suc (suc (suc (suc zero))))))) s z = z.call
sizes_of (suc (suc (suc (suc (suc (suc (suc (suc zero)))))))) s z = z.call_a
sizes_of (suc (suc (suc (suc (suc (suc (suc (suc (suc zero))))))))) s z = z.call_b
sizes_of (suc (suc (suc (suc (suc (suc (suc (suc (suc (suc zero)))))))))) s z = refl
sizes_of (suc (suc (suc (suc (suc (suc (suc (suc (suc (suc (suc zero))))))))))) s z = refl
sizes_of (suc (suc (suc (suc (suc (suc (suc (suc (suc (suc (suc (suc zero)))))))))))) s z = z.line_address
sizes_of (suc (suc (suc (suc (suc (suc (suc (suc (suc (suc (suc (suc (suc zero))))))))))))) s z = z.line_page
sizes_of (suc (suc (suc (suc (suc (suc (suc (suc (suc (suc (suc (suc (suc (suc zero)))))))))))))) s z = z.history
sizes_of (suc (suc (suc (suc (suc (suc (suc (suc (suc (suc (suc (suc (suc (suc (suc zero))))))))))))))) s z = z.slot_address
sizes_of (suc (suc (suc (suc (suc (suc (suc (suc (suc (suc (suc (suc (suc (suc (suc (suc zero)))))))))))))))) s z = z.slot_page
sizes_of (suc (suc (suc (suc (suc (suc (suc (suc (suc (suc (suc (suc (suc (suc (suc (suc (suc zero))))))))))))))))) s z = z.memory
sizes_of (suc (suc (suc (suc (suc (suc (suc (suc (suc (suc (suc (suc (suc (suc (suc (suc (suc (suc zero)))))))))))))))))) s z = z.line
sizes_of (suc (suc (suc (suc (suc (suc (suc (suc (suc (suc (suc (suc (suc (suc (suc (suc (suc (suc (suc zero))))))))))))))))))) s z = refl
sizes_of (suc (suc (suc (suc (suc (suc (suc (suc (suc (suc (suc (suc (suc (suc (suc (suc (suc (suc (suc (suc k)))))))))))))))))))) s z = refl

pub size_for_law : (t : Part) (s : State) → Sized s → places_in (part_for t s) ≡ size_for t
unfolding part_for
size_for_law Calls s z = refl
size_for_law Pages s z = refl
size_for_law Addresses s z = z.physical
size_for_law Reached s z = refl
size_for_law Entries s z = z.entry
size_for_law Tables s z = refl
size_for_law Unshared s z = refl
size_for_law Lines s z = refl
size_for_law Slots s z = refl
size_for_law StealthWays s z = refl
size_for_law StealthHistory s z = refl
size_for_law (Numbers k) s z = sizes_of k s z
size_for_law Arguments s z = refl
size_for_law EmptyLines s z = refl
size_for_law EmptySlots s z = refl
size_for_law Through s z = refl

-- ---- rule 10: a number by its field

-- the one number of a list of one
only : (x i : ℕ) → i < 1 → at (x ∷ []) i ≡ x
only x i h = let e : i ≡ 0 = omega arith in rw e refl

-- one that bytes cannot take past its bound
bounded : (x b : ℕ) → x < b → true ≡ ltb x b
bounded x b h = sym (lt-ltb x b h)

pub number_is : (k i : ℕ) (s : State) → Bounded s → i < at column_sizes k → number_in_range s k i ≡ passes_at (numbers_of k s) i
unfolding columns number_in_range
number_is zero i s b h = refl
number_is (suc zero) i s b h = refl
number_is (suc (suc zero)) i s b h = refl
number_is (suc (suc (suc zero))) i s b h = refl
number_is (suc (suc (suc (suc zero)))) i s b h = refl
number_is (suc (suc (suc (suc (suc zero))))) i s b h = rw (only s.shape.pages.free i h) (bounded s.shape.pages.free (2 ^ pages) b.free)
number_is (suc (suc (suc (suc (suc (suc zero)))))) i s b h = refl
number_is (suc (suc (suc (suc (suc (suc (suc zero))))))) i s b h = refl
number_is (suc (suc (suc (suc (suc (suc (suc (suc zero)))))))) i s b h = refl
number_is (suc (suc (suc (suc (suc (suc (suc (suc (suc zero))))))))) i s b h = refl
number_is (suc (suc (suc (suc (suc (suc (suc (suc (suc (suc zero)))))))))) i s b h = ap (λ (x : ℕ). ltb x guests) (sym (only s.shape.guests.active i h))
number_is (suc (suc (suc (suc (suc (suc (suc (suc (suc (suc (suc zero))))))))))) i s b h = ap (λ (x : ℕ). ltb x (suc running)) (sym (only s.shape.guests.mode i h))
number_is (suc (suc (suc (suc (suc (suc (suc (suc (suc (suc (suc (suc zero)))))))))))) i s b h = refl
number_is (suc (suc (suc (suc (suc (suc (suc (suc (suc (suc (suc (suc (suc zero))))))))))))) i s b h = refl
number_is (suc (suc (suc (suc (suc (suc (suc (suc (suc (suc (suc (suc (suc (suc zero)))))))))))))) i s b h = refl
number_is (suc (suc (suc (suc (suc (suc (suc (suc (suc (suc (suc (suc (suc (suc (suc zero))))))))))))))) i s b h = refl
number_is (suc (suc (suc (suc (suc (suc (suc (suc (suc (suc (suc (suc (suc (suc (suc (suc zero)))))))))))))))) i s b h = refl
number_is (suc (suc (suc (suc (suc (suc (suc (suc (suc (suc (suc (suc (suc (suc (suc (suc (suc zero))))))))))))))))) i s b h = bounded (at s.values.memory i) value_bound (b.memory i)
number_is (suc (suc (suc (suc (suc (suc (suc (suc (suc (suc (suc (suc (suc (suc (suc (suc (suc (suc zero)))))))))))))))))) i s b h = bounded (at s.values.line i) value_bound (b.line i)
number_is (suc (suc (suc (suc (suc (suc (suc (suc (suc (suc (suc (suc (suc (suc (suc (suc (suc (suc (suc zero))))))))))))))))))) i s b h = ap (λ (x : ℕ). ltb x policies) (sym (only s.shape.policy i h))
number_is (suc (suc (suc (suc (suc (suc (suc (suc (suc (suc (suc (suc (suc (suc (suc (suc (suc (suc (suc (suc k)))))))))))))))))))) i s b h = absurd (omega arith)
