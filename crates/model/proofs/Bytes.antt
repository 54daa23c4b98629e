-- Parts of bytes are bytes: a journal's records among them.
-- Assumes nothing.
use mathlib.Core.Path.{sym, subst, ◌∙◌}
use mathlib.Core.List.{List}
use Prim.Native.Nat.{ℕ, ◌+◌, ◌*◌, ◌<◌}
use native.Mathlib.Omega.{arith}
use lib.ListN.{length, take, drop, length-take}
use lib.Seq.{get_or-take, get_or-drop}
use Rattle.laws.specs.Choice.{at}
use Rattle.laws.proofs.Cases.{below?}
use Rattle.laws.proofs.Lists.{at_past}
use Rattle.laws.proofs.Search.{Each, each_list_from}
use Rattle.model.specs.Sizes.{byte_bound, record_bytes, header_bytes}
use Rattle.model.specs.Records.{Bytes}
use Rattle.model.specs.Journal.{taken, record_at, records_of}

-- what is read anywhere among bytes is a byte
pub any_byte : (l : List ℕ) → Bytes l → (i : ℕ) → at l i < byte_bound
any_byte l b i = below? i (length l) (λ h. b i h) (λ h. let z = at_past l i h in omega arith)

pub part_bytes : (l : List ℕ) → Bytes l → (p n : ℕ) → Bytes (take n (drop p l))
part_bytes l b p n i h =
    let k : i < n = omega (arith, length-take n (drop p l)) in
    subst (λ (x : ℕ). x < byte_bound) (sym (get_or-take n (drop p l) i 0 k ∙ get_or-drop p l i 0)) (any_byte l b (p + i))

pub records_bytes : (j : List ℕ) → Bytes j → Each Bytes (records_of j)
records_bytes j b = each_list_from Bytes (record_at j) (λ n. part_bytes j b (header_bytes + record_bytes * n) record_bytes) (taken j) 0
