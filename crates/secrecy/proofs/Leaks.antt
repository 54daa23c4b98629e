-- No machine of specs/Leaks keeps the secret: two runs of each are told apart. The host itself, written the same way, does.
-- Assumes nothing.
use mathlib.Core.Path.{◌≡◌, refl, sym, ap, subst, ◌∙◌}
use mathlib.Core.Bool.{true}
use mathlib.Core.List.{List, []}
use Prim.Native.Nat.{ℕ}
use native.Mathlib.Omega.{arith}
use lib.Dec.{ltb}
use lib.ListN.{length, get_or, get_or-eq_default}
use Rattle.laws.specs.Choice.{at}
use Rattle.laws.specs.Search.{first_from, seek_from, all_in, list_from}
use Rattle.laws.specs.Bits.{bit, marked, unmarked}
use Rattle.laws.proofs.Cases.{below?}
use Rattle.laws.proofs.Tests.{lt⇔}
use Rattle.laws.proofs.Search.{all_in⇔}
use Rattle.model.specs.Sizes.{byte_bound}
use Rattle.model.specs.Names.{write_back}
use Rattle.model.specs.State.{State, table, maps_page, hit_way, line_of_page, present}
use Rattle.model.specs.Fresh.{fresh_pages, fresh_guests, fresh_cache, fresh, fresh_with}
use Rattle.model.specs.Records.{Bytes, write, decode}
use Rattle.model.specs.Checks.{has_entries, lowest_free, asked}
use Rattle.model.specs.Parts.{take_out, take_out_page, enter, way_for, load_stealth}
use Rattle.model.specs.Read.{access_way, miss_line, access_history, read_step}
use Rattle.model.specs.Write.{store, write_step}
use Rattle.model.specs.New.{share, new_step}
use Rattle.model.specs.NewSm.{new_sm_step}
use Rattle.model.specs.Del.{del_step}
use Rattle.model.specs.Switch.{switch_step}
use Rattle.model.specs.Lswitch.{lswitch_step}
use Rattle.model.specs.Hcall.{hcall_step}
use Rattle.model.specs.RetCtrl.{ret_ctrl_step}
use Rattle.model.specs.Chmod.{chmod_step}
use Rattle.model.specs.Pin.{pin_step}
use Rattle.model.specs.Unpin.{unpin_step}
use Rattle.model.specs.Drop.{drop_step}
use Rattle.model.specs.Step.{own_checks, refusal, next, value, act, judge}
use Rattle.model.specs.Run.{run_by}
use Rattle.model.specs.Samples.{does}
use Rattle.model.specs.Valid.{Valid}
use Rattle.keeps.proofs.Accepted.{step_judge}
use Rattle.keeps.proofs.Fresh.{fresh_valid}
use Rattle.secrecy.specs.Secrecy.{hidden, blanked, told, hide, open_by, seen_by, AllBytes, Secret}
use Rattle.secrecy.specs.Leaks.{judge_by, unpin_leaves, switch_carries, value_evicts, address_reads, given_back, read_after, evicted, same_address, last_value}
use Rattle.secrecy.proofs.Secret.{secret_like}

-- ---- records of bytes, by one test

bytes_tested : (rs : List (List ℕ)) → all_in (λ i r. all_in (λ j x. ltb x byte_bound) r) rs ≡ true → AllBytes rs
bytes_tested rs e i =
    below? i (length rs)
    ((all_in⇔ (λ k r. all_in (λ j x. ltb x byte_bound) r) {P = λ k. Bytes (get_or rs k [])} [] rs
    (λ k _. all_in⇔ (λ j x. ltb x byte_bound) 0 (get_or rs k []) (λ j _. lt⇔ (at (get_or rs k []) j) byte_bound))).0 e i)
    (λ h. subst Bytes (sym (get_or-eq_default rs [] h)) (λ j b. absurd (omega arith)))

fresh_is : Valid fresh
fresh_is = fresh_valid write_back (omega arith)

-- ---- the host, written as they are

same_judge : (s : State) (r : List ℕ) → judge_by next value s r ≡ judge s r
unfolding judge_by act judge
same_judge s r = refl

pub host_keeps : Secret (judge_by next value)
host_keeps = secret_like (judge_by next value) (λ s r v. same_judge s r ∙ sym (step_judge s r v))

-- ---- machines that leak

-- two numbers that are seen to be different
abbrev Same : ℕ → ℕ → Type 0
Same m n = m ≡ n

-- the page, free again, still holds it
pub unpin_leaks : Secret (judge_by unpin_leaves value) → ⊥
unfolding first_from seek_from list_from bit marked unmarked table maps_page hit_way line_of_page present fresh_pages fresh_guests fresh_cache fresh_with decode has_entries lowest_free asked take_out take_out_page enter way_for load_stealth access_way miss_line access_history read_step store write_step share new_step new_sm_step del_step switch_step lswitch_step hcall_step ret_ctrl_step chmod_step pin_step unpin_step drop_step own_checks refusal next value judge_by run_by hidden blanked told hide open_by seen_by last_value unpin_leaves
unpin_leaks k =
    let z = k 0 fresh fresh_is (given_back 300) (given_back 30) (bytes_tested (given_back 300) refl) (bytes_tested (given_back 30) refl) refl in
    let e : Same 300 30 = ap (λ (s : State). at s.values.memory 8) z.left in
    omega arith

-- guest 1 reads it at 7
pub switch_leaks : Secret (judge_by switch_carries value) → ⊥
unfolding first_from seek_from list_from bit marked unmarked table maps_page hit_way line_of_page present fresh_pages fresh_guests fresh_cache fresh_with decode has_entries lowest_free asked take_out take_out_page enter way_for load_stealth access_way miss_line access_history read_step store write_step share new_step new_sm_step del_step switch_step lswitch_step hcall_step ret_ctrl_step chmod_step pin_step unpin_step drop_step own_checks refusal next value judge_by run_by hidden blanked told hide open_by seen_by last_value switch_carries
switch_leaks k =
    let z = k 0 fresh fresh_is (read_after (does (write 7 300))) (read_after []) (bytes_tested (read_after (does (write 7 300))) refl) (bytes_tested (read_after []) refl) refl in
    let e : Same 300 0 = ap last_value z.seen in
    omega arith

-- the page that is left in way 0 of set 0
pub eviction_leaks : Secret (judge_by value_evicts value) → ⊥
unfolding first_from seek_from list_from bit marked unmarked table maps_page hit_way line_of_page present fresh_pages fresh_guests fresh_cache fresh_with decode has_entries lowest_free asked take_out take_out_page enter way_for load_stealth access_way miss_line access_history read_step store write_step share new_step new_sm_step del_step switch_step lswitch_step hcall_step ret_ctrl_step chmod_step pin_step unpin_step drop_step own_checks refusal next value judge_by run_by hidden blanked told hide open_by seen_by last_value value_evicts
eviction_leaks k =
    let z = k 0 fresh fresh_is (evicted 300) (evicted 31) (bytes_tested (evicted 300) refl) (bytes_tested (evicted 31) refl) refl in
    let e : Same 11 9 = ap (λ (s : State). at s.shape.cache.line_page 0) z.left in
    omega arith

-- guest 1 reads it at 0
pub address_leaks : Secret (judge_by next address_reads) → ⊥
unfolding first_from seek_from list_from bit marked unmarked table maps_page hit_way line_of_page present fresh_pages fresh_guests fresh_cache fresh_with decode has_entries lowest_free asked take_out take_out_page enter way_for load_stealth access_way miss_line access_history read_step store write_step share new_step new_sm_step del_step switch_step lswitch_step hcall_step ret_ctrl_step chmod_step pin_step unpin_step drop_step own_checks refusal next value judge_by run_by hidden blanked told hide open_by seen_by last_value address_reads
address_leaks k =
    let z = k 0 fresh fresh_is (same_address 300) (same_address 30) (bytes_tested (same_address 300) refl) (bytes_tested (same_address 30) refl) refl in
    let e : Same 300 30 = ap last_value z.seen in
    omega arith
