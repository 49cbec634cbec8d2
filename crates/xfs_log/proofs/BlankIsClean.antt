-- A blank log is clean.
use Rattle.std.proofs.Common.{◌≡◌, ℕ, zero, suc, ◌+◌, ◌-◌, ◌*◌, ◌%◌, ◌^◌, ◌<◌, ◌≤◌, true, List, ◌∷◌, length, take, inl, inr, refl, ap, arith}
use Rattle.std.specs.Prelude.{nat_eq, map}
use Rattle.std.specs.List.{list_all, range_with_len}
use Rattle.std.specs.Cmp.Derive.{both_true}
use Rattle.std.proofs.lemmas.Bool.{le-leb, eq-eqb}
use Rattle.std.proofs.Math.Nat.{mod-eq_of_lt}
use Rattle.xfs_log.specs.Log.{is_of_cycle, sector_at, last_header, nearest_header, data_sectors, has_unmount_flag, is_unmount, ends_at, ends_in_unmount, is_unmounted, head_number, state_of}
use Rattle.xfs_log.specs.BlankLog.{blank_seen, blank_log}
use Rattle.xfs_log.specs.declared.sectors.SectorSeen.{SectorSeen}
use Rattle.xfs_heads.specs.declared.log_state.LogState.TheVariants.{Clean}
use Rattle.xfs_log.proofs.CleanLog.{of_head}

late : (cycle place : ℕ) → 2 ≤ place → (blank_seen cycle place).cycle ≡ cycle - 1
late cycle zero low = absurd (omega arith)
late cycle (suc zero) low = absurd (omega arith)
late cycle (suc (suc place)) low = refl

-- the sectors behind the record
rest_all : (cycle place count : ℕ) → 2 ≤ place → list_all (is_of_cycle (cycle - 1)) (map (blank_seen cycle) (range_with_len place count)) ≡ true
rest_all cycle place zero low = refl
rest_all cycle place (suc count) low = both_true (eq-eqb _ (cycle - 1) (late cycle place low)) (rest_all cycle (place + 1) count (omega arith))

-- a log that begins with the record
begun : ℕ → List SectorSeen → List SectorSeen
begun cycle rest = blank_seen cycle 0 ∷ blank_seen cycle 1 ∷ rest

alone_there : (cycle : ℕ) (rest : List SectorSeen) → 1 ≤ length rest → is_unmount (begun cycle rest) 0 ≡ true
unfolding begun is_unmount has_unmount_flag
alone_there cycle rest some =
    let low : 1 < length (begun cycle rest) = omega arith in
    let at : 1 % length (begun cycle rest) ≡ 1 = mod-eq_of_lt low in
    ap (λ (k : ℕ). has_unmount_flag (sector_at (begun cycle rest) k)) at

ends_there : (cycle : ℕ) (rest : List SectorSeen) → ends_at (begun cycle rest) 0 2 ≡ true
unfolding begun ends_at data_sectors
ends_there cycle rest = eq-eqb _ _ refl

ends : (cycle : ℕ) (rest : List SectorSeen) → 1 ≤ length rest → ends_in_unmount (begun cycle rest) 2 ≡ true
unfolding begun nearest_header last_header
ends cycle rest some = both_true (alone_there cycle rest some) (ends_there cycle rest)

unmounted : (cycle : ℕ) (rest : List SectorSeen) → 1 ≤ cycle → 1 ≤ length rest → list_all (is_of_cycle (cycle - 1)) rest ≡ true
    → is_unmounted (begun cycle rest) cycle 2 ≡ true
unfolding begun is_unmounted
unmounted cycle rest later some all =
    let inside : 2 ≤ length (begun cycle rest) = omega arith in
    let same : nat_eq cycle cycle ≡ true = eq-eqb cycle cycle refl in
    let first : list_all (is_of_cycle cycle) (take 2 (begun cycle rest)) ≡ true = both_true same (both_true same refl) in
    both_true (both_true (both_true (both_true (both_true (le-leb 1 cycle later) refl) (le-leb 2 _ inside)) first) all) (ends cycle rest some)

number : (cycle sectors : ℕ) → cycle < 2 ^ 31 → 3 ≤ sectors → cycle * 2 ^ 32 + 2 ≡ head_number cycle 2 sectors
unfolding head_number
number cycle sectors low long = grind arith

begun_clean : (cycle : ℕ) (rest : List SectorSeen) → 1 ≤ cycle → cycle < 2 ^ 31 → 1 ≤ length rest → list_all (is_of_cycle (cycle - 1)) rest ≡ true
    → state_of (begun cycle rest) ≡ Clean (cycle * 2 ^ 32 + 2)
unfolding begun
begun_clean cycle rest later low some all =
    let long : 3 ≤ length (begun cycle rest) = omega arith in
    of_head (begun cycle rest) (cycle * 2 ^ 32 + 2)
    (inr (cycle, 2, inl (unmounted cycle rest later some all), number cycle (length (begun cycle rest)) low long))

blank_clean : (cycle count : ℕ) → 1 ≤ cycle → cycle < 2 ^ 31 → state_of (blank_log cycle (suc (suc (suc count)))) ≡ Clean (cycle * 2 ^ 32 + 2)
unfolding begun blank_log
blank_clean cycle count later low =
    let rest = map (blank_seen cycle) (range_with_len 2 (suc count)) in
    let some : 1 ≤ length rest = omega arith in
    begun_clean cycle rest later low some (rest_all cycle 2 (suc count) (omega arith))

pub blank_is_clean : (cycle sectors : ℕ) → 1 ≤ cycle → cycle < 2 ^ 31 → 3 ≤ sectors → state_of (blank_log cycle sectors) ≡ Clean (cycle * 2 ^ 32 + 2)
blank_is_clean cycle zero later low long = absurd (omega arith)
blank_is_clean cycle (suc zero) later low long = absurd (omega arith)
blank_is_clean cycle (suc (suc zero)) later low long = absurd (omega arith)
blank_is_clean cycle (suc (suc (suc count))) later low long = blank_clean cycle count later low
