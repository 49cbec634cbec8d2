-- Steps that are counted one after the other.
use Rattle.std.proofs.Common.{◌≡◌, ℕ, ◌+◌, ◌*◌, ◌≤◌, ◌<◌, true, length, arith}
use Rattle.std.specs.List.{sum_by}
use Rattle.xfs_claims.specs.declared.claimants.Claims.{Claims}
use Rattle.xfs_claims.specs.Ranks.{is_recorded_cluster, recorded_clusters, scanned_clusters, recorded_files, scanned_files, run_count, claimed_runs}
use Rattle.xfs_claims.specs.Private.Ranked.{rank_steps}
use Rattle.xfs_claims.proofs.Budget.{room, files_sum}

-- what is counted for clusters alone is no more than what is for clusters and files
pub first_counted : (old now clusters files : ℕ) → now ≤ old + 2 * clusters → now ≤ old + 2 * (clusters + files)
first_counted old now clusters files few = omega (arith, few)

pub both_counted : (old between now clusters files : ℕ) → between ≤ old + 2 * clusters → now ≤ between + 2 * files → now ≤ old + 2 * (clusters + files)
both_counted old between now clusters files few more = omega (arith, few, more)

-- of the root's cluster, of the recorded claims and of the scanned ones
pub root_counted : (old now recorded scanned : ℕ) → now ≤ old + 2 → now ≤ old + (2 + recorded + scanned)
root_counted old now recorded scanned few = omega (arith, few)

pub recorded_counted : (old between now recorded recorded' scanned : ℕ) → recorded ≡ recorded' → between ≤ old + 2 → now ≤ between + recorded → now ≤ old + (2 + recorded' + scanned)
recorded_counted old between now recorded recorded' scanned same few more = omega (arith, same, few, more)

pub scanned_counted : (old first second now recorded recorded' scanned scanned' : ℕ) → recorded ≡ recorded' → scanned ≡ scanned' → first ≤ old + 2 → second ≤ first + recorded
    → now ≤ second + scanned → now ≤ old + (2 + recorded' + scanned')
scanned_counted old first second now recorded recorded' scanned scanned' same alike few more last = omega (arith, same, alike, few, more, last)

fixed_few : (old now fixed fixed' clusters files : ℕ) → fixed ≡ fixed' → now ≤ old + fixed → now ≤ old + 2 * (fixed' + clusters + files)
fixed_few old now fixed fixed' clusters files same few = omega (arith, same, few)

all_few : (old first now fixed fixed' recorded scanned clusters in_recorded in_scanned files : ℕ) → 1 + recorded + scanned ≤ clusters → in_recorded + in_scanned ≡ files → fixed ≡ fixed'
    → first ≤ old + fixed → now ≤ first + (2 + 2 * (recorded + in_recorded) + 2 * (scanned + in_scanned)) → now ≤ old + 2 * (fixed' + clusters + files)
all_few old first now fixed fixed' recorded scanned clusters in_recorded in_scanned files fits sum same few more = omega (arith, fits, sum, same, few, more)

-- of the fixed blocks
pub fixed_counted : (claims : Claims) (old now fixed : ℕ) → fixed ≡ length claims.fixed → now ≤ old + fixed → now ≤ old + 2 * claimed_runs claims
fixed_counted claims old now fixed same few = fixed_few old now fixed (length claims.fixed) (length claims.clusters) (sum_by run_count claims.files) same few

-- and of all claims behind them
pub all_counted : (claims : Claims) (old first now fixed : ℕ) → is_recorded_cluster claims.clusters claims.root ≡ true → fixed ≡ length claims.fixed → first ≤ old + fixed
    → now ≤ first + rank_steps claims → now ≤ old + 2 * claimed_runs claims
all_counted claims old first now fixed root same few more =
    all_few old first now fixed (length claims.fixed) (length (recorded_clusters claims)) (length (scanned_clusters claims)) (length claims.clusters) (sum_by run_count (recorded_files claims))
    (sum_by run_count (scanned_files claims)) (sum_by run_count claims.files) (room claims root) (files_sum claims) same few more

-- a loop: nothing is counted in front of it, and two more steps for each round
pub none_counted : (old : ℕ) → old ≤ old + 2 * 0
none_counted old = omega arith

pub two_more : (old before now i : ℕ) → before ≤ old + 2 * i → now ≤ before + 2 → now ≤ old + 2 * (i + 1)
two_more old before now i few more = omega (arith, few, more)

pub two_within : (old before now i n : ℕ) → i < n → before ≤ old + 2 * i → now ≤ before + 2 → now ≤ old + 2 * n
two_within old before now i n within few more = omega (arith, within, few, more)

pub some_counted : (old n : ℕ) → old ≤ old + n
some_counted old n = omega arith

-- and so where one step is counted in each
pub not_counted : (old : ℕ) → old ≤ old + 0
not_counted old = omega arith

pub one_more : (old before now i : ℕ) → before ≤ old + i → now ≡ before + 1 → now ≤ old + (i + 1)
one_more old before now i few more = omega (arith, few, more)

pub one_within : (old before now i n : ℕ) → i < n → before ≤ old + i → now ≡ before + 1 → now ≤ old + n
one_within old before now i n within few more = omega (arith, within, few, more)
