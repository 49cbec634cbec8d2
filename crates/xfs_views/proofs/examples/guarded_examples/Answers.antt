use Rattle.std.proofs.Common.{ℕ, List, [], ◌∷◌, refl}
use Rattle.std.proofs.lemmas.Bool.{or_from, true≢false}
use Rattle.xfs_claims.specs.Spans.{spans_of}
use Rattle.xfs_views.specs.Examples.{blocks, header_and_log}
use Rattle.xfs_views.proofs.Apart.{apart_by_runs, run_apart}
use Rattle.xfs_views.proofs.examples.guarded_examples.Goals as goal

abbrev own : List (ℕ × ℕ)
own = spans_of (blocks 30 2 ∷ blocks 33 1 ∷ [])

abbrev other : List (ℕ × ℕ)
other = spans_of (blocks 50 2 ∷ [])

pub returns-clause-guarded : goal.returns-clause-guarded
returns-clause-guarded c = record {
  unfixed = apart_by_runs own (spans_of header_and_log) refl;
  outside = apart_by_runs own ((16, 4) ∷ (20, 4) ∷ []) refl;
  alone = λ block on. or_from _ _ (apart_by_runs own other refl block on) refl;
  cluster_unfixed = λ block on. run_apart (16, 4) (spans_of header_and_log) block refl on;
  cluster_unclaimed = λ block on. or_from _ _ (run_apart (16, 4) own block refl on) (or_from _ _ (run_apart (16, 4) other block refl on) refl);
}

pub returns-clause-on_fixed : goal.returns-clause-on_fixed
returns-clause-on_fixed c = λ guarded. true≢false (guarded.unfixed 41 refl)

pub returns-clause-on_cluster : goal.returns-clause-on_cluster
returns-clause-on_cluster c = λ guarded. true≢false (guarded.outside 22 refl)

pub returns-clause-on_own_cluster : goal.returns-clause-on_own_cluster
returns-clause-on_own_cluster c = λ guarded. true≢false (guarded.outside 18 refl)

pub returns-clause-on_other : goal.returns-clause-on_other
returns-clause-on_other c = λ guarded. true≢false (guarded.alone 31 refl)

pub returns-clause-cluster_fixed : goal.returns-clause-cluster_fixed
returns-clause-cluster_fixed c = λ guarded. true≢false (guarded.cluster_unfixed 45 refl)

pub returns-clause-cluster_claimed : goal.returns-clause-cluster_claimed
returns-clause-cluster_claimed c = λ guarded. true≢false (guarded.cluster_unclaimed 17 refl)
