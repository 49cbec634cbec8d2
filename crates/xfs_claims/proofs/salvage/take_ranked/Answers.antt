use Rattle.std.proofs.Common.{ℕ, List, length, sym, ap, ◌∙◌, subst}
use Rattle.std.specs.List.{All}
use Rattle.std.proofs.lemmas.List.Elements.{recursion_from_All}
use Rattle.std.proofs.lemmas.Result.{IfOk-from_err}
use Rattle.xfs_geom.specs.declared.records.Run.{Run}
use Rattle.xfs_volume.specs.declared.clusters.ClusterRec.{ClusterRec}
use Rattle.xfs_claims.specs.Spans.{spans_of, SpansApart, IsRun}
use Rattle.xfs_claims.specs.Keeping.{Holding, EndsLow, fixed_alone}
use Rattle.xfs_claims.specs.Ranks.{first_block, is_other_recorded, is_scanned_cluster}
use Rattle.xfs_claims.specs.Private.Ranked.{kept_from}
use Rattle.xfs_claims.proofs.Budget.{root_ends, ordered_end}
use Rattle.xfs_claims.proofs.Counted.{fixed_counted, all_counted}
use Rattle.xfs_claims.proofs.salvage.take_ranked.Goals as goal

pub with_fixed-requires-clause-runs : goal.with_fixed-requires-clause-runs
with_fixed-requires-clause-runs g c = subst (λ (x : List Run). All IsRun x) (sym c.as_slice.ensures) c.requires.fixed_runs

pub with_fixed-requires-clause-apart : goal.with_fixed-requires-clause-apart
with_fixed-requires-clause-apart g c = subst (λ (x : List Run). SpansApart (spans_of x)) (sym c.as_slice.ensures) c.requires.fixed_apart

pub keep_ranked-requires-clause-root : goal.keep_ranked-requires-clause-root
keep_ranked-requires-clause-root g c =
    root_ends c.args.claims.now.root c.args.claims.now.clusters (recursion_from_All (λ (x : ClusterRec). EndsLow (first_block x)) c.args.claims.now.clusters c.requires.clusters_end) c.requires.root

pub keep_ranked-requires-clause-recorded : goal.keep_ranked-requires-clause-recorded
keep_ranked-requires-clause-recorded g c =
    subst (λ (x : List ℕ). All EndsLow x) (sym c.requires.ranked.recorded)
    (ordered_end (is_other_recorded c.args.claims.now.root) c.args.claims.now.clusters c.requires.clusters_end)

pub keep_ranked-requires-clause-scanned : goal.keep_ranked-requires-clause-scanned
keep_ranked-requires-clause-scanned g c =
    subst (λ (x : List ℕ). All EndsLow x) (sym c.requires.ranked.scanned) (ordered_end is_scanned_cluster c.args.claims.now.clusters c.requires.clusters_end)

pub keep_ranked-requires-clause-files_claim : goal.keep_ranked-requires-clause-files_claim
keep_ranked-requires-clause-files_claim g c = c.requires.files_claim

pub keep_ranked-requires-clause-ranked : goal.keep_ranked-requires-clause-ranked
keep_ranked-requires-clause-ranked g c = c.requires.ranked

pub returns-in_err-taken-clause-kept : goal.returns-in_err-taken-clause-kept
returns-in_err-taken-clause-kept g c = IfOk-from_err c.from_residual.result _ c.from_residual.ensures.0

pub returns-in_err-taken-clause-ticks : goal.returns-in_err-taken-clause-ticks
returns-in_err-taken-clause-ticks g c =
    fixed_counted c.args.claims.now _ _ _ (ap (λ (x : List Run). length x) c.as_slice.ensures) c.in_err-taken.ensures.ticks

pub returns-in_err-keep_ranked-clause-kept : goal.returns-in_err-keep_ranked-clause-kept
returns-in_err-keep_ranked-clause-kept g c = IfOk-from_err c.from_residual-in_err-keep_ranked.result _ c.from_residual-in_err-keep_ranked.ensures.0

pub returns-in_err-keep_ranked-clause-ticks : goal.returns-in_err-keep_ranked-clause-ticks
returns-in_err-keep_ranked-clause-ticks g c =
    all_counted c.args.claims.now _ _ _ _ c.requires.root (ap (λ (x : List Run). length x) c.as_slice.ensures) c.in_ok-taken.ensures.ticks c.in_err-keep_ranked.ensures.ticks

pub returns-clause-kept : goal.returns-clause-kept
returns-clause-kept g c =
    c.in_ok-keep_ranked.ensures.held
    ∙ ap (λ (h : Holding). kept_from h c.args.claims.now) (c.in_ok-taken.ensures.held ∙ ap (λ (x : List Run). fixed_alone (spans_of x)) c.as_slice.ensures)

pub returns-clause-ticks : goal.returns-clause-ticks
returns-clause-ticks g c =
    all_counted c.args.claims.now _ _ _ _ c.requires.root (ap (λ (x : List Run). length x) c.as_slice.ensures) c.in_ok-taken.ensures.ticks c.in_ok-keep_ranked.ensures.ticks
