use Rattle.std.proofs.Common.{◌++◌, List, length, sym, ◌∙◌, ap, subst}
use Rattle.std.specs.List.{All}
use Rattle.xfs_geom.specs.declared.records.Run.{Run}
use Rattle.xfs_kinds.specs.MergedRuns.{held_at}
use Rattle.xfs_place.specs.Choice.{group_claimed}
use Rattle.xfs_place.specs.Claims.{ClaimedOnce, IsClaimedRun}
use Rattle.xfs_place.specs.Placing.{tree_claims}
use Rattle.xfs_place.proofs.TreeRuns.{owned_apart, owned_each, owned_held}
use Rattle.xfs_place.proofs.owned.list_owned.Goals as goal

pub returns : goal.returns
returns c = λ uses long is are low.
    let claims = c.args.claims.now in
    let blocks = c.args.blocks.now in
    let g = group_claimed uses claims c.args.inner in
    let all = claims ++ tree_claims g c.args.space blocks (length blocks) in
    let runs = c.in_ok-runs.runs.items in
    let same = c.in_ok-runs.ensures uses in
    let apart : ClaimedOnce runs = subst ClaimedOnce (sym same) (owned_apart uses claims c.args.inner c.args.space is are blocks low) in
    let each : All (IsClaimedRun (length uses)) runs = subst (All (IsClaimedRun (length uses))) (sym same) (owned_each uses claims c.args.inner c.args.space is are blocks low) in
    record {
      claims = c.in_ok-sort_runs.ensures.ascend (length uses) long apart each;
      held = λ b h. c.in_ok-sort_runs.ensures.held apart b ∙ ap (λ (rs : List Run). held_at rs b) same ∙ owned_held uses claims c.args.inner c.args.space is are blocks low b;
    }
