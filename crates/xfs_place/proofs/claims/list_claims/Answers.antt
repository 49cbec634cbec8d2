use Rattle.std.proofs.Common.{◌++◌, List, sym, ◌∙◌, ap, subst, arith}
use Rattle.std.specs.List.{All}
use Rattle.std.proofs.lemmas.List.Sorted.{All-permutation}
use Rattle.xfs_geom.specs.Volumes.{volume_of}
use Rattle.xfs_geom.specs.declared.records.Run.{Run}
use Rattle.xfs_kinds.specs.MergedRuns.{held_at}
use Rattle.xfs_place.specs.Claims.{ClaimedOnce, IsClaimedRun}
use Rattle.xfs_place.specs.Wanted.{StaysInGroup}
use Rattle.xfs_place.proofs.AllClaims.{IsVolume, all_apart, all_each, all_stay, is_volume}
use Rattle.xfs_place.proofs.claims.list_claims.Goals as goal

pub returns : goal.returns
returns c =
    let g = c.args.g.now in
    let v = volume_of g in
    let kept = c.args.kept.now in
    let is : IsVolume v = is_volume v g.shape.groups g.shape.log_inside in
    let all = c.extend_from_slice.new.self.items in
    let sorted = c.in_ok-sort_runs.field-0.items in
    let same = c.in_ok-extend_from_slice.ensures.items ∙ ap (λ (rs : List Run). rs ++ kept) c.in_ok-claims.ensures in
    let apart : ClaimedOnce all = subst ClaimedOnce (sym same) (all_apart v is kept c.requires) in
    let each : All (IsClaimedRun v.dblocks) all = subst (All (IsClaimedRun v.dblocks)) (sym same) (all_each v is kept c.requires) in
    let stay : All (StaysInGroup v) all = subst (All (StaysInGroup v)) (sym same) (all_stay v is kept c.requires) in
    record {
      claims' = c.in_ok-sort_runs.ensures.ascend v.dblocks (omega (arith, g.shape.groups.small)) apart each;
      held = λ b. c.in_ok-sort_runs.ensures.held apart b ∙ ap (λ (rs : List Run). held_at rs b) same;
      stay = All-permutation (StaysInGroup v) all sorted c.in_ok-sort_runs.ensures.same stay;
    }
