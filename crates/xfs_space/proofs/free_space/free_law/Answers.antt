use Rattle.std.proofs.Common.{◌≡◌, ℕ, ◌+◌, ◌*◌, ◌≤◌, List, length, refl, sym, ◌∙◌, ap, subst, arith}
use Rattle.std.specs.List.{All}
use Rattle.std.proofs.lemmas.List.{drop_all}
use Rattle.std.proofs.lemmas.Result.{IfOk-from_err}
use Rattle.xfs_geom.specs.Volumes.{volume_of}
use Rattle.xfs_geom.specs.declared.records.Run.{Run}
use Rattle.xfs_volume.specs.declared.groups.GroupRec.{GroupRec}
use Rattle.xfs_volume.specs.Laws.{first_broken}
use Rattle.xfs_space.specs.SpaceLaws.{free_laws}
use Rattle.xfs_space.specs.Sorted.{IsSplit}
use Rattle.xfs_volume.proofs.First.{first_empty}
use Rattle.xfs_space.proofs.FreeLaws.{apart, follow_low, free_front, law_broken, law_kept, rest_next, rest_whole}
use Rattle.xfs_space.proofs.OwnedRuns.{of_volume}
use Rattle.xfs_space.proofs.Splits.{parts_of}
use Rattle.xfs_space.proofs.free_space.free_law.Goals as goal

pub split_runs-requires-clause-follow : goal.split_runs-requires-clause-follow
split_runs-requires-clause-follow c = follow_low c.loop-index.rest.now 0 (c.loop-index.index * c.args.g.now.agblocks) (omega arith) c.loop-index.invariant.rest.follow

pub split_runs-requires-clause-apart : goal.split_runs-requires-clause-apart
split_runs-requires-clause-apart c =
    apart (volume_of c.args.g.now) c.loop-index.rest.now c.loop-index.index (c.start_of_group.result + c.args.g.now.agblocks) (omega (arith, c.start_of_group.ensures.value))
    c.loop-index.invariant.rest.groups

pub group_free_law-requires-clause-follow : goal.group_free_law-requires-clause-follow
group_free_law-requires-clause-follow c =
    (parts_of (c.loop-index.index * c.args.g.now.agblocks) (c.start_of_group.result + c.args.g.now.agblocks) c.loop-index.rest.now c.split_runs.result.0.now c.split_runs.result.1.now
    c.loop-index.invariant.rest.follow c.split_runs.ensures).follow_front

pub returns-in-Some : goal.returns-in-Some
returns-in-Some c =
    let v = volume_of c.args.g.now in
    let at = c.loop-index.index * c.args.g.now.agblocks in
    let same = free_front v c.loop-index.index at (c.start_of_group.result + c.args.g.now.agblocks) c.args.runs.now c.loop-index.rest.now c.split_runs.result.0.now c.split_runs.result.1.now
    (omega arith) (omega (arith, c.start_of_group.ensures.value)) c.args.g.now.shape.groups.covered c.loop-index.invariant.rest c.split_runs.ensures in
    law_broken v c.loop-index.index c.args.groups.now c.index-groups-index.result c.args.runs.now c.split_runs.result.0.now c.in-Some.law _ c.loop-index-test.true c.index-groups-index.is
    same (sym c.in_ok-law.ensures ∙ c.in-Some.is) c.loop-index.invariant.law

pub loop-index-preserved : goal.loop-index-preserved
loop-index-preserved c =
    let v = volume_of c.args.g.now in
    let at = c.loop-index.index * c.args.g.now.agblocks in
    let end : c.start_of_group.result + c.args.g.now.agblocks ≡ (c.loop-index.index + 1) * c.args.g.now.agblocks = omega (arith, c.start_of_group.ensures.value) in
    let split = subst (λ (n : ℕ). IsSplit n c.loop-index.rest.now c.split_runs.result.0.now c.split_runs.result.1.now) end c.split_runs.ensures in
    let same = free_front v c.loop-index.index at ((c.loop-index.index + 1) * c.args.g.now.agblocks) c.args.runs.now c.loop-index.rest.now c.split_runs.result.0.now c.split_runs.result.1.now
    (omega arith) (omega arith) c.args.g.now.shape.groups.covered c.loop-index.invariant.rest split in
    record {
      law = law_kept v c.loop-index.index c.args.groups.now c.index-groups-index.result c.args.runs.now c.split_runs.result.0.now _ c.loop-index-test.true c.index-groups-index.is
          same (sym c.in_ok-law.ensures ∙ c.in-None.is) c.loop-index.invariant.law;
      rest = rest_next v at ((c.loop-index.index + 1) * c.args.g.now.agblocks) c.args.runs.now c.loop-index.rest.now c.split_runs.result.0.now c.split_runs.result.1.now
          (omega arith) c.loop-index.invariant.rest split;
    }

pub returns : goal.returns
returns c =
    sym first_empty
    ∙ ap (λ (gs : List GroupRec). first_broken (free_laws (volume_of c.args.g.now) c.args.runs.now c.loop-index.index gs)) (sym (drop_all c.loop-index.index c.args.groups.now c.loop-index-test.false))
    ∙ c.loop-index.invariant.law

pub loop-index-init : goal.loop-index-init
loop-index-init c = record { law = refl; rest = rest_whole (volume_of c.args.g.now) (0 * c.args.g.now.agblocks) c.args.runs.now (omega arith) c.requires.follow c.requires.groups }

pub start_of_group-requires : goal.start_of_group-requires
start_of_group-requires c = of_volume c.loop-index.index (length c.args.groups.now) c.args.g.now.agcount c.loop-index-test.true c.requires.count

pub group_free_law-requires-clause-group : goal.group_free_law-requires-clause-group
group_free_law-requires-clause-group c = of_volume c.loop-index.index (length c.args.groups.now) c.args.g.now.agcount c.loop-index-test.true c.requires.count

pub group_free_law-requires-clause-inside : goal.group_free_law-requires-clause-inside
group_free_law-requires-clause-inside c =
    let end : c.start_of_group.result + c.args.g.now.agblocks ≡ (c.loop-index.index + 1) * c.args.g.now.agblocks = omega (arith, c.start_of_group.ensures.value) in
    subst (λ (n : ℕ). All (λ (r : Run). r.start + r.count ≤ n) c.split_runs.result.0.now) end c.split_runs.ensures.before

pub returns-in_err-law : goal.returns-in_err-law
returns-in_err-law c = IfOk-from_err c.from_residual.result _ c.from_residual.ensures.0
