use Rattle.std.proofs.Common.{List, sym, subst}
use Rattle.std.specs.List.{All, flat_map}
use Rattle.xfs_kinds.specs.Owners.{log_owner}
use Rattle.xfs_geom.specs.Volumes.{volume_of}
use Rattle.xfs_geom.specs.declared.records.Run.{Run}
use Rattle.xfs_space.specs.Owners.{file_runs, groups_runs, owned_runs, new_run}
use Rattle.xfs_space.specs.Sorted.{IsOfOneGroup, IsOwned}
use Rattle.xfs_space.proofs.GoodRuns.{good_all, groups_of, owned_of}
use Rattle.xfs_space.proofs.OwnedRuns.{joined}
use Rattle.xfs_space.proofs.owners.owned_runs.Goals as goal

pub returns-clause-all : goal.returns-clause-all
unfolding owned_runs
returns-clause-all c =
    joined c.in_ok-runs.runs.items c.push_groups.new.runs.items c.push_run.new.runs.items c.push_files.new.runs.items (groups_runs c.args.g.now.agblocks 0 c.args.groups.now)
    (flat_map (file_runs (volume_of c.args.g.now)) c.args.files.now) (new_run c.args.g.now.log c.args.g.now.logblocks log_owner 0) c.in_ok-runs.ensures c.in_ok-push_groups.ensures
    c.in_ok-push_run.ensures c.in_ok-push_files.ensures.put

pub returns-clause-inside : goal.returns-clause-inside
returns-clause-inside c =
    let v = volume_of c.args.g.now in
    subst (λ (rs : List Run). All (IsOwned v) rs) (sym (returns-clause-all c))
    (owned_of v (owned_runs v c.args.groups.now c.args.files.now)
    (good_all c.args.g.now c.args.groups.now c.args.files.now c.requires.count c.requires.groups c.requires.files c.in_ok-push_files.ensures.small))

pub returns-clause-groups : goal.returns-clause-groups
returns-clause-groups c =
    let v = volume_of c.args.g.now in
    subst (λ (rs : List Run). All (IsOfOneGroup v) rs) (sym (returns-clause-all c))
    (groups_of v (owned_runs v c.args.groups.now c.args.files.now)
    (good_all c.args.g.now c.args.groups.now c.args.files.now c.requires.count c.requires.groups c.requires.files c.in_ok-push_files.ensures.small))
