use Rattle.std.proofs.Common.{◌≡◌, Some, None, append_assoc, sym, ◌∙◌, ap, ◌++◌}
use Rattle.std.proofs.lemmas.Result.{IfOk-from_err}
use Rattle.xfs_geom.specs.Volumes.{volume_of}
use Rattle.xfs_volume.specs.declared.findings.Law.{Law}
use Rattle.xfs_volume.specs.Laws.{first_broken}
use Rattle.xfs_space.specs.SpaceLaws.{free_laws, owner_laws, recorded_runs, sharing_laws}
use Rattle.xfs_volume.proofs.First.{first_behind, first_in}
use Rattle.xfs_space.proofs.Shared.{all_sized, follow_once}
use Rattle.xfs_space.proofs.checking.runs_law.Goals as goal

pub returns-in-Some-clause-law : goal.returns-in-Some-clause-law
returns-in-Some-clause-law c =
    let v = volume_of c.args.g.now in
    let sharing = sharing_laws v c.args.runs.now in
    let frees = free_laws v c.args.runs.now 0 c.args.groups.now in
    let owners = owner_laws v (recorded_runs c.args.g.now.agblocks 0 c.args.groups.now) c.args.runs.now in
    sym (ap first_broken (append_assoc sharing frees owners) ∙ first_in sharing (frees ++ owners) c.in-Some.law (sym (c.in-Some.ensures.law v c.requires.owned)))

pub returns-in_ok-law-in-None-clause-law : goal.returns-in_ok-law-in-None-clause-law
returns-in_ok-law-in-None-clause-law c =
    let v = volume_of c.args.g.now in
    let sharing = sharing_laws v c.args.runs.now in
    let frees = free_laws v c.args.runs.now 0 c.args.groups.now in
    let owners = owner_laws v (recorded_runs c.args.g.now.agblocks 0 c.args.groups.now) c.args.runs.now in
    c.in_ok-law-in-None.ensures.law
    ∙ sym (ap first_broken (append_assoc sharing frees owners) ∙ first_behind sharing (frees ++ owners) (sym (c.in-None.ensures.law v c.requires.owned)))

pub returns-in_ok-law-in-None-clause-lawful : goal.returns-in_ok-law-in-None-clause-lawful
returns-in_ok-law-in-None-clause-lawful c none =
    let trees = c.in_ok-law-in-None.ensures.lawful none in
    record { once = follow_once c.args.runs.now 0 c.in-None.ensures.apart; free = trees.0; owners = trees.1 }

pub sharing_law-requires-clause-rise : goal.sharing_law-requires-clause-rise
sharing_law-requires-clause-rise c = c.requires.rise

pub sharing_law-requires-clause-sized : goal.sharing_law-requires-clause-sized
sharing_law-requires-clause-sized c = all_sized (volume_of c.args.g.now) c.args.runs.now c.args.g.now.shape.groups.small c.requires.owned

pub trees_law-requires-clause-count : goal.trees_law-requires-clause-count
trees_law-requires-clause-count c = c.requires.count

pub trees_law-requires-clause-lawful : goal.trees_law-requires-clause-lawful
trees_law-requires-clause-lawful c = c.requires.lawful

pub trees_law-requires-clause-follow : goal.trees_law-requires-clause-follow
trees_law-requires-clause-follow c = c.in-None.ensures.apart

pub trees_law-requires-clause-owned : goal.trees_law-requires-clause-owned
trees_law-requires-clause-owned c = c.requires.owned

pub trees_law-requires-clause-groups : goal.trees_law-requires-clause-groups
trees_law-requires-clause-groups c = c.requires.groups

no_law : (law : Law) → Some law ≡ None → ⊥
no_law law e = cc

pub returns-in-Some-clause-lawful : goal.returns-in-Some-clause-lawful
returns-in-Some-clause-lawful c none = absurd (no_law c.in-Some.law none)

pub returns-in_err-law-in-None-clause-law : goal.returns-in_err-law-in-None-clause-law
returns-in_err-law-in-None-clause-law c = IfOk-from_err c.from_residual.result _ c.from_residual.ensures.0

pub returns-in_err-law-in-None-clause-lawful : goal.returns-in_err-law-in-None-clause-lawful
returns-in_err-law-in-None-clause-lawful c = IfOk-from_err c.from_residual.result _ c.from_residual.ensures.0
