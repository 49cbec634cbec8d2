use Rattle.std.proofs.Common.{◌^◌, ◌≤◌, arith}
use Rattle.xfs_laws.proofs.Roots.{root_low}
use Rattle.xfs_laws.proofs.verdict.judge_names.Goals as goal

pub check_names-requires-clause-low : goal.check_names-requires-clause-low
check_names-requires-clause-low c =
    let g = c.args.catalog.now.geometry in
    let some : 1 ≤ 2 ^ g.agblklog = omega (arith, g.shape.addresses.enough, g.shape.groups.large) in
    root_low g.agcount g.agblocks (2 ^ g.agblklog) g.dblocks g.rootino g.shape.groups.two g.shape.groups.last g.shape.groups.small
    g.shape.addresses.least some g.shape.root.group
