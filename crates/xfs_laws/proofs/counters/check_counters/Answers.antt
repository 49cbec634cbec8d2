use Rattle.std.proofs.Common.{sym, ap, ◌∙◌}
use Rattle.xfs_geom.specs.Volumes.{volume_of}
use Rattle.xfs_volume.specs.Laws.{first_broken}
use Rattle.xfs_volume.proofs.First.{first_behind, first_in}
use Rattle.xfs_laws.specs.Counting.{by_group, group_counts, volume_counts}
use Rattle.xfs_laws.proofs.counters.check_counters.Goals as goal

pub check_groups-requires : goal.check_groups-requires
check_groups-requires c = c.requires

pub volume_counts-requires : goal.volume_counts-requires
volume_counts-requires c = c.requires

pub returns-in-Some : goal.returns-in-Some
returns-in-Some c =
    let groups = c.args.groups.now in
    sym (first_in (by_group group_counts 0 groups) (volume_counts (volume_of c.args.g.now) groups c.args.counts.now) c.in-Some.law
    (sym c.check_groups.ensures ∙ c.in-Some.is))

pub returns-in-None : goal.returns-in-None
returns-in-None c =
    let groups = c.args.groups.now in
    c.first_broken.ensures
    ∙ (ap first_broken c.volume_counts.ensures
    ∙ sym (first_behind (by_group group_counts 0 groups) (volume_counts (volume_of c.args.g.now) groups c.args.counts.now)
    (sym c.check_groups.ensures ∙ c.in-None.is)))
