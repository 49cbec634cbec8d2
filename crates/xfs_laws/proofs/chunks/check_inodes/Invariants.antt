use Rattle.std.proofs.Common.{◌≡◌, drop}
use Rattle.xfs_geom.specs.Volumes.{volume_of}
use Rattle.xfs_volume.specs.Laws.{first_broken}
use Rattle.xfs_laws.specs.Counting.{by_group, group_chunks}
use Rattle.xfs_laws.proofs.chunks.check_inodes.Given as goal

abbrev pub invariant-loop-group : goal.invariant-loop-group
invariant-loop-group l =
    let laws = group_chunks (volume_of l.g) l.files in record {
      number : l.ag ≡ l.group-index;
      left : first_broken (by_group laws l.ag (drop l.group-index l.groups)) ≡ first_broken (by_group laws 0 l.groups);
    }
