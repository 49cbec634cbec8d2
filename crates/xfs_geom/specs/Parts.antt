-- What the stated numbers keep once shape words 8 to 13 are right.
use Rattle.std.specs.Prelude.{◌+◌, ◌<◌, ◌≤◌, ◌==◌, ◌||◌, IsTrue}
use Rattle.xfs_geom.specs.Groups.{blocks_of_group, group_of_address, ag_block_of_address}
use Rattle.xfs_geom.specs.Shape.{HasGroups, HasAddresses}
use Rattle.xfs_geom.specs.declared.stated.Stated.{Stated}

-- the log lies inside one group, behind its first block, by its address
pub record HasLogAt (v : Stated) : Type 0 where
  pub large : 512 ≤ v.logblocks
  pub small : v.logblocks ≤ 521728
  pub group : group_of_address v.agblklog v.logstart < v.agcount
  pub behind : 1 ≤ ag_block_of_address v.agblklog v.logstart
  pub inside : ag_block_of_address v.agblklog v.logstart + v.logblocks
      ≤ blocks_of_group v.dblocks v.agblocks v.agcount (group_of_address v.agblklog v.logstart)

-- groups, addresses and log are within their bounds
pub record HasParts (v : Stated) : Type 0 where
  pub groups : HasGroups v.dblocks v.agblocks v.agcount
  pub addresses : HasAddresses v.agblocks v.agblklog
  pub log_at : HasLogAt v
  pub log_sectors : IsTrue (v.logsectlog == 0 || v.logsectlog == 9)
