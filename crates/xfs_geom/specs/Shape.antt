-- What the numbers of an accepted geometry keep.
use Rattle.std.specs.Prelude.{ℕ, Bool, ◌+◌, ◌-◌, ◌*◌, ◌/◌, ◌%◌, ◌^◌, ◌≤◌, ◌<◌, ◌==◌, ◌||◌, nat_le, IsTrue}
use Rattle.xfs_geom.specs.Groups.{blocks_of_group, group_of_address, ag_block_of_address, block_of_address, address_of_inode}

-- the groups fill the volume, and the last has at least 64 blocks
pub record HasGroups (dblocks agblocks agcount : ℕ) : Type 0 where
  pub two : 2 ≤ agcount
  pub few : agcount ≤ 512
  pub large : 1024 ≤ agblocks
  pub small : dblocks ≤ 2 ^ 26
  pub covered : dblocks ≤ agcount * agblocks
  pub last : (agcount - 1) * agblocks + 64 ≤ dblocks

-- agblklog is the least number of bits that hold an AG block
pub record HasAddresses (agblocks agblklog : ℕ) : Type 0 where
  pub short : agblklog ≤ 26
  pub enough : agblocks ≤ 2 ^ agblklog
  pub least : 2 ^ agblklog < 2 * agblocks

-- the log lies inside one group, behind its first block, and has at most 2038 MiB
pub record HasLog (dblocks agblocks agcount log logblocks : ℕ) : Type 0 where
  pub large : 512 ≤ logblocks
  pub small : logblocks ≤ 521728
  pub group : log / agblocks < agcount
  pub behind : 1 ≤ log % agblocks
  pub inside : log % agblocks + logblocks ≤ blocks_of_group dblocks agblocks agcount (log / agblocks)

-- the first AG block of the chunk of eight blocks that an AG block is of
abbrev pub chunk_of : ℕ → ℕ
chunk_of block = block / 8 * 8

-- four blocks lie before the log or behind it
abbrev pub is_off_log : ℕ → ℕ → ℕ → Bool
is_off_log cluster log logblocks = nat_le (cluster + 4) log || nat_le (log + logblocks) cluster

-- The root inode and the two after it lie in one cluster, inside a chunk of the volume that does not
-- begin at AG block 0; the cluster is clear of the log.
pub record HasRoot (dblocks agblocks agcount agblklog log logblocks rootino : ℕ) : Type 0 where
  pub slot : rootino % 32 ≤ 29
  pub group : group_of_address agblklog (address_of_inode rootino) < agcount
  pub behind : 8 ≤ ag_block_of_address agblklog (address_of_inode rootino)
  pub inside : chunk_of (ag_block_of_address agblklog (address_of_inode rootino)) + 8
      ≤ blocks_of_group dblocks agblocks agcount (group_of_address agblklog (address_of_inode rootino))
  pub apart : IsTrue (is_off_log (block_of_address agblocks agblklog (rootino / 32 * 4)) log logblocks)

-- what the numbers of an accepted geometry keep
pub record IsShaped (dblocks agblocks agcount agblklog log logblocks rootino logsectlog : ℕ) : Type 0 where
  pub groups : HasGroups dblocks agblocks agcount
  pub addresses : HasAddresses agblocks agblklog
  pub log_inside : HasLog dblocks agblocks agcount log logblocks
  pub root : HasRoot dblocks agblocks agcount agblklog log logblocks rootino
  pub log_sectors : IsTrue (logsectlog == 0 || logsectlog == 9)
