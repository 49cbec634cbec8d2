-- What a superblock states of its volume, and the tests of its shape (chapter "Superblocks").
use Rattle.std.specs.Prelude.{ℕ, Bool, ◌+◌, ◌-◌, ◌*◌, ◌/◌, ◌%◌, ◌^◌, ◌==◌, ◌&&◌, ◌||◌, nat_le, nat_lt, List, [], ◌∷◌, Option}
use Rattle.xfs_word.specs.Field.{field_of}
use Rattle.xfs_geom.specs.First.{first_false}
use Rattle.xfs_geom.specs.Groups.{blocks_of_group, group_of_address, ag_block_of_address, block_of_address, address_of_inode}
use Rattle.xfs_geom.specs.Shape.{chunk_of, is_off_log}
use Rattle.xfs_geom.specs.declared.stated.Stated.{Stated}

-- the numbers that a superblock states
abbrev pub stated : List ℕ → Stated
stated sector = record {
  dblocks = field_of sector 8 8;
  logstart = field_of sector 48 8;
  rootino = field_of sector 56 8;
  rbmino = field_of sector 64 8;
  rsumino = field_of sector 72 8;
  agblocks = field_of sector 84 4;
  agcount = field_of sector 88 4;
  logblocks = field_of sector 96 4;
  agblklog = field_of sector 124 1;
  inprogress = field_of sector 126 1;
  logsectlog = field_of sector 193 1;
  logsectsize = field_of sector 194 2;
}

-- the number of the log's first block
abbrev pub stated_log : Stated → ℕ
stated_log v = block_of_address v.agblocks v.agblklog v.logstart

-- dblocks is within its bounds and those of the groups
abbrev pub is_filled : Stated → Bool
is_filled v = nat_le v.dblocks (2 ^ 26) && nat_le v.dblocks (v.agcount * v.agblocks) && nat_le ((v.agcount - 1) * v.agblocks + 64) v.dblocks

-- agblklog is the least number of bits that hold an AG block; no group has more than 2^26 of them
abbrev pub has_addresses : Stated → Bool
has_addresses v = nat_le v.agblklog 26 && nat_le v.agblocks (2 ^ v.agblklog) && nat_lt (2 ^ v.agblklog) (2 * v.agblocks)

-- the log's sectors are stated as none or as 512 bytes
abbrev pub has_log_sectors : Stated → Bool
has_log_sectors v = (v.logsectlog == 0 && v.logsectsize == 0) || (v.logsectlog == 9 && v.logsectsize == 512)

-- the log has 512 to 521,728 blocks inside one group, from AG block 1 or later on
abbrev pub has_log : Stated → Bool
has_log v =
    nat_le 512 v.logblocks && nat_le v.logblocks 521728
    && nat_lt (group_of_address v.agblklog v.logstart) v.agcount
    && nat_le 1 (ag_block_of_address v.agblklog v.logstart)
    && nat_le (ag_block_of_address v.agblklog v.logstart + v.logblocks) (blocks_of_group v.dblocks v.agblocks v.agcount (group_of_address v.agblklog v.logstart))

-- The root inode and the two after it lie in one cluster, inside a chunk of the volume that does not
-- begin at AG block 0; the cluster is clear of the log.
abbrev pub has_root : Stated → Bool
has_root v =
    nat_le (v.rootino % 32) 29
    && nat_lt (group_of_address v.agblklog (address_of_inode v.rootino)) v.agcount
    && nat_le 8 (ag_block_of_address v.agblklog (address_of_inode v.rootino))
    && nat_le (chunk_of (ag_block_of_address v.agblklog (address_of_inode v.rootino)) + 8) (blocks_of_group v.dblocks v.agblocks v.agcount (group_of_address v.agblklog (address_of_inode v.rootino)))
    && is_off_log (block_of_address v.agblocks v.agblklog (v.rootino / 32 * 4)) (stated_log v) v.logblocks

-- a system inode stands behind the root, or in a backup may be left out as all ones
abbrev pub is_system_inode : ℕ → ℕ → ℕ → Bool
is_system_inode place due ino = ino == due || (nat_lt 0 place && ino == 2 ^ 64 - 1)

-- shape words 8 to 13, with whether they hold: those of the volume's parts
abbrev pub parts_tests : Stated → List (ℕ × Bool)
parts_tests v =
    (8, nat_le 2 v.agcount && nat_le v.agcount 512) ∷ (9, nat_le 1024 v.agblocks) ∷ (10, is_filled v) ∷ (11, has_addresses v)
    ∷ (12, has_log_sectors v) ∷ (13, has_log v) ∷ []

-- the first of shape words 8 to 13 that fails
unfoldable pub parts_fault : Stated → Option ℕ
parts_fault v = first_false (parts_tests v)

-- shape words 14 to 18, with whether they hold: those of the superblock's place, the image's blocks and the first inodes
abbrev pub shape_tests : Stated → ℕ → ℕ → List (ℕ × Bool)
shape_tests v place blocks =
    (14, place % v.agblocks == 0 && nat_lt place v.dblocks) ∷ (15, nat_le v.dblocks blocks) ∷ (16, has_root v)
    ∷ (17, is_system_inode place (v.rootino + 1) v.rbmino) ∷ (18, is_system_inode place (v.rootino + 2) v.rsumino) ∷ []

-- the first of shape words 14 to 18 that fails
unfoldable pub first_place_fault : Stated → ℕ → ℕ → Option ℕ
first_place_fault v place blocks = first_false (shape_tests v place blocks)
