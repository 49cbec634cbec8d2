-- The headers of a group as they read.
use Rattle.std.specs.Prelude.{ℕ, List}
use Rattle.std.specs.Option.{option_and_then}
use Rattle.xfs_word.specs.Field.{part_of}
use Rattle.xfs_disk.specs.Blocks.{Image, bytes_of_block}
use Rattle.xfs_geom.specs.Volumes.{Volume}
use Rattle.xfs_heads.specs.FreeList.{agfl_of}
use Rattle.xfs_heads.specs.FreeSpace.{agf_of}
use Rattle.xfs_heads.specs.Inodes.{agi_of}
use Rattle.xfs_image.specs.Groups.{head_block}
use Rattle.xfs_groups.specs.declared.heads.Heads.{Heads}

-- the headers in the first block of a group
abbrev pub heads_of : Volume → ℕ → List ℕ → Heads
heads_of v ag block = record {
  agf = agf_of v ag (part_of block 512 512);
  agi = agi_of v ag (part_of block 1024 512);
  agfl = option_and_then (λ agf. agfl_of v ag agf (part_of block 1536 512)) (agf_of v ag (part_of block 512 512));
}

abbrev pub heads_at : Volume → Image → ℕ → Heads
heads_at v image ag = heads_of v ag (bytes_of_block image (head_block v ag))
