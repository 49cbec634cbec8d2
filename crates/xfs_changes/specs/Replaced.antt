-- The blocks that directories that are built anew give up.
use Rattle.std.specs.Prelude.{ℕ, if◌then◌else◌, List, [], ◌++◌}
use Rattle.std.specs.List.{flat_map, range_with_len}
use Rattle.xfs_disk.specs.Lists.{is_among}
use Rattle.xfs_word.specs.declared.extents.Extent.{Extent}
use Rattle.xfs_geom.specs.Groups.{block_of_address}
use Rattle.xfs_geom.specs.Volumes.{Volume}
use Rattle.xfs_volume.specs.declared.files.FileRec.{FileRec}

-- the blocks of an extent, and those of the data of a file
abbrev pub numbers_of_extent : Volume → Extent → List ℕ
numbers_of_extent v e = range_with_len (block_of_address v.agblocks v.agblklog e.start) e.count

abbrev pub blocks_of_data : Volume → FileRec → List ℕ
blocks_of_data v f = flat_map (numbers_of_extent v) f.extents ++ f.rest.tree

abbrev pub blocks_replaced : Volume → List ℕ → FileRec → List ℕ
blocks_replaced v rebuilt f = if is_among rebuilt f.ino then blocks_of_data v f else []

unfoldable pub replaced_blocks : Volume → List ℕ → List FileRec → List ℕ
replaced_blocks v rebuilt files = flat_map (blocks_replaced v rebuilt) files
