-- What is left to write of a plan: the blocks that an image does not hold already.
use Rattle.std.specs.Prelude.{Bool, not, List, [], filter, slice_index_or}
use Rattle.std.specs.Str.{bytes_eq}
use Rattle.xfs_disk.specs.Blocks.{Image, bytes_of_block}
use Rattle.xfs_writing.specs.declared.rows.Row.{Row}

-- the image has other bytes at the row's block than the bank has for it
abbrev pub differs : Image → Image → Row → Bool
differs bank image r = not (bytes_eq (bytes_of_block image r.at) (slice_index_or bank r.index []))

abbrev pub left_to_write : Image → Image → List Row → List Row
left_to_write bank image rows = filter (differs bank image) rows
