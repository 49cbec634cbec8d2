-- Extents of a file, packed into 16 bytes. From the chapter "Data Extents" of "XFS Algorithms and Data Structures".
use Rattle.std.specs.Prelude.{ℕ, ◌+◌, ◌*◌, ◌^◌, ◌<◌, List, if◌then◌else◌}
use Rattle.byteorder.specs.Endian.{big_bytes}
use Rattle.xfs_word.specs.declared.extents.Extent.{Extent}

-- the numbers of an extent fit its packed form: 54 bits of file offset, 52 of start and 21 of count, all in blocks
pub record IsPackable (extent : Extent) : Type 0 where
  pub offset : extent.offset < 2 ^ 54
  pub start : extent.start < 2 ^ 52
  pub count : extent.count < 2 ^ 21

-- an extent as one number of 128 bits: from the top the unwritten bit, the offset, the start and the count
unfoldable pub extent_number : Extent → ℕ
extent_number extent =
    (((if extent.unwritten then 1 else 0) * 2 ^ 54 + extent.offset) * 2 ^ 52 + extent.start) * 2 ^ 21 + extent.count

-- an extent in its 16 bytes, big-endian
unfoldable pub packed : Extent → List ℕ
packed extent = big_bytes 16 (extent_number extent)
