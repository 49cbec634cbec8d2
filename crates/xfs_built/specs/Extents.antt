-- Runs of blocks as extents (chapter "Data Extents").
use Rattle.std.specs.Prelude.{false}
use Rattle.xfs_word.specs.declared.extents.Extent.{Extent}
use Rattle.xfs_geom.specs.Conversions.{address_of}
use Rattle.xfs_geom.specs.Volumes.{Volume}
use Rattle.xfs_geom.specs.declared.records.Run.{Run}

-- a run as an extent of its file
abbrev pub extent_of_run : Volume → Run → Extent
extent_of_run v r = record { offset = r.offset_word; start = address_of v r.start; count = r.count; unwritten = false }
