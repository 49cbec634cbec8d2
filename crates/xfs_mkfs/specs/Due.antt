-- Which answer is due to what is asked of a new volume.
use Rattle.std.specs.Prelude.{ℕ, Bool, not, ◌&&◌, if◌then◌else◌, List, Option, Some, None}
use Rattle.std.specs.Option.{unwrap_or}
use Rattle.xfs_disk.specs.Blocks.{Image}
use Rattle.xfs_disk.specs.declared.stamp.Stamp.{Stamp}
use Rattle.xfs_geom.specs.declared.geometry.Geometry.{Geometry}
use Rattle.xfs_empty.specs.Sizes.{IsChosenGeometry, too_small}
use Rattle.xfs_empty.specs.declared.asked.SizesAsked.{SizesAsked}
use Rattle.xfs_mkfs.specs.Marks.{is_marked}
use Rattle.xfs_options.specs.declared.make_words.MakeOptions.{MakeOptions}
use Rattle.xfs_mkfs.specs.declared.outcome.MakeOutcome.{MakeOutcome}
use Rattle.xfs_mkfs.specs.declared.outcome.MakeOutcome.TheVariants.{HasVolume, TooSmall}

-- what is asked of the sizes
abbrev pub asked_of : MakeOptions → SizesAsked
asked_of o = record { blocks = o.blocks; agcount = o.agcount; agblocks = o.agblocks; logblocks = o.logblocks }

-- the identifier: the one that is asked for, or else the stamp's
abbrev pub identifier : MakeOptions → Stamp → List ℕ
identifier o s = unwrap_or o.uuid s.uuid

abbrev pub by_volume : Bool → Option MakeOutcome
by_volume there = if there then Some HasVolume else None

abbrev pub by_size : Option ℕ → Option MakeOutcome → Option MakeOutcome
by_size (Some what) later = Some (TooSmall what)
by_size None later = later

-- the refusal that is due on a disk of so many blocks that holds an image, where one is: the bounds of the volume; then what the disk is marked to
-- hold, a volume, another file system or a partition table, unless it is to be written over
unfoldable pub refusal : MakeOptions → ℕ → Image → Option MakeOutcome
refusal o blocks image = by_size (too_small (asked_of o) blocks) (by_volume (not o.force && is_marked image))

-- the geometry of the volume that is made on a disk of so many blocks
abbrev pub IsGeometry : MakeOptions → Stamp → ℕ → Geometry → Type 0
IsGeometry o s blocks g = IsChosenGeometry (asked_of o) blocks (identifier o s) g
