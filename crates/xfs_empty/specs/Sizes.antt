-- The geometry of a new volume, and the bounds that it keeps (chapter "Allocation Groups").
use Rattle.std.specs.Prelude.{◌≡◌, ℕ, Bool, ◌+◌, ◌-◌, ◌*◌, ◌/◌, ◌^◌, ◌&&◌, nat_le, max, if◌then◌else◌, List, [], ◌∷◌, Option, Some, None}
use Rattle.std.specs.Option.{unwrap_or}
use Rattle.xfs_geom.specs.First.{first_false}
use Rattle.xfs_geom.specs.Groups.{blocks_of_group}
use Rattle.xfs_geom.specs.declared.geometry.Geometry.{Geometry}
use Rattle.xfs_empty.specs.declared.asked.SizesAsked.{SizesAsked}
use Rattle.xfs_empty.specs.declared.sizes.GroupSizes.{GroupSizes}

-- how many parts of a size hold so many blocks
abbrev pub parts : ℕ → ℕ → ℕ
parts blocks size = (blocks + size - 1) / size

-- the blocks of the volume: those that are asked for, or all of the disk
abbrev pub volume_blocks : SizesAsked → ℕ → ℕ
volume_blocks a blocks = unwrap_or a.blocks blocks

-- the groups: of a size, or else so many, four where nothing is asked
abbrev pub of_size : ℕ → ℕ → GroupSizes
of_size dblocks size = record { size = size; count = parts dblocks size }

abbrev pub so_many : ℕ → ℕ → GroupSizes
so_many dblocks count = record { size = parts dblocks count; count = count }

abbrev pub groups_by : Option ℕ → Option ℕ → ℕ → GroupSizes
groups_by (Some size) count dblocks = of_size dblocks size
groups_by None count dblocks = so_many dblocks (unwrap_or count 4)

abbrev pub groups_of : SizesAsked → ℕ → GroupSizes
groups_of a dblocks = groups_by a.agblocks a.agcount dblocks

-- the volume lies on the disk, and has at most 2^26 blocks
abbrev pub fits_disk : ℕ → ℕ → Bool
fits_disk dblocks blocks = nat_le dblocks blocks && nat_le dblocks (2 ^ 26)

-- there are 2 to 512 groups of at least 1024 blocks, the last of at least 64
abbrev pub are_groups : GroupSizes → ℕ → Bool
are_groups g dblocks = nat_le 2 g.count && nat_le g.count 512 && nat_le 1024 g.size && nat_le ((g.count - 1) * g.size + 64) dblocks

abbrev pub where_kept : GroupSizes → ℕ → Option GroupSizes
where_kept g dblocks = if are_groups g dblocks then Some g else None

-- a log from AG block 6 of the middle group on leaves 64 blocks behind it
abbrev pub has_room : GroupSizes → ℕ → ℕ → Bool
has_room g dblocks log = nat_le (6 + log + 64) (blocks_of_group dblocks g.size g.count (g.count / 2))

-- the log has 512 to 521,728 blocks, and its group has room for it
abbrev pub has_log_room : GroupSizes → ℕ → ℕ → Bool
has_log_room g dblocks log = nat_le 512 log && nat_le log 521728 && has_room g dblocks log

-- the log that kernels ask for, where groups have the 4096 blocks that they ask for too, and the log's has room for it
abbrev pub kernel_log : GroupSizes → ℕ → ℕ
kernel_log g dblocks = if nat_le 4096 g.size && has_room g dblocks 2560 then 2560 else 0

-- the blocks of the log: where nothing is asked the greatest of 512, a 1024th of the volume and what kernels ask for
abbrev pub log_blocks : Option ℕ → GroupSizes → ℕ → ℕ
log_blocks asked g dblocks = unwrap_or asked (max (max 512 (dblocks / 1024)) (kernel_log g dblocks))

-- the first bound that is broken: that of blocks (1), of groups (2), of the log (3)
unfoldable pub too_small : SizesAsked → ℕ → Option ℕ
too_small a blocks =
    let dblocks = volume_blocks a blocks in
    let groups = groups_of a dblocks in
    first_false ((1, fits_disk dblocks blocks) ∷ (2, are_groups groups dblocks) ∷ (3, has_log_room groups dblocks (log_blocks a.logblocks groups dblocks)) ∷ [])

-- the geometry that is chosen on a disk of so many blocks; its addresses have the least bits that hold an AG block, as in every geometry
pub record IsChosenGeometry (a : SizesAsked) (blocks : ℕ) (uuid : List ℕ) (g : Geometry) : Type 0 where
  pub dblocks : g.dblocks ≡ volume_blocks a blocks
  pub agblocks : g.agblocks ≡ (groups_of a (volume_blocks a blocks)).size
  pub agcount : g.agcount ≡ (groups_of a (volume_blocks a blocks)).count
  pub log : g.log ≡ g.agcount / 2 * g.agblocks + 6
  pub logblocks : g.logblocks ≡ log_blocks a.logblocks (groups_of a (volume_blocks a blocks)) (volume_blocks a blocks)
  pub rootino : g.rootino ≡ 128
  pub logsectlog : g.logsectlog ≡ 0
  pub uuid' : g.uuid ≡ uuid
