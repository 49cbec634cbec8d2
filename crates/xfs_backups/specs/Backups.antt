-- Backup superblocks: what a primary asks of them, and the plan that makes them agree (chapter
-- "Superblocks"; xfs_repair(8)).
use Rattle.std.specs.Prelude.{ℕ, ◌-◌, ◌*◌, Bool, not, if◌then◌else◌, List, [], ◌∷◌, ◌++◌, drop, Option}
use Rattle.std.specs.List.{find, flat_map, range_with_len}
use Rattle.xfs_disk.specs.Blocks.{Image, bytes_of_block}
use Rattle.xfs_geom.specs.Election.{super_of}
use Rattle.xfs_geom.specs.Superblocks.{is_agreeing}
use Rattle.xfs_geom.specs.Volumes.{stated_volume}
use Rattle.xfs_writing.specs.Writing.{Writes}

-- a block with its first sector replaced by the primary superblock
abbrev pub with_super : List ℕ → List ℕ → List ℕ
with_super primary block = primary ++ drop 512 block

-- the write that a backup in this block needs: none where it agrees with the primary
unfoldable pub step_of : List ℕ → ℕ → List ℕ → Writes
step_of primary at block =
    if is_agreeing (stated_volume primary) (super_of block) then [] else (at, with_super primary block) ∷ []

-- the block at which a group of the primary's volume begins
unfoldable pub start_of : List ℕ → ℕ → ℕ
start_of primary group = group * (stated_volume primary).agblocks

-- the backup of the group does not agree with the primary
abbrev pub disagrees : List ℕ → Image → ℕ → Bool
disagrees primary image group = not (is_agreeing (stated_volume primary) (super_of (bytes_of_block image (start_of primary group))))

-- the first of n groups from a group on whose backup does not agree
abbrev pub first_disagreeing : List ℕ → Image → ℕ → ℕ → Option ℕ
first_disagreeing primary image group n = find (disagrees primary image) (range_with_len group n)

-- the writes that the backups of n groups need, from a group on
abbrev pub steps_from : List ℕ → Image → ℕ → ℕ → Writes
steps_from primary image group n =
    flat_map (λ (g : ℕ). step_of primary (start_of primary g) (bytes_of_block image (start_of primary g))) (range_with_len group n)

-- the plan that makes every backup agree with the primary superblock of the image
abbrev pub backup_plan : Image → Writes
backup_plan image =
    let primary = super_of (bytes_of_block image 0) in
    steps_from primary image 1 ((stated_volume primary).agcount - 1)
