-- The blocks whose old bytes are at hand: the first of each group, and of the kept clusters those of which some slot is to change.
use Rattle.std.specs.Prelude.{ℕ, Bool, ◌*◌, List, ◌++◌, map, filter, is_some}
use Rattle.std.specs.List.{flat_map, list_any, range_with_len}
use Rattle.xfs_geom.specs.Conversions.{inode_of}
use Rattle.xfs_geom.specs.Volumes.{Volume}
use Rattle.xfs_image.specs.Slots.{cluster_blocks}
use Rattle.xfs_render.specs.Slots.{wanted_of}
use Rattle.xfs_render.specs.declared.wanted_slots.SlotWanted.{SlotWanted}

abbrev pub first_of_group : Volume → ℕ → ℕ
first_of_group v ag = ag * v.agblocks

-- something is wanted of a slot of a block, which is given by its number in the block; and of some slot of it
abbrev pub is_slot_wanted : Volume → List SlotWanted → ℕ → ℕ → Bool
is_slot_wanted v slots block k = is_some (wanted_of slots (inode_of v block k))

unfoldable pub has_wanted : Volume → List SlotWanted → ℕ → Bool
has_wanted v slots block = list_any (is_slot_wanted v slots block) (range_with_len 0 8)

-- the blocks of clusters of which something is wanted
abbrev pub wanted_blocks : Volume → List ℕ → List SlotWanted → List ℕ
wanted_blocks v clusters slots = filter (has_wanted v slots) (flat_map cluster_blocks clusters)

unfoldable pub old_places : Volume → List ℕ → List SlotWanted → List ℕ
old_places v clusters slots = map (first_of_group v) (range_with_len 0 v.agcount) ++ wanted_blocks v clusters slots
