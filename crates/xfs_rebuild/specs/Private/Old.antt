-- The blocks whose old bytes are at hand, with these bytes.
use Rattle.std.specs.Prelude.{◌≡◌, ℕ, ◌<◌, List, length}
use Rattle.std.specs.List.{All}
use Rattle.xfs_geom.specs.Volumes.{volume_of}
use Rattle.xfs_geom.specs.declared.geometry.Geometry.{Geometry}
use Rattle.xfs_render.specs.declared.wanted_slots.SlotWanted.{SlotWanted}
use Rattle.xfs_rebuild.specs.Changes.{CanChangeAll}
use Rattle.xfs_rebuild.specs.Places.{old_places}
use Rattle.xfs_rebuild.specs.declared.bytes.OldBlocks.{OldBlocks}

-- the places have so many blocks, of which what is wanted of slots can be made
pub record AreOldOf (g : Geometry) (clusters : List ℕ) (slots : List SlotWanted) (old : OldBlocks) : Type 0 where
  pub places' : old.places.items ≡ old_places (volume_of g) clusters slots
  pub many : length old.blocks ≡ length old.places.items
  pub inside : All (λ place. place < g.dblocks) old.places.items
  pub can : CanChangeAll (volume_of g) slots old.places.items old.blocks
