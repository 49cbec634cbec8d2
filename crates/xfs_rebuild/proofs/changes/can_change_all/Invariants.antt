use Rattle.std.proofs.Common.{◌≡◌, ℕ, ◌<◌, false, get_or, []}
use Rattle.xfs_geom.specs.Volumes.{volume_of}
use Rattle.xfs_render.specs.Rendering.{is_head}
use Rattle.xfs_rebuild.specs.Changes.{CanChange}
use Rattle.xfs_rebuild.proofs.changes.can_change_all.Given as goal

abbrev pub invariant-loop-i : goal.invariant-loop-i
invariant-loop-i l = (i : ℕ) → i < l.i → is_head (volume_of l.g) (get_or l.places i 0) ≡ false → CanChange (volume_of l.g) l.slots (get_or l.places i 0) (get_or l.old i [])
