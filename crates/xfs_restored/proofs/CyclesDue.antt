-- The cycle of a blank log is the one that is due to the numbers that stay.
use Rattle.std.proofs.Common.{◌≡◌, ℕ, List, ap, ◌∙◌}
use Rattle.xfs_disk.specs.Blocks.{Image}
use Rattle.xfs_disk.specs.declared.stamp.Stamp.{Stamp}
use Rattle.xfs_geom.specs.Volumes.{volume_of}
use Rattle.xfs_geom.specs.declared.geometry.Geometry.{Geometry}
use Rattle.xfs_render.specs.declared.bytes.Bytes.{Bytes}
use Rattle.xfs_rename.specs.xfs_request.Cycles.{due_cycle}
use Rattle.xfs_rename.specs.xfs_rebuild.declared.names_due.NamesDue.{NamesDue}
use Rattle.xfs_rename.specs.Lost.{lost_due}
use Rattle.xfs_rename.specs.Renames.{IsRenamed}
use Rattle.xfs_rename.specs.Settled.{settled}
use Rattle.xfs_rename.specs.declared.planning.Renamed.{Renamed}
use Rattle.xfs_restored.specs.Logs.{numbers_kept}

pub cycle_due : (g : Geometry) (sector : List ℕ) (s : Stamp) (image : Image) (n : NamesDue) (r : Renamed) (is : IsRenamed g sector s image n r)
    → is.bytes.cycle ≡ due_cycle n.log (numbers_kept (volume_of g) image (settled n (lost_due g n) is.w) n.seen)
cycle_due g sector s image n r is = ap (λ (b : Bytes). b.cycle) is.made.with_objects ∙ is.made.reads.cycle'
