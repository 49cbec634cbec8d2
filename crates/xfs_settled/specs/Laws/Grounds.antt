-- Laws about what a rebuild goes by. Each function does nothing; its contract is the law.
use Rattle.std.specs.Prelude.{◌≡◌, ℕ, List}
use Rattle.xfs_disk.specs.Blocks.{Image}
use Rattle.xfs_disk.specs.declared.stamp.Stamp.{Stamp}
use Rattle.xfs_geom.specs.Volumes.{volume_of}
use Rattle.xfs_geom.specs.declared.geometry.Geometry.{Geometry}
use Rattle.xfs_log.specs.xfs_heads.declared.log_state.LogState.{LogState}
use Rattle.xfs_mend.specs.xfs_rebuild.Bytes.{AreAtHand, AreReadOf}
use Rattle.xfs_mend.specs.xfs_rebuild.Rebuilds.{Ground, IsGround}
use Rattle.xfs_render.specs.declared.bytes.Bytes.{Bytes}
use Rattle.xfs_render.specs.declared.wanted_slots.SlotWanted.{SlotWanted}
use Rattle.xfs_scan.specs.Evidence.{IsEvidence}
use Rattle.xfs_scan.specs.declared.evidence.Evidence.{Evidence}

-- An image gives a rebuild one thing to go by, whatever evidence was gathered of it.
abbrev pub GroundsAreOne : Type 0
GroundsAreOne = (g : Geometry) (image : Image) (e f : Evidence) (on other : Ground) → IsEvidence g image e → IsEvidence g image f
    → IsGround (volume_of g) e on → IsGround (volume_of g) f other → on ≡ other

-- What a plan is made of, beside what is placed, is given by the superblock, the stamp, the clusters, what is wanted of their slots, the
-- numbers that stay, the log, and the image.
abbrev pub BytesAtHandAreOne : Type 0
BytesAtHandAreOne = (g : Geometry) (sector : List ℕ) (s : Stamp) (clusters : List ℕ) (slots : List SlotWanted) (image : Image) (lsns : List ℕ) (log : LogState) (b c : Bytes)
    → AreAtHand g sector s clusters slots b → AreReadOf image lsns log b → AreAtHand g sector s clusters slots c → AreReadOf image lsns log c → b ≡ c
