-- Laws about the image of a volume that was rebuilt. Each function does nothing; its contract is the laws.
use Rattle.std.specs.Prelude.{◌≡◌, ℕ, false, List, length}
use Rattle.std.specs.List.{All, Contains, flat_map}
use Rattle.xfs_disk.specs.Blocks.{Image, bytes_of_block}
use Rattle.xfs_disk.specs.declared.stamp.Stamp.{Stamp}
use Rattle.xfs_geom.specs.Volumes.{volume_of}
use Rattle.xfs_geom.specs.declared.geometry.Geometry.{Geometry}
use Rattle.xfs_volume.specs.declared.files.FileRec.{FileRec}
use Rattle.xfs_image.specs.Keeping.{Protected, file_bytes}
use Rattle.xfs_image.specs.Slots.{cluster_inodes, slot_bytes}
use Rattle.xfs_place.specs.Pool.{is_listed}
use Rattle.xfs_render.specs.Plans.{HoldsPlan, planned}
use Rattle.xfs_render.specs.Slots.{IsSlotDue}
use Rattle.xfs_rename.specs.xfs_scan.Evidence.{IsEvidence}
use Rattle.xfs_rename.specs.xfs_scan.declared.evidence.Evidence.{Evidence}
use Rattle.xfs_views.specs.SameFiles.{HasSameClaims}
use Rattle.xfs_rename.specs.xfs_made.Standing.{IsStanding}
use Rattle.xfs_rename.specs.xfs_rebuild.Rebuilds.{Ground, IsPlannedOn, IsRebuildOf, asked, slots_asked}
use Rattle.xfs_rename.specs.xfs_rebuild.declared.planning.Rebuilt.{Rebuilt}
use Rattle.xfs_restored.specs.Rewriting.{IsRewritten}

-- The image then holds the whole plan of the rebuild, of which nothing is written that it held before (`held`). Each block that is
-- not planned is as it was (`others`), and so is the size (`size`). So what was rendered stands in it (`stands`).
abbrev pub RebuiltImagesHoldThePlanHeld : Type 0
RebuiltImagesHoldThePlanHeld = (g : Geometry) (sector : List ℕ) (s : Stamp) (image now : Image) (on : Ground) (r : Rebuilt) (is : IsPlannedOn g sector s image on r)
    → IsRewritten g r image now → HoldsPlan now is.planned.plan

-- of the same, `others`
abbrev pub RebuiltImagesHoldThePlanOthers : Type 0
RebuiltImagesHoldThePlanOthers = (g : Geometry) (sector : List ℕ) (s : Stamp) (image now : Image) (on : Ground) (r : Rebuilt) (is : IsPlannedOn g sector s image on r)
    → IsRewritten g r image now → (block : ℕ) → is_listed (planned is.planned.plan) block ≡ false → bytes_of_block now block ≡ bytes_of_block image block

-- of the same, `size`
abbrev pub RebuiltImagesHoldThePlanSize : Type 0
RebuiltImagesHoldThePlanSize = (g : Geometry) (r : Rebuilt) (image now : Image) → IsRewritten g r image now → length now ≡ length image

-- of the same, `stands`
abbrev pub RebuiltImagesHoldThePlanStands : Type 0
RebuiltImagesHoldThePlanStands = (g : Geometry) (sector : List ℕ) (s : Stamp) (image now : Image) (on : Ground) (r : Rebuilt) (is : IsPlannedOn g sector s image on r)
    → IsRewritten g r image now → IsStanding (asked g on) is.planned.placed is.bytes is.planned.rendered.super now

-- The blocks that a kept file claims hold what they held (`claims`), and so the file has the same bytes (`bytes`). Each protected
-- file is one of these (`protected`).
abbrev pub KeptFilesStayClaims : Type 0
KeptFilesStayClaims = (g : Geometry) (sector : List ℕ) (s : Stamp) (image now : Image) (on : Ground) (r : Rebuilt) → IsPlannedOn g sector s image on r
    → IsRewritten g r image now → All (HasSameClaims (volume_of g) image now) on.kept.files

-- of the same, `bytes`
abbrev pub KeptFilesStayBytes : Type 0
KeptFilesStayBytes = (g : Geometry) (sector : List ℕ) (s : Stamp) (image now : Image) (on : Ground) (r : Rebuilt) → IsPlannedOn g sector s image on r
    → IsRewritten g r image now → All (λ (f : FileRec). file_bytes (volume_of g) now f ≡ file_bytes (volume_of g) image f) on.kept.files

-- of the same, `protected`
abbrev pub KeptFilesStayProtected : Type 0
KeptFilesStayProtected = (g : Geometry) (sector : List ℕ) (s : Stamp) (image now : Image) (e : Evidence) (r : Rebuilt) → IsEvidence g image e
    → IsRebuildOf g sector s image e r → IsRewritten g r image now
    → (ino : ℕ) (file : Protected (volume_of g) image ino) → HasSameClaims (volume_of g) image now file.file

-- Each slot of the kept clusters is what was wanted of it, made of what stood there.
abbrev pub RebuiltSlotsAreDue : Type 0
RebuiltSlotsAreDue = (g : Geometry) (sector : List ℕ) (s : Stamp) (image now : Image) (on : Ground) (r : Rebuilt) → IsPlannedOn g sector s image on r
    → IsRewritten g r image now → (ino : ℕ) → Contains (flat_map (cluster_inodes (volume_of g)) on.kept.clusters) ino
    → IsSlotDue (volume_of g) s.generation (slots_asked g s on) ino (slot_bytes (volume_of g) image ino) (slot_bytes (volume_of g) now ino)
