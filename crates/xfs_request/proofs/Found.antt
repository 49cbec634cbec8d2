-- The first of some files.
use Rattle.std.proofs.Common.{◌≡◌, ℕ, List, [], ◌∷◌, Some, None, Option, slice_get, refl, ap, ◌∙◌}
use Rattle.xfs_disk.specs.declared.stamp.Stamp.{Stamp}
use Rattle.xfs_geom.specs.Volumes.{Volume}
use Rattle.xfs_volume.specs.declared.files.FileRec.{FileRec}
use Rattle.xfs_render.specs.declared.wanted_slots.SlotWanted.{SlotWanted}
use Rattle.xfs_salvage.specs.declared.found.Salvaged.{Salvaged}
use Rattle.xfs_request.specs.Slots.{file_slot, slot_of}
use Rattle.xfs_request.specs.declared.seen.SlotSeen.{SlotSeen}

-- what is wanted where there may be a file
abbrev by_first : Volume → Stamp → Salvaged → List SlotSeen → Option SlotWanted → Option FileRec → Option SlotWanted
by_first v s kept slots other None = other
by_first v s kept slots other (Some f) = file_slot v s kept slots f

first_decides : (v : Volume) (s : Stamp) (kept : Salvaged) (slots : List SlotSeen) (ino : ℕ) (fs : List FileRec)
    → slot_of v s kept slots ino fs ≡ by_first v s kept slots (slot_of v s kept slots ino []) (slice_get fs 0)
first_decides v s kept slots ino [] = refl
first_decides v s kept slots ino (f ∷ fs) = refl

pub of_first : (v : Volume) (s : Stamp) (kept : Salvaged) (slots : List SlotSeen) (ino : ℕ) (fs : List FileRec) (f : FileRec)
    → slice_get fs 0 ≡ Some f → slot_of v s kept slots ino fs ≡ file_slot v s kept slots f
of_first v s kept slots ino fs f is = first_decides v s kept slots ino fs ∙ ap (by_first v s kept slots (slot_of v s kept slots ino [])) is
