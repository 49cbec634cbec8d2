-- What is kept of the slots of candidate clusters in place of their bytes (chapter "On-disk Inode").
use Rattle.std.specs.Prelude.{◌≡◌, ℕ, List, ◌++◌, map}
use Rattle.xfs_disk.specs.Blocks.{Image, bytes_of_block}
use Rattle.xfs_geom.specs.Volumes.{Volume}
use Rattle.xfs_image.specs.Claims.{candidate_inodes}
use Rattle.xfs_image.specs.Slots.{slot_bytes}
use Rattle.xfs_rounds.specs.Facts.{fact_of}
use Rattle.xfs_rounds.specs.declared.facts.SlotFact.{SlotFact}

-- what the slot of an inode reads as by itself, and the log sequence number that stands in it
abbrev pub slot_fact : Volume → Image → ℕ → SlotFact
slot_fact v image ino = fact_of v ino (slot_bytes v image ino)

-- the same of each slot of each candidate cluster, in order
unfoldable pub slot_facts : Volume → Image → List SlotFact
slot_facts v image = map (slot_fact v image) (candidate_inodes v image)

-- those of some inodes were added, in each image that has these bytes in a block
abbrev pub AddsFacts : Volume → ℕ → List ℕ → List ℕ → List SlotFact → List SlotFact → Type 0
AddsFacts v block bytes inos old new = (image : Image) → bytes_of_block image block ≡ bytes → new ≡ old ++ map (slot_fact v image) inos
