-- Files whose slot and whose blocks hold the same bytes in two images.
use Rattle.std.specs.Prelude.{◌≡◌, ℕ, true}
use Rattle.xfs_disk.specs.Blocks.{Image, bytes_of_block}
use Rattle.xfs_geom.specs.Volumes.{Volume}
use Rattle.xfs_volume.specs.declared.files.FileRec.{FileRec}
use Rattle.xfs_image.specs.Claims.{claims}
use Rattle.xfs_image.specs.Slots.{slot_bytes}

-- the slot of the inode holds the same bytes in both images
abbrev pub HasSameSlot : Volume → Image → Image → ℕ → Type 0
HasSameSlot v image now ino = slot_bytes v now ino ≡ slot_bytes v image ino

-- each block that the file claims does
abbrev pub HasSameClaims : Volume → Image → Image → FileRec → Type 0
HasSameClaims v image now f = (block : ℕ) → claims v f block ≡ true → bytes_of_block now block ≡ bytes_of_block image block
