-- What stands in an image that has a volume that was rendered.
use Rattle.std.specs.Prelude.{◌≡◌, ℕ, ◌*◌, ◌<◌, ◌≤◌, List, length}
use Rattle.xfs_word.specs.Crc.{little_field_of}
use Rattle.xfs_disk.specs.Blocks.{Image}
use Rattle.xfs_geom.specs.Volumes.{Volume}
use Rattle.xfs_place.specs.declared.placed.Placed.{Placed}
use Rattle.xfs_place.specs.declared.wanted.Wanted.{Wanted}
use Rattle.xfs_image.specs.Groups.{head_block}
use Rattle.xfs_log.specs.Sectors.{sector_in}
use Rattle.xfs_render.specs.Rendering.{HasVolume, IsDueSuper, byte_place}
use Rattle.xfs_render.specs.declared.bytes.Bytes.{Bytes}

-- the checksums of the headers of a group, as an image has them
abbrev pub agf_crc_at : Volume → Image → ℕ → ℕ
agf_crc_at v image ag = little_field_of (sector_in image (head_block v ag) 1) 216 4

abbrev pub agi_crc_at : Volume → Image → ℕ → ℕ
agi_crc_at v image ag = little_field_of (sector_in image (head_block v ag) 2) 312 4

-- the bytes of the first block of each group were at hand
abbrev pub HasHeads : Wanted → Bytes → Type 0
HasHeads w b = (ag : ℕ) → ag < w.geometry.agcount → (i : ℕ) × (i < length b.places) × (byte_place b i ≡ ag * w.geometry.agblocks)

-- an image, as large as the volume, that has what was rendered for a request, with the first block of each group
pub record IsStanding (w : Wanted) (p : Placed) (b : Bytes) (super : List ℕ) (image : Image) : Type 0 where
  pub volume' : HasVolume w p b super image
  pub due : IsDueSuper w p b super
  pub heads : HasHeads w b
  pub size : w.geometry.dblocks ≤ length image
