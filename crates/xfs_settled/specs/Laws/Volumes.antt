-- A law about images that have one volume. The function does nothing; its contract is the law.
use Rattle.std.specs.Prelude.{◌≡◌, ℕ, ◌<◌, List, length}
use Rattle.xfs_disk.specs.Blocks.{Image, bytes_of_block}
use Rattle.xfs_place.specs.declared.placed.Placed.{Placed}
use Rattle.xfs_place.specs.declared.wanted.Wanted.{Wanted}
use Rattle.xfs_render.specs.Readiness.{HasBytes}
use Rattle.xfs_render.specs.Rendering.{HasVolume, IsDueSuper, byte_place}
use Rattle.xfs_render.specs.declared.bytes.Bytes.{Bytes}
use Rattle.xfs_settled.specs.Sectors.{AreSized}

-- Two images that have what is placed for one request, made of the same bytes, have the same blocks at the places whose bytes were at
-- hand: the headers of groups with their superblocks, and the blocks of clusters.
abbrev pub VolumesSharePlaces : Type 0
VolumesSharePlaces = (w : Wanted) (p : Placed) (b : Bytes) (super other : List ℕ) (one two : Image) → HasBytes w b → IsDueSuper w p b super → IsDueSuper w p b other
    → HasVolume w p b super one → HasVolume w p b other two → (i : ℕ) → i < length b.places
    → AreSized 4096 (bytes_of_block one (byte_place b i)) → AreSized 4096 (bytes_of_block two (byte_place b i))
    → bytes_of_block one (byte_place b i) ≡ bytes_of_block two (byte_place b i)
