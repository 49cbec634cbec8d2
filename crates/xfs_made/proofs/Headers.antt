-- The bytes of the first block of each group were at hand, so it has the headers that are due.
use Rattle.std.proofs.Common.{ℕ, ◌*◌, ◌<◌, List, subst}
use Rattle.xfs_disk.specs.Blocks.{Image, bytes_of_block}
use Rattle.xfs_place.specs.declared.placed.Placed.{Placed}
use Rattle.xfs_place.specs.declared.wanted.Wanted.{Wanted}
use Rattle.xfs_render.specs.HeaderBlocks.{IsHeaderBlock}
use Rattle.xfs_render.specs.Rendering.{group_placed, wanted_inodes, old_at, volume}
use Rattle.xfs_render.specs.declared.bytes.Bytes.{Bytes}
use Rattle.xfs_made.specs.Standing.{IsStanding}

pub headers_stand : (w : Wanted) (p : Placed) (b : Bytes) (super : List ℕ) (image : Image) → IsStanding w p b super image → (ag : ℕ) → ag < w.geometry.agcount
    → (old : List ℕ) × IsHeaderBlock (volume w) ag super old (wanted_inodes w ag) (group_placed p ag) (bytes_of_block image (ag * w.geometry.agblocks))
headers_stand w p b super image is ag inside =
    let head = is.heads ag inside in
    let block = (is.volume'.places head.0 head.1).heads ag head.2 in (
      old_at b head.0,
      subst (λ (place : ℕ). IsHeaderBlock (volume w) ag super (old_at b head.0) (wanted_inodes w ag) (group_placed p ag) (bytes_of_block image place)) head.2 block,
    )
