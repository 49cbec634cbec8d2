-- Slots are what was wanted of them, or as they were.
use Rattle.std.proofs.Common.{◌≡◌, ℕ, ◌+◌, ◌*◌, ◌/◌, ◌%◌, ◌<◌, false, List, length, Some, ap, ◌∙◌, sym, subst, arith}
use Rattle.xfs_disk.specs.Blocks.{Image, bytes_of_block}
use Rattle.xfs_geom.specs.Conversions.{address_of, block_at, inode_of, slot_at, with_slot}
use Rattle.xfs_geom.specs.Shape.{HasAddresses, HasGroups}
use Rattle.xfs_geom.specs.Volumes.{Volume}
use Rattle.xfs_geom.proofs.Addresses.{block_back}
use Rattle.xfs_place.specs.declared.placed.Placed.{Placed}
use Rattle.xfs_place.specs.declared.wanted.Wanted.{Wanted}
use Rattle.xfs_image.specs.Slots.{bytes_in, slot_bytes}
use Rattle.xfs_render.specs.Clusters.{slot_in}
use Rattle.xfs_render.specs.Rendering.{is_head, old_at, byte_place, volume}
use Rattle.xfs_render.specs.Slots.{IsSlotDue}
use Rattle.xfs_render.specs.declared.bytes.Bytes.{Bytes}
use Rattle.xfs_made.specs.Standing.{IsStanding}

-- the slot of the inode of a slot is that slot
slot_back : (v : Volume) (block k : ℕ) → HasGroups v.dblocks v.agblocks v.agcount → HasAddresses v.agblocks v.agblklog → block < v.dblocks → k < 8
    → slot_at v (inode_of v block k) ≡ Some (block, k)
unfolding slot_at inode_of
slot_back v block k groups addresses inside few =
    let whole : (address_of v block * 8 + k) / 8 ≡ address_of v block = omega (arith, few) in
    let rest : (address_of v block * 8 + k) % 8 ≡ k = omega (arith, few) in
    (λ i. with_slot (rest i) (block_at v (whole i))) ∙ ap (with_slot k) (block_back v block groups.large groups.covered addresses.enough inside)

pub slots_stand : (w : Wanted) (p : Placed) (b : Bytes) (super : List ℕ) (image : Image) → IsStanding w p b super image
    → (i k : ℕ) → i < length b.places → k < 8 → is_head (volume w) (byte_place b i) ≡ false → byte_place b i < w.geometry.dblocks
    → IsSlotDue (volume w) b.stamp.generation b.slots (inode_of (volume w) (byte_place b i) k) (slot_in (old_at b i) k)
    (slot_bytes (volume w) image (inode_of (volume w) (byte_place b i) k))
slots_stand w p b super image is i k here few other inside =
    let v = volume w in
    let place = byte_place b i in
    let shape = w.geometry.shape in
    let bytes : slot_bytes v image (inode_of v place k) ≡ slot_in (bytes_of_block image place) k =
    ap (bytes_in image) (slot_back v place k shape.groups shape.addresses inside few) in
    let block = (is.volume'.places i here).clusters other in
    subst (λ (slot : List ℕ). IsSlotDue v b.stamp.generation b.slots (inode_of v place k) (slot_in (old_at b i) k) slot) (sym bytes) (block.each k few)
