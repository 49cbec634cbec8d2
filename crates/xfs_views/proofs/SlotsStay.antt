-- The slots and the claims of a view in which no block has two owners stay where backup superblocks alone differ.
use Rattle.std.proofs.Common.{◌≡◌, ℕ, ◌+◌, ◌*◌, ◌/◌, ◌%◌, ◌<◌, true, nat_le, nat_lt, List, Some, sym, ap, ◌∙◌, arith}
use Rattle.std.specs.List.{range_with_len}
use Rattle.std.proofs.lemmas.Bool.{and_from, le-leb, lt-ltb}
use Rattle.xfs_disk.specs.Blocks.{Image, bytes_of_block}
use Rattle.xfs_word.specs.Field.{part_of}
use Rattle.xfs_geom.specs.Conversions.{address_of, block_at, inode_of, slot_at, with_slot}
use Rattle.xfs_geom.specs.Volumes.{Volume, volume_of}
use Rattle.xfs_geom.specs.declared.geometry.Geometry.{Geometry}
use Rattle.xfs_geom.proofs.Addresses.{block_back}
use Rattle.xfs_laws.proofs.xfs_space.RecordedMaps.{group_inside}
use Rattle.xfs_volume.specs.declared.files.FileRec.{FileRec}
use Rattle.xfs_volume.specs.declared.groups.GroupRec.{GroupRec}
use Rattle.xfs_image.specs.Claims.{is_of_cluster}
use Rattle.xfs_image.specs.Files.{clusters_from, clusters_of, inodes_of}
use Rattle.xfs_image.specs.Slots.{bytes_in, cluster_blocks, cluster_inodes, inodes_of_block}
use Rattle.xfs_views.proofs.Addresses.{IsPlaced}
use Rattle.xfs_views.proofs.Members.{Member, flat_member, map_member, row_member}
use Rattle.xfs_views.proofs.Places.{as_placed, cluster_chunked}
use Rattle.xfs_views.proofs.Spaces.{IsOnce, cluster_unfixed, file_unfixed}
use Rattle.xfs_views.specs.Backups.{DifferInBackups}
use Rattle.xfs_views.specs.SameFiles.{HasSameClaims, HasSameSlot}
use Rattle.xfs_views.proofs.Unfixed.{unfixed_same}

-- the slot of the inode of a slot is that slot
slot_back : (g : Geometry) (block k : ℕ) → block < g.dblocks → k < 8 → slot_at (volume_of g) (inode_of (volume_of g) block k) ≡ Some (block, k)
unfolding slot_at inode_of
slot_back g block k inside few =
    let v : Volume = volume_of g in
    let whole : (address_of v block * 8 + k) / 8 ≡ address_of v block = omega (arith, few) in
    let rest : (address_of v block * 8 + k) % 8 ≡ k = omega (arith, few) in
    (λ i. with_slot (rest i) (block_at v (whole i)))
    ∙ ap (with_slot k) (block_back v block g.shape.groups.large g.shape.groups.covered g.shape.addresses.enough inside)

cluster_inside : (g : Geometry) (x block : ℕ) → IsPlaced g x → Member block (cluster_blocks x) → block < g.dblocks
cluster_inside g x block at has =
    let row = row_member block x 4 has in
    let high = row.high in
    let start = at.is in
    let inside = at.inside in
    let ends = group_inside (volume_of g) at.ag at.group g.shape.groups.last in
    omega (arith, high, start, inside, ends)

-- a slot of a cluster whose blocks are the same
pub slot_stays : (g : Geometry) (image now : Image) (x ino : ℕ) → IsPlaced g x → Member ino (cluster_inodes (volume_of g) x)
    → ((block : ℕ) → is_of_cluster x block ≡ true → bytes_of_block now block ≡ bytes_of_block image block) → HasSameSlot (volume_of g) image now ino
unfolding cluster_inodes
slot_stays g image now x ino at is same =
    let v : Volume = volume_of g in
    let block = flat_member (inodes_of_block v) ino (cluster_blocks x) is in
    let slot = map_member (inode_of v block.0) ino (range_with_len 0 8) block.2 in
    let few = (row_member slot.0 0 8 slot.1).high in
    let row = row_member block.0 x 4 block.1 in
    let on : is_of_cluster x block.0 ≡ true =
    and_from (nat_le x block.0) (nat_lt block.0 (x + 4)) (le-leb x block.0 row.low) (lt-ltb block.0 (x + 4) row.high) in
    let place : slot_at v ino ≡ Some (block.0, slot.0) =
    ap (slot_at v) (sym slot.2) ∙ slot_back g block.0 slot.0 (cluster_inside g x block.0 at block.1) (omega (arith, few)) in
    ap (bytes_in now) place ∙ ap (λ (bytes : List ℕ). part_of bytes (512 * slot.0) 512) (same block.0 on) ∙ sym (ap (bytes_in image) place)

module _ (g : Geometry) (image now : Image) (differ : DifferInBackups (volume_of g) image now) (groups : List GroupRec) (files : List FileRec) (space : IsOnce g groups files) where
  -- the block of a cluster of chunks
  pub cluster_same : (x block : ℕ) → Member x (clusters_from (volume_of g) 0 groups) → is_of_cluster x block ≡ true → bytes_of_block now block ≡ bytes_of_block image block
  cluster_same x block is on = unfixed_same g image now differ block (cluster_unfixed g groups files space x block is on)

  -- a slot of the view
  pub slot_same : (ino : ℕ) → Member ino (inodes_of (volume_of g) groups) → HasSameSlot (volume_of g) image now ino
  unfolding inodes_of clusters_of
  slot_same ino is =
      let v : Volume = volume_of g in
      let cluster = flat_member (cluster_inodes v) ino (clusters_from v 0 groups) is in
      let at = cluster_chunked g cluster.0 groups space.are cluster.1 in
      slot_stays g image now cluster.0 ino (as_placed g at.0 cluster.0 at.1) cluster.2 (λ block on. cluster_same cluster.0 block cluster.1 on)

  -- the blocks that a file of the view claims
  pub claims_same : (f : FileRec) → Member f files → HasSameClaims (volume_of g) image now f
  claims_same f is = λ block claimed. unfixed_same g image now differ block (file_unfixed g groups files space f block is claimed)
