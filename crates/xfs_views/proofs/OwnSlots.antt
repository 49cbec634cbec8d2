-- The slots of a block are the same where the block is.
use Rattle.std.proofs.Common.{◌≡◌, ℕ, ◌+◌, ◌*◌, ◌/◌, ◌%◌, ◌^◌, ◌≤◌, ◌<◌, List, Option, Some, None, Ok, refl, sym, ap, ap₂, ◌∙◌, subst, arith}
use Rattle.std.proofs.Math.Nat.{mod-lt}
use Rattle.std.proofs.lemmas.List.Elements.{All-from_recursion, recursion_from_All}
use Rattle.std.proofs.lemmas.Nat.{div-add-mod', div-mul-add, mod-mul-add}
use Rattle.std.specs.List.{All, AllByRecursion, flat_map, range_with_len}
use Rattle.xfs_disk.specs.Blocks.{Image, bytes_of_block}
use Rattle.xfs_word.specs.Field.{part_of}
use Rattle.xfs_geom.specs.Conversions.{address_of, block_at, inode_of, slot_at, with_slot}
use Rattle.xfs_geom.specs.Groups.{block_of_address}
use Rattle.xfs_geom.specs.Volumes.{Volume, volume_of}
use Rattle.xfs_geom.specs.declared.geometry.Geometry.{Geometry}
use Rattle.xfs_volume.specs.declared.files.FileRec.{FileRec}
use Rattle.xfs_volume.specs.declared.groups.GroupRec.{GroupRec}
use Rattle.xfs_image.specs.Files.{clusters_of, files_read, inodes_of}
use Rattle.xfs_image.specs.Slots.{bytes_in, cluster_blocks, cluster_inodes, inodes_of_block}
use Rattle.xfs_views.proofs.Members.{all_members, flat_member, map_member, member_all, member_flat, row_member}
use Rattle.xfs_views.specs.Same.{HoldSameBytes}
use Rattle.xfs_views.specs.SameFiles.{HasSameClaims, HasSameSlot}
use Rattle.xfs_views.proofs.FilesKept.{all_files_stay}
use Rattle.xfs_views.proofs.FilesStay.{block_is}

-- the address of a block leads back to the block
address_back : (v : Volume) (b : ℕ) → 1024 ≤ v.agblocks → v.agblocks ≤ 2 ^ v.agblklog → block_of_address v.agblocks v.agblklog (address_of v b) ≡ b
unfolding address_of
address_back v b large enough =
    let w : ℕ = v.agblocks in
    let k : ℕ = 2 ^ v.agblklog in
    let short : b % w < w = mod-lt b (omega (arith, large)) in
    let low : b % w < k = omega (arith, short, enough) in
    let whole : b / w * w + b % w ≡ b = div-add-mod' b w in
    ap₂ (λ (x y : ℕ). x * w + y) (div-mul-add (b / w) k (b % w) low) (mod-mul-add (b / w) k (b % w) low) ∙ whole

module _ (image now : Image) where
  place_same : (place : Option ℕ) (slot : ℕ) → ((block : ℕ) → place ≡ Some block → bytes_of_block now block ≡ bytes_of_block image block)
      → bytes_in now (with_slot slot place) ≡ bytes_in image (with_slot slot place)
  place_same None slot same = refl
  place_same (Some block) slot same = ap (λ (bytes : List ℕ). part_of bytes (512 * slot) 512) (same block refl)

  slot_same : (v : Volume) (block k : ℕ) → 1024 ≤ v.agblocks → v.agblocks ≤ 2 ^ v.agblklog → k < 8 → bytes_of_block now block ≡ bytes_of_block image block → HasSameSlot v image now (inode_of v block k)
  unfolding slot_at inode_of
  slot_same v block k large enough few same =
      let whole : (address_of v block * 8 + k) / 8 ≡ address_of v block = omega (arith, few) in
      place_same (block_at v ((address_of v block * 8 + k) / 8)) ((address_of v block * 8 + k) % 8)
      (λ b at.
      let own : block ≡ b = sym (address_back v block large enough) ∙ ap (block_of_address v.agblocks v.agblklog) (sym whole) ∙ block_is v ((address_of v block * 8 + k) / 8) b at in
      subst (λ (n : ℕ). bytes_of_block now n ≡ bytes_of_block image n) own same)

  -- all slots of some clusters
  pub slots_same : (g : Geometry) (groups : List GroupRec) → HoldSameBytes image now (flat_map cluster_blocks (clusters_of (volume_of g) groups))
      → All (HasSameSlot (volume_of g) image now) (inodes_of (volume_of g) groups)
  unfolding inodes_of cluster_inodes
  slots_same g groups same =
      let v : Volume = volume_of g in
      let each : AllByRecursion (λ (block : ℕ). bytes_of_block now block ≡ bytes_of_block image block) (flat_map cluster_blocks (clusters_of v groups)) =
      recursion_from_All (λ (block : ℕ). bytes_of_block now block ≡ bytes_of_block image block) (flat_map cluster_blocks (clusters_of v groups)) same in
      All-from_recursion (HasSameSlot v image now) (flat_map (cluster_inodes v) (clusters_of v groups))
      (all_members (HasSameSlot v image now) (flat_map (cluster_inodes v) (clusters_of v groups)) (λ ino is.
      let cluster = flat_member (cluster_inodes v) ino (clusters_of v groups) is in
      let block = flat_member (inodes_of_block v) ino (cluster_blocks cluster.0) cluster.2 in
      let slot = map_member (inode_of v block.0) ino (range_with_len 0 8) block.2 in
      let few = (row_member slot.0 0 8 slot.1).high in
      let held : bytes_of_block now block.0 ≡ bytes_of_block image block.0 =
      member_all (λ (b : ℕ). bytes_of_block now b ≡ bytes_of_block image b) block.0 (flat_map cluster_blocks (clusters_of v groups)) each
      (member_flat cluster_blocks cluster.0 block.0 (clusters_of v groups) cluster.1 block.1) in
      subst (HasSameSlot v image now) slot.2 (slot_same v block.0 slot.0 g.shape.groups.large g.shape.addresses.enough (omega (arith, few)) held)))

  -- so all files of some groups are the same where their clusters are, and the blocks that they claim
  pub files_of_clusters_stay : (g : Geometry) (groups : List GroupRec) (files : List FileRec) → files_read (volume_of g) image groups ≡ Ok files
      → HoldSameBytes image now (flat_map cluster_blocks (clusters_of (volume_of g) groups)) → All (HasSameClaims (volume_of g) image now) files → files_read (volume_of g) now groups ≡ Ok files
  files_of_clusters_stay g groups files reads clusters claimed =
      all_files_stay (volume_of g) image now groups files reads (slots_same g groups clusters) claimed
