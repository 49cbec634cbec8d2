-- The numbers in the slots of inodes are those at the places of the clusters.
use Rattle.std.proofs.Common.{◌≡◌, ℕ, zero, suc, ◌+◌, ◌*◌, ◌/◌, ◌%◌, ◌<◌, ◌≤◌, List, [], ◌∷◌, ◌++◌, Some, length, map, take, drop, slice_index, refl, sym, ap, ap₂, ◌∙◌, arith}
use Rattle.std.proofs.Math.Seq.{take-length}
use Rattle.std.proofs.lemmas.List.{get_or-drop, get_or-take, map-append}
use Rattle.std.specs.List.{All, flat_map, range_with_len}
use Rattle.xfs_word.specs.Field.{field_of, part_of}
use Rattle.xfs_word.proofs.Written.{big_from-same}
use Rattle.xfs_disk.specs.Blocks.{Image, bytes_of_block}
use Rattle.xfs_geom.specs.Conversions.{address_of, block_at, inode_of, slot_at, with_slot}
use Rattle.xfs_geom.specs.Shape.{HasAddresses, HasGroups}
use Rattle.xfs_geom.specs.Volumes.{Volume}
use Rattle.xfs_geom.proofs.Addresses.{block_back}
use Rattle.xfs_tree.specs.Blocks.{each_of}
use Rattle.xfs_image.specs.Lsns.{cluster_places, slot_place}
use Rattle.xfs_image.specs.Slots.{bytes_in, cluster_blocks, cluster_inodes, inodes_of_block, slot_bytes}
use Rattle.xfs_journal.specs.Placed.{AreFirstNumbers, number_at}

-- a number that lies in a part is the number there of the whole
number_in_part : (bytes : List ℕ) (at n a w : ℕ) → a + w ≤ n → field_of (part_of bytes at n) a w ≡ field_of bytes (at + a) w
unfolding field_of part_of
number_in_part bytes at n a w inside =
    big_from-same 0 w (drop (at + a) bytes) (drop a (take n (drop at bytes))) (record {
      agree = λ k first last.
          let low : a + k < n = omega (arith, inside, last) in
          let place : at + (a + k) ≡ at + a + k = omega arith in
          get_or-drop a (take n (drop at bytes)) k 0
          ∙ get_or-take n (drop at bytes) (a + k) 0 low
          ∙ get_or-drop at bytes (a + k) 0
          ∙ ap (slice_index bytes) place
          ∙ sym (get_or-drop (at + a) bytes k 0);
    })

-- two rows that agree in each place are one
rows_agree : {A : Type 0} (f g : ℕ → A) (first n : ℕ) → ((k : ℕ) → first ≤ k → k < first + n → f k ≡ g k) → map f (range_with_len first n) ≡ map g (range_with_len first n)
rows_agree f g first zero agree = refl
rows_agree f g first (suc n) agree =
    ap₂ (λ x xs. x ∷ xs) (agree first (omega arith) (omega arith)) (rows_agree f g (first + 1) n (λ k low high. agree k (omega (arith, low)) (omega (arith, high))))

module _ (v : Volume) (image : Image) (groups : HasGroups v.dblocks v.agblocks v.agcount) (addresses : HasAddresses v.agblocks v.agblklog) where
  -- the number in the slot of an inode
  abbrev slot_number : ℕ → ℕ
  slot_number ino = field_of (slot_bytes v image ino) 112 8

  -- the slot of the inode of a slot is that slot
  slot_back : (block k : ℕ) → block < v.dblocks → k < 8 → slot_at v (inode_of v block k) ≡ Some (block, k)
  unfolding slot_at inode_of
  slot_back block k inside few =
      let whole : (address_of v block * 8 + k) / 8 ≡ address_of v block = omega (arith, few) in
      let rest : (address_of v block * 8 + k) % 8 ≡ k = omega (arith, few) in
      (λ i. with_slot (rest i) (block_at v (whole i))) ∙ ap (with_slot k) (block_back v block groups.large groups.covered addresses.enough inside)

  slot_agrees : (block k : ℕ) → block < v.dblocks → k < 8 → slot_number (inode_of v block k) ≡ number_at image (slot_place block k)
  slot_agrees block k inside few =
      ap (λ place. field_of (bytes_in image place) 112 8) (slot_back block k inside few)
      ∙ number_in_part (bytes_of_block image block) (512 * k) 512 112 8 (omega arith)

  block_agrees : (block : ℕ) → block < v.dblocks → map slot_number (inodes_of_block v block) ≡ map (number_at image) (each_of 8 (slot_place block))
  block_agrees block inside =
      rows_agree (λ k. slot_number (inode_of v block k)) (λ k. number_at image (slot_place block k)) 0 8 (λ k low few. slot_agrees block k inside few)

  blocks_agree : (first n : ℕ) → first + n ≤ v.dblocks
      → map slot_number (flat_map (inodes_of_block v) (range_with_len first n)) ≡ map (number_at image) (flat_map (λ block. each_of 8 (slot_place block)) (range_with_len first n))
  blocks_agree first zero inside = refl
  blocks_agree first (suc n) inside =
      map-append slot_number (inodes_of_block v first) (flat_map (inodes_of_block v) (range_with_len (first + 1) n))
      ∙ ap₂ (λ (xs ys : List ℕ). xs ++ ys) (block_agrees first (omega (arith, inside))) (blocks_agree (first + 1) n (omega (arith, inside)))
      ∙ sym (map-append (number_at image) (each_of 8 (slot_place first)) (flat_map (λ block. each_of 8 (slot_place block)) (range_with_len (first + 1) n)))

  clusters_agree : (clusters : List ℕ) → All (λ cluster. cluster + 4 ≤ v.dblocks) clusters
      → map slot_number (flat_map (cluster_inodes v) clusters) ≡ map (number_at image) (flat_map cluster_places clusters)
  unfolding cluster_inodes
  clusters_agree [] inside = refl
  clusters_agree (cluster ∷ clusters) inside =
      map-append slot_number (flat_map (inodes_of_block v) (cluster_blocks cluster)) (flat_map (cluster_inodes v) clusters)
      ∙ ap₂ (λ (xs ys : List ℕ). xs ++ ys) (blocks_agree cluster 4 (inside 0 0 (omega arith))) (clusters_agree clusters (λ k d low. inside (suc k) d (omega (arith, low))))
      ∙ sym (map-append (number_at image) (cluster_places cluster) (flat_map cluster_places clusters))

  -- those of all slots of clusters that lie in the volume
  pub numbers_are_first : (clusters numbers : List ℕ) → All (λ cluster. cluster + 4 ≤ v.dblocks) clusters
      → numbers ≡ map (λ ino. field_of (slot_bytes v image ino) 112 8) (flat_map (cluster_inodes v) clusters) → AreFirstNumbers image clusters numbers
  numbers_are_first clusters numbers inside are = sym (take-length numbers) ∙ ap (take (length numbers)) (are ∙ clusters_agree clusters inside)
