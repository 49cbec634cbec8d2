-- The slots of the first chunk state no log sequence number.
use Rattle.std.proofs.Common.{◌≡◌, ℕ, ◌+◌, ◌*◌, ◌≤◌, ◌<◌, ◌⊎◌, inl, inr, List, [], drop, take, get_or, refl, sym, ap, ◌∙◌, arith}
use Rattle.std.specs.List.{All, flat_map}
use Rattle.std.proofs.lemmas.Bool.{cases_lt}
use Rattle.std.proofs.lemmas.List.{get_or-drop, get_or-take}
use Rattle.xfs_disk.specs.Blocks.{Image, bytes_of_block}
use Rattle.xfs_disk.specs.declared.stamp.Stamp.{Stamp}
use Rattle.xfs_word.specs.Field.{field_of, part_of}
use Rattle.xfs_word.proofs.Written.{big_from-same}
use Rattle.xfs_geom.specs.Shape.{HasGroups, HasAddresses}
use Rattle.xfs_geom.specs.Volumes.{Volume, volume_of}
use Rattle.xfs_geom.specs.declared.geometry.Geometry.{Geometry}
use Rattle.xfs_inode.specs.Cores.{stated_core}
use Rattle.xfs_tree.specs.Blocks.{each_of}
use Rattle.xfs_volume.specs.declared.cores.Core.{Core}
use Rattle.xfs_image.specs.Files.{clusters_of}
use Rattle.xfs_image.specs.Lsns.{LsnPlace, cluster_places, file_places, lsn_at, slot_place}
use Rattle.xfs_image.specs.Slots.{bytes_in, slot_bytes}
use Rattle.xfs_place.specs.declared.placed.GroupPlaced.{GroupPlaced}
use Rattle.xfs_made.specs.Groups.{due_groups}
use Rattle.xfs_empty.specs.Placing.{all_inodes}
use Rattle.xfs_made.specs.Files.{HasFirstSlots, first_files}
use Rattle.xfs_made.proofs.FirstClusters.{clusters_are}
use Rattle.xfs_made.proofs.FirstSlots.{free_slot_is, root_slot_is, slot_is, slot_of, system_slot_is}
use Rattle.xfs_made.proofs.RowLists.{all_items, all_lists, all_of_two}

-- a number in a part of some bytes
number_in_part : (bytes : List ℕ) (at width a w : ℕ) → a + w ≤ width → field_of (part_of bytes at width) a w ≡ field_of bytes (at + a) w
unfolding field_of part_of
number_in_part bytes at width a w inside =
    big_from-same 0 w (drop (at + a) bytes) (drop a (take width (drop at bytes)))
    (record {
      agree = λ k low high.
          let place : at + (a + k) ≡ at + a + k = omega arith in
          get_or-drop a (take width (drop at bytes)) k 0
          ∙ (get_or-take width (drop at bytes) (a + k) 0 (omega (arith, inside, high))
          ∙ (get_or-drop at bytes (a + k) 0
          ∙ (ap (λ (n : ℕ). get_or bytes n 0) place ∙ sym (get_or-drop (at + a) bytes k 0))));
    })

module _ (v : Volume) (s : Stamp) (image : Image) (slots : HasFirstSlots v s image) where
  -- the number that the core of a slot states
  slot_lsn : (ino : ℕ) → 128 ≤ ino → ino < 192 → (stated_core (slot_bytes v image ino)).lsn ≡ 0
  slot_lsn ino low high = by_case (cases_lt ino 129) (cases_lt ino 131)
    where
      by_case : (ino < 129) ⊎ (129 ≤ ino) → (ino < 131) ⊎ (131 ≤ ino) → (stated_core (slot_bytes v image ino)).lsn ≡ 0
      by_case (inl root) other =
          ap (λ (core : Core). core.lsn) (root_slot_is v s image ino (omega (arith, low, root)) (slot_of v s image ino low high slots)).stated
      by_case (inr behind) (inl system) =
          ap (λ (core : Core). core.lsn) (system_slot_is v s image ino behind system (slot_of v s image ino low high slots)).stated
      by_case (inr behind) (inr free) =
          ap (λ (core : Core). core.lsn) (free_slot_is v s image ino free (slot_of v s image ino low high slots)).stated

  place_lsn : HasGroups v.dblocks v.agblocks v.agcount → HasAddresses v.agblocks v.agblklog → (block k : ℕ) → 16 ≤ block → block < 24 → k < 8
      → (lsn_at image (slot_place block k)).lsn ≡ 0
  place_lsn groups addresses block k low high inside =
      let bytes : slot_bytes v image (8 * block + k) ≡ part_of (bytes_of_block image block) (512 * k) 512 =
      ap (bytes_in image) (slot_is v block k (8 * block + k) groups addresses (omega (arith, high)) inside refl) in
      let stated : field_of (slot_bytes v image (8 * block + k)) 112 8 ≡ 0 = slot_lsn (8 * block + k) (omega (arith, low)) (omega (arith, high, inside)) in
      sym (number_in_part (bytes_of_block image block) (512 * k) 512 112 8 (omega arith))
      ∙ (ap (λ (slot : List ℕ). field_of slot 112 8) (sym bytes) ∙ stated)

abbrev IsZeroAt : Image → LsnPlace → Type 0
IsZeroAt image place = (lsn_at image place).lsn ≡ 0

cluster_lsns : (g : Geometry) (s : Stamp) (image : Image) → HasFirstSlots (volume_of g) s image → (cluster : ℕ) → 16 ≤ cluster → cluster + 4 ≤ 24
    → All (IsZeroAt image) (cluster_places cluster)
cluster_lsns g s image slots cluster low high =
    all_lists (IsZeroAt image) (λ block. each_of 8 (slot_place block)) cluster 4
    (λ block from upto.
    all_items (IsZeroAt image) (slot_place block) 0 8
    (λ k some few.
    place_lsn (volume_of g) s image slots g.shape.groups g.shape.addresses block k (omega (arith, low, from)) (omega (arith, high, upto)) few))

pub lsns_zero : (g : Geometry) (s : Stamp) (image : Image) (groups : List GroupPlaced) (agf_crc agi_crc : ℕ → ℕ) → HasFirstSlots (volume_of g) s image
    → All (IsZeroAt image) (flat_map cluster_places (clusters_of (volume_of g) (due_groups (volume_of g) (all_inodes g.agcount) groups agf_crc agi_crc)))
lsns_zero g s image groups agf_crc agi_crc slots =
    all_of_two (IsZeroAt image) cluster_places (clusters_of (volume_of g) (due_groups (volume_of g) (all_inodes g.agcount) groups agf_crc agi_crc)) 16 20
    (clusters_are g groups agf_crc agi_crc)
    (cluster_lsns g s image slots 16 (omega arith) (omega arith)) (cluster_lsns g s image slots 20 (omega arith) (omega arith))

pub no_file_places : (v : Volume) (s : Stamp) (crc : ℕ → ℕ) → flat_map (file_places v) (first_files v s crc) ≡ []
no_file_places v s crc = refl
