-- What stands at the places of log sequence numbers stays where backup superblocks alone differ.
use Rattle.std.proofs.Common.{◌≡◌, ℕ, Bool, true, false, ◌+◌, ◌*◌, ◌≤◌, ◌<◌, ◌==◌, nat_le, nat_lt, if◌then◌else◌, List, [], ◌∷◌, ◌++◌, map, length, refl, ap, arith, inl, inr}
use Rattle.std.specs.List.{AllByRecursion, flat_map, range_with_len}
use Rattle.std.proofs.lemmas.Bool.{and_from, le-leb, lt-ltb}
use Rattle.xfs_disk.specs.Blocks.{Image, bytes_of_block}
use Rattle.xfs_word.specs.Field.{field_of}
use Rattle.xfs_word.specs.declared.extents.Extent.{Extent}
use Rattle.xfs_geom.specs.Groups.{block_of_address}
use Rattle.xfs_geom.specs.Volumes.{Volume, volume_of}
use Rattle.xfs_geom.specs.declared.geometry.Geometry.{Geometry}
use Rattle.xfs_tree.specs.Blocks.{each_of}
use Rattle.xfs_volume.specs.Names.{type_of}
use Rattle.xfs_volume.specs.declared.catalogs.BlockLsn.{BlockLsn}
use Rattle.xfs_volume.specs.declared.files.FileRec.{FileRec}
use Rattle.xfs_volume.specs.declared.groups.GroupRec.{GroupRec}
use Rattle.xfs_volume.specs.declared.groups.TreeBlocks.{TreeBlocks}
use Rattle.xfs_image.specs.Claims.{is_of_cluster}
use Rattle.xfs_image.specs.Files.{clusters_from, clusters_of}
use Rattle.xfs_image.specs.GroupParts.{AreGroupsRead, IsGroupRead}
use Rattle.xfs_image.specs.Groups.{head_block}
use Rattle.xfs_image.specs.Lsns.{LsnPlace, at, cluster_places, data_places, dir_byte, extent_place, extent_places, file_places, groups_places, head_places, lsn_at, lsn_places, slot_place, tree_lsn_places}
use Rattle.xfs_image.specs.Slots.{cluster_blocks}
use Rattle.xfs_views.proofs.Members.{Member, member_all, member_flat, row_member}
use Rattle.xfs_views.proofs.Spaces.{IsOnce}
use Rattle.xfs_views.specs.Backups.{DifferInBackups, HasSameHeaders, group_tree_blocks}
use Rattle.xfs_views.proofs.NamedClaims.{attr_claimed, data_claimed, tree_claimed}
use Rattle.xfs_views.proofs.GroupsStay.{field_behind}
use Rattle.xfs_views.proofs.SlotsStay.{claims_same, cluster_same}
use Rattle.xfs_views.proofs.Unfixed.{first_same, headers_same, trees_same}

-- what holds of each in lists that are joined, and in those that each of a list gives
all_join : {X : Type 0} (P : X → Type 0) (xs ys : List X) → AllByRecursion P xs → AllByRecursion P ys → AllByRecursion P (xs ++ ys)
all_join P [] ys first rest = rest
all_join P (x ∷ xs) ys first rest = (first.0, all_join P xs ys first.1 rest)

all_flat : {X Y : Type 0} (P : Y → Type 0) (f : X → List Y) (xs : List X) → ((x : X) → Member x xs → AllByRecursion P (f x)) → AllByRecursion P (flat_map f xs)
all_flat P f [] each = tt
all_flat P f (x ∷ xs) each = all_join P (f x) (flat_map f xs) (each x (inl refl)) (all_flat P f xs (λ y is. each y (inr is)))

all_map : {X Y : Type 0} (P : Y → Type 0) (f : X → Y) (xs : List X) → ((x : X) → Member x xs → P (f x)) → AllByRecursion P (map f xs)
all_map P f [] each = tt
all_map P f (x ∷ xs) each = (each x (inl refl), all_map P f xs (λ y is. each y (inr is)))

-- the same number stands at the place in both images
abbrev pub Stands : Image → Image → LsnPlace → Type 0
Stands image now p = lsn_at now p ≡ lsn_at image p

abbrev number_of : ℕ → ℕ → BlockLsn
number_of block lsn = record { block = block; lsn = lsn }

stands : (image now : Image) (block byte : ℕ) → bytes_of_block now block ≡ bytes_of_block image block → Stands image now (at byte block)
stands image now block byte same = ap (λ (bytes : List ℕ). number_of block (field_of bytes byte 8)) same

stands_behind : (v : Volume) (image now : Image) (ag byte : ℕ) → HasSameHeaders v image now ag → Stands image now (at (512 + byte) (head_block v ag))
stands_behind v image now ag byte same =
    ap (number_of (head_block v ag)) (field_behind byte 8 (bytes_of_block image (head_block v ag)) (bytes_of_block now (head_block v ag)) same)

heads_stand : (v : Volume) (image now : Image) (ag : ℕ) → HasSameHeaders v image now ag → AllByRecursion (Stands image now) (head_places v ag)
heads_stand v image now ag same = (stands_behind v image now ag 208 same, (stands_behind v image now ag 832 same, (stands_behind v image now ag 1048 same, tt)))

in_cluster : (x block : ℕ) → Member block (cluster_blocks x) → is_of_cluster x block ≡ true
in_cluster x block has =
    let row = row_member block x 4 has in
    and_from (nat_le x block) (nat_lt block (x + 4)) (le-leb x block row.low) (lt-ltb block (x + 4) row.high)

module _ (g : Geometry) (image now : Image) (differ : DifferInBackups (volume_of g) image now) (groups : List GroupRec) (files : List FileRec) (space : IsOnce g groups files) where
  trees_stand : (ag : ℕ) (group : GroupRec) → IsGroupRead (volume_of g) image ag group → AllByRecursion (Stands image now) (tree_lsn_places group)
  trees_stand ag group read =
      all_flat (Stands image now) (λ (tree : TreeBlocks). map (at 24) tree.blocks) group.blocks
      (λ tree is.
      all_map (Stands image now) (at 24) tree.blocks
      (λ block has.
      stands image now block 24
      (member_all (λ (b : ℕ). bytes_of_block now b ≡ bytes_of_block image b) block (group_tree_blocks group) (trees_same g image now differ ag group read)
      (member_flat (λ (t : TreeBlocks). t.blocks) tree block group.blocks is has))))

  groups_stand : (ag : ℕ) (gs : List GroupRec) → AreGroupsRead (volume_of g) image ag gs → ag + length gs ≤ g.agcount → AllByRecursion (Stands image now) (groups_places (volume_of g) ag gs)
  groups_stand ag [] read few = tt
  groups_stand ag (group ∷ gs) read few =
      all_join (Stands image now) (head_places (volume_of g) ag ++ tree_lsn_places group) (groups_places (volume_of g) (ag + 1) gs)
      (all_join (Stands image now) (head_places (volume_of g) ag) (tree_lsn_places group)
      (heads_stand (volume_of g) image now ag (headers_same g image now differ ag (omega (arith, few)))) (trees_stand ag group read.0))
      (groups_stand (ag + 1) gs read.1 (omega (arith, few)))

  clusters_stand : AllByRecursion (Stands image now) (flat_map cluster_places (clusters_of (volume_of g) groups))
  unfolding clusters_of
  clusters_stand =
      all_flat (Stands image now) cluster_places (clusters_from (volume_of g) 0 groups)
      (λ x is.
      all_flat (Stands image now) (λ block. each_of 8 (slot_place block)) (cluster_blocks x)
      (λ block has.
      all_map (Stands image now) (slot_place block) (range_with_len 0 8)
      (λ slot few. stands image now block (512 * slot + 112) (cluster_same g image now differ groups files space x block is (in_cluster x block has)))))

  -- the blocks of extents that a file claims
  extents_stand : (f : FileRec) → Member f files → (byte : ℕ → ℕ) (es : List Extent)
      → ((e : Extent) (i : ℕ) → Member e es → i < e.count → bytes_of_block now (block_of_address g.agblocks g.agblklog e.start + i) ≡ bytes_of_block image (block_of_address g.agblocks g.agblklog e.start + i))
      → AllByRecursion (Stands image now) (flat_map (extent_places (volume_of g) byte) es)
  extents_stand f is byte es same =
      all_flat (Stands image now) (extent_places (volume_of g) byte) es
      (λ e has.
      all_map (Stands image now) (extent_place (volume_of g) byte e) (range_with_len 0 e.count)
      (λ i few.
      let row = row_member i 0 e.count few in
      let high = row.high in
      stands image now (block_of_address g.agblocks g.agblklog e.start + i) (byte (e.offset + i)) (same e i has (omega (arith, high)))))

  data_stand : (f : FileRec) → Member f files → AllByRecursion (Stands image now) (data_places (volume_of g) f)
  data_stand f is = by_kind (type_of f == 4) (type_of f == 10)
    where
      blocks : (byte : ℕ → ℕ) → AllByRecursion (Stands image now) (flat_map (extent_places (volume_of g) byte) f.extents)
      blocks byte =
          extents_stand f is byte f.extents
          (λ e i has few. claims_same g image now differ groups files space f is (block_of_address g.agblocks g.agblklog e.start + i) (data_claimed (volume_of g) f e i has few))

      by_kind : (directory link : Bool)
          → AllByRecursion (Stands image now) (if directory then flat_map (extent_places (volume_of g) dir_byte) f.extents else if link then flat_map (extent_places (volume_of g) (λ offset. 48)) f.extents else [])
      by_kind true link = blocks dir_byte
      by_kind false true = blocks (λ offset. 48)
      by_kind false false = tt

  file_stands : (f : FileRec) → Member f files → AllByRecursion (Stands image now) (file_places (volume_of g) f)
  file_stands f is =
      all_join (Stands image now) (data_places (volume_of g) f ++ map (at 32) f.rest.tree) (flat_map (extent_places (volume_of g) (λ offset. 24)) f.rest.attr_extents)
      (all_join (Stands image now) (data_places (volume_of g) f) (map (at 32) f.rest.tree) (data_stand f is)
      (all_map (Stands image now) (at 32) f.rest.tree (λ block has. stands image now block 32 (claims_same g image now differ groups files space f is block (tree_claimed (volume_of g) f block has)))))
      (extents_stand f is (λ offset. 24) f.rest.attr_extents
      (λ e i has few. claims_same g image now differ groups files space f is (block_of_address g.agblocks g.agblklog e.start + i) (attr_claimed (volume_of g) f e i has few)))

  pub places_stand : AreGroupsRead (volume_of g) image 0 groups → AllByRecursion (Stands image now) (lsn_places (volume_of g) groups files)
  places_stand read =
      let count = space.count in (
        stands image now 0 240 (first_same g image now differ),
        all_join (Stands image now) (groups_places (volume_of g) 0 groups ++ flat_map cluster_places (clusters_of (volume_of g) groups)) (flat_map (file_places (volume_of g)) files)
            (all_join (Stands image now) (groups_places (volume_of g) 0 groups) (flat_map cluster_places (clusters_of (volume_of g) groups)) (groups_stand 0 groups read (omega (arith, count))) clusters_stand)
            (all_flat (Stands image now) (file_places (volume_of g)) files file_stands),
      )
