-- The two clusters of an empty volume, at blocks 16 and 20, and their inodes, 128 to 191.
use Rattle.std.proofs.Common.{◌≡◌, ℕ, zero, suc, ◌+◌, ◌*◌, ◌/◌, ◌%◌, ◌^◌, ◌≤◌, ◌<◌, false, ◌==◌, cond, List, [], ◌∷◌, ◌++◌, map, refl, sym, ap, ◌∙◌, arith}
use Rattle.std.specs.List.{flat_map, range_with_len}
use Rattle.std.proofs.Math.Nat.{mod-eq_of_lt, div-eq_of_lt}
use Rattle.std.proofs.lemmas.Bool.{ne_eqb}
use Rattle.xfs_geom.specs.Conversions.{address_of, inode_of}
use Rattle.xfs_geom.specs.Volumes.{Volume, volume_of}
use Rattle.xfs_geom.specs.declared.geometry.Geometry.{Geometry}
use Rattle.xfs_geom.specs.declared.records.InoRec.{InoRec}
use Rattle.xfs_kinds.specs.InodeTrees.{ino_shape}
use Rattle.xfs_volume.specs.declared.groups.GroupRec.{GroupRec}
use Rattle.xfs_image.specs.Clusters.{chunk_clusters, clusters_in}
use Rattle.xfs_image.specs.Files.{clusters_from, clusters_of, inodes_of}
use Rattle.xfs_image.specs.Slots.{cluster_inodes, inodes_of_block}
use Rattle.xfs_place.specs.Wanted.{inodes_in_group as records_of}
use Rattle.xfs_place.specs.declared.placed.GroupPlaced.{GroupPlaced}
use Rattle.xfs_place.specs.declared.wanted.GroupInodes.{GroupInodes}
use Rattle.xfs_made.specs.Groups.{due_group_at, due_groups}
use Rattle.xfs_empty.specs.Placing.{all_inodes, chunks_of, first_chunk}
use Rattle.xfs_empty.proofs.Kept.{inodes_are}
use Rattle.xfs_made.proofs.RowLists.{both_ranges, flat_first, range_on}

-- the inodes of a block of the first group
inode_is : (v : Volume) (block k : ℕ) → block < v.agblocks → v.agblocks ≤ 2 ^ v.agblklog → inode_of v block k ≡ 8 * block + k
unfolding inode_of address_of
inode_is v block k short enough =
    let group : block / v.agblocks ≡ 0 = div-eq_of_lt short in
    let rest : block % v.agblocks ≡ block = mod-eq_of_lt short in
    rw (group, rest) (omega arith)

some_inodes : (v : Volume) (block k n a : ℕ) → block < v.agblocks → v.agblocks ≤ 2 ^ v.agblklog → a ≡ 8 * block + k
    → map (inode_of v block) (range_with_len k n) ≡ range_with_len a n
some_inodes v block k zero a short enough at = refl
some_inodes v block k (suc n) a short enough at =
    let first : inode_of v block k ≡ a = inode_is v block k short enough ∙ sym at in
    rw first (ap (λ (xs : List ℕ). a ∷ xs) (some_inodes v block (k + 1) n (a + 1) short enough (omega (arith, at))))

-- those of some blocks in a row
blocks_inodes : (v : Volume) (block n a : ℕ) → block + n ≤ v.agblocks → v.agblocks ≤ 2 ^ v.agblklog → a ≡ 8 * block
    → flat_map (inodes_of_block v) (range_with_len block n) ≡ range_with_len a (8 * n)
blocks_inodes v block zero a short enough at = refl
blocks_inodes v block (suc n) a short enough at =
    let first : inodes_of_block v block ≡ range_with_len a 8 = some_inodes v block 0 8 a (omega (arith, short)) enough (omega (arith, at)) in
    let behind : flat_map (inodes_of_block v) (range_with_len (block + 1) n) ≡ range_with_len (a + 8) (8 * n) =
    blocks_inodes v (block + 1) n (a + 8) (omega (arith, short)) enough (omega (arith, at)) in
    ap (λ (xs : List ℕ). xs ++ flat_map (inodes_of_block v) (range_with_len (block + 1) n)) first
    ∙ (ap (λ (xs : List ℕ). range_with_len a 8 ++ xs) behind ∙ range_on a 8 (a + 8) (8 * n) (8 * suc n) refl (omega arith))

cluster_inodes_are : (v : Volume) (cluster a : ℕ) → cluster + 4 ≤ v.agblocks → v.agblocks ≤ 2 ^ v.agblklog → a ≡ 8 * cluster
    → cluster_inodes v cluster ≡ range_with_len a 32
unfolding cluster_inodes
cluster_inodes_are v cluster a short enough at = blocks_inodes v cluster 4 a short enough at

-- the clusters of some groups, group by group
clusters_by : (v : Volume) (f : ℕ → GroupRec) (ag n : ℕ)
    → clusters_from v ag (map f (range_with_len ag n)) ≡ flat_map (λ k. chunk_clusters v k (f k).ino) (range_with_len ag n)
clusters_by v f ag zero = refl
clusters_by v f ag (suc n) = ap (λ (xs : List ℕ). chunk_clusters v ag (f ag).ino ++ xs) (clusters_by v f (ag + 1) n)

abbrev no_records : GroupInodes
no_records = record { records = [] }

-- the records of inodes of a group as they are wanted
pub records_are : (n ag : ℕ) → ag < n → records_of (all_inodes n) ag ≡ chunks_of ag
records_are n ag low = ap (λ (r : GroupInodes). r.records) (inodes_are n ag no_records low)

pub no_chunks : (ag : ℕ) → 1 ≤ ag → chunks_of ag ≡ []
no_chunks ag other =
    let not_first : (ag == 0) ≡ false = ne_eqb ag 0 (λ none. absurd (omega (arith, none, other))) in
    ap (λ b. cond b (first_chunk ∷ []) []) not_first

module _ (g : Geometry) (groups : List GroupPlaced) (agf_crc agi_crc : ℕ → ℕ) where
  -- the clusters of a group, by the records that are wanted there
  group_clusters : (ag : ℕ) (chunks : List InoRec) → ag < g.agcount → chunks_of ag ≡ chunks
      → chunk_clusters (volume_of g) ag (due_group_at (volume_of g) (all_inodes g.agcount) groups agf_crc agi_crc ag).ino
      ≡ chunk_clusters (volume_of g) ag (map (ino_shape ag).settled chunks)
  group_clusters ag chunks low are =
      ap (λ (rs : List InoRec). chunk_clusters (volume_of g) ag (map (ino_shape ag).settled rs)) (records_are g.agcount ag low ∙ are)

  first_two : chunk_clusters (volume_of g) 0 (map (ino_shape 0).settled (first_chunk ∷ [])) ≡ 16 ∷ 20 ∷ []
  first_two =
      let start : 0 * g.agblocks ≡ 0 = omega arith in
      ap (λ (base : ℕ). clusters_in base ((ino_shape 0).settled first_chunk) ++ []) start

  pub clusters_are : clusters_of (volume_of g) (due_groups (volume_of g) (all_inodes g.agcount) groups agf_crc agi_crc) ≡ 16 ∷ 20 ∷ []
  unfolding clusters_of
  clusters_are =
      clusters_by (volume_of g) (due_group_at (volume_of g) (all_inodes g.agcount) groups agf_crc agi_crc) 0 g.agcount
      ∙ flat_first (λ ag. chunk_clusters (volume_of g) ag (due_group_at (volume_of g) (all_inodes g.agcount) groups agf_crc agi_crc ag).ino)
      g.agcount (16 ∷ 20 ∷ []) (omega (arith, g.shape.groups.two))
      (group_clusters 0 (first_chunk ∷ []) (omega (arith, g.shape.groups.two)) refl ∙ first_two)
      (λ ag other low. group_clusters ag [] low (no_chunks ag other))

  pub inodes_are_first : inodes_of (volume_of g) (due_groups (volume_of g) (all_inodes g.agcount) groups agf_crc agi_crc) ≡ range_with_len 128 64
  unfolding inodes_of
  inodes_are_first =
      let large = g.shape.groups.large in
      let enough = g.shape.addresses.enough in
      ap (flat_map (cluster_inodes (volume_of g))) clusters_are
      ∙ both_ranges (cluster_inodes (volume_of g) 16) (cluster_inodes (volume_of g) 20) 128 32 160 32 64
      (cluster_inodes_are (volume_of g) 16 128 (omega (arith, large)) enough refl)
      (cluster_inodes_are (volume_of g) 20 160 (omega (arith, large)) enough refl) refl refl
