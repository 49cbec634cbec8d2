-- The inodes of the groups that are due: those of the chunks, in order.
use Rattle.std.proofs.Common.{◌≡◌, ℕ, zero, suc, ◌+◌, ◌*◌, ◌/◌, ◌%◌, ◌==◌, ◌≤◌, ◌<◌, Bool, true, false, cond, List, [], ◌∷◌, ◌++◌, length, map, get_or, arith, refl, sym, subst, ap, ap₂, ◌∙◌}
use Rattle.std.specs.List.{filter, flat_map, range_with_len}
use Rattle.std.proofs.Math.Nat.{div-mul-le_self}
use Rattle.std.proofs.lemmas.Bool.{eqb-true}
use Rattle.std.proofs.lemmas.List.FromFn.{get_or-map-range_with_len}
use Rattle.std.proofs.lemmas.Nat.{div-add-mod', div-mul-add, le-div}
use Rattle.xfs_geom.specs.Conversions.{inode_of}
use Rattle.xfs_geom.specs.Volumes.{Volume, volume_of}
use Rattle.xfs_geom.specs.declared.geometry.Geometry.{Geometry}
use Rattle.xfs_geom.specs.declared.records.InoRec.{InoRec}
use Rattle.xfs_kinds.specs.InodeTrees.{ino_shape}
use Rattle.xfs_volume.specs.declared.groups.GroupRec.{GroupRec}
use Rattle.xfs_image.specs.Clusters.{chunk_clusters, clusters_in}
use Rattle.xfs_image.specs.Files.{clusters_from, clusters_of, inodes_of}
use Rattle.xfs_image.specs.Groups.{head_block}
use Rattle.xfs_image.specs.Slots.{cluster_inodes, inodes_of_block}
use Rattle.xfs_place.specs.Wanted.{inodes_in_group}
use Rattle.xfs_place.specs.declared.placed.GroupPlaced.{GroupPlaced}
use Rattle.xfs_place.specs.declared.wanted.GroupInodes.{GroupInodes}
use Rattle.xfs_made.specs.Groups.{due_group_at, due_groups}
use Rattle.xfs_filled.specs.Chunks.{inodes_filled, chunk_record, chunks_of_group, inodes_of_group}
use Rattle.xfs_filled.specs.Numbers.{inode_at}
use Rattle.xfs_filled.proofs.Asked.{group_few}
use Rattle.xfs_filled.proofs.Rising.{rise_apart}
use Rattle.xfs_filled.proofs.Starting.{AreChunks}
use Rattle.xfs_populated.proofs.NumberLists.{by_groups, flat_same, map_range_on, of_group}

-- the clusters of some groups, group by group
clusters_by : (v : Volume) (f : ℕ → GroupRec) (ag n : ℕ)
    → clusters_from v ag (map f (range_with_len ag n)) ≡ flat_map (λ k. chunk_clusters v k (f k).ino) (range_with_len ag n)
clusters_by v f ag zero = refl
clusters_by v f ag (suc n) = ap (λ (xs : List ℕ). chunk_clusters v ag (f ag).ino ++ xs) (clusters_by v f (ag + 1) n)

eighth : (x : ℕ) → x * 8 / 8 ≡ x
eighth x = omega arith

module _ (v : Volume) (starts : List ℕ) where
  abbrev start : ℕ → ℕ
  start c = get_or starts c 0

  -- the group of a chunk, and its two clusters
  abbrev pub key : ℕ → ℕ
  key c = start c / v.agblocks

  abbrev pub clusters : ℕ → List ℕ
  clusters c = start c ∷ (start c + 4) ∷ []

  -- the inodes of the blocks of a chunk
  pub slot_is : (c m k at : ℕ) → m < 8 → k < 8 → at ≡ 64 * c + (8 * m + k) → inode_of v (start c + m) k ≡ inode_at v starts at
  slot_is c m k at few low is =
      let chunk : at / 64 ≡ c = omega (arith, few, low, is) in
      let block : at % 64 / 8 ≡ m = omega (arith, few, low, is) in
      let slot : at % 8 ≡ k = omega (arith, few, low, is) in
      sym
      (ap (λ (x : ℕ). inode_of v (start x + at % 64 / 8) (at % 8)) chunk ∙ ap (λ (x : ℕ). inode_of v (start c + x) (at % 8)) block
      ∙ ap (λ (x : ℕ). inode_of v (start c + m) x) slot)

  slots_are : (c m n k at : ℕ) → m < 8 → k + n ≤ 8 → at ≡ 64 * c + (8 * m + k)
      → map (inode_of v (start c + m)) (range_with_len k n) ≡ map (inode_at v starts) (range_with_len at n)
  slots_are c m zero k at few low is = refl
  slots_are c m (suc n) k at few low is =
      ap₂ (λ (x : ℕ) (xs : List ℕ). x ∷ xs) (slot_is c m k at few (omega (arith, low)) is)
      (slots_are c m n (k + 1) (at + 1) few (omega (arith, low)) (omega (arith, is)))

  blocks_are : (c n m b at : ℕ) → m + n ≤ 8 → b ≡ start c + m → at ≡ 64 * c + 8 * m
      → flat_map (inodes_of_block v) (range_with_len b n) ≡ map (inode_at v starts) (range_with_len at (8 * n))
  blocks_are c zero m b at few there is = refl
  blocks_are c (suc n) m b at few there is =
      ap₂ (λ (xs ys : List ℕ). xs ++ ys)
      (ap (λ (x : ℕ). map (inode_of v x) (range_with_len 0 8)) there ∙ slots_are c m 8 0 at (omega (arith, few)) (omega arith) (omega (arith, is)))
      (blocks_are c n (m + 1) (b + 1) (at + 8) (omega (arith, few)) (omega (arith, there)) (omega (arith, is)))
      ∙ map_range_on (inode_at v starts) at 8 (at + 8) (8 * n) (8 * suc n) refl (omega arith)

  cluster_is : (c m b at : ℕ) → m + 4 ≤ 8 → b ≡ start c + m → at ≡ 64 * c + 8 * m → cluster_inodes v b ≡ map (inode_at v starts) (range_with_len at 32)
  unfolding cluster_inodes
  cluster_is c m b at few there is = blocks_are c 4 m b at few there is

  chunks_are : (n c : ℕ) → flat_map (cluster_inodes v) (flat_map clusters (range_with_len c n)) ≡ map (inode_at v starts) (range_with_len (64 * c) (64 * n))
  chunks_are zero c = refl
  chunks_are (suc n) c =
      ap₂ (λ (xs ys : List ℕ). xs ++ ys)
      (cluster_is c 0 (start c) (64 * c) (omega arith) (omega arith) (omega arith))
      (ap₂ (λ (xs ys : List ℕ). xs ++ ys)
      (cluster_is c 4 (start c + 4) (64 * c + 32) (omega arith) refl (omega arith))
      (chunks_are n (c + 1))
      ∙ map_range_on (inode_at v starts) (64 * c + 32) 32 (64 * (c + 1)) (64 * n) (32 + 64 * n) (omega arith) refl)
      ∙ map_range_on (inode_at v starts) (64 * c) 32 (64 * c + 32) (32 + 64 * n) (64 * suc n) refl (omega arith)

  module _ (files : ℕ) where
    -- the clusters of a chunk by its record
    record_clusters : (ag c : ℕ) → key c ≡ ag → clusters_in (head_block v ag) ((ino_shape ag).settled (chunk_record v files starts c)) ≡ clusters c
    record_clusters ag c group =
        let whole : start c / v.agblocks * v.agblocks + start c % v.agblocks ≡ start c = div-add-mod' (start c) v.agblocks in
        let base : key c * v.agblocks ≡ ag * v.agblocks = ap (λ (a : ℕ). a * v.agblocks) group in
        let there : ag * v.agblocks + start c % v.agblocks * 8 / 8 ≡ start c =
        ap (λ (n : ℕ). ag * v.agblocks + n) (eighth (start c % v.agblocks)) ∙ (ap (λ (n : ℕ). n + start c % v.agblocks) (sym base) ∙ whole) in
        ap (λ (b : ℕ). b ∷ (b + 4) ∷ []) there

    group_clusters : (ag m a : ℕ)
        → chunk_clusters v ag (map (ino_shape ag).settled (map (chunk_record v files starts) (filter (λ (c : ℕ). key c == ag) (range_with_len a m)))) ≡ of_group key clusters ag a m
    group_clusters ag zero a = refl
    group_clusters ag (suc m) a = by_case (key a == ag) refl (group_clusters ag m (a + 1))
      where
        rest : List ℕ
        rest = filter (λ (c : ℕ). key c == ag) (range_with_len (a + 1) m)

        by_case : (t : Bool) → (key a == ag) ≡ t → chunk_clusters v ag (map (ino_shape ag).settled (map (chunk_record v files starts) rest)) ≡ flat_map clusters rest
            → chunk_clusters v ag (map (ino_shape ag).settled (map (chunk_record v files starts) (cond t (a ∷ rest) rest))) ≡ flat_map clusters (cond t (a ∷ rest) rest)
        by_case true is behind = ap₂ (λ (xs ys : List ℕ). xs ++ ys) (record_clusters ag a (eqb-true (key a) ag is)) behind
        by_case false is behind = behind

abbrev no_records : GroupInodes
no_records = record { records = [] }

module _ (g : Geometry) (files : ℕ) (starts : List ℕ) (chunks : AreChunks (volume_of g) starts) (groups : List GroupPlaced) (agf agi : ℕ → ℕ) where
  abbrev v : Volume
  v = volume_of g

  records_are : (ag : ℕ) → ag < g.agcount → inodes_in_group (inodes_filled g files starts) ag ≡ chunks_of_group (volume_of g) files starts ag
  records_are ag low = ap (λ (r : GroupInodes). r.records) (get_or-map-range_with_len (inodes_of_group (volume_of g) files starts) 0 g.agcount ag ag no_records low (omega arith))

  group_is : (ag : ℕ) → ag < g.agcount
      → chunk_clusters (volume_of g) ag (due_group_at (volume_of g) (inodes_filled g files starts) groups agf agi ag).ino
      ≡ of_group (key (volume_of g) starts) (clusters (volume_of g) starts) ag 0 (length starts)
  group_is ag low =
      ap (λ (rs : List InoRec). chunk_clusters (volume_of g) ag (map (ino_shape ag).settled rs)) (records_are ag low) ∙ group_clusters (volume_of g) starts files ag (length starts) 0

  in_group : (c : ℕ) → c < length starts → key (volume_of g) starts c < g.agcount
  in_group c low =
      let chunk = chunks.each c 0 low in
      let few = group_few (volume_of g) chunk.group g.shape.groups in
      let ends = chunk.ends in
      let short : chunk.number * 8 < g.agblocks = omega (arith, few, ends) in
      let group : get_or starts c 0 / g.agblocks ≡ chunk.group = ap (λ (s : ℕ). s / g.agblocks) chunk.at ∙ div-mul-add chunk.group g.agblocks (chunk.number * 8) short in
      subst (λ (n : ℕ). n < g.agcount) (sym group) chunk.inside

  up : (c e : ℕ) → c < e → e < length starts → key (volume_of g) starts c ≤ key (volume_of g) starts e
  up c e less low =
      let apart = rise_apart (g.agcount * g.agblocks) 16 c e 0 starts chunks.rise less low in
      let large = g.shape.groups.large in
      let whole = div-mul-le_self (get_or starts c 0) g.agblocks in
      le-div (get_or starts c 0 / g.agblocks) (get_or starts e 0) g.agblocks (omega (arith, large)) (omega (arith, apart, whole))

  pub clusters_are : clusters_of (volume_of g) (due_groups (volume_of g) (inodes_filled g files starts) groups agf agi)
      ≡ flat_map (clusters (volume_of g) starts) (range_with_len 0 (length starts))
  unfolding clusters_of
  clusters_are =
      clusters_by (volume_of g) (due_group_at (volume_of g) (inodes_filled g files starts) groups agf agi) 0 g.agcount
      ∙ flat_same (λ ag. chunk_clusters (volume_of g) ag (due_group_at (volume_of g) (inodes_filled g files starts) groups agf agi ag).ino)
      (λ ag. of_group (key (volume_of g) starts) (clusters (volume_of g) starts) ag 0 (length starts)) 0 g.agcount (λ ag low high. group_is ag (omega (arith, high)))
      ∙ by_groups (key (volume_of g) starts) (clusters (volume_of g) starts) (length starts) up g.agcount 0 (length starts) 0 (omega arith)
      (λ c low high. let few = in_group c (omega (arith, high)) in (omega arith, omega (arith, few)))

  pub inodes_are : inodes_of (volume_of g) (due_groups (volume_of g) (inodes_filled g files starts) groups agf agi)
      ≡ map (inode_at (volume_of g) starts) (range_with_len 0 (64 * length starts))
  unfolding inodes_of
  inodes_are = ap (flat_map (cluster_inodes (volume_of g))) clusters_are ∙ chunks_are (volume_of g) starts (length starts) 0
