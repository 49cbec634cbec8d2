-- The runs of the clusters of a new volume are its chunks, each in two halves.
use Rattle.std.proofs.Common.{◌≡◌, ℕ, zero, suc, ◌+◌, ◌*◌, ◌/◌, ◌==◌, ◌≤◌, ◌<◌, List, [], ◌∷◌, ◌++◌, length, map, get_or, refl, sym, ap, ap₂, ◌∙◌, subst, arith}
use Rattle.std.specs.Prelude.{if◌then◌else◌}
use Rattle.std.specs.List.{AllByRecursion, filter, flat_map, range_with_len, sum_by}
use Rattle.std.proofs.lemmas.List.{map-append}
use Rattle.std.proofs.lemmas.List.FromFn.{get_or-map-range_with_len}
use Rattle.std.proofs.lemmas.List.Sums.{sum_by-cons}
use Rattle.xfs_geom.specs.Volumes.{Volume, volume_of}
use Rattle.xfs_geom.specs.declared.geometry.Geometry.{Geometry}
use Rattle.xfs_geom.specs.declared.records.InoRec.{InoRec}
use Rattle.xfs_geom.specs.declared.records.Run.{Run}
use Rattle.xfs_kinds.specs.InodeTrees.{ino_shape, is_missing}
use Rattle.xfs_image.specs.Clusters.{chunk_clusters, clusters_in}
use Rattle.xfs_image.specs.Files.{clusters_from, clusters_of}
use Rattle.xfs_place.specs.Wanted.{inodes_in_group}
use Rattle.xfs_place.specs.declared.placed.GroupPlaced.{GroupPlaced}
use Rattle.xfs_place.specs.declared.wanted.GroupInodes.{GroupInodes}
use Rattle.xfs_space.specs.Owners.{cluster_run, cluster_runs, clusters_of_chunk}
use Rattle.xfs_made.specs.Groups.{due_group_at, due_groups}
use Rattle.xfs_made.specs.Keeping.{all_clusters}
use Rattle.xfs_filled.specs.Chunks.{inodes_filled, chunk_at, chunk_record, chunks_of_group, inodes_of_group}
use Rattle.xfs_filled.proofs.Starting.{AreChunks}
use Rattle.xfs_populated.proofs.NumberChunks.{clusters, clusters_are}
use Rattle.xfs_populated.proofs.RunsSeen.{AreAlike, cluster_at, halves_seen, seen}

-- a chunk with all its inodes has two clusters, by the blocks of the group and of the volume
chunk_runs : (base : ℕ) (r : InoRec) → r.holemask ≡ 0 → map (cluster_run base) (clusters_of_chunk r) ≡ map cluster_at (clusters_in base r)
chunk_runs base r whole =
    let next : base + (r.startino / 8 + 4) ≡ base + r.startino / 8 + 4 = omega arith in
    ap (λ (m : ℕ). map (cluster_run base) ((if m == 0x00ff then [] else ((r.startino / 8) ∷ [])) ++ (if m == 0xff00 then [] else ((r.startino / 8 + 4) ∷ [])))) whole
    ∙ (ap (λ (block : ℕ). cluster_at (base + r.startino / 8) ∷ cluster_at block ∷ []) next
    ∙ sym
    (ap (λ (m : ℕ). map cluster_at ((if is_missing m 0 then [] else ((base + r.startino / 8) ∷ [])) ++ (if is_missing m 32 then [] else ((base + r.startino / 8 + 4) ∷ [])))) whole))

abbrev AreWhole : List InoRec → Type 0
AreWhole rs = AllByRecursion (λ (r : InoRec). r.holemask ≡ 0) rs

all_chunk_runs : (base : ℕ) (rs : List InoRec) → AreWhole rs → map (cluster_run base) (flat_map clusters_of_chunk rs) ≡ map cluster_at (flat_map (clusters_in base) rs)
all_chunk_runs base [] whole = refl
all_chunk_runs base (r ∷ rs) whole =
    map-append (cluster_run base) (clusters_of_chunk r) (flat_map clusters_of_chunk rs)
    ∙ ap₂ (λ (xs ys : List Run). xs ++ ys) (chunk_runs base r whole.0) (all_chunk_runs base rs whole.1)
    ∙ sym (map-append cluster_at (clusters_in base r) (flat_map (clusters_in base) rs))

module _ (v : Volume) (inodes : List GroupInodes) (groups : List GroupPlaced) (agf agi : ℕ → ℕ)
    (whole : (ag : ℕ) → ag < v.agcount → AreWhole (map (ino_shape ag).settled (inodes_in_group inodes ag))) where
  group_runs : (a n : ℕ) → a + n ≤ v.agcount → flat_map (λ ag. cluster_runs (ag * v.agblocks) (map (ino_shape ag).settled (inodes_in_group inodes ag))) (range_with_len a n)
      ≡ map cluster_at (clusters_from v a (map (due_group_at v inodes groups agf agi) (range_with_len a n)))
  group_runs a zero few = refl
  group_runs a (suc n) few =
      ap₂ (λ (xs ys : List Run). xs ++ ys) (all_chunk_runs (a * v.agblocks) (map (ino_shape a).settled (inodes_in_group inodes a)) (whole a (omega (arith, few)))) (group_runs (a + 1) n (omega (arith, few)))
      ∙ sym (map-append cluster_at (chunk_clusters v a (map (ino_shape a).settled (inodes_in_group inodes a))) (clusters_from v (a + 1) (map (due_group_at v inodes groups agf agi) (range_with_len (a + 1) n))))

  pub clusters_run : all_clusters v inodes ≡ map cluster_at (clusters_of v (due_groups v inodes groups agf agi))
  unfolding clusters_of
  clusters_run = group_runs 0 v.agcount (omega arith)

-- the records of a new volume have all their inodes
pub records_are : (g : Geometry) (files : ℕ) (starts : List ℕ) (ag : ℕ) → ag < g.agcount → inodes_in_group (inodes_filled g files starts) ag ≡ chunks_of_group (volume_of g) files starts ag
records_are g files starts ag low =
    ap (λ (r : GroupInodes). r.records) (get_or-map-range_with_len (inodes_of_group (volume_of g) files starts) 0 g.agcount ag ag (record { records = [] }) low (omega arith))

mapped_whole : (v : Volume) (files : ℕ) (starts : List ℕ) (ag : ℕ) (cs : List ℕ) → AreWhole (map (ino_shape ag).settled (map (chunk_record v files starts) cs))
mapped_whole v files starts ag [] = tt
mapped_whole v files starts ag (c ∷ cs) = (refl, mapped_whole v files starts ag cs)

records_whole : (g : Geometry) (files : ℕ) (starts : List ℕ) (ag : ℕ) → ag < g.agcount → AreWhole (map (ino_shape ag).settled (inodes_in_group (inodes_filled g files starts) ag))
records_whole g files starts ag low =
    subst (λ (rs : List InoRec). AreWhole (map (ino_shape ag).settled rs)) (sym (records_are g files starts ag low))
    (mapped_whole (volume_of g) files starts ag (filter (λ c. get_or starts c 0 / g.agblocks == ag) (range_with_len 0 (length starts))))

-- the two clusters of a chunk
abbrev halves : ℕ → List ℕ
halves start = start ∷ (start + 4) ∷ []

starts_flat : (v : Volume) (starts : List ℕ) (a : ℕ) (xs : List ℕ) → ((i : ℕ) → i < length xs → get_or starts (a + i) 0 ≡ get_or xs i 0)
    → flat_map (clusters v starts) (range_with_len a (length xs)) ≡ flat_map halves xs
starts_flat v starts a [] same = refl
starts_flat v starts a (x ∷ xs) same =
    let first : a + 0 ≡ a = omega arith in
    let here : get_or starts a 0 ≡ x = ap (λ (n : ℕ). get_or starts n 0) (sym first) ∙ same 0 (omega arith) in
    ap₂ (λ (n : ℕ) (rest : List ℕ). n ∷ (n + 4) ∷ rest) here
    (starts_flat v starts (a + 1) xs (λ i low. let next : a + 1 + i ≡ a + suc i = omega arith in ap (λ (n : ℕ). get_or starts n 0) next ∙ same (suc i) (omega (arith, low))))

halves_alike : (xs : List ℕ) → AreAlike (map cluster_at (flat_map halves xs)) (map chunk_at xs)
halves_alike [] h b = refl
halves_alike (x ∷ xs) h b =
    let rest : List Run = map cluster_at (flat_map halves xs) in
    let one = sum_by-cons (seen h b) (cluster_at x) (cluster_at (x + 4) ∷ rest) in
    let two = sum_by-cons (seen h b) (cluster_at (x + 4)) rest in
    let both = halves_seen h b x in
    let behind = halves_alike xs h b in
    let whole = sum_by-cons (seen h b) (chunk_at x) (map chunk_at xs) in
    omega (arith, one, two, both, behind, whole)

-- all clusters give each block what the chunks do
pub clusters_alike : (g : Geometry) (files : ℕ) (starts : List ℕ) → AreChunks (volume_of g) starts → AreAlike (all_clusters (volume_of g) (inodes_filled g files starts)) (map chunk_at starts)
clusters_alike g files starts chunks h b =
    let v : Volume = volume_of g in
    ap (sum_by (seen h b))
    (clusters_run v (inodes_filled g files starts) [] (λ ag. 0) (λ ag. 0) (records_whole g files starts)
    ∙ ap (map cluster_at) (clusters_are g files starts chunks [] (λ ag. 0) (λ ag. 0) ∙ starts_flat v starts 0 starts (λ i low. let same : 0 + i ≡ i = omega arith in ap (λ (n : ℕ). get_or starts n 0) same)))
    ∙ halves_alike starts h b
