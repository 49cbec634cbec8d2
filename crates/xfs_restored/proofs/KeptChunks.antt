-- The clusters of the chunks of a rebuilt volume are the kept ones.
use Rattle.std.proofs.Common.{◌≡◌, ℕ, zero, suc, Bool, true, false, ◌+◌, ◌*◌, ◌/◌, ◌≤◌, ◌<◌, inl, inr, ◌==◌, ◌&&◌, ◌||◌, if◌then◌else◌, List, [], ◌∷◌, ◌++◌, map, Option, Some, None, refl, sym, ap, ap₂, ◌∙◌, subst, arith}
use Rattle.std.specs.List.{AllByRecursion, flat_map, range_with_len}
use Rattle.std.proofs.lemmas.Bool.{and_parts, eqb-true, or_cases}
use Rattle.std.proofs.lemmas.List.{map-append}
use Rattle.xfs_disk.specs.Blocks.{Image}
use Rattle.xfs_geom.specs.Volumes.{Volume, volume_of}
use Rattle.xfs_geom.specs.declared.geometry.Geometry.{Geometry}
use Rattle.xfs_geom.specs.declared.records.InoRec.{InoRec}
use Rattle.xfs_geom.specs.declared.records.Run.{Run}
use Rattle.xfs_image.specs.Candidates.{candidates}
use Rattle.xfs_image.specs.Claims.{candidate_files}
use Rattle.xfs_image.specs.Clusters.{chunk_clusters, clusters_in}
use Rattle.xfs_image.specs.Files.{clusters_from, clusters_of, inodes_of}
use Rattle.xfs_image.specs.Slots.{cluster_inodes}
use Rattle.xfs_kinds.specs.InodeTrees.{ascends_inode, ino_shape, is_chunk, is_holemask, is_missing}
use Rattle.xfs_kinds.specs.Owners.{clusters_owner}
use Rattle.xfs_tree.specs.Rules.{are_lawful}
use Rattle.xfs_naming.specs.Naming.{NumbersAscend}
use Rattle.xfs_place.specs.Wanted.{inodes_in_group}
use Rattle.xfs_place.specs.declared.placed.GroupPlaced.{GroupPlaced}
use Rattle.xfs_place.specs.declared.wanted.GroupInodes.{GroupInodes}
use Rattle.xfs_views.proofs.Chunks.{lawful_chunk}
use Rattle.xfs_space.specs.Owners.{cluster_run, cluster_runs, clusters_of_chunk, new_run}
use Rattle.xfs_volume.specs.declared.groups.GroupRec.{GroupRec}
use Rattle.xfs_rename.specs.xfs_made.Groups.{due_group_at, due_groups}
use Rattle.xfs_rename.proofs.xfs_made.Candidates.{image_can}
use Rattle.xfs_rename.proofs.xfs_made.Ordered.{clusters_of_volume_ascend}
use Rattle.xfs_salvage.specs.Kept.{run_of_cluster}
use Rattle.xfs_salvage.specs.declared.found.Salvaged.{Salvaged}
use Rattle.xfs_rename.specs.xfs_request.Requests.{volume_wanted}
use Rattle.xfs_rename.specs.xfs_made.Handed.{IsKeptOf}
use Rattle.xfs_rename.proofs.xfs_made.Chunked.{IsHalf, kept_halves}
use Rattle.xfs_rename.proofs.xfs_made.Clusters.{clusters_are_kept}
use Rattle.xfs_rename.proofs.xfs_made.Writable.{writable}
use Rattle.xfs_restored.specs.DueFiles.{kept_inodes}

abbrev HasMask : InoRec → Type 0
HasMask r = is_holemask r.holemask ≡ true

-- which half is missing, by the mask
by_mask : (P : ℕ → Type 0) (mask : ℕ) → is_holemask mask ≡ true → P 0 → P 0x00ff → P 0xff00 → P mask
by_mask P mask is none first second =
    elim (or_cases (mask == 0 || mask == 0x00ff) (mask == 0xff00) is) [
      | inl either ↦ elim (or_cases (mask == 0) (mask == 0x00ff) either) [
        | inl whole ↦ subst P (sym (eqb-true mask 0 whole)) none
        | inr half ↦ subst P (sym (eqb-true mask 0x00ff half)) first
      ]
      | inr half ↦ subst P (sym (eqb-true mask 0xff00 half)) second
    ]

first_missing : (mask : ℕ) → is_holemask mask ≡ true → is_missing mask 0 ≡ (mask == 0x00ff)
first_missing mask is = by_mask (λ m. is_missing m 0 ≡ (m == 0x00ff)) mask is refl refl refl

second_missing : (mask : ℕ) → is_holemask mask ≡ true → is_missing mask 32 ≡ (mask == 0xff00)
second_missing mask is = by_mask (λ m. is_missing m 32 ≡ (m == 0xff00)) mask is refl refl refl

abbrev at_run : ℕ → Run
at_run block = new_run block 4 clusters_owner 0

halves_same : (base p : ℕ) (a b : Bool)
    → map (cluster_run base) ((if a then [] else (p ∷ [])) ++ (if b then [] else ((p + 4) ∷ []))) ≡ map run_of_cluster ((if a then [] else ((base + p) ∷ [])) ++ (if b then [] else ((base + p + 4) ∷ [])))
halves_same base p true true = refl
halves_same base p true false = let at : base + (p + 4) ≡ base + p + 4 = omega arith in ap (λ (n : ℕ). at_run n ∷ []) at
halves_same base p false true = refl
halves_same base p false false = let at : base + (p + 4) ≡ base + p + 4 = omega arith in ap (λ (n : ℕ). at_run (base + p) ∷ at_run n ∷ []) at

chunk_same : (base : ℕ) (r : InoRec) → HasMask r → map (cluster_run base) (clusters_of_chunk r) ≡ map run_of_cluster (clusters_in base r)
chunk_same base r mask =
    let p : ℕ = r.startino / 8 in
    halves_same base p (r.holemask == 0x00ff) (r.holemask == 0xff00)
    ∙ ap₂ (λ (a b : Bool). map run_of_cluster ((if a then [] else ((base + p) ∷ [])) ++ (if b then [] else ((base + p + 4) ∷ []))))
    (sym (first_missing r.holemask mask)) (sym (second_missing r.holemask mask))

chunks_same : (base : ℕ) (rs : List InoRec) → AllByRecursion HasMask rs → map (cluster_run base) (flat_map clusters_of_chunk rs) ≡ map run_of_cluster (flat_map (clusters_in base) rs)
chunks_same base [] masks = refl
chunks_same base (r ∷ rs) masks =
    map-append (cluster_run base) (clusters_of_chunk r) (flat_map clusters_of_chunk rs)
    ∙ ap₂ (λ (xs ys : List Run). xs ++ ys) (chunk_same base r masks.0) (chunks_same base rs masks.1)
    ∙ sym (map-append run_of_cluster (clusters_in base r) (flat_map (clusters_in base) rs))

-- the chunks of a request have such masks
masks_of : (v : Volume) (ag : ℕ) (before : Option InoRec) (rs : List InoRec) → are_lawful (ino_shape ag) v before rs ≡ true → AllByRecursion HasMask (map (ino_shape ag).settled rs)
masks_of v ag before [] lawful = tt
masks_of v ag before (r ∷ rs) lawful =
    let parts = and_parts (is_chunk v ag r && ascends_inode before r) (are_lawful (ino_shape ag) v (Some r) rs) lawful in
    ((lawful_chunk v ag before r parts.0).mask, masks_of v ag (Some r) rs parts.1)

module _ (g : Geometry) (kept : Salvaged) (reserved : List ℕ) (placed : List GroupPlaced) (agf_crc agi_crc : ℕ → ℕ) where
  abbrev asked : List GroupInodes
  asked = (volume_wanted g kept reserved).inodes

  abbrev group : ℕ → GroupRec
  group = due_group_at (volume_of g) asked placed agf_crc agi_crc

  groups_same : (a n : ℕ) → ((ag : ℕ) → a ≤ ag → ag < a + n → AllByRecursion HasMask (map (ino_shape ag).settled (inodes_in_group asked ag)))
      → flat_map (λ ag. cluster_runs (ag * g.agblocks) (map (ino_shape ag).settled (inodes_in_group asked ag))) (range_with_len a n)
      ≡ map run_of_cluster (clusters_from (volume_of g) a (map group (range_with_len a n)))
  groups_same a zero masks = refl
  groups_same a (suc n) masks =
      let v : Volume = volume_of g in
      ap₂ (λ (xs ys : List Run). xs ++ ys)
      (chunks_same (a * g.agblocks) (map (ino_shape a).settled (inodes_in_group asked a)) (masks a (omega arith) (omega arith)))
      (groups_same (a + 1) n (λ ag low high. masks ag (omega (arith, low)) (omega (arith, high))))
      ∙ sym (map-append run_of_cluster (chunk_clusters v a (group a).ino) (clusters_from v (a + 1) (map group (range_with_len (a + 1) n))))

starts_of : (ks : List ℕ) → map (λ (r : Run). r.start) (map run_of_cluster ks) ≡ ks
starts_of [] = refl
starts_of (k ∷ ks) = ap (λ (ns : List ℕ). k ∷ ns) (starts_of ks)

-- so are those of a request whose clusters ascend and are halves of chunks
pub asked_clusters_are : (g : Geometry) (kept : Salvaged) (reserved : List ℕ) (placed : List GroupPlaced) (agf_crc agi_crc : ℕ → ℕ) → NumbersAscend 0 kept.clusters
    → AllByRecursion (IsHalf g) kept.clusters
    → ((ag : ℕ) → ag < g.agcount → are_lawful (ino_shape ag) (volume_of g) None (inodes_in_group (volume_wanted g kept reserved).inodes ag) ≡ true)
    → clusters_of (volume_of g) (due_groups (volume_of g) (volume_wanted g kept reserved).inodes placed agf_crc agi_crc) ≡ kept.clusters
unfolding clusters_of
asked_clusters_are g kept reserved placed agf_crc agi_crc up halves lawful =
    let v : Volume = volume_of g in
    let groups : List GroupRec = due_groups v (volume_wanted g kept reserved).inodes placed agf_crc agi_crc in
    let runs : map run_of_cluster (clusters_from v 0 groups) ≡ map run_of_cluster kept.clusters =
    sym (groups_same g kept reserved placed agf_crc agi_crc 0 g.agcount (λ ag low high.
    masks_of v ag None (inodes_in_group (volume_wanted g kept reserved).inodes ag) (lawful ag (omega (arith, high)))))
    ∙ clusters_are_kept g kept reserved up halves in
    sym (starts_of (clusters_from v 0 groups)) ∙ (ap (map (λ (r : Run). r.start)) runs ∙ starts_of kept.clusters)

module _ (g : Geometry) (image : Image) (kept : Salvaged) (reserved : List ℕ) (placed : List GroupPlaced) (agf_crc agi_crc : ℕ → ℕ)
    (of : IsKeptOf (volume_of g) (candidates (volume_of g) image) (candidate_files (volume_of g) image) kept) where
  pub clusters_are : clusters_of (volume_of g) (due_groups (volume_of g) (volume_wanted g kept reserved).inodes placed agf_crc agi_crc) ≡ kept.clusters
  unfolding volume_wanted
  clusters_are =
      let v : Volume = volume_of g in
      let up : NumbersAscend 0 kept.clusters = subst (NumbersAscend 0) (sym of.clusters') (clusters_of_volume_ascend v (candidates v image) (candidate_files v image)) in
      let halves : AllByRecursion (IsHalf g) kept.clusters = subst (AllByRecursion (IsHalf g)) (sym of.clusters') (kept_halves g image) in
      let write = writable g (candidates v image) (candidate_files v image) kept reserved (image_can g image) of in
      asked_clusters_are g kept reserved placed agf_crc agi_crc up halves (λ ag low. write.chunks ag low)

  pub inodes_are_kept : inodes_of (volume_of g) (due_groups (volume_of g) (volume_wanted g kept reserved).inodes placed agf_crc agi_crc) ≡ kept_inodes (volume_of g) kept
  unfolding inodes_of kept_inodes
  inodes_are_kept = ap (flat_map (cluster_inodes (volume_of g))) clusters_are
