-- The kept files of an image: each reads as a file in it, and lies in a kept cluster.
use Rattle.std.proofs.Common.{◌≡◌, ℕ, Bool, true, false, cond, ◌⊎◌, inl, inr, ◌==◌, not, List, [], ◌∷◌, map, refl, sym, ap, ◌∙◌, subst}
use Rattle.std.specs.List.{AllByRecursion, filter}
use Rattle.std.proofs.lemmas.Bool.{and_parts, eqb-true, or_cases, or_right}
use Rattle.xfs_disk.specs.Lists.{is_among, with_number}
use Rattle.xfs_disk.specs.Blocks.{Image}
use Rattle.xfs_geom.specs.Volumes.{Volume, volume_of}
use Rattle.xfs_geom.specs.declared.geometry.Geometry.{Geometry}
use Rattle.xfs_inode.specs.declared.files.FileRead.{FileRead}
use Rattle.xfs_inode.specs.declared.files.FileRead.TheVariants as Reads
use Rattle.xfs_collections.specs.Blocks.{meets}
use Rattle.xfs_claims.specs.declared.claimants.FileClaim.{FileClaim}
use Rattle.xfs_claims.specs.declared.claimants.Claims.{Claims}
use Rattle.xfs_claims.specs.Keeping.{Holding, cluster_span, fixed_alone, is_kept, with_cluster, with_clusters, with_file, with_files}
use Rattle.xfs_claims.specs.Ranks.{claimed_number, lies_in_recorded, lies_in_scanned, recorded_clusters, recorded_files, scanned_clusters, scanned_files}
use Rattle.xfs_claims.specs.Spans.{meets_any, spans_of, with_blocks}
use Rattle.xfs_claims.proofs.Numbers.{among_more}
use Rattle.xfs_claims.proofs.Ordered.{to_order}
use Rattle.xfs_image.specs.Candidates.{candidates}
use Rattle.xfs_image.specs.Claims.{candidate_files, candidate_inodes, file_if}
use Rattle.xfs_image.specs.Clusters.{cluster_of}
use Rattle.xfs_image.specs.Slots.{cluster_inodes, reads_as}
use Rattle.xfs_views.proofs.Files.{file_sound}
use Rattle.xfs_volume.specs.declared.clusters.ClusterRec.{ClusterRec}
use Rattle.xfs_volume.specs.declared.files.FileRec.{FileRec}
use Rattle.xfs_views.specs.Claimed.{claims_in, file_claim}
use Rattle.xfs_views.specs.Standing.{stands}
use Rattle.xfs_views.proofs.Addresses.{IsPlaced}
use Rattle.xfs_views.proofs.Images.{candidate_has, candidate_placed, inode_cluster}
use Rattle.xfs_views.proofs.Members.{Member, all_members, any_member, filter_member, flat_member, map_member, member_all, member_flat, member_map}
use Rattle.xfs_rename.proofs.xfs_made.Candidates.{bare_sound, image_can}
use Rattle.xfs_salvage.specs.Kept.{claims_held, is_kept_file, kept_clusters, kept_files}
use Rattle.xfs_salvage.specs.declared.found.Salvaged.{Salvaged}
use Rattle.xfs_rename.specs.xfs_made.Handed.{IsKeptOf}
use Rattle.xfs_rename.proofs.xfs_made.Spaced.{each_kept}
use Rattle.xfs_restored.specs.DueFiles.{kept_inodes}

-- a file that is held has its cluster held too
abbrev HoldsClusters : Volume → Holding → Type 0
HoldsClusters v held = (ino : ℕ) → is_among held.files ino ≡ true → is_among held.clusters (cluster_of v ino) ≡ true

abbrev IsOwn : Volume → FileClaim → Type 0
IsOwn v f = f.cluster ≡ cluster_of v f.ino

cluster_goes : (v : Volume) (held : Holding) (k : ℕ) → HoldsClusters v held → HoldsClusters v (with_cluster held k)
cluster_goes v held k holds = by_case (meets held.blocks k 4)
  where
    by_case : (t : Bool) → HoldsClusters v (cond t held (record { blocks = with_blocks held.blocks (cluster_span k); clusters = with_number k held.clusters; files = held.files }))
    by_case true = holds
    by_case false = λ ino is. among_more k held.clusters (cluster_of v ino) ∙ or_right (k == cluster_of v ino) (is_among held.clusters (cluster_of v ino)) (holds ino is)

clusters_go : (v : Volume) (held : Holding) (ks : List ℕ) → HoldsClusters v held → HoldsClusters v (with_clusters held ks)
clusters_go v held [] holds = holds
clusters_go v held (k ∷ ks) holds = clusters_go v (with_cluster held k) ks (cluster_goes v held k holds)

file_goes : (v : Volume) (held : Holding) (f : FileClaim) → IsOwn v f → HoldsClusters v held → HoldsClusters v (with_file held f)
file_goes v held f own holds = by_case (is_kept held f) refl
  where
    by_case : (t : Bool) → is_kept held f ≡ t
        → HoldsClusters v (cond t (record { blocks = with_blocks held.blocks (spans_of f.runs); clusters = held.clusters; files = with_number f.ino held.files }) held)
    by_case true kept = λ ino is.
        elim (or_cases (f.ino == ino) (is_among held.files ino) (sym (among_more f.ino held.files ino) ∙ is)) [
          | inl same ↦
              let cluster : is_among held.clusters f.cluster ≡ true = (and_parts (is_among held.clusters f.cluster) (not (meets_any held.blocks (spans_of f.runs))) kept).0 in
              subst (λ (k : ℕ). is_among held.clusters k ≡ true) (own ∙ ap (cluster_of v) (eqb-true f.ino ino same)) cluster
          | inr before ↦ holds ino before
        ]
    by_case false kept = holds

files_go : (v : Volume) (held : Holding) (fs : List FileClaim) → AllByRecursion (IsOwn v) fs → HoldsClusters v held → HoldsClusters v (with_files held fs)
files_go v held [] own holds = holds
files_go v held (f ∷ fs) own holds = files_go v (with_file held f) fs own.1 (file_goes v held f own.0 holds)

filtered : {X : Type 0} (P : X → Type 0) (test : X → Bool) (xs : List X) → AllByRecursion P xs → AllByRecursion P (filter test xs)
filtered P test [] all = tt
filtered {X} P test (x ∷ xs) all = by_case (test x) (filtered P test xs all.1)
  where
    by_case : (t : Bool) → AllByRecursion P (filter test xs) → AllByRecursion P (cond t (x ∷ filter test xs) (filter test xs))
    by_case true rest = (all.0, rest)
    by_case false rest = rest

claims_own : (v : Volume) (files : List FileRec) → AllByRecursion (IsOwn v) (map (file_claim v) files)
claims_own v [] = tt
claims_own v (f ∷ fs) = (refl, claims_own v fs)

held_clusters : (v : Volume) (clusters : List ClusterRec) (files : List FileRec) → HoldsClusters v (claims_held v clusters files)
unfolding claims_held
held_clusters v clusters files =
    let claims : Claims = claims_in v clusters files in
    let own : AllByRecursion (IsOwn v) claims.files = claims_own v files in
    let start : Holding = fixed_alone (spans_of claims.fixed) in
    let first : Holding = with_clusters start (claims.root ∷ recorded_clusters claims) in
    let middle : Holding = with_files first (recorded_files claims) in
    let third : Holding = with_clusters middle (scanned_clusters claims) in
    files_go v third (scanned_files claims) (to_order claimed_number (IsOwn v) (filter (lies_in_scanned claims.clusters) claims.files) (filtered (IsOwn v) (lies_in_scanned claims.clusters) claims.files own))
    (clusters_go v middle (scanned_clusters claims)
    (files_go v first (recorded_files claims) (to_order claimed_number (IsOwn v) (filter (lies_in_recorded claims.clusters) claims.files) (filtered (IsOwn v) (lies_in_recorded claims.clusters) claims.files own))
    (clusters_go v start (claims.root ∷ recorded_clusters claims) (λ ino is. absurd cc))))

-- a file of an image, with its attributes or without
pub record IsReadIn (v : Volume) (image : Image) (f : FileRec) : Type 0 where
  pub inode : Member f.ino (candidate_inodes v image)
  pub reads : (reads_as v image f.ino ≡ Reads.File f) ⊎ (reads_as v image f.ino ≡ Reads.FileWithoutAttrs f)

listed_read : (v : Volume) (image : Image) (ino : ℕ) (f : FileRec) (read : FileRead) → Member ino (candidate_inodes v image) → reads_as v image ino ≡ read → Member f (file_if read) → IsReadIn v image f
listed_read v image ino f Reads.Free at reads is = absurd is
listed_read v image ino f (Reads.File file) at reads is =
    elim is [
      | inl same ↦
          let own : reads_as v image ino ≡ Reads.File f = reads ∙ ap (λ (x : FileRec). Reads.File x) same in
          let number : f.ino ≡ ino = (file_sound v image ino f own).keeps.number in
          record { inode = subst (λ (n : ℕ). Member n (candidate_inodes v image)) (sym number) at; reads = inl (ap (reads_as v image) number ∙ own) }
      | inr none ↦ absurd none
    ]
listed_read v image ino f (Reads.FileWithoutAttrs file) at reads is =
    elim is [
      | inl same ↦
          let own : reads_as v image ino ≡ Reads.FileWithoutAttrs f = reads ∙ ap (λ (x : FileRec). Reads.FileWithoutAttrs x) same in
          let number : f.ino ≡ ino = (bare_sound v image ino f own).keeps.number in
          record { inode = subst (λ (n : ℕ). Member n (candidate_inodes v image)) (sym number) at; reads = inr (ap (reads_as v image) number ∙ own) }
      | inr none ↦ absurd none
    ]
listed_read v image ino f (Reads.Unsupported what) at reads is = absurd is
listed_read v image ino f Reads.Unsound at reads is = absurd is

candidate_read : (v : Volume) (image : Image) (f : FileRec) → Member f (candidate_files v image) → IsReadIn v image f
unfolding candidate_files
candidate_read v image f is =
    let of = flat_member (λ ino. file_if (reads_as v image ino)) f (candidate_inodes v image) is in
    listed_read v image of.0 f (reads_as v image of.0) of.1 refl of.2

module _ (g : Geometry) (image : Image) (kept : Salvaged) (of : IsKeptOf (volume_of g) (candidates (volume_of g) image) (candidate_files (volume_of g) image) kept) where
  among_kept : (f : FileRec) → Member f kept.files
      → Member f (candidate_files (volume_of g) image) × (is_kept_file (volume_of g) (candidates (volume_of g) image) (candidate_files (volume_of g) image) f ≡ true)
  unfolding kept_files
  among_kept f is =
      let v : Volume = volume_of g in
      filter_member (is_kept_file v (candidates v image) (candidate_files v image)) f (candidate_files v image) (subst (λ (fs : List FileRec). Member f fs) of.files' is)

  pub kept_read : (f : FileRec) → Member f kept.files → IsReadIn (volume_of g) image f
  kept_read f is = candidate_read (volume_of g) image f (among_kept f is).0

  -- an inode of a candidate cluster that is kept is one of the kept inodes
  pub inode_kept : (ino : ℕ) → Member ino (candidate_inodes (volume_of g) image) → is_among kept.clusters (cluster_of (volume_of g) ino) ≡ true → Member ino (kept_inodes (volume_of g) kept)
  unfolding kept_inodes
  inode_kept ino is held =
      let v : Volume = volume_of g in
      let at = candidate_has g image ino is in
      let cluster : cluster_of v ino ≡ at.cluster.block = inode_cluster g at.cluster.block ino at.placed at.has in
      let one = any_member (λ m. m == cluster_of v ino) kept.clusters held in
      let same : one.0 ≡ at.cluster.block = eqb-true one.0 (cluster_of v ino) one.2 ∙ cluster in
      member_flat (cluster_inodes v) one.0 ino kept.clusters one.1 (subst (λ (k : ℕ). Member ino (cluster_inodes v k)) (sym same) at.has)

  pub file_inode : (f : FileRec) → Member f kept.files → Member f.ino (kept_inodes (volume_of g) kept)
  file_inode f is =
      let v : Volume = volume_of g in
      let among = among_kept f is in
      let held = (and_parts (is_among (claims_held v (candidates v image) (candidate_files v image)).files f.ino) (stands v.rootino f) among.1).0 in
      let cluster : is_among kept.clusters (cluster_of v f.ino) ≡ true =
      subst (λ (ks : List ℕ). is_among ks (cluster_of v f.ino) ≡ true) (sym of.clusters') (held_clusters v (candidates v image) (candidate_files v image) f.ino held) in
      inode_kept f.ino (candidate_read v image f among.0).inode cluster

  -- a kept cluster is a candidate
  cluster_found : (k : ℕ) → Member k kept.clusters → Member k (map (λ (c : ClusterRec). c.block) (candidates (volume_of g) image))
  cluster_found k is =
      let v : Volume = volume_of g in
      let all : AllByRecursion (λ n. Member n (map (λ (c : ClusterRec). c.block) (candidates v image))) (kept_clusters v (candidates v image) (candidate_files v image)) =
      each_kept (λ n. Member n (map (λ (c : ClusterRec). c.block) (candidates v image))) v (candidates v image) (candidate_files v image) (image_can g image)
      (all_members (λ (c : ClusterRec). Member c.block (map (λ (x : ClusterRec). x.block) (candidates v image))) (candidates v image)
      (λ c is. member_map (λ (x : ClusterRec). x.block) c (candidates v image) is)) in
      member_all (λ n. Member n (map (λ (c : ClusterRec). c.block) (candidates v image))) k (kept_clusters v (candidates v image) (candidate_files v image)) all
      (subst (λ (ks : List ℕ). Member k ks) of.clusters' is)

  pub cluster_placed : (k : ℕ) → Member k kept.clusters → IsPlaced g k
  cluster_placed k is =
      let from = map_member (λ (c : ClusterRec). c.block) k (candidates (volume_of g) image) (cluster_found k is) in
      subst (IsPlaced g) from.2 (candidate_placed g image from.0 from.1)

  -- an inode of a kept cluster is a candidate, and its cluster is kept
  pub record IsOfKept (ino : ℕ) : Type 0 where
    pub candidate : Member ino (candidate_inodes (volume_of g) image)
    pub cluster : ℕ
    pub among : Member cluster kept.clusters
    pub has : Member ino (cluster_inodes (volume_of g) cluster)
    pub placed : IsPlaced g cluster

  pub of_kept : (ino : ℕ) → Member ino (kept_inodes (volume_of g) kept) → IsOfKept ino
  unfolding kept_inodes candidate_inodes
  of_kept ino is =
      let v : Volume = volume_of g in
      let in_cluster = flat_member (cluster_inodes v) ino kept.clusters is in
      let k : ℕ = in_cluster.0 in
      let from = map_member (λ (c : ClusterRec). c.block) k (candidates v image) (cluster_found k in_cluster.1) in
      record {
        candidate = member_flat (λ (c : ClusterRec). cluster_inodes v c.block) from.0 ino (candidates v image) from.1 (subst (λ (n : ℕ). Member ino (cluster_inodes v n)) (sym from.2) in_cluster.2);
        cluster = k;
        among = in_cluster.1;
        has = in_cluster.2;
        placed = cluster_placed k in_cluster.1;
      }
