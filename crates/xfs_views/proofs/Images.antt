-- A protected file of an image, its cluster and its number are kept of the image's claims.
use Rattle.std.proofs.Common.{◌≡◌, ℕ, Bool, true, false, ◌+◌, ◌-◌, ◌*◌, ◌/◌, ◌%◌, inl, inr, ◌==◌, ◌&&◌, nat_le, nat_lt, map, refl, sym, ◌∙◌, ap, subst, arith}
use Rattle.std.specs.List.{filter, range_with_len}
use Rattle.std.proofs.lemmas.Bool.{and_from, and_parts, eq-eqb, eqb-true, leb-true, ltb-true, or_left, or_right}
use Rattle.std.proofs.lemmas.Nat.{mod-mul-add}
use Rattle.xfs_disk.specs.Lists.{is_in_range, is_among}
use Rattle.xfs_disk.specs.Blocks.{Image}
use Rattle.xfs_geom.specs.Conversions.{group_length, inode_of, is_fixed}
use Rattle.xfs_geom.specs.Volumes.{Volume, volume_of}
use Rattle.xfs_geom.specs.declared.geometry.Geometry.{Geometry}
use Rattle.xfs_geom.specs.declared.records.Run.{Run}
use Rattle.xfs_collections.specs.Blocks.{is_in}
use Rattle.xfs_inode.specs.declared.files.FileRead.{FileRead}
use Rattle.xfs_inode.specs.declared.files.FileRead.TheVariants as Reads
use Rattle.xfs_volume.specs.declared.clusters.ClusterRec.{ClusterRec}
use Rattle.xfs_volume.specs.declared.files.FileRec.{FileRec}
use Rattle.xfs_laws.proofs.xfs_space.FreeSpans.{group_short}
use Rattle.xfs_claims.specs.Keeping.{kept_of}
use Rattle.xfs_claims.specs.Ranks as Ranks
use Rattle.xfs_claims.specs.Spans.{spans_of}
use Rattle.xfs_image.proofs.Ascending.{candidates_ascend}
use Rattle.xfs_image.proofs.Roots.{root_candidate, root_recorded}
use Rattle.xfs_image.specs.Candidates.{possible_clusters, candidates, cluster_rec, is_candidate}
use Rattle.xfs_image.specs.Claims.{AreDisjointSets, candidate_files, candidate_inodes, file_if, is_candidate_inode}
use Rattle.xfs_image.specs.Clusters.{cluster_of, is_recorded, places_in, root_cluster}
use Rattle.xfs_image.specs.Groups.{head_block}
use Rattle.xfs_image.specs.Keeping.{Protected}
use Rattle.xfs_image.specs.Slots.{cluster_blocks, cluster_inodes, inodes_of_block, reads_as}
use Rattle.xfs_views.proofs.Files.{file_sound}
use Rattle.xfs_views.specs.Claimed.{IsGuardedFile, file_claim, image_claims}
use Rattle.xfs_kinds.specs.FixedRuns.{fixed_runs, header_run}
use Rattle.xfs_views.specs.Guarded.{has_cluster}
use Rattle.xfs_views.proofs.Addresses.{IsPlaced, own_cluster, root_placed}
use Rattle.xfs_views.proofs.Claimed.{by_lists, covers, spans_are}
use Rattle.xfs_views.proofs.Guarded.{IsSet, are_kept}
use Rattle.xfs_views.proofs.Members.{Member, any_member, filter_member, flat_member, map_member, member_any, member_filter, member_flat, member_map, member_row, row_member}

-- a block of a fixed run is fixed
run_fixed : (g : Geometry) (block : ℕ) (r : Run) → Member r (fixed_runs (volume_of g)) → covers block r ≡ true → is_fixed (volume_of g) block ≡ true
run_fixed g block r is on =
    let v : Volume = volume_of g in
    elim is [
      | inl same ↦ or_right (block % v.agblocks == 0) (nat_le v.log block && nat_lt block (v.log + v.logblocks)) (subst (λ (x : Run). covers block x ≡ true) (sym same) on)
      | inr head ↦
          let from = map_member (header_run v) r (range_with_len 0 v.agcount) head in
          let on_head : is_in_range (from.0 * v.agblocks) 1 block ≡ true = subst (λ (x : Run). covers block x ≡ true) (sym from.2) on in
          let parts = and_parts (nat_le (from.0 * v.agblocks) block) (nat_lt block (from.0 * v.agblocks + 1)) on_head in
          let low = leb-true (from.0 * v.agblocks) block parts.0 in
          let high = ltb-true block (from.0 * v.agblocks + 1) parts.1 in
          let same : block ≡ from.0 * v.agblocks + 0 = omega (arith, low, high) in
          let large = g.shape.groups.large in
          let none : block % v.agblocks ≡ 0 = ap (λ (n : ℕ). n % v.agblocks) same ∙ mod-mul-add from.0 v.agblocks 0 (omega (arith, large)) in
          or_left (block % v.agblocks == 0) (nat_le v.log block && nat_lt block (v.log + v.logblocks)) (eq-eqb (block % v.agblocks) 0 none)
    ]

fixed_in : (g : Geometry) (blocks : ℕ → Bool) → AreDisjointSets blocks (is_fixed (volume_of g)) → AreDisjointSets blocks (is_in (spans_of (fixed_runs (volume_of g))))
fixed_in g blocks apart block e = by_case (is_in (spans_of (fixed_runs (volume_of g))) block) refl
  where
    by_case : (t : Bool) → is_in (spans_of (fixed_runs (volume_of g))) block ≡ t → t ≡ false
    by_case false h = refl
    by_case true h =
        let one = any_member (covers block) (fixed_runs (volume_of g)) (sym (spans_are (fixed_runs (volume_of g)) block) ∙ h) in
        sym (run_fixed g block one.0 one.1 one.2) ∙ apart block e

-- where a candidate cluster stands
pub candidate_placed : (g : Geometry) (image : Image) (c : ClusterRec) → Member c (candidates (volume_of g) image) → IsPlaced g c.block
unfolding candidates
candidate_placed g image c is =
    let v : Volume = volume_of g in
    let of = map_member (cluster_rec v image) c (filter (is_candidate v image) (possible_clusters v)) is in
    let among = filter_member (is_candidate v image) of.0 (possible_clusters v) of.1 in
    let group = flat_member (λ ag. map (λ place. head_block v ag + place) (places_in v ag)) of.0 (range_with_len 0 v.agcount) among.0 in
    let place = map_member (λ place. head_block v group.0 + place) of.0 (places_in v group.0) group.2 in
    let index = map_member (λ i. 4 * i) place.0 (range_with_len 0 (group_length v group.0 / 4)) place.1 in
    let ag = row_member group.0 0 v.agcount group.1 in
    let i = row_member index.0 0 (group_length v group.0 / 4) index.1 in
    let block : c.block ≡ of.0 = ap (λ (x : ClusterRec). x.block) (sym of.2) in
    let at = place.2 in
    let by_four = index.2 in
    let low = i.high in
    record {
      ag = group.0;
      i = index.0;
      group = omega (arith, ag.high);
      inside = omega (arith, low);
      is = omega (arith, block, at, by_four);
    }

pub candidate_is : (g : Geometry) (image : Image) (c : ClusterRec) → Member c (candidates (volume_of g) image) → is_candidate (volume_of g) image c.block ≡ true
unfolding candidates
candidate_is g image c is =
    let v : Volume = volume_of g in
    let of = map_member (cluster_rec v image) c (filter (is_candidate v image) (possible_clusters v)) is in
    let among = filter_member (is_candidate v image) of.0 (possible_clusters v) of.1 in
    ap (λ (x : ClusterRec). is_candidate v image x.block) (sym of.2) ∙ among.1

place_member : (g : Geometry) (cluster : ℕ) → IsPlaced g cluster → Member cluster (possible_clusters (volume_of g))
place_member g cluster at =
    let v : Volume = volume_of g in
    let inside = at.inside in
    let index : Member at.i (range_with_len 0 (group_length v at.ag / 4)) = member_row at.i 0 (group_length v at.ag / 4) (omega arith) (omega (arith, inside)) in
    let place : Member (4 * at.i) (places_in v at.ag) = member_map (λ i. 4 * i) at.i (range_with_len 0 (group_length v at.ag / 4)) index in
    let block : Member (head_block v at.ag + 4 * at.i) (map (λ place. head_block v at.ag + place) (places_in v at.ag)) =
    member_map (λ place. head_block v at.ag + place) (4 * at.i) (places_in v at.ag) place in
    let group = at.group in
    let here : Member (head_block v at.ag + 4 * at.i) (possible_clusters v) =
    member_flat (λ ag. map (λ place. head_block v ag + place) (places_in v ag)) at.ag (head_block v at.ag + 4 * at.i) (range_with_len 0 v.agcount)
    (member_row at.ag 0 v.agcount (omega arith) (omega (arith, group))) block in
    subst (λ (n : ℕ). Member n (possible_clusters v)) (sym at.is) here

-- a cluster that is one whose slots are read stands among the candidates
pub candidate_member : (g : Geometry) (image : Image) (cluster : ℕ) → IsPlaced g cluster → is_candidate (volume_of g) image cluster ≡ true
    → Member (cluster_rec (volume_of g) image cluster) (candidates (volume_of g) image)
unfolding candidates
candidate_member g image cluster at is =
    let v : Volume = volume_of g in
    member_map (cluster_rec v image) cluster (filter (is_candidate v image) (possible_clusters v))
    (member_filter (is_candidate v image) cluster (possible_clusters v) (place_member g cluster at) is)

root_among : (g : Geometry) (image : Image) → Ranks.is_recorded_cluster (candidates (volume_of g) image) (root_cluster (volume_of g)) ≡ true
root_among g image =
    let v : Volume = volume_of g in
    member_any (λ (c : ClusterRec). c.recorded && c.block == root_cluster v) (cluster_rec v image (root_cluster v)) (candidates v image)
    (candidate_member g image (root_cluster v) (root_placed g) (root_candidate v image))
    (and_from (is_recorded v image (root_cluster v)) (root_cluster v == root_cluster v) (root_recorded v image) (eq-eqb (root_cluster v) (root_cluster v) refl))

-- the cluster of an inode of a cluster is that cluster
pub inode_cluster : (g : Geometry) (cluster ino : ℕ) → IsPlaced g cluster → Member ino (cluster_inodes (volume_of g) cluster) → cluster_of (volume_of g) ino ≡ cluster
unfolding cluster_inodes
inode_cluster g cluster ino at is =
    let v : Volume = volume_of g in
    let in_block = flat_member (inodes_of_block v) ino (cluster_blocks cluster) is in
    let slot = map_member (inode_of v in_block.0) ino (range_with_len 0 8) in_block.2 in
    let b = row_member in_block.0 cluster 4 in_block.1 in
    let s = row_member slot.0 0 8 slot.1 in
    let low = b.low in
    let high = b.high in
    let start = at.is in
    let j : ℕ = in_block.0 - cluster in
    let block : in_block.0 ≡ at.ag * g.agblocks + 4 * at.i + j = omega (arith, low, start) in
    let short = group_short v at.ag g.shape.groups.covered in
    let inside = at.inside in
    let last = s.high in
    ap (cluster_of v) (sym slot.2 ∙ ap (λ (n : ℕ). inode_of v n slot.0) block)
    ∙ own_cluster g at.ag at.i j slot.0 (omega (arith, inside, short)) (omega (arith, low, high)) (omega (arith, last))
    ∙ sym at.is

pub record IsCandidate (g : Geometry) (image : Image) (ino : ℕ) : Type 0 where
  pub cluster : ClusterRec
  pub is : Member cluster (candidates (volume_of g) image)
  pub has : Member ino (cluster_inodes (volume_of g) cluster.block)
  pub placed : IsPlaced g cluster.block

pub candidate_has : (g : Geometry) (image : Image) (ino : ℕ) → Member ino (candidate_inodes (volume_of g) image) → IsCandidate g image ino
unfolding candidate_inodes
candidate_has g image ino is =
    let v : Volume = volume_of g in
    let of = flat_member (λ (c : ClusterRec). cluster_inodes v c.block) ino (candidates v image) is in
    record { cluster = of.0; is = of.1; has = of.2; placed = candidate_placed g image of.0 of.1 }

inode_among : (v : Volume) (image : Image) (ino : ℕ) → is_candidate_inode v image ino ≡ true → Member ino (candidate_inodes v image)
inode_among v image ino candidate =
    let one = any_member (λ other. other == ino) (candidate_inodes v image) candidate in
    subst (λ (n : ℕ). Member n (candidate_inodes v image)) (eqb-true one.0 ino one.2) one.1

file_among : (v : Volume) (image : Image) (ino : ℕ) (file : FileRec) → Member ino (candidate_inodes v image) → reads_as v image ino ≡ Reads.File file → Member file (candidate_files v image)
unfolding candidate_files
file_among v image ino file is reads =
    member_flat (λ other. file_if (reads_as v image other)) ino file (candidate_inodes v image) is
    (subst (λ (read : FileRead). Member file (file_if read)) (sym reads) (inl refl))

cluster_among : (g : Geometry) (image : Image) (ino : ℕ) → Member ino (candidate_inodes (volume_of g) image) → has_cluster (candidates (volume_of g) image) (cluster_of (volume_of g) ino) ≡ true
cluster_among g image ino is =
    let v : Volume = volume_of g in
    let at = candidate_has g image ino is in
    member_any (λ (c : ClusterRec). c.block == cluster_of v ino) at.cluster (candidates v image) at.is
    (eq-eqb at.cluster.block (cluster_of v ino) (sym (inode_cluster g at.cluster.block ino at.placed at.has)))

-- the claims of an image with a protected file are such as keep it
image_set : (g : Geometry) (image : Image) (ino : ℕ) (is : IsGuardedFile (volume_of g) image ino) → IsSet (image_claims (volume_of g) image) (file_claim (volume_of g) is.file)
image_set g image ino is =
    let v : Volume = volume_of g in
    let number : is.file.ino ≡ ino = (file_sound v image ino is.file is.reads).keeps.number in
    let among = inode_among v image ino is.candidate in
    record {
      root = root_among g image;
      up = candidates_ascend g image;
      is = member_map (file_claim v) is.file (candidate_files v image) (file_among v image ino is.file among is.reads);
      has = subst (λ (n : ℕ). has_cluster (candidates v image) (cluster_of v n) ≡ true) (sym number) (cluster_among g image ino among);
      guarded = record {
        unfixed = fixed_in g _ is.guarded.unfixed;
        outside = is.guarded.outside;
        alone = is.guarded.alone;
        cluster_unfixed = fixed_in g _ is.guarded.cluster_unfixed;
        cluster_unclaimed = is.guarded.cluster_unclaimed;
      };
    }

-- of the claims of an image a cluster and a file are kept
pub record IsKept (v : Volume) (image : Image) (ino : ℕ) : Type 0 where
  pub cluster : is_among (kept_of (image_claims v image)).clusters (cluster_of v ino) ≡ true
  pub file : is_among (kept_of (image_claims v image)).files ino ≡ true

pub protected_kept : (g : Geometry) (image : Image) (ino : ℕ) → Protected (volume_of g) image ino → IsKept (volume_of g) image ino
protected_kept g image ino is =
    let v : Volume = volume_of g in
    let lists = by_lists v image ino is in
    let number : lists.file.ino ≡ ino = (file_sound v image ino lists.file lists.reads).keeps.number in
    let kept = are_kept (image_claims v image) (file_claim v lists.file) (image_set g image ino lists) in
    record {
      cluster = subst (λ (n : ℕ). is_among (kept_of (image_claims v image)).clusters (cluster_of v n) ≡ true) number kept.cluster;
      file = subst (λ (n : ℕ). is_among (kept_of (image_claims v image)).files n ≡ true) number kept.file_kept;
    }
