-- Each file of a consistent image that is no directory and neither root nor system inode is protected.
use Rattle.std.proofs.Common.{◌≡◌, ◌≢◌, ◌⊎◌, ℕ, true, false, not, ◌+◌, ◌≤◌, ◌<◌, inl, inr, ◌&&◌, ◌||◌, ◌==◌, nat_le, nat_lt, List, refl, sym, ◌∙◌, ap, subst, arith}
use Rattle.std.specs.List.{Contains, range_with_len}
use Rattle.std.proofs.lemmas.Bool.{and_from, and_parts, eq-eqb, eqb-false, false_from_ne_true, le-leb, lt-ltb, not-true, not_from_false, or_from, or_left, or_right}
use Rattle.xfs_disk.specs.Blocks.{Image, IsImage}
use Rattle.xfs_geom.specs.Conversions.{inode_of, is_fixed}
use Rattle.xfs_geom.specs.Volumes.{Volume, volume_of}
use Rattle.xfs_geom.specs.declared.geometry.Geometry.{Geometry}
use Rattle.xfs_inode.specs.declared.files.FileRead.{FileRead}
use Rattle.xfs_inode.specs.declared.files.FileRead.TheVariants as Reads
use Rattle.xfs_volume.specs.Names.{is_directory}
use Rattle.xfs_volume.specs.declared.catalogs.Catalog.{Catalog}
use Rattle.xfs_volume.specs.declared.clusters.ClusterRec.{ClusterRec}
use Rattle.xfs_volume.specs.declared.files.FileRec.{FileRec}
use Rattle.xfs_volume.specs.declared.groups.GroupRec.{GroupRec}
use Rattle.xfs_laws.proofs.xfs_space.RecordedMaps.{group_inside}
use Rattle.xfs_laws.specs.Lawful.{broken_law}
use Rattle.xfs_image.specs.Candidates.{can_hold_inodes, candidates, cluster_rec, is_candidate, is_scanned, has_whole_seal, lies_in_chunk}
use Rattle.xfs_image.specs.Claims.{candidate_files, candidate_inodes, claims, file_if, is_candidate_inode, is_claimed, is_claimed_beside, is_of_candidate, is_of_cluster}
use Rattle.xfs_image.specs.Clusters.{cluster_of, is_recorded, root_cluster}
use Rattle.xfs_image.specs.Consistent.{IsConsistent}
use Rattle.xfs_image.specs.Files.{clusters_from, inodes_of}
use Rattle.xfs_image.specs.Keeping.{Protected}
use Rattle.xfs_image.specs.Slots.{cluster_blocks, cluster_inodes, inodes_of_block, reads_as}
use Rattle.xfs_views.proofs.Images.{candidate_has, candidate_member}
use Rattle.xfs_views.proofs.Known.{HasCluster, all_in_row, candidate_known, chunk_recorded, inode_has, inode_of_view}
use Rattle.xfs_views.proofs.Lawful.{IsLawfulView, lawful_view}
use Rattle.xfs_views.proofs.Members.{Member, any_member, contained, flat_member, member_any, member_flat, member_map, member_row}
use Rattle.xfs_views.proofs.Places.{IsChunked, as_placed, cluster_chunked, file_inode, in_chunk, inode_reads}
use Rattle.xfs_views.proofs.Sealed.{no_whole_block}
use Rattle.xfs_views.proofs.Spaces.{cluster_unfixed, file_cluster, file_unfixed, files_apart}

module _ (g : Geometry) (image : Image) (groups : List GroupRec) (files : List FileRec) (view : IsLawfulView g image groups files) where
  -- a candidate file is one of the view's
  of_read : (h : FileRec) (i : ℕ) → ((reads_as (volume_of g) image i ≡ Reads.Free) ⊎ ((f : FileRec) × (reads_as (volume_of g) image i ≡ Reads.File f) × Member f files))
      → Member h (file_if (reads_as (volume_of g) image i)) → Member h files
  of_read h i read is =
      elim read [
        | inl free ↦ absurd (subst (λ (r : FileRead). Member h (file_if r)) free is)
        | inr one ↦ elim (subst (λ (r : FileRead). Member h (file_if r)) one.1 is) [
          | inl same ↦ subst (λ (f : FileRec). Member f files) same one.2
          | inr none ↦ absurd none
        ]
      ]

  file_known : (h : FileRec) → Member h (candidate_files (volume_of g) image) → Member h files
  unfolding candidate_files
  file_known h is =
      let of = flat_member (λ ino. file_if (reads_as (volume_of g) image ino)) h (candidate_inodes (volume_of g) image) is in
      let has = candidate_has g image of.0 of.1 in
      let known = candidate_known g image groups files view has.cluster has.is in
      let ino = inode_of_view g image groups files view has.cluster.block of.0 known has.has in
      of_read h of.0 (inode_reads (volume_of g) image of.0 (inodes_of (volume_of g) groups) files view.files_read ino) of.2

  -- a slot of the view's clusters reads
  not_unsound : (i : ℕ) → Member i (inodes_of (volume_of g) groups) → reads_as (volume_of g) image i ≡ Reads.Unsound → ⊥
  not_unsound i is unsound =
      elim (inode_reads (volume_of g) image i (inodes_of (volume_of g) groups) files view.files_read is) [
        | inl free ↦ no_free (sym free ∙ unsound)
        | inr one ↦ no_file one.0 (sym one.1 ∙ unsound)
      ]
    where
      no_free : Reads.Free ≡ Reads.Unsound → ⊥
      no_free e = cc

      no_file : (f : FileRec) → Reads.File f ≡ Reads.Unsound → ⊥
      no_file f e = cc

  block_inode : (x b : ℕ) → x ≤ b → b < x + 4 → Member (inode_of (volume_of g) b 0) (cluster_inodes (volume_of g) x)
  unfolding cluster_inodes
  block_inode x b low high =
      member_flat (inodes_of_block (volume_of g)) b (inode_of (volume_of g) b 0) (cluster_blocks x) (member_row b x 4 low high)
      (member_map (inode_of (volume_of g) b) 0 (range_with_len 0 8) (member_row 0 0 8 (omega arith) (omega arith)))

  -- a cluster of chunks can hold inodes, so it is a candidate
  holds : (blocks x ag : ℕ) → IsImage blocks image → IsChunked g ag x → Member x (clusters_from (volume_of g) 0 groups) → can_hold_inodes (volume_of g) image x ≡ true
  holds blocks x ag bytes at is =
      all_in_row (λ block. not (is_fixed (volume_of g) block || has_whole_seal (volume_of g) image block)) x 4
      (λ b low high.
      let ends = group_inside (volume_of g) ag at.group g.shape.groups.last in
      let inside = at.inside in
      let start = at.is in
      let on : is_of_cluster x b ≡ true = and_from (nat_le x b) (nat_lt b (x + 4)) (le-leb x b low) (lt-ltb b (x + 4) high) in
      let unfixed : is_fixed (volume_of g) b ≡ false = false_from_ne_true (is_fixed (volume_of g) b) (λ e. cluster_unfixed g groups files view.space x b is on e) in
      let ino : ℕ = inode_of (volume_of g) b 0 in
      let mine : Member ino (inodes_of (volume_of g) groups) = inode_of_view g image groups files view x ino is (block_inode x b low high) in
      let whole : has_whole_seal (volume_of g) image b ≡ false =
      no_whole_block g blocks image b (reads_as (volume_of g) image ino) bytes (omega (arith, ends, inside, start, high)) refl (not_unsound ino mine) in
      not_from_false (is_fixed (volume_of g) b || has_whole_seal (volume_of g) image b) (or_from (is_fixed (volume_of g) b) (has_whole_seal (volume_of g) image b) unfixed whole))

  chunk_candidate : (blocks x ag : ℕ) → IsImage blocks image → IsChunked g ag x → Member x (clusters_from (volume_of g) 0 groups) → is_candidate (volume_of g) image x ≡ true
  unfolding is_candidate
  chunk_candidate blocks x ag bytes at is =
      let recorded = chunk_recorded g image groups files view x ag at is in
      let either : (is_recorded (volume_of g) image x || is_scanned (volume_of g) image x) ≡ true = or_left (is_recorded (volume_of g) image x) (is_scanned (volume_of g) image x) recorded in
      let chunk = in_chunk g ag x at in
      let whole = holds blocks x ag bytes at is in
      or_right (x == root_cluster (volume_of g))
      ((is_recorded (volume_of g) image x || is_scanned (volume_of g) image x) && lies_in_chunk (volume_of g) x && can_hold_inodes (volume_of g) image x)
      (and_from ((is_recorded (volume_of g) image x || is_scanned (volume_of g) image x) && lies_in_chunk (volume_of g) x) (can_hold_inodes (volume_of g) image x)
      (and_from (is_recorded (volume_of g) image x || is_scanned (volume_of g) image x) (lies_in_chunk (volume_of g) x) either chunk) whole)

  candidate : (blocks ino : ℕ) → IsImage blocks image → (of : HasCluster g image groups files view ino) → is_candidate_inode (volume_of g) image ino ≡ true
  unfolding candidate_inodes
  candidate blocks ino bytes of =
      let v : Volume = volume_of g in
      let at = cluster_chunked g of.cluster groups view.space.are of.is in
      let member = candidate_member g image of.cluster (as_placed g at.0 of.cluster at.1) (chunk_candidate blocks of.cluster at.0 bytes at.1 of.is) in
      member_any (λ other. other == ino) ino (candidate_inodes v image)
      (member_flat (λ (c : ClusterRec). cluster_inodes v c.block) (cluster_rec v image of.cluster) ino (candidates v image) member of.has) (eq-eqb ino ino refl)

  pub protected : (blocks : ℕ) (f : FileRec) → IsImage blocks image → Member f files → is_directory f ≡ false → f.ino ≢ g.rootino → f.ino ≢ g.rootino + 1 → f.ino ≢ g.rootino + 2
      → Protected (volume_of g) image f.ino
  protected blocks f bytes is kind root bitmap summary =
      let v : Volume = volume_of g in
      let mine = file_inode v image f (inodes_of v groups) files view.files_read is in
      let of = inode_has g image groups files view f.ino mine.0 in
      let own : Member (cluster_of v f.ino) (clusters_from v 0 groups) = subst (λ (n : ℕ). Member n (clusters_from v 0 groups)) (sym of.own) of.is in
      record {
        file = f;
        candidate = candidate blocks f.ino bytes of;
        reads = mine.1;
        no_directory = kind;
        no_root = root;
        no_bitmap = bitmap;
        no_summary = summary;
        unfixed = λ b on. false_from_ne_true (is_fixed v b) (λ e. file_unfixed g groups files view.space f b is on e);
        outside = λ b on. false_from_ne_true (is_of_candidate v image b) (λ e.
            let one = any_member (λ (c : ClusterRec). is_of_cluster c.block b) (candidates v image) e in
            file_cluster g groups files view.space f one.0.block b is on (candidate_known g image groups files view one.0 one.1) one.2);
        alone = λ b on. false_from_ne_true (is_claimed_beside v image f.ino b) (λ e.
            let one = any_member (λ (h : FileRec). not (h.ino == f.ino) && claims v h b) (candidate_files v image) e in
            let parts = and_parts (not (one.0.ino == f.ino)) (claims v one.0 b) one.2 in
            files_apart g groups files view.space f one.0 b is (file_known one.0 one.1) (eqb-false one.0.ino f.ino (not-true (one.0.ino == f.ino) parts.0)) on parts.1);
        cluster_unfixed = λ b on. false_from_ne_true (is_fixed v b) (λ e. cluster_unfixed g groups files view.space (cluster_of v f.ino) b own on e);
        cluster_unclaimed = λ b on. false_from_ne_true (is_claimed v image b) (λ e.
            let one = any_member (λ (h : FileRec). claims v h b) (candidate_files v image) e in
            file_cluster g groups files view.space one.0 (cluster_of v f.ino) b (file_known one.0 one.1) one.2 own on);
      }

-- the same of the files that a consistent image says
pub regular_protected : (g : Geometry) (image : Image) (blocks : ℕ) (is : IsConsistent broken_law g image) (f : FileRec) → IsImage blocks image → Contains is.catalog.files f → is_directory f ≡ false
    → f.ino ≢ g.rootino → f.ino ≢ g.rootino + 1 → f.ino ≢ g.rootino + 2 → Protected (volume_of g) image f.ino
regular_protected g image blocks is f bytes has kind root bitmap summary =
    let lawful = lawful_view g image is in
    let among : Member f lawful.files = subst (λ (fs : List FileRec). Member f fs) (ap (λ (c : Catalog). c.files) lawful.says) (contained f is.catalog.files has) in
    protected g image lawful.groups lawful.files lawful.is blocks f bytes among kind root bitmap summary

-- the candidate clusters of a consistent image are those of its chunks
pub candidates_are : (g : Geometry) (image : Image) (is : IsConsistent broken_law g image) (c : ClusterRec) → Member c (candidates (volume_of g) image)
    → Member c.block (clusters_from (volume_of g) 0 is.catalog.groups)
candidates_are g image is c among =
    let lawful = lawful_view g image is in
    subst (λ (gs : List GroupRec). Member c.block (clusters_from (volume_of g) 0 gs)) (sym (ap (λ (all : Catalog). all.groups) lawful.says))
    (candidate_known g image lawful.groups lawful.files lawful.is c among)
