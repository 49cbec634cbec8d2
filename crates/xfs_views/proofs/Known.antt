-- The candidate clusters of a consistent image are just those of its chunks.
use Rattle.std.proofs.Common.{◌≡◌, ℕ, zero, suc, Bool, true, not, ◌+◌, ◌*◌, ◌/◌, ◌≤◌, ◌<◌, inl, inr, ◌&&◌, ◌||◌, ◌==◌, nat_le, nat_lt, List, [], ◌∷◌, refl, sym, ◌∙◌, ap, subst, arith, Option, None}
use Rattle.std.specs.List.{filter, list_all, list_any, range_with_len}
use Rattle.std.proofs.lemmas.Bool.{and_from, and_parts, both_ways, eq-eqb, eqb-true, le-leb, lt-ltb, not-true, or_cases, or_left, or_right}
use Rattle.xfs_disk.specs.Lists.{is_among}
use Rattle.xfs_disk.specs.Blocks.{Image}
use Rattle.xfs_geom.specs.Conversions.{group_length}
use Rattle.xfs_geom.specs.Volumes.{Volume, volume_of}
use Rattle.xfs_geom.specs.declared.geometry.Geometry.{Geometry}
use Rattle.xfs_volume.specs.declared.clusters.ClusterRec.{ClusterRec}
use Rattle.xfs_volume.specs.declared.files.FileRec.{FileRec}
use Rattle.xfs_volume.specs.declared.groups.GroupRec.{GroupRec}
use Rattle.xfs_image.proofs.Roots.{chunks_name, owners_name}
use Rattle.xfs_image.specs.Candidates.{can_hold_inodes, candidates, is_candidate, is_scanned, is_used_slot, lies_in_chunk}
use Rattle.xfs_image.specs.Clusters.{chunk_clusters, cluster_of, given_clusters, is_given_block, is_recorded, is_trusted, named_by_chunks, named_by_owners, names, places_in, root_cluster}
use Rattle.xfs_image.specs.Files.{clusters_from, clusters_of, inodes_of}
use Rattle.xfs_image.specs.Groups.{head_block}
use Rattle.xfs_image.specs.Slots.{cluster_inodes}
use Rattle.xfs_views.proofs.Addresses.{IsPlaced}
use Rattle.xfs_views.proofs.Held.{HasGroup}
use Rattle.xfs_views.proofs.Images.{candidate_is, candidate_placed, inode_cluster}
use Rattle.xfs_views.proofs.Lawful.{IsLawfulView}
use Rattle.xfs_views.proofs.Members.{Member, any_member, contained, flat_member, member_any, member_filter, member_flat, member_map, member_row}
use Rattle.xfs_views.proofs.Places.{IsChunked, as_placed, chunk_in, chunked, cluster_chunked, file_inode, group_is}
use Rattle.xfs_views.proofs.Trusted.{chunk_given, given_chunk, group_of}

pub all_in_row : (test : ℕ → Bool) (k n : ℕ) → ((i : ℕ) → k ≤ i → i < k + n → test i ≡ true) → list_all test (range_with_len k n) ≡ true
all_in_row test k zero each = refl
all_in_row test k (suc n) each =
    and_from (test k) (list_all test (range_with_len (k + 1) n)) (each k (omega arith) (omega arith))
    (all_in_row test (k + 1) n (λ i low high. each i (omega (arith, low)) (omega (arith, high))))

covers_all : (xs ys : List ℕ) → ((x : ℕ) → Member x xs → Member x ys) → list_all (is_among ys) xs ≡ true
covers_all [] ys each = refl
covers_all (x ∷ xs) ys each =
    and_from (is_among ys x) (list_all (is_among ys) xs) (member_any (λ other. other == x) x ys (each x (inl refl)) (eq-eqb x x refl))
    (covers_all xs ys (λ z is. each z (inr is)))

among : (xs : List ℕ) (x : ℕ) → is_among xs x ≡ true → Member x xs
among xs x is = let one = any_member (λ other. other == x) xs is in subst (λ (n : ℕ). Member n xs) (eqb-true one.0 x one.2) one.1

module _ (g : Geometry) (image : Image) (groups : List GroupRec) (files : List FileRec) (view : IsLawfulView g image groups files) where
  abbrev v : Volume
  v = volume_of g

  chunk_is_given : (n x : ℕ) (h : HasGroup g image 0 groups n) → n < g.agcount → Member x (chunk_clusters (volume_of g) n h.group.ino) → Member x (given_clusters (volume_of g) n h.group.rmap)
  chunk_is_given n x h few is =
      let of = chunk_in (volume_of g) n (head_block (volume_of g) n) x None h.group.ino h.is.ino is in
      let at = chunked g n x of.chunk of.lawful of.is in
      let inside = at.inside in
      let start = at.is in
      let test : ℕ → Bool = λ place. list_all (is_given_block h.group.rmap) (range_with_len place 4) in
      let four : test (4 * at.i) ≡ true =
      all_in_row (is_given_block h.group.rmap) (4 * at.i) 4
      (λ p low high.
      chunk_given g image groups files view n x p h few is
      (and_from (nat_le x (n * g.agblocks + p)) (nat_lt (n * g.agblocks + p) (x + 4)) (le-leb x (n * g.agblocks + p) (omega (arith, start, low)))
      (lt-ltb (n * g.agblocks + p) (x + 4) (omega (arith, start, high))))
      (omega (arith, high, inside))) in
      let place : Member (4 * at.i) (places_in (volume_of g) n) =
      member_map (λ i. 4 * i) at.i (range_with_len 0 (group_length (volume_of g) n / 4)) (member_row at.i 0 (group_length (volume_of g) n / 4) (omega arith) (omega (arith, inside))) in
      let there : Member (head_block (volume_of g) n + 4 * at.i) (given_clusters (volume_of g) n h.group.rmap) =
      member_map (λ place. head_block (volume_of g) n + place) (4 * at.i) (filter test (places_in (volume_of g) n)) (member_filter test (4 * at.i) (places_in (volume_of g) n) place four) in
      subst (λ (k : ℕ). Member k (given_clusters (volume_of g) n h.group.rmap)) (sym start) there

  -- each group says in full where its clusters are
  trusted : (n : ℕ) → n < g.agcount → is_trusted (volume_of g) image n ≡ true
  unfolding is_trusted
  trusted n few =
      let h = group_of g image groups files view n few in
      let chunks : List ℕ = chunk_clusters (volume_of g) n h.group.ino in
      let owners : List ℕ = given_clusters (volume_of g) n h.group.rmap in
      rw (chunks_name (volume_of g) image n h.group h.read, owners_name (volume_of g) image n h.group h.read)
      (and_from (list_all (is_among owners) chunks) (list_all (is_among chunks) owners) (covers_all chunks owners (λ x is. chunk_is_given n x h few is))
      (covers_all owners chunks (λ x is. given_chunk g image groups files view n x h few is)))

  -- the inodes of a view lie in clusters of chunks
  pub record HasCluster (ino : ℕ) : Type 0 where
    pub cluster : ℕ
    pub is : Member cluster (clusters_from (volume_of g) 0 groups)
    pub has : Member ino (cluster_inodes (volume_of g) cluster)
    pub own : cluster_of (volume_of g) ino ≡ cluster

  pub inode_has : (ino : ℕ) → Member ino (inodes_of (volume_of g) groups) → HasCluster ino
  unfolding inodes_of clusters_of
  inode_has ino is =
      let of = flat_member (cluster_inodes (volume_of g)) ino (clusters_from (volume_of g) 0 groups) is in
      let at = cluster_chunked g of.0 groups view.space.are of.1 in
      record { cluster = of.0; is = of.1; has = of.2; own = inode_cluster g of.0 ino (as_placed g at.0 of.0 at.1) of.2 }

  pub inode_of_view : (x ino : ℕ) → Member x (clusters_from (volume_of g) 0 groups) → Member ino (cluster_inodes (volume_of g) x) → Member ino (inodes_of (volume_of g) groups)
  unfolding inodes_of clusters_of
  inode_of_view x ino is has = member_flat (cluster_inodes (volume_of g)) x ino (clusters_from (volume_of g) 0 groups) is has

  root_known : Member (root_cluster (volume_of g)) (clusters_from (volume_of g) 0 groups)
  root_known =
      let found = view.root in
      let file : FileRec = found.1 in
      let ino = (file_inode (volume_of g) image file (inodes_of (volume_of g) groups) files view.files_read (contained file files (found.0, found.2, found.3))).0 in
      let of = inode_has file.ino ino in
      let same : root_cluster (volume_of g) ≡ of.cluster = ap (cluster_of (volume_of g)) (sym found.4.0) ∙ of.own in
      subst (λ (n : ℕ). Member n (clusters_from (volume_of g) 0 groups)) (sym same) of.is

  -- what a tree names is a cluster of chunks
  named_known : (x : ℕ) → IsPlaced g x → is_recorded (volume_of g) image x ≡ true → Member x (clusters_from (volume_of g) 0 groups)
  unfolding is_recorded
  named_known x at recorded =
      let h = group_of g image groups files view at.ag at.group in
      let group = group_is g x at in
      let chunks : names (named_by_chunks (volume_of g) image (x / g.agblocks)) x ≡ is_among (chunk_clusters (volume_of g) at.ag h.group.ino) x =
      ap (λ (n : ℕ). names (named_by_chunks (volume_of g) image n) x) group ∙ ap (λ (o : Option (List ℕ)). names o x) (chunks_name (volume_of g) image at.ag h.group h.read) in
      let owners : names (named_by_owners (volume_of g) image (x / g.agblocks)) x ≡ is_among (given_clusters (volume_of g) at.ag h.group.rmap) x =
      ap (λ (n : ℕ). names (named_by_owners (volume_of g) image n) x) group ∙ ap (λ (o : Option (List ℕ)). names o x) (owners_name (volume_of g) image at.ag h.group h.read) in
      let a : Bool = x == root_cluster (volume_of g) in
      let b : Bool = names (named_by_chunks (volume_of g) image (x / g.agblocks)) x in
      let c : Bool = names (named_by_owners (volume_of g) image (x / g.agblocks)) x in
      elim (or_cases (a || b) c recorded) [
        | inl either ↦ elim (or_cases a b either) [
          | inl root ↦ subst (λ (n : ℕ). Member n (clusters_from (volume_of g) 0 groups)) (sym (eqb-true x (root_cluster (volume_of g)) root)) root_known
          | inr chunk ↦ h.clusters x (among (chunk_clusters (volume_of g) at.ag h.group.ino) x (sym chunks ∙ chunk))
        ]
        | inr owner ↦
            h.clusters x (given_chunk g image groups files view at.ag x h at.group (among (given_clusters (volume_of g) at.ag h.group.rmap) x (sym owners ∙ owner)))
      ]

  not_scanned : (x : ℕ) → IsPlaced g x → is_scanned (volume_of g) image x ≡ true → ⊥
  unfolding is_scanned
  not_scanned x at scanned =
      let parts = and_parts (not (is_trusted (volume_of g) image (x / g.agblocks))) (list_any (is_used_slot (volume_of g) image) (cluster_inodes (volume_of g) x)) scanned in
      both_ways (is_trusted (volume_of g) image (x / g.agblocks)) (not-true (is_trusted (volume_of g) image (x / g.agblocks)) parts.0)
      (ap (is_trusted (volume_of g) image) (group_is g x at) ∙ trusted at.ag at.group)

  known : (x : ℕ) → IsPlaced g x → is_candidate (volume_of g) image x ≡ true → Member x (clusters_from (volume_of g) 0 groups)
  unfolding is_candidate
  known x at is =
      let a : Bool = is_recorded (volume_of g) image x in
      let b : Bool = is_scanned (volume_of g) image x in
      elim (or_cases (x == root_cluster (volume_of g)) ((a || b) && lies_in_chunk (volume_of g) x && can_hold_inodes (volume_of g) image x) is) [
        | inl root ↦ subst (λ (n : ℕ). Member n (clusters_from (volume_of g) 0 groups)) (sym (eqb-true x (root_cluster (volume_of g)) root)) root_known
        | inr more ↦
            let front = and_parts ((a || b) && lies_in_chunk (volume_of g) x) (can_hold_inodes (volume_of g) image x) more in
            let first = and_parts (a || b) (lies_in_chunk (volume_of g) x) front.0 in
            elim (or_cases a b first.0) [
              | inl recorded ↦ named_known x at recorded
              | inr scanned ↦ absurd (not_scanned x at scanned)
            ]
      ]

  pub candidate_known : (c : ClusterRec) → Member c (candidates (volume_of g) image) → Member c.block (clusters_from (volume_of g) 0 groups)
  candidate_known c is = known c.block (candidate_placed g image c is) (candidate_is g image c is)

  -- a cluster of chunks is one that its group's tree names
  pub chunk_recorded : (x ag : ℕ) → IsChunked g ag x → Member x (clusters_from (volume_of g) 0 groups) → is_recorded (volume_of g) image x ≡ true
  unfolding is_recorded
  chunk_recorded x ag at is =
      let h = group_of g image groups files view ag at.group in
      let group = group_is g x (as_placed g ag x at) in
      let mine = h.clusters_back x is group in
      let chunks : names (named_by_chunks (volume_of g) image (x / g.agblocks)) x ≡ true =
      ap (λ (n : ℕ). names (named_by_chunks (volume_of g) image n) x) group ∙ ap (λ (o : Option (List ℕ)). names o x) (chunks_name (volume_of g) image ag h.group h.read)
      ∙ member_any (λ other. other == x) x (chunk_clusters (volume_of g) ag h.group.ino) mine (eq-eqb x x refl) in
      let a : Bool = x == root_cluster (volume_of g) in
      or_left (a || names (named_by_chunks (volume_of g) image (x / g.agblocks)) x) (names (named_by_owners (volume_of g) image (x / g.agblocks)) x)
      (or_right a (names (named_by_chunks (volume_of g) image (x / g.agblocks)) x) chunks)
