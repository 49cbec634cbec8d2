-- The inode of a new lost+found is one of the clusters that the volume then has.
use Rattle.std.proofs.Common.{◌≡◌, inl, inr, ℕ, Bool, true, false, cond, ◌+◌, ◌*◌, ◌/◌, ◌%◌, ◌≤◌, ◌<◌, ◌==◌, nat_lt, if◌then◌else◌, List, [], ◌∷◌, length, Option, Some, None, refl, sym, ap, ◌∙◌, subst, arith}
use Rattle.std.specs.List.{find, flat_map, range_with_len}
use Rattle.std.proofs.Math.Nat.{mod-lt}
use Rattle.std.proofs.lemmas.Nat.{div-add-mod'}
use Rattle.xfs_disk.specs.Blocks.{Image}
use Rattle.xfs_disk.specs.declared.stamp.Stamp.{Stamp}
use Rattle.xfs_geom.specs.Conversions.{inode_of}
use Rattle.xfs_geom.specs.Volumes.{volume_of}
use Rattle.xfs_geom.specs.declared.geometry.Geometry.{Geometry}
use Rattle.xfs_image.specs.Slots.{cluster_inodes, inodes_of_block}
use Rattle.xfs_views.proofs.Members.{Member, flat_member, map_member, member_flat, member_row}
use Rattle.xfs_render.specs.Plans.{HoldsPlan}
use Rattle.xfs_salvage.specs.Kept.{run_of_cluster}
use Rattle.xfs_names.specs.Place.{free_inode, inodes_from, is_free_inode, new_place, old_or_new, place_for}
use Rattle.xfs_names.specs.declared.place.LostPlace.{LostPlace}
use Rattle.xfs_names.specs.declared.place.LostPlace.TheVariants as place
use Rattle.xfs_links.specs.Together.{old_lost, orphans_of}
use Rattle.xfs_rename.specs.xfs_rebuild.declared.names_due.NamesDue.{NamesDue}
use Rattle.xfs_rename.specs.Lost.{cluster_found, first_added, lost_due, lost_in, place_due}
use Rattle.xfs_rename.specs.xfs_changes.Nodes.{first_of_cluster, firsts_of_clusters, nodes_of_files}
use Rattle.xfs_rename.specs.Renames.{IsRenamed}
use Rattle.xfs_rename.specs.Settled.{settled, with_number_in_order, with_numbers}
use Rattle.xfs_rename.specs.declared.planning.Renamed.{Renamed}
use Rattle.xfs_restored.proofs.DueSlots.{cluster_clear}
use Rattle.xfs_restored.proofs.NewSlots.{rows_follow}
use Rattle.xfs_restored.proofs.Placing.{next_head}

-- what is found is among what was searched
find_among : (test : ℕ → Bool) (xs : List ℕ) (x : ℕ) → find test xs ≡ Some x → Member x xs
find_among test [] x is = absurd cc
find_among test (y ∷ ys) x is = by_case (test y) is (find_among test ys x)
  where
    by_case : (t : Bool) → cond t (Some y) (find test ys) ≡ Some x → (find test ys ≡ Some x → Member x ys) → Member x (y ∷ ys)
    by_case true found rest = let same : y ≡ x = cc in inl same
    by_case false found rest = inr (rest found)

-- a slot that is taken is the free one that was found
slot_found : (free : Option ℕ) (ino : ℕ) → new_place free ≡ place.Slot ino → free ≡ Some ino
slot_found None ino is = absurd cc
slot_found (Some m) ino is = let same : m ≡ ino = cc in ap (λ (x : ℕ). Some x) same

slot_free : (orphans : List (ℕ × List ℕ)) (old free : Option ℕ) (ino : ℕ) → place_for orphans old free ≡ place.Slot ino → free ≡ Some ino
slot_free orphans old free ino is = by_test (length orphans == 0) is
  where
    by_old : (found : Option ℕ) → old_or_new found free ≡ place.Slot ino → free ≡ Some ino
    by_old None at = slot_found free ino at
    by_old (Some l) at = absurd cc

    by_test : (t : Bool) → (if t then place.Unneeded else old_or_new old free) ≡ place.Slot ino → free ≡ Some ino
    by_test true at = absurd cc
    by_test false at = by_old old at

-- numbers that are put among others
number_has : (x : ℕ) (ys : List ℕ) → Member x (with_number_in_order x ys)
number_has x [] = inl refl
number_has x (y ∷ ys) = by_test (nat_lt y x) (number_has x ys)
  where
    by_test : (t : Bool) → Member x (with_number_in_order x ys) → Member x (if t then y ∷ with_number_in_order x ys else x ∷ y ∷ ys)
    by_test true rest = inr rest
    by_test false rest = inl refl

number_keeps : (x c : ℕ) (ys : List ℕ) → Member c ys → Member c (with_number_in_order x ys)
number_keeps x c [] is = absurd is
number_keeps x c (y ∷ ys) is = by_test (nat_lt y x) (number_keeps x c ys)
  where
    by_test : (t : Bool) → (Member c ys → Member c (with_number_in_order x ys)) → Member c (if t then y ∷ with_number_in_order x ys else x ∷ y ∷ ys)
    by_test true rest = elim is [ inl same ↦ inl same | inr there ↦ inr (rest there) ]
    by_test false rest = inr is

pub numbers_keep : (xs : List ℕ) (c : ℕ) (ys : List ℕ) → Member c ys → Member c (with_numbers xs ys)
numbers_keep [] c ys is = is
numbers_keep (x ∷ xs) c ys is = numbers_keep xs c (with_number_in_order x ys) (number_keeps x c ys is)

pub first_number : (x : ℕ) (xs ys : List ℕ) → Member x (with_numbers (x ∷ xs) ys)
first_number x xs ys = numbers_keep xs x (with_number_in_order x ys) (number_has x ys)

module _ (g : Geometry) (sector : List ℕ) (s : Stamp) (image now : Image) (n : NamesDue) (r : Renamed) (is : IsRenamed g sector s image n r) (holds : HoldsPlan now is.left.plan)
    (size : g.dblocks ≤ length now) where
  abbrev clusters : List ℕ
  clusters = (settled n (lost_due g n) is.w).clusters

  in_group : (cluster : ℕ) → Member cluster clusters → cluster % g.agblocks + 4 ≤ g.agblocks
  in_group cluster has =
      let large = g.shape.groups.large in
      let ag : ℕ = cluster / g.agblocks in
      let whole : ag * g.agblocks + cluster % g.agblocks ≡ cluster = div-add-mod' cluster g.agblocks in
      let short : cluster % g.agblocks < g.agblocks = mod-lt cluster (omega (arith, large)) in
      let more : (ag + 1) * g.agblocks ≡ ag * g.agblocks + g.agblocks = omega arith in
      let end = next_head g (run_of_cluster cluster) (ag + 1) (cluster_clear g sector s image now n r is holds size cluster has) (omega (arith, whole, short, more)) in
      omega (arith, whole, end, more)

  cluster_row : (cluster : ℕ) → Member cluster clusters → cluster_inodes (volume_of g) cluster ≡ range_with_len (first_of_cluster (volume_of g) cluster) 32
  unfolding cluster_inodes inode_of
  cluster_row cluster has =
      ap (λ (c : ℕ). flat_map (inodes_of_block (volume_of g)) (range_with_len c 4)) (omega arith)
      ∙ (rows_follow (volume_of g) cluster 0 4 (let inside = in_group cluster has in omega (arith, inside)) ∙ ap (λ (a : ℕ). range_with_len a 32) (omega arith))

  of_cluster : (cluster ino : ℕ) → Member cluster clusters → Member ino (inodes_from (first_of_cluster (volume_of g) cluster)) → Member ino (flat_map (cluster_inodes (volume_of g)) clusters)
  of_cluster cluster ino has at =
      member_flat (cluster_inodes (volume_of g)) cluster ino clusters has (subst (λ (xs : List ℕ). Member ino xs) (sym (cluster_row cluster has)) at)

  -- in a slot of a kept cluster
  slot_inode : (ino : ℕ) → place_due g n ≡ place.Slot ino → Member ino (flat_map (cluster_inodes (volume_of g)) clusters)
  slot_inode ino at =
      let firsts : List ℕ = firsts_of_clusters (volume_of g) n.clusters in
      let nodes = nodes_of_files n.files in
      let found : free_inode nodes g.rootino firsts ≡ Some ino =
      slot_free (orphans_of nodes n.entries g.rootino) (old_lost nodes n.entries g.rootino) (free_inode nodes g.rootino firsts) ino at in
      let one = flat_member inodes_from ino firsts (find_among (is_free_inode nodes g.rootino) (flat_map inodes_from firsts) ino found) in
      let from = map_member (first_of_cluster (volume_of g)) one.0 n.clusters one.1 in
      of_cluster from.0 ino (numbers_keep (lost_due g n).added from.0 n.clusters from.1) (subst (λ (m : ℕ). Member ino (inodes_from m)) (sym from.2) one.2)

  -- in a new cluster
  new_inode : place_due g n ≡ place.Cluster → Member (lost_due g n).new (flat_map (cluster_inodes (volume_of g)) clusters)
  new_inode at = by_found (cluster_found g n) refl
    where
      first_is : (cs : List ℕ) → cluster_found g n ≡ cs → (lost_due g n).new ≡ first_added g n cs
      first_is cs found = ap (λ (p : LostPlace). (lost_in g n p).new) at ∙ ap (first_added g n) found

      added_is : (cs : List ℕ) → cluster_found g n ≡ cs → (lost_due g n).added ≡ cs
      added_is cs found = ap (λ (p : LostPlace). (lost_in g n p).added) at ∙ found

      by_found : (cs : List ℕ) → cluster_found g n ≡ cs → Member (lost_due g n).new (flat_map (cluster_inodes (volume_of g)) clusters)
      by_found [] none = absurd (is.found (at, none))
      by_found (c ∷ cs) found =
          let there : Member c clusters = subst (λ (xs : List ℕ). Member c (with_numbers xs n.clusters)) (sym (added_is (c ∷ cs) found)) (first_number c cs n.clusters) in
          subst (λ (m : ℕ). Member m (flat_map (cluster_inodes (volume_of g)) clusters)) (sym (first_is (c ∷ cs) found))
          (of_cluster c (first_of_cluster (volume_of g) c) there (member_row (first_of_cluster (volume_of g) c) (first_of_cluster (volume_of g) c) 32 (omega arith) (omega arith)))

  pub lost_inode : (lost_due g n).made ≡ true → Member (lost_due g n).new (flat_map (cluster_inodes (volume_of g)) clusters)
  lost_inode made = by_place (place_due g n) refl made
    where
      by_place : (p : LostPlace) → place_due g n ≡ p → (lost_in g n p).made ≡ true → Member (lost_due g n).new (flat_map (cluster_inodes (volume_of g)) clusters)
      by_place place.Unneeded at made' = absurd cc
      by_place (place.Old ino) at made' = absurd cc
      by_place (place.Slot ino) at made' =
          subst (λ (m : ℕ). Member m (flat_map (cluster_inodes (volume_of g)) clusters)) (sym (ap (λ (p : LostPlace). (lost_in g n p).new) at)) (slot_inode ino at)
      by_place place.Cluster at made' = new_inode at
