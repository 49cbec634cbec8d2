-- What is asked of the settled volume can be rendered.
use Rattle.std.proofs.Common.{◌≡◌, ℕ, Bool, true, false, ◌+◌, ◌≤◌, ◌<◌, ◌⊎◌, inl, inr, nat_le, nat_lt, if◌then◌else◌, List, [], ◌∷◌, ◌++◌, map, length, IsTrue, None, sym, subst, ap, ◌∙◌, arith}
use Rattle.std.specs.List.{All, flat_map}
use Rattle.std.proofs.lemmas.Bool.{and_from, le-leb, lt-ltb}
use Rattle.std.proofs.lemmas.List.Elements.{recursion_from_All}
use Rattle.std.proofs.lemmas.List.FromFn.{get_or-map-range_with_len, length-map-range_with_len}
use Rattle.xfs_disk.specs.Lists.{is_among}
use Rattle.xfs_disk.specs.declared.stamp.Stamp.{Stamp}
use Rattle.xfs_geom.specs.Conversions.{is_fixed}
use Rattle.xfs_geom.specs.Runs.{covers}
use Rattle.xfs_geom.specs.Volumes.{volume_of}
use Rattle.xfs_geom.specs.declared.geometry.Geometry.{Geometry}
use Rattle.xfs_geom.specs.declared.records.InoRec.{InoRec}
use Rattle.xfs_geom.specs.declared.records.Run.{Run}
use Rattle.xfs_image.specs.Clusters.{root_cluster}
use Rattle.xfs_rebuild.proofs.xfs_made.Roots.{root_kept}
use Rattle.xfs_kinds.specs.InodeTrees.{ino_shape}
use Rattle.xfs_names.specs.declared.records.WantedNames.{WantedNames}
use Rattle.xfs_place.specs.Objects.{IsAsk}
use Rattle.xfs_place.specs.Pool.{is_taken}
use Rattle.xfs_place.specs.Wanted.{IsOffFixed, inodes_in_group}
use Rattle.xfs_place.specs.declared.wanted.GroupInodes.{GroupInodes}
use Rattle.xfs_place.specs.declared.wanted.Object.{Object}
use Rattle.xfs_salvage.proofs.xfs_views.Members.{Member, member_all, member_any, member_left, member_map, member_right}
use Rattle.xfs_render.specs.Readiness.{HasAsker, IsWritable}
use Rattle.xfs_rebuild.specs.xfs_request.Chunks.{group_asked, inodes_wanted, kept_chunks}
use Rattle.xfs_rebuild.proofs.xfs_made.Lawful.{chunks_lawful}
use Rattle.xfs_rebuild.proofs.xfs_made.Taken.{among_member}
use Rattle.xfs_salvage.specs.Kept.{run_of_cluster, taken_of}
use Rattle.xfs_space.specs.Owners.{file_runs}
use Rattle.xfs_tree.specs.Rules.{are_lawful, is_of_root_cluster}
use Rattle.xfs_rebuild.specs.Rebuilds.{HasNamesDue}
use Rattle.xfs_rebuild.specs.declared.names_due.NamesDue.{NamesDue}
use Rattle.xfs_rename.specs.Objects.{wanted_with}
use Rattle.xfs_rename.specs.Settled.{settled, staying_files, with_number_in_order, with_numbers}
use Rattle.xfs_changes.specs.declared.lost_found.Lost.{Lost}
use Rattle.xfs_rename.proofs.NewClusters.{IsOneOrNone}
use Rattle.xfs_rename.proofs.HeldRuns.{runs_owned, runs_stand}

-- what a list has with one number more, or with some
number_member : (k x : ℕ) (ys : List ℕ) → Member k (with_number_in_order x ys) → (x ≡ k) ⊎ Member k ys
number_member k x [] is = elim is [ inl same ↦ inl same | inr none ↦ absurd none ]
number_member k x (y ∷ ys) is = by_case (nat_lt y x) is (number_member k x ys)
  where
    by_case : (t : Bool) → Member k (if t then y ∷ with_number_in_order x ys else x ∷ y ∷ ys) → (Member k (with_number_in_order x ys) → (x ≡ k) ⊎ Member k ys) → (x ≡ k) ⊎ Member k (y ∷ ys)
    by_case true is rest = elim is [
      | inl same ↦ inr (inl same)
      | inr there ↦ elim (rest there) [ inl new ↦ inl new | inr old ↦ inr (inr old) ]
    ]
    by_case false is rest = elim is [ inl new ↦ inl new | inr old ↦ inr old ]

pub numbers_member : (k : ℕ) (xs ys : List ℕ) → Member k (with_numbers xs ys) → Member k xs ⊎ Member k ys
numbers_member k [] ys is = inr is
numbers_member k (x ∷ xs) ys is = elim (numbers_member k xs (with_number_in_order x ys) is) [
  | inl there ↦ inl (inr there)
  | inr other ↦ elim (number_member k x ys other) [ inl here ↦ inl (inl here) | inr old ↦ inr old ]
]

abbrev no_group : GroupInodes
no_group = record { records = [] }

module _ (g : Geometry) (s : Stamp) (n : NamesDue) (has : HasNamesDue g s n) (l : Lost) (adds : IsOneOrNone g n l.added) (w : WantedNames) where
  abbrev runs_held : List Run
  runs_held = taken_of (volume_of g) n.clusters (staying_files w.rebuilt n.fresh n.files) ++ map run_of_cluster l.added

  abbrev runs_of_files : List Run
  runs_of_files = flat_map (file_runs (volume_of g)) (staying_files w.rebuilt n.fresh n.files)

  -- the run of a cluster is held
  old_held : (k : ℕ) → Member k n.clusters → Member (run_of_cluster k) runs_held
  old_held k is =
      member_left (run_of_cluster k) (map run_of_cluster n.clusters ++ runs_of_files) (map run_of_cluster l.added)
      (member_left (run_of_cluster k) (map run_of_cluster n.clusters) runs_of_files (member_map run_of_cluster k n.clusters is))

  cluster_held : (k : ℕ) → Member k (with_numbers l.added n.clusters) → Member (run_of_cluster k) runs_held
  cluster_held k is = elim (numbers_member k l.added n.clusters is) [
    | inl new ↦ member_right (run_of_cluster k) (map run_of_cluster n.clusters ++ runs_of_files) (map run_of_cluster l.added) (member_map run_of_cluster k l.added new)
    | inr old ↦ old_held k old
  ]

  -- so no block of a cluster is fixed
  clear_of_fixed : (k block : ℕ) → is_among (with_numbers l.added n.clusters) k ≡ true → k ≤ block → block < k + 4 → is_fixed (volume_of g) block ≡ false
  clear_of_fixed k block is low high =
      let off : IsOffFixed (volume_of g) (run_of_cluster k) =
      member_all (IsOffFixed (volume_of g)) (run_of_cluster k) runs_held
      (recursion_from_All (IsOffFixed (volume_of g)) runs_held (runs_stand g s n has w.rebuilt l.added adds).clear)
      (cluster_held k (among_member k (with_numbers l.added n.clusters) is)) in
      off block (and_from (nat_le k block) (nat_lt block (k + 4)) (le-leb k block low) (lt-ltb block (k + 4) high))

  root_among : Member (root_cluster (volume_of g)) n.clusters
  root_among =
      among_member (root_cluster (volume_of g)) n.clusters
      (subst (λ (ks : List ℕ). is_among ks (root_cluster (volume_of g)) ≡ true) (sym (has.due.clusters' ∙ has.found.is.clusters')) (root_kept g has.found.clusters has.found.files))

  root_held : (block : ℕ) → is_of_root_cluster (volume_of g) block ≡ true → is_taken runs_held block ≡ true
  unfolding is_taken
  root_held block is = member_any (covers block) (run_of_cluster (root_cluster (volume_of g))) runs_held (old_held (root_cluster (volume_of g)) root_among) is

  module _ (objects : List Object) where
    inodes_are : (ag : ℕ) → ag < g.agcount → inodes_in_group (wanted_with g n l w objects).inodes ag ≡ kept_chunks (volume_of g) (settled n l w) ag
    unfolding wanted_with inodes_wanted
    inodes_are ag low =
        ap (λ (r : GroupInodes). r.records) (get_or-map-range_with_len (group_asked (volume_of g) (settled n l w)) 0 g.agcount ag ag no_group low (omega arith))

    count_inodes : length (wanted_with g n l w objects).inodes ≡ g.agcount
    unfolding wanted_with inodes_wanted
    count_inodes = length-map-range_with_len (group_asked (volume_of g) (settled n l w)) 0 g.agcount

    pub wanted_written : All (λ (o : Object). All IsAsk o.runs) objects → All (λ (o : Object). All HasAsker o.runs) objects → IsWritable (wanted_with g n l w objects)
    unfolding wanted_with
    wanted_written asks askers = record {
      asks = asks;
      askers = askers;
      inodes = count_inodes;
      chunks = λ ag low.
          subst (λ (rs : List InoRec). IsTrue (are_lawful (ino_shape ag) (volume_of g) None rs)) (sym (inodes_are ag low))
          (chunks_lawful g (settled n l w) clear_of_fixed ag low);
      owned = runs_owned g s n has w.rebuilt l.added adds;
      root = root_held;
    }
