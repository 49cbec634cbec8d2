-- Which numbers the files have by which names are decided, and lost+found.
use Rattle.std.proofs.Common.{◌≡◌, ◌⊎◌, inl, inr, ℕ, Bool, true, false, cond, ◌+◌, ◌*◌, ◌/◌, ◌%◌, ◌^◌, ◌≤◌, ◌<◌, ◌==◌, not, if◌then◌else◌, List, [], ◌∷◌, ◌++◌, length, map, filter, nat_le, nat_lt, Some, refl, sym, ap, ◌∙◌, subst, arith}
use Rattle.std.specs.List.{find, flat_map}
use Rattle.std.proofs.Math.Nat.{mul-le-mul_left}
use Rattle.std.proofs.lemmas.Nat.{div-add-mod'}
use Rattle.std.proofs.lemmas.Bool.{and_from, and_parts, cases_lt, eq-eqb, eqb-true, false≢true, le-leb, lt-ltb, not-true, true≢false}
use Rattle.xfs_disk.specs.Blocks.{Image}
use Rattle.xfs_disk.specs.Lists.{is_among}
use Rattle.xfs_disk.specs.declared.stamp.Stamp.{Stamp}
use Rattle.xfs_geom.specs.Conversions.{address_of, inode_of}
use Rattle.xfs_geom.specs.Runs.{covers}
use Rattle.xfs_geom.specs.Volumes.{Volume, volume_of}
use Rattle.xfs_geom.specs.declared.geometry.Geometry.{Geometry}
use Rattle.xfs_geom.specs.declared.records.Run.{Run}
use Rattle.xfs_image.specs.Clusters.{root_cluster}
use Rattle.xfs_image.specs.Slots.{cluster_inodes}
use Rattle.xfs_links.specs.Together.{old_lost, orphans_of}
use Rattle.xfs_links.specs.Entries.{is_kept_node, is_reserved_inode}
use Rattle.xfs_links.specs.declared.records.NodeRec.{NodeRec}
use Rattle.xfs_naming.specs.Naming.{is_in_use}
use Rattle.xfs_names.specs.Having.{node_of}
use Rattle.xfs_names.specs.Place.{free_inode, inodes_from, is_free_inode}
use Rattle.xfs_names.specs.declared.place.LostPlace.{LostPlace}
use Rattle.xfs_names.specs.declared.place.LostPlace.TheVariants as place
use Rattle.xfs_place.specs.Pool.{is_taken}
use Rattle.xfs_place.specs.declared.wanted.Wanted.{Wanted}
use Rattle.xfs_mend.proofs.xfs_made.Roots.{root_kept}
use Rattle.xfs_views.proofs.Members.{Member, any_member, filter_member, flat_member, map_member, member_any, member_flat, member_left, member_map, row_member}
use Rattle.xfs_salvage.specs.Kept.{fresh_among, own_inodes, run_of_cluster}
use Rattle.xfs_salvage.specs.declared.found.Salvaged.{Salvaged}
use Rattle.xfs_space.specs.Owners.{file_runs}
use Rattle.xfs_request.specs.Requests.{volume_wanted}
use Rattle.xfs_request.specs.Slots.{wanted_slots}
use Rattle.xfs_mend.proofs.xfs_made.Taken.{among_member}
use Rattle.xfs_scan.specs.declared.evidence.Evidence.{Evidence}
use Rattle.xfs_volume.specs.declared.files.FileRec.{FileRec}
use Rattle.xfs_mend.specs.xfs_rebuild.Names.{due_files, linked_file, linked_files, made_files, new_file}
use Rattle.xfs_mend.specs.xfs_rebuild.Rebuilds.{Ground, IsFound}
use Rattle.xfs_mend.specs.xfs_rebuild.declared.names_due.NamesDue.{NamesDue}
use Rattle.xfs_mend.proofs.xfs_restored.InKept.{file_inode}
use Rattle.xfs_mend.proofs.xfs_restored.RootInodes.{root_has}
use Rattle.xfs_mend.specs.xfs_restored.DueFiles.{kept_inodes, new_core}
use Rattle.xfs_mend.specs.xfs_rename.Lost.{added_for, first_added, lost_due, new_for, no_inode, place_due}
use Rattle.xfs_changes.specs.Nodes.{first_of_cluster, firsts_of_clusters, nodes_of_files}
use Rattle.xfs_changes.specs.declared.lost_found.Lost.{Lost}
use Rattle.xfs_mend.proofs.xfs_restored.NewSlots.{added_made}
use Rattle.xfs_mend.proofs.xfs_restored.WantedApart.{cluster_low, inode_low, inodes_apart}
use Rattle.xfs_mend.proofs.xfs_restored.WantedLists.{mades_either, mades_have, mades_keep, none_used}
use Rattle.xfs_mend.proofs.xfs_restored.WantedPlace.{find_passes, slot_free}
use Rattle.xfs_mend.proofs.xfs_restored.WantedNumbers.{one_added, taken_all}
use Rattle.xfs_mend.proofs.xfs_restored.WantedSlots.{IsMadeFor, made_is, made_there}
use Rattle.xfs_mend.specs.xfs_restored.Changes.{LeavesRoom, inodes_taken}
use Rattle.xfs_settled.specs.Gathered.{IsGathered}
use Rattle.xfs_settled.proofs.Found as Found
use Rattle.xfs_settled.proofs.FoundClusters.{IsFreeCluster, added_is, place_case}

-- a number that is none of lost+found's and, where a cluster is new, of its other inodes
room_without : (l : Lost) (ino : ℕ) → l.added ≡ [] → (l.new ≡ ino → ⊥) → LeavesRoom l ino
room_without l ino none other = elim (cases_lt ino l.new) [
  | inl below ↦ inl below
  | inr upto ↦
      let one = one_taken in
      let behind = beside upto (cases_lt l.new ino) in
      inr (omega (arith, one, behind))
]
  where
    by_test : (t : Bool) (added : List ℕ) → added ≡ [] → (if t then 1 + 31 * length added else 1) ≡ 1
    by_test true added is = ap (λ (xs : List ℕ). 1 + 31 * length xs) is
    by_test false added is = refl

    one_taken : inodes_taken l l.new ≡ 1
    one_taken = by_test (l.new == l.new) l.added none

    beside : l.new ≤ ino → (l.new < ino) ⊎ (ino ≤ l.new) → l.new < ino
    beside upto (inl less) = less
    beside upto (inr more) = absurd (other (omega (arith, upto, more)))

room_with : (l : Lost) (c first ino : ℕ) → l.added ≡ c ∷ [] → l.new ≡ first → (ino < first) ⊎ (first + 32 ≤ ino) → LeavesRoom l ino
room_with l c first ino added new (inl below) = inl (omega (arith, new, below))
room_with l c first ino added new (inr behind) = let taken = taken_all l c added in inr (omega (arith, new, behind, taken))

-- what is found is there
find_there : (test : ℕ → Bool) (xs : List ℕ) (x : ℕ) → find test xs ≡ Some x → Member x xs
find_there test [] x is = absurd cc
find_there test (y ∷ ys) x is = by_case (test y) is (find_there test ys x)
  where
    by_case : (t : Bool) → cond t (Some y) (find test ys) ≡ Some x → (find test ys ≡ Some x → Member x ys) → Member x (y ∷ ys)
    by_case true is rest = let same : y ≡ x = cc in inl same
    by_case false is rest = inr (rest is)

-- the first inode of a cluster that lies in the volume has a low number
place_low : (w k d b : ℕ) → k < 2 * w → b < d → d ≤ 2 ^ 26 → b / w * k + b % w < 2 ^ 28
place_low w k d b wide inside low =
    let whole : b / w * w + b % w ≡ b = div-add-mod' b w in
    let most : b / w * k ≤ b / w * (2 * w) = mul-le-mul_left (b / w) (omega (arith, wide)) in
    let twice : b / w * (2 * w) ≡ 2 * (b / w * w) = omega arith in
    omega (arith, whole, most, twice, inside, low)

first_low : (g : Geometry) (cluster : ℕ) → cluster < g.dblocks → first_of_cluster (volume_of g) cluster < 2 ^ 31
unfolding inode_of address_of
first_low g cluster inside =
    let low = place_low g.agblocks (2 ^ g.agblklog) g.dblocks cluster g.shape.addresses.least inside g.shape.groups.small in
    omega (arith, low)

module _ (g : Geometry) (s : Stamp) (image : Image) (e : Evidence) (on : Ground) (n : NamesDue) (has : IsGathered g s image e on n) where
  abbrev v : Volume
  v = volume_of g

  abbrev kept : Salvaged
  kept = on.kept

  abbrev l : Lost
  l = lost_due g n

  abbrev found' : IsFound v kept
  found' = Found.found g s image e on n has

  pub kept_inode : (f : FileRec) → Member f kept.files → Member f.ino (kept_inodes v kept)
  kept_inode f is = file_inode g image kept (Found.of_image g s image e on n has) f is

  -- what is made anew is the root or one of the two inodes behind it
  fresh_is : kept.fresh ≡ fresh_among kept.files g.rootino
  fresh_is = found'.is.fresh' ∙ ap (λ (fs : List FileRec). fresh_among fs g.rootino) (sym found'.is.files')

  fresh_own : (ino : ℕ) → Member ino kept.fresh → Member ino (own_inodes g.rootino) × (not (is_in_use kept.files ino) ≡ true)
  fresh_own ino is = filter_member (λ (m : ℕ). not (is_in_use kept.files m)) ino (own_inodes g.rootino) (subst (Member ino) fresh_is is)

  pub fresh_none : (ino : ℕ) → Member ino kept.fresh → filter (λ (x : FileRec). x.ino == ino) kept.files ≡ []
  fresh_none ino is = none_used kept.files ino (not-true (is_in_use kept.files ino) (fresh_own ino is).1)

  near_root : (ino : ℕ) → Member ino (own_inodes g.rootino) → (g.rootino ≤ ino) × (ino ≤ g.rootino + 2)
  near_root ino is = elim is [
    | inl first ↦ (omega (arith, first), omega (arith, first))
    | inr more ↦ elim more [
      | inl second ↦ (omega (arith, second), omega (arith, second))
      | inr last ↦ elim last [
        | inl third ↦ (omega (arith, third), omega (arith, third))
        | inr none ↦ absurd none
      ]
    ]
  ]

  root_there : Member (root_cluster v) kept.clusters
  root_there =
      among_member (root_cluster v) kept.clusters
      (subst (λ (ks : List ℕ). is_among ks (root_cluster v) ≡ true) (sym found'.is.clusters') (root_kept g found'.clusters found'.files))

  pub fresh_inode : (ino : ℕ) → Member ino kept.fresh → Member ino (kept_inodes v kept)
  unfolding kept_inodes
  fresh_inode ino is =
      let near = near_root ino (fresh_own ino is).0 in
      member_flat (cluster_inodes v) (root_cluster v) ino kept.clusters root_there (root_has g ino near.0 near.1)

  pub fresh_among_it : (ino : ℕ) → Member ino kept.fresh → is_among kept.fresh ino ≡ true
  fresh_among_it ino is = member_any (λ (m : ℕ). m == ino) ino kept.fresh is (eq-eqb ino ino refl)

  -- the files of which names are decided: those that are kept, and those that are made anew
  abbrev pub IsKeptFile : FileRec → Type 0
  IsKeptFile x = (f : FileRec) × Member f kept.files × (x ≡ linked_file g.rootino kept f)

  abbrev pub IsFreshFile : FileRec → Type 0
  IsFreshFile x = Member x.ino kept.fresh × (x ≡ new_file x.ino (new_core v s x.ino))

  made_case : (x : FileRec) (ino : ℕ) → IsMadeFor v s kept on.seen ino x → IsFreshFile x
  made_case x ino made =
      let number : x.ino ≡ ino = ap (λ (f : FileRec). f.ino) made.1 in (
        subst (λ (m : ℕ). Member m kept.fresh) (sym number) (among_member ino kept.fresh made.0),
        made.1 ∙ ap (λ (m : ℕ). new_file m (new_core v s m)) (sym number),
      )

  pub file_cases : (x : FileRec) → Member x n.files → IsKeptFile x ⊎ IsFreshFile x
  unfolding due_files
  file_cases x is =
      elim (mades_either x (made_files (wanted_slots v s kept on.seen)) (linked_files g.rootino kept) (subst (λ (fs : List FileRec). Member x fs) has.due.files' is)) [
        | inl made ↦ let one = made_is v s kept on.seen x made in inr (made_case x one.0 one.1)
        | inr linked ↦ let one = map_member (linked_file g.rootino kept) x kept.files linked in inl (one.0, one.1, sym one.2)
      ]

  pub kept_there : (f : FileRec) → Member f kept.files → Member (linked_file g.rootino kept f) n.files
  unfolding due_files
  kept_there f is =
      subst (λ (fs : List FileRec). Member (linked_file g.rootino kept f) fs) (sym has.due.files')
      (mades_keep (linked_file g.rootino kept f) (made_files (wanted_slots v s kept on.seen)) (linked_files g.rootino kept)
      (member_map (linked_file g.rootino kept) f kept.files is))

  pub fresh_there : (ino : ℕ) → Member ino kept.fresh → Member (new_file ino (new_core v s ino)) n.files
  unfolding due_files
  fresh_there ino is =
      subst (λ (fs : List FileRec). Member (new_file ino (new_core v s ino)) fs) (sym has.due.files')
      (mades_have (new_file ino (new_core v s ino)) (made_files (wanted_slots v s kept on.seen)) (linked_files g.rootino kept)
      (made_there v s kept on.seen ino (fresh_inode ino is) (fresh_among_it ino is) (fresh_none ino is)))

  -- each stands in a kept cluster
  pub file_kept : (x : FileRec) → Member x n.files → Member x.ino (kept_inodes v kept)
  file_kept x is = elim (file_cases x is) [
    | inl one ↦ subst (λ (m : ℕ). Member m (kept_inodes v kept)) (sym (ap (λ (f : FileRec). f.ino) one.2)) (kept_inode one.0 one.1)
    | inr fresh ↦ fresh_inode x.ino fresh.0
  ]

  cluster_of_inode : (ino : ℕ) → Member ino (kept_inodes v kept) → (k : ℕ) × Member k n.clusters × Member ino (cluster_inodes v k)
  unfolding kept_inodes
  cluster_of_inode ino is =
      let one = flat_member (cluster_inodes v) ino kept.clusters is in
      (one.0, subst (Member one.0) (sym has.due.clusters') one.1, one.2)

  pub low_inode : (ino : ℕ) → Member ino (kept_inodes v kept) → ino < no_inode
  low_inode ino is =
      let at = cluster_of_inode ino is in
      inode_low g at.0 ino (cluster_low g s n (Found.names_due g s image e on n has) at.0 at.1) at.2

  -- a new cluster has no block of a kept one
  pub taken_is : n.wanted.taken ≡ map run_of_cluster kept.clusters ++ flat_map (file_runs v) kept.files
  unfolding volume_wanted
  taken_is = ap (λ (wanted : Wanted). wanted.taken) has.due.wanted'

  is_held : (k b : ℕ) → Member k n.clusters → k ≤ b → b < k + 4 → is_taken n.wanted.taken b ≡ true
  unfolding is_taken
  is_held k b is low high =
      member_any (covers b) (run_of_cluster k) n.wanted.taken
      (subst (λ (runs : List Run). Member (run_of_cluster k) runs) (sym taken_is)
      (member_left (run_of_cluster k) (map run_of_cluster kept.clusters) (flat_map (file_runs v) kept.files)
      (member_map run_of_cluster k kept.clusters (subst (Member k) has.due.clusters' is))))
      (and_from (nat_le k b) (nat_lt b (k + 4)) (le-leb k b low) (lt-ltb b (k + 4) high))

  not_both : (c k b : ℕ) → IsFreeCluster g n c → Member k n.clusters → c ≤ b → b < c + 4 → k ≤ b → b < k + 4 → ⊥
  not_both c k b free is low high low' high' = true≢false (sym (is_held k b is low' high') ∙ free.free b low high)

  clusters_apart : (c k : ℕ) → IsFreeCluster g n c → Member k n.clusters → (k + 4 ≤ c) ⊎ (c + 4 ≤ k)
  clusters_apart c k free is = elim (cases_lt c (k + 4)) [
    | inr before ↦ inl before
    | inl above ↦ elim (cases_lt k (c + 4)) [
      | inr behind ↦ inr behind
      | inl below ↦ absurd (elim (cases_lt k c) [
        | inl less ↦ not_both c k c free is (omega arith) (omega arith) (omega (arith, less)) above
        | inr upto ↦ not_both c k k free is upto below (omega arith) (omega arith)
      ])
    ]
  ]

  free_cluster : (c : ℕ) → l.added ≡ c ∷ [] → IsFreeCluster g n c
  free_cluster c is = elim (added_is g n) [
    | inl none ↦ let other : [] ≡ c ∷ [] = sym none ∙ is in absurd cc
    | inr one ↦
        let other : one.0 ∷ [] ≡ c ∷ [] = sym one.1 ∙ is in
        let same : one.0 ≡ c = cc in
        subst (IsFreeCluster g n) same one.2
  ]

  -- an inode of a kept cluster is none of a new one
  inode_apart : (c ino : ℕ) → l.added ≡ c ∷ [] → Member ino (kept_inodes v kept) → (ino < first_of_cluster v c) ⊎ (first_of_cluster v c + 32 ≤ ino)
  inode_apart c ino added is =
      let at = cluster_of_inode ino is in
      inodes_apart g c at.0 ino (clusters_apart c at.0 (free_cluster c added) at.1) at.2

  -- lost+found is none of the files
  node_there : (x : FileRec) → Member x n.files → is_kept_node (nodes_of_files n.files) x.ino ≡ true
  node_there x is =
      member_any (λ (f : NodeRec). f.ino == x.ino) (node_of x) (nodes_of_files n.files) (member_map node_of x n.files is) (eq-eqb x.ino x.ino refl)

  free_not : (x : FileRec) (m : ℕ) → Member x n.files → m ≡ x.ino → is_free_inode (nodes_of_files n.files) g.rootino m ≡ true → ⊥
  free_not x m is same free =
      let parts = and_parts (not (is_kept_node (nodes_of_files n.files) m)) (not (is_reserved_inode g.rootino m)) free in
      false≢true (sym (not-true (is_kept_node (nodes_of_files n.files) m) parts.0) ∙ (ap (is_kept_node (nodes_of_files n.files)) same ∙ node_there x is))

  other_at : (p : LostPlace) → place_due g n ≡ p → added_for g n p ≡ [] → (x : FileRec) → Member x n.files → new_for g n p ≡ x.ino → ⊥
  other_at place.Unneeded at none x is same = let low = low_inode x.ino (file_kept x is) in omega (arith, low, same)
  other_at (place.Old ino) at none x is same = let low = low_inode x.ino (file_kept x is) in omega (arith, low, same)
  other_at (place.Slot ino) at none x is same =
      free_not x ino is same
      (find_passes (is_free_inode (nodes_of_files n.files) g.rootino) (flat_map inodes_from (firsts_of_clusters v n.clusters)) ino
      (slot_free (orphans_of (nodes_of_files n.files) n.entries g.rootino) (old_lost (nodes_of_files n.files) n.entries g.rootino)
      (free_inode (nodes_of_files n.files) g.rootino (firsts_of_clusters v n.clusters)) ino at))
  other_at place.Cluster at none x is same =
      let low = low_inode x.ino (file_kept x is) in
      let number : no_inode ≡ x.ino = sym (ap (first_added g n) none) ∙ same in
      omega (arith, low, number)

  pub file_clear : (x : FileRec) → Member x n.files → LeavesRoom l x.ino
  file_clear x is = elim (one_added g n) [
    | inl none ↦ room_without l x.ino none (other_at (place_due g n) refl none x is)
    | inr one ↦ room_with l one.0 (first_of_cluster v one.0) x.ino one.1 (added_made g n one.0 one.1).0 (inode_apart one.0 x.ino one.1 (file_kept x is))
  ]

  some_taken : 1 ≤ inodes_taken l l.new
  some_taken = by_test (l.new == l.new)
    where
      by_test : (t : Bool) → 1 ≤ (if t then 1 + 31 * length l.added else 1)
      by_test true = omega arith
      by_test false = omega arith

  pub file_not_lost : (x : FileRec) → Member x n.files → l.new ≡ x.ino → ⊥
  file_not_lost x is same = elim (file_clear x is) [
    | inl below ↦ omega (arith, below, same)
    | inr above ↦ let some = some_taken in omega (arith, above, same, some)
  ]

  -- its number is low
  slot_low : (ino : ℕ) → place_due g n ≡ place.Slot ino → ino < 2 ^ 32
  slot_low ino at =
      let firsts : List ℕ = firsts_of_clusters v n.clusters in
      let free = slot_free (orphans_of (nodes_of_files n.files) n.entries g.rootino) (old_lost (nodes_of_files n.files) n.entries g.rootino)
      (free_inode (nodes_of_files n.files) g.rootino firsts) ino at in
      let one = flat_member inodes_from ino firsts (find_there (is_free_inode (nodes_of_files n.files) g.rootino) (flat_map inodes_from firsts) ino free) in
      let cluster = map_member (first_of_cluster v) one.0 n.clusters one.1 in
      let row = row_member ino one.0 32 one.2 in
      let high = row.high in
      let inside = cluster_low g s n (Found.names_due g s image e on n has) cluster.0 cluster.1 in
      let low = first_low g cluster.0 (omega (arith, inside)) in
      let same = cluster.2 in
      omega (arith, high, low, same)

  low_at : (p : LostPlace) → place_due g n ≡ p → new_for g n p < 2 ^ 32
  low_at place.Unneeded at = omega arith
  low_at (place.Old ino) at = omega arith
  low_at (place.Slot ino) at = slot_low ino at
  low_at place.Cluster at = elim (place_case g n place.Cluster) [
    | inl none ↦ subst (λ (cs : List ℕ). first_added g n cs < 2 ^ 32) (sym none) (omega arith)
    | inr one ↦
        let inside = one.2.inside in
        subst (λ (cs : List ℕ). first_added g n cs < 2 ^ 32) (sym one.1) (let low = first_low g one.0 (omega (arith, inside)) in omega (arith, low))
  ]

  pub lost_low : l.new < 2 ^ 32
  lost_low = low_at (place_due g n) refl

  none_any : (k : ℕ) (ms : List NodeRec) → ((m : NodeRec) → Member m ms → m.ino ≡ k → ⊥) → is_kept_node ms k ≡ false
  none_any k ms none = by_case (is_kept_node ms k) refl
    where
      by_case : (t : Bool) → is_kept_node ms k ≡ t → t ≡ false
      by_case true found = let one = any_member (λ (m : NodeRec). m.ino == k) ms found in absurd (none one.0 one.1 (eqb-true one.0.ino k one.2))
      by_case false off = refl

  pub lost_apart : is_kept_node (nodes_of_files n.files) l.new ≡ false
  lost_apart =
      none_any l.new (nodes_of_files n.files)
      (λ m is same. let from = map_member node_of m n.files is in file_not_lost from.0 from.1 (sym same ∙ ap (λ (x : NodeRec). x.ino) (sym from.2)))
