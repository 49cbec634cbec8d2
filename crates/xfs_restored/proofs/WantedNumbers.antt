-- Which numbers the files have, those that are linked, and lost+found.
use Rattle.std.proofs.Common.{◌≡◌, ◌⊎◌, inl, inr, ℕ, Bool, true, false, ◌+◌, ◌*◌, ◌≤◌, ◌<◌, ◌==◌, not, if◌then◌else◌, List, [], ◌∷◌, length, filter, Some, None, refl, sym, ap, ◌∙◌, subst, arith}
use Rattle.std.specs.List.{flat_map}
use Rattle.std.proofs.lemmas.Bool.{and_parts, cases_lt, eq-eqb, false≢true, not-true}
use Rattle.xfs_dirdata.specs.declared.records.EntryRec.{EntryRec}
use Rattle.xfs_disk.specs.Blocks.{Image}
use Rattle.xfs_disk.specs.Lists.{is_among}
use Rattle.xfs_disk.specs.declared.stamp.Stamp.{Stamp}
use Rattle.xfs_geom.specs.Volumes.{Volume, volume_of}
use Rattle.xfs_geom.specs.declared.geometry.Geometry.{Geometry}
use Rattle.xfs_image.specs.Candidates.{candidates}
use Rattle.xfs_image.specs.Claims.{candidate_files}
use Rattle.xfs_image.specs.Clusters.{root_cluster}
use Rattle.xfs_image.specs.Slots.{cluster_inodes}
use Rattle.xfs_links.specs.Together.{adds_lost, old_lost, orphans_of}
use Rattle.xfs_links.specs.Entries.{is_kept_node, is_reserved_inode}
use Rattle.xfs_links.specs.declared.records.NodeRec.{NodeRec}
use Rattle.xfs_naming.specs.Naming.{NumbersAscend, file_at, is_in_use, numbers_of}
use Rattle.xfs_names.specs.Having.{node_of}
use Rattle.xfs_names.specs.Place.{free_inode, inodes_from, is_free_inode}
use Rattle.xfs_names.specs.Wanted.{directory_node, wanted_entries, wanted_nodes, with_directory, with_links}
use Rattle.xfs_names.specs.declared.place.LostPlace.{LostPlace}
use Rattle.xfs_names.specs.declared.place.LostPlace.TheVariants as place
use Rattle.xfs_rename.proofs.xfs_made.Roots.{root_kept}
use Rattle.xfs_views.proofs.Members.{Member, all_members, filter_member, flat_member, map_member, member_any, member_flat, member_map}
use Rattle.xfs_salvage.specs.Kept.{fresh_among, own_inodes}
use Rattle.xfs_salvage.specs.declared.found.Salvaged.{Salvaged}
use Rattle.xfs_rename.specs.xfs_request.Slots.{wanted_slots}
use Rattle.xfs_rename.proofs.xfs_made.Taken.{among_member}
use Rattle.xfs_rename.specs.xfs_made.Handed.{IsKeptOf}
use Rattle.xfs_rename.specs.xfs_scan.declared.evidence.Evidence.{Evidence}
use Rattle.xfs_volume.specs.declared.files.FileRec.{FileRec}
use Rattle.xfs_rename.proofs.xfs_rebuild.Grounds.{files_found}
use Rattle.xfs_rename.specs.xfs_rebuild.Names.{due_files, linked_file, linked_files, made_files, new_file}
use Rattle.xfs_rename.specs.xfs_rebuild.Rebuilds.{HasNamesDue}
use Rattle.xfs_rename.specs.xfs_rebuild.declared.names_due.NamesDue.{NamesDue}
use Rattle.xfs_restored.proofs.InKept.{file_inode}
use Rattle.xfs_restored.proofs.RootInodes.{root_has}
use Rattle.xfs_restored.proofs.Wanted.{one_alone}
use Rattle.xfs_restored.specs.DueFiles.{kept_inodes, new_core}
use Rattle.xfs_restored.proofs.Handed.{kept_of_image}
use Rattle.xfs_rename.specs.Lost.{added_for, lost_due, new_for, no_inode, place_due}
use Rattle.xfs_rename.specs.xfs_changes.Nodes.{first_of_cluster, firsts_of_clusters, nodes_of_files}
use Rattle.xfs_rename.specs.xfs_changes.declared.lost_found.Lost.{Lost}
use Rattle.xfs_rename.specs.declared.planning.Renamed.{Renamed}
use Rattle.xfs_restored.proofs.NewSlots.{added_few, added_made}
use Rattle.xfs_restored.proofs.Room.{links_ascend}
use Rattle.xfs_restored.specs.Changes.{LeavesRoom, LinksAscend, inodes_taken}
use Rattle.xfs_restored.specs.Relinking.{IsRelinked}
use Rattle.xfs_restored.proofs.WantedApart.{cluster_low, clusters_apart, inode_low, inodes_apart}
use Rattle.xfs_restored.proofs.WantedLists.{at_first, at_has, mades_either, mades_have, mades_keep, none_used}
use Rattle.xfs_restored.proofs.WantedPlace.{directory_either, directory_keeps, directory_there, find_passes, made_adds, slot_free}
use Rattle.xfs_restored.proofs.WantedSlots.{IsMadeFor, made_is, made_there}

-- a number that is none of lost+found's and, where a cluster is new, of its other inodes
room_without : (l : Lost) (ino : ℕ) → l.added ≡ [] → (l.new ≡ ino → ⊥) → LeavesRoom l ino
room_without l ino none other = elim (cases_lt ino l.new) [
  | inl below ↦ inl below
  | inr upto ↦
      let one = one_taken in
      let behind = beside upto (cases_lt l.new ino) in
      inr (omega (arith, one, behind))
]
  where
    by_test : (t : Bool) (added : List ℕ) → added ≡ [] → (if t then 1 + 31 * length added else 1) ≡ 1
    by_test true added is = ap (λ (xs : List ℕ). 1 + 31 * length xs) is
    by_test false added is = refl

    one_taken : inodes_taken l l.new ≡ 1
    one_taken = by_test (l.new == l.new) l.added none

    beside : l.new ≤ ino → (l.new < ino) ⊎ (ino ≤ l.new) → l.new < ino
    beside upto (inl less) = less
    beside upto (inr more) = absurd (other (omega (arith, upto, more)))

-- no cluster is new, or one
none_or_one : (cs : List ℕ) → length cs ≤ 1 → (cs ≡ []) ⊎ ((c : ℕ) × (cs ≡ c ∷ []))
none_or_one [] few = inl refl
none_or_one (c ∷ []) few = inr (c, refl)
none_or_one (c ∷ d ∷ cs) few = absurd (omega (arith, few))

pub one_added : (g : Geometry) (n : NamesDue) → ((lost_due g n).added ≡ []) ⊎ ((c : ℕ) × ((lost_due g n).added ≡ c ∷ []))
one_added g n = none_or_one (lost_due g n).added (added_few g n)

pub taken_all : (l : Lost) (c : ℕ) → l.added ≡ c ∷ [] → inodes_taken l l.new ≡ 32
taken_all l c added =
    ap (λ (t : Bool). if t then 1 + 31 * length l.added else 1) (eq-eqb l.new l.new refl) ∙ ap (λ (xs : List ℕ). 1 + 31 * length xs) added

room_with : (l : Lost) (c first ino : ℕ) → l.added ≡ c ∷ [] → l.new ≡ first → (ino < first) ⊎ (first + 32 ≤ ino) → LeavesRoom l ino
room_with l c first ino added new (inl below) = inl (omega (arith, new, below))
room_with l c first ino added new (inr behind) = let taken = taken_all l c added in inr (omega (arith, new, behind, taken))

module _ (g : Geometry) (sector : List ℕ) (s : Stamp) (image now : Image) (e : Evidence) (n : NamesDue) (r : Renamed) (has : IsRelinked g sector s image now e n r) where
  abbrev v : Volume
  v = volume_of g

  abbrev kept : Salvaged
  kept = has.on.kept

  abbrev l : Lost
  l = lost_due g n

  pub names_due : HasNamesDue g s n
  names_due = record { on = has.on; named = has.change; due = has.due; found = has.found }

  pub of_image : IsKeptOf v (candidates v image) (candidate_files v image) kept
  of_image = kept_of_image g image e has.on has.evidence has.ground

  -- files ascend, and the one at a number is found
  pub kept_ascend : NumbersAscend 0 (numbers_of kept.files)
  kept_ascend = files_found v kept has.found

  pub files_ascend : NumbersAscend 0 (numbers_of n.files)
  files_ascend = has.due.named.files_ascend

  pub kept_alone : (f : FileRec) → Member f kept.files → filter (λ (x : FileRec). x.ino == f.ino) kept.files ≡ f ∷ []
  kept_alone f is = one_alone 0 f kept.files kept_ascend is

  pub kept_at : (f : FileRec) → Member f kept.files → file_at kept.files f.ino ≡ Some f
  kept_at f is = at_first kept.files f.ino (f ∷ []) (kept_alone f is)

  pub at_kept : (ino : ℕ) (f : FileRec) → file_at kept.files ino ≡ Some f → (Member f kept.files) × (f.ino ≡ ino)
  at_kept ino f is = at_has kept.files ino f is

  pub kept_inode : (f : FileRec) → Member f kept.files → Member f.ino (kept_inodes v kept)
  kept_inode f is = file_inode g image kept of_image f is

  -- what is made anew is the root or one of the two inodes behind it
  fresh_is : kept.fresh ≡ fresh_among kept.files g.rootino
  fresh_is = has.found.is.fresh' ∙ ap (λ (fs : List FileRec). fresh_among fs g.rootino) (sym has.found.is.files')

  fresh_own : (ino : ℕ) → Member ino kept.fresh → Member ino (own_inodes g.rootino) × (not (is_in_use kept.files ino) ≡ true)
  fresh_own ino is = filter_member (λ (m : ℕ). not (is_in_use kept.files m)) ino (own_inodes g.rootino) (subst (Member ino) fresh_is is)

  pub fresh_none : (ino : ℕ) → Member ino kept.fresh → filter (λ (x : FileRec). x.ino == ino) kept.files ≡ []
  fresh_none ino is = none_used kept.files ino (not-true (is_in_use kept.files ino) (fresh_own ino is).1)

  pub fresh_not_kept : (ino : ℕ) → Member ino kept.fresh → file_at kept.files ino ≡ None
  fresh_not_kept ino is = at_first kept.files ino [] (fresh_none ino is)

  near_root : (ino : ℕ) → Member ino (own_inodes g.rootino) → (g.rootino ≤ ino) × (ino ≤ g.rootino + 2)
  near_root ino is = elim is [
    | inl first ↦ (omega (arith, first), omega (arith, first))
    | inr more ↦ elim more [
      | inl second ↦ (omega (arith, second), omega (arith, second))
      | inr last ↦ elim last [
        | inl third ↦ (omega (arith, third), omega (arith, third))
        | inr none ↦ absurd none
      ]
    ]
  ]

  root_there : Member (root_cluster v) kept.clusters
  root_there =
      among_member (root_cluster v) kept.clusters
      (subst (λ (ks : List ℕ). is_among ks (root_cluster v) ≡ true) (sym has.found.is.clusters') (root_kept g has.found.clusters has.found.files))

  pub fresh_inode : (ino : ℕ) → Member ino kept.fresh → Member ino (kept_inodes v kept)
  unfolding kept_inodes
  fresh_inode ino is =
      let near = near_root ino (fresh_own ino is).0 in
      member_flat (cluster_inodes v) (root_cluster v) ino kept.clusters root_there (root_has g ino near.0 near.1)

  pub fresh_among_it : (ino : ℕ) → Member ino kept.fresh → is_among kept.fresh ino ≡ true
  fresh_among_it ino is = member_any (λ (m : ℕ). m == ino) ino kept.fresh is (eq-eqb ino ino refl)

  -- the files of which names are decided: those that are kept, and those that are made anew
  abbrev pub IsKeptFile : FileRec → Type 0
  IsKeptFile x = (f : FileRec) × Member f kept.files × (x ≡ linked_file g.rootino kept f)

  abbrev pub IsFreshFile : FileRec → Type 0
  IsFreshFile x = Member x.ino kept.fresh × (x ≡ new_file x.ino (new_core v s x.ino))

  made_case : (x : FileRec) (ino : ℕ) → IsMadeFor v s kept has.on.seen ino x → IsFreshFile x
  made_case x ino made =
      let number : x.ino ≡ ino = ap (λ (f : FileRec). f.ino) made.1 in (
        subst (λ (m : ℕ). Member m kept.fresh) (sym number) (among_member ino kept.fresh made.0),
        made.1 ∙ ap (λ (m : ℕ). new_file m (new_core v s m)) (sym number),
      )

  pub file_cases : (x : FileRec) → Member x n.files → IsKeptFile x ⊎ IsFreshFile x
  unfolding due_files
  file_cases x is =
      elim (mades_either x (made_files (wanted_slots v s kept has.on.seen)) (linked_files g.rootino kept) (subst (λ (fs : List FileRec). Member x fs) has.due.files' is)) [
        | inl made ↦ let one = made_is v s kept has.on.seen x made in inr (made_case x one.0 one.1)
        | inr linked ↦ let one = map_member (linked_file g.rootino kept) x kept.files linked in inl (one.0, one.1, sym one.2)
      ]

  pub kept_there : (f : FileRec) → Member f kept.files → Member (linked_file g.rootino kept f) n.files
  unfolding due_files
  kept_there f is =
      subst (λ (fs : List FileRec). Member (linked_file g.rootino kept f) fs) (sym has.due.files')
      (mades_keep (linked_file g.rootino kept f) (made_files (wanted_slots v s kept has.on.seen)) (linked_files g.rootino kept)
      (member_map (linked_file g.rootino kept) f kept.files is))

  pub fresh_there : (ino : ℕ) → Member ino kept.fresh → Member (new_file ino (new_core v s ino)) n.files
  unfolding due_files
  fresh_there ino is =
      subst (λ (fs : List FileRec). Member (new_file ino (new_core v s ino)) fs) (sym has.due.files')
      (mades_have (new_file ino (new_core v s ino)) (made_files (wanted_slots v s kept has.on.seen)) (linked_files g.rootino kept)
      (made_there v s kept has.on.seen ino (fresh_inode ino is) (fresh_among_it ino is) (fresh_none ino is)))

  -- each stands in a kept cluster
  pub file_kept : (x : FileRec) → Member x n.files → Member x.ino (kept_inodes v kept)
  file_kept x is = elim (file_cases x is) [
    | inl one ↦ subst (λ (m : ℕ). Member m (kept_inodes v kept)) (sym (ap (λ (f : FileRec). f.ino) one.2)) (kept_inode one.0 one.1)
    | inr fresh ↦ fresh_inode x.ino fresh.0
  ]

  cluster_of_inode : (ino : ℕ) → Member ino (kept_inodes v kept) → (k : ℕ) × Member k n.clusters × Member ino (cluster_inodes v k)
  unfolding kept_inodes
  cluster_of_inode ino is =
      let one = flat_member (cluster_inodes v) ino kept.clusters is in
      (one.0, subst (Member one.0) (sym has.due.clusters') one.1, one.2)

  pub low_inode : (ino : ℕ) → Member ino (kept_inodes v kept) → ino < no_inode
  low_inode ino is =
      let at = cluster_of_inode ino is in
      inode_low g at.0 ino (cluster_low g s n names_due at.0 at.1) at.2

  -- an inode of a kept cluster is none of a new one
  pub inode_apart : (c ino : ℕ) → l.added ≡ c ∷ [] → Member ino (kept_inodes v kept) → (ino < first_of_cluster v c) ⊎ (first_of_cluster v c + 32 ≤ ino)
  inode_apart c ino added is =
      let at = cluster_of_inode ino is in
      inodes_apart g c at.0 ino (clusters_apart g sector s image n r has.is c at.0 (subst (Member c) (sym added) (inl refl)) at.1) at.2

  -- lost+found is none of the files
  node_there : (x : FileRec) → Member x n.files → is_kept_node (nodes_of_files n.files) x.ino ≡ true
  node_there x is =
      member_any (λ (f : NodeRec). f.ino == x.ino) (node_of x) (nodes_of_files n.files) (member_map node_of x n.files is) (eq-eqb x.ino x.ino refl)

  free_not : (x : FileRec) (m : ℕ) → Member x n.files → m ≡ x.ino → is_free_inode (nodes_of_files n.files) g.rootino m ≡ true → ⊥
  free_not x m is same free =
      let parts = and_parts (not (is_kept_node (nodes_of_files n.files) m)) (not (is_reserved_inode g.rootino m)) free in
      false≢true (sym (not-true (is_kept_node (nodes_of_files n.files) m) parts.0) ∙ (ap (is_kept_node (nodes_of_files n.files)) same ∙ node_there x is))

  other_at : (p : LostPlace) → place_due g n ≡ p → added_for g n p ≡ [] → (x : FileRec) → Member x n.files → new_for g n p ≡ x.ino → ⊥
  other_at place.Unneeded at none x is same = let low = low_inode x.ino (file_kept x is) in omega (arith, low, same)
  other_at (place.Old ino) at none x is same = let low = low_inode x.ino (file_kept x is) in omega (arith, low, same)
  other_at (place.Slot ino) at none x is same =
      free_not x ino is same
      (find_passes (is_free_inode (nodes_of_files n.files) g.rootino) (flat_map inodes_from (firsts_of_clusters v n.clusters)) ino
      (slot_free (orphans_of (nodes_of_files n.files) n.entries g.rootino) (old_lost (nodes_of_files n.files) n.entries g.rootino)
      (free_inode (nodes_of_files n.files) g.rootino (firsts_of_clusters v n.clusters)) ino at))
  other_at place.Cluster at none x is same = has.is.found (at, none)

  pub file_clear : (x : FileRec) → Member x n.files → LeavesRoom l x.ino
  file_clear x is = elim (one_added g n) [
    | inl none ↦ room_without l x.ino none (other_at (place_due g n) refl none x is)
    | inr one ↦ room_with l one.0 (first_of_cluster v one.0) x.ino one.1 (added_made g n one.0 one.1).0 (inode_apart one.0 x.ino one.1 (file_kept x is))
  ]

  some_taken : 1 ≤ inodes_taken l l.new
  some_taken = by_test (l.new == l.new)
    where
      by_test : (t : Bool) → 1 ≤ (if t then 1 + 31 * length l.added else 1)
      by_test true = omega arith
      by_test false = omega arith

  pub file_not_lost : (x : FileRec) → Member x n.files → l.new ≡ x.ino → ⊥
  file_not_lost x is same = elim (file_clear x is) [
    | inl below ↦ omega (arith, below, same)
    | inr above ↦ let some = some_taken in omega (arith, above, same, some)
  ]

  pub kept_is_not_lost : (f : FileRec) → Member f kept.files → l.new ≡ f.ino → ⊥
  kept_is_not_lost f is same = file_not_lost (linked_file g.rootino kept f) (kept_there f is) same

  pub fresh_is_not_lost : (ino : ℕ) → Member ino kept.fresh → l.new ≡ ino → ⊥
  fresh_is_not_lost ino is same = file_not_lost (new_file ino (new_core v s ino)) (fresh_there ino is) same

  -- the links ascend, each behind the inodes that the one before takes
  pub links_rise : LinksAscend l 0 has.is.w.links
  links_rise =
      links_ascend g n has.is.w has.is.names.wanted files_ascend (all_members (λ (f : FileRec). LeavesRoom l f.ino) n.files file_clear)

  -- the numbers that are linked
  abbrev nodes : List NodeRec
  nodes = nodes_of_files n.files

  abbrev all_nodes : List NodeRec
  all_nodes = wanted_nodes nodes n.entries g.rootino l.new

  abbrev entries : List EntryRec
  entries = wanted_entries nodes n.entries g.rootino l.new

  pub adds_is : adds_lost nodes n.entries g.rootino ≡ l.made
  adds_is =
      sym (made_adds (orphans_of nodes n.entries g.rootino) (old_lost nodes n.entries g.rootino) (free_inode nodes g.rootino (firsts_of_clusters v n.clusters)))

  nodes_are : all_nodes ≡ (if l.made then with_directory l.new nodes else nodes)
  nodes_are = ap (λ (t : Bool). if t then with_directory l.new nodes else nodes) adds_is

  pub node_cases : (x : NodeRec) → Member x all_nodes → ((l.made ≡ true) × (directory_node l.new ≡ x)) ⊎ ((f : FileRec) × Member f n.files × (node_of f ≡ x))
  node_cases x is = by_made l.made refl (subst (λ (xs : List NodeRec). Member x xs) nodes_are is)
    where
      by_made : (t : Bool) → l.made ≡ t → Member x (if t then with_directory l.new nodes else nodes)
          → ((l.made ≡ true) × (directory_node l.new ≡ x)) ⊎ ((f : FileRec) × Member f n.files × (node_of f ≡ x))
      by_made true made is = elim (directory_either x l.new nodes is) [
        | inl new ↦ inl (made, new)
        | inr old ↦ inr (map_member node_of x n.files old)
      ]
      by_made false made is = inr (map_member node_of x n.files is)

  pub file_node : (f : FileRec) → Member f n.files → Member (node_of f) all_nodes
  file_node f is = subst (λ (xs : List NodeRec). Member (node_of f) xs) (sym nodes_are) (by_made l.made)
    where
      by_made : (t : Bool) → Member (node_of f) (if t then with_directory l.new nodes else nodes)
      by_made true = directory_keeps (node_of f) l.new nodes (member_map node_of f n.files is)
      by_made false = member_map node_of f n.files is

  pub lost_node : l.made ≡ true → Member (directory_node l.new) all_nodes
  lost_node made =
      subst (λ (xs : List NodeRec). Member (directory_node l.new) xs) (sym nodes_are)
      (subst (λ (t : Bool). Member (directory_node l.new) (if t then with_directory l.new nodes else nodes)) (sym made) (directory_there l.new nodes))

  abbrev linked : NodeRec → ℕ × ℕ
  linked f = with_links all_nodes entries g.rootino f

  linked_there : (f : NodeRec) → Member f all_nodes → Member (linked f) has.is.w.links
  linked_there f is = subst (λ (ps : List (ℕ × ℕ)). Member (linked f) ps) (sym has.is.names.wanted.links') (member_map linked f all_nodes is)

  pub kept_linked : (f : FileRec) → Member f kept.files → (k : ℕ) × Member (f.ino, k) has.is.w.links
  kept_linked f is =
      let node : NodeRec = node_of (linked_file g.rootino kept f) in
      ((linked node).1, linked_there node (file_node (linked_file g.rootino kept f) (kept_there f is)))

  pub fresh_linked : (ino : ℕ) → Member ino kept.fresh → (k : ℕ) × Member (ino, k) has.is.w.links
  fresh_linked ino is =
      let node : NodeRec = node_of (new_file ino (new_core v s ino)) in
      ((linked node).1, linked_there node (file_node (new_file ino (new_core v s ino)) (fresh_there ino is)))

  pub lost_linked : l.made ≡ true → (k : ℕ) × Member (l.new, k) has.is.w.links
  lost_linked made = ((linked (directory_node l.new)).1, linked_there (directory_node l.new) (lost_node made))

  -- each pair is of a kept file, of one that is made anew, or of the new lost+found
  abbrev pub IsOfKept : ℕ × ℕ → Type 0
  IsOfKept p = (f : FileRec) × Member f kept.files × (f.ino ≡ p.0)

  abbrev pub IsOfLost : ℕ × ℕ → Type 0
  IsOfLost p = (l.made ≡ true) × (p.0 ≡ l.new)

  of_file : (p : ℕ × ℕ) (x : FileRec) → Member x n.files → x.ino ≡ p.0 → IsOfKept p ⊎ (Member p.0 kept.fresh ⊎ IsOfLost p)
  of_file p x is number = elim (file_cases x is) [
    | inl one ↦ inl (one.0, one.1, sym (ap (λ (f : FileRec). f.ino) one.2) ∙ number)
    | inr fresh ↦ inr (inl (subst (λ (m : ℕ). Member m kept.fresh) number fresh.0))
  ]

  pub pair_cases : (p : ℕ × ℕ) → Member p has.is.w.links → IsOfKept p ⊎ (Member p.0 kept.fresh ⊎ IsOfLost p)
  pair_cases p is =
      let one = map_member linked p all_nodes (subst (λ (ps : List (ℕ × ℕ)). Member p ps) has.is.names.wanted.links' is) in
      let number : one.0.ino ≡ p.0 = ap (λ (q : ℕ × ℕ). q.0) one.2 in
      elim (node_cases one.0 one.1) [
        | inl lost ↦ inr (inr (lost.0, sym (ap (λ (x : NodeRec). x.ino) lost.1 ∙ number)))
        | inr file ↦ of_file p file.0 file.1 (ap (λ (x : NodeRec). x.ino) file.2 ∙ number)
      ]
