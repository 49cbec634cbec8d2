-- Files by which names can be decided, as nodes: they stand by number, the root is a directory, and no system inode is one.
use Rattle.std.proofs.Common.{◌≡◌, ℕ, Bool, true, false, ◌+◌, ◌/◌, ◌^◌, ◌≤◌, ◌<◌, inl, inr, ◌==◌, ◌&&◌, List, [], ◌∷◌, ◌++◌, length, map, refl, sym, ap, ◌∙◌, subst, arith}
use Rattle.std.specs.List.{All, list_all, list_any}
use Rattle.std.proofs.lemmas.Bool.{and_from, and_parts, cases_eq, eq-eqb, eqb-true}
use Rattle.std.proofs.lemmas.List.Elements.{All-nil, All-cons, All-tail, All-head}
use Rattle.xfs_disk.specs.Blocks.{Image}
use Rattle.xfs_disk.specs.declared.stamp.Stamp.{Stamp}
use Rattle.xfs_dirdata.specs.declared.records.EntryRec.{EntryRec}
use Rattle.xfs_geom.specs.Volumes.{volume_of}
use Rattle.xfs_geom.specs.declared.geometry.Geometry.{Geometry}
use Rattle.xfs_volume.specs.Names.{is_directory, type_of}
use Rattle.xfs_volume.specs.declared.cores.Core.{Core}
use Rattle.xfs_volume.specs.declared.directories.DirRec.{DirRec}
use Rattle.xfs_volume.specs.declared.files.FileRec.{FileRec}
use Rattle.xfs_naming.specs.Naming.{AreGrouped, NumbersAscend, is_directory_at, is_in_use, numbers_of}
use Rattle.xfs_naming.proofs.Grouped.{grouped_dir, has_record_is}
use Rattle.xfs_links.specs.Entries.{AreEntries, AreFiles, DirectoriesAscend, NodesAscend, is_directory_number, is_reserved_inode}
use Rattle.xfs_links.specs.declared.records.NodeRec.{NodeRec}
use Rattle.xfs_links.proofs.Joined.{any_through}
use Rattle.xfs_names.specs.Having.{node_of}
use Rattle.xfs_salvage.proofs.Ascending.{filtered}
use Rattle.xfs_views.proofs.Members.{Member, any_member, map_member, member_any, member_map}
use Rattle.xfs_rename.specs.xfs_scan.declared.evidence.Evidence.{Evidence}
use Rattle.xfs_rename.specs.xfs_rebuild.Names as Names
use Rattle.xfs_rename.specs.xfs_rebuild.declared.names_due.NamesDue.{NamesDue}
use Rattle.xfs_rename.specs.Lost.{no_inode}
use Rattle.xfs_rename.specs.xfs_changes.Nodes.{nodes_of_files}
use Rattle.xfs_rename.specs.declared.planning.Renamed.{Renamed}
use Rattle.xfs_restored.specs.DueFiles.{new_core}
use Rattle.xfs_restored.specs.Relinking.{IsRelinked}
use Rattle.xfs_restored.proofs.NamedFiles.{file_stands, new_root, new_system, own_inode, reserved_system, standing_root, standing_system}
use Rattle.xfs_restored.proofs.WantedNumbers.{file_cases, file_kept, fresh_there, kept_there, low_inode}

-- nodes stand as their files
nodes_up : (low : ℕ) (files : List FileRec) → NumbersAscend low (numbers_of files) → NodesAscend low (nodes_of_files files)
nodes_up low [] up = tt
nodes_up low (f ∷ fs) up = (up.0, nodes_up (f.ino + 1) fs up.1)

-- numbers that ascend below a bound are no more than it
few_below : (low top : ℕ) (nodes : List NodeRec) → low ≤ top → NodesAscend low nodes → All (λ (m : NodeRec). m.ino < top) nodes → low + length nodes ≤ top
few_below low top [] le up each = omega (arith, le)
few_below low top (m ∷ ms) le up each =
    let below : m.ino < top = All-head (λ (x : NodeRec). x.ino < top) m ms each in
    let first = up.0 in
    let rest = few_below (m.ino + 1) top ms (omega (arith, below)) up.1 (All-tail (λ (x : NodeRec). x.ino < top) m ms each) in
    omega (arith, first, rest)

all_of : {X : Type 0} (P : X → Type 0) (xs : List X) → ((x : X) → Member x xs → P x) → All P xs
all_of P [] each = All-nil P
all_of P (x ∷ xs) each = All-cons P x xs (each x (inl refl)) (all_of P xs (λ y is. each y (inr is)))

-- entries that are grouped by directories that ascend ascend by directory
lower : (low high : ℕ) (es : List EntryRec) → low ≤ high → DirectoriesAscend high es → DirectoriesAscend low es
lower low high [] le up = tt
lower low high (e ∷ es) le up = (let first = up.0 in omega (arith, le, first), up.1)

own_then : (low d : ℕ) (own rest : List EntryRec) → low ≤ d → list_all (λ (e : EntryRec). e.dir == d) own ≡ true → DirectoriesAscend (d + 1) rest → DirectoriesAscend low (own ++ rest)
own_then low d [] rest le all up = lower low (d + 1) rest (omega (arith, le)) up
own_then low d (e ∷ es) rest le all up =
    let parts = and_parts (e.dir == d) (list_all (λ (x : EntryRec). x.dir == d) es) all in
    let same : e.dir ≡ d = eqb-true e.dir d parts.0 in
    (omega (arith, le, same), own_then e.dir d es rest (omega (arith, same)) parts.1 up)

grouped_up : (low : ℕ) (dirs : List DirRec) (entries : List EntryRec) → NumbersAscend low (map (λ (d : DirRec). d.ino) dirs) → AreGrouped dirs entries → DirectoriesAscend low entries
grouped_up low [] entries up none = subst (DirectoriesAscend low) (sym none) tt
grouped_up low (d ∷ ds) entries up (own, rest, is, all, more) =
    subst (DirectoriesAscend low) (sym is) (own_then low d.ino own rest up.0 all (grouped_up (d.ino + 1) ds rest up.1 more))

module _ (g : Geometry) (sector : List ℕ) (s : Stamp) (image now : Image) (e : Evidence) (n : NamesDue) (r : Renamed) (has : IsRelinked g sector s image now e n r) where
  abbrev pub nodes : List NodeRec
  nodes = nodes_of_files n.files

  node_low : (m : NodeRec) → Member m nodes → m.ino < no_inode
  node_low m is =
      let from = map_member node_of m n.files is in
      subst (λ (x : NodeRec). x.ino < no_inode) from.2
      (low_inode g sector s image now e n r has from.0.ino (file_kept g sector s image now e n r has from.0 from.1))

  lows : All (λ (m : NodeRec). m.ino < no_inode) nodes
  lows = all_of (λ (m : NodeRec). m.ino < no_inode) nodes node_low

  nodes_rise : NodesAscend 0 nodes
  nodes_rise = nodes_up 0 n.files has.due.named.files_ascend

  pub are_files : AreFiles nodes
  are_files = record {
    few = let most = few_below 0 no_inode nodes (omega arith) nodes_rise lows in omega (arith, most);
    low = all_of (λ (m : NodeRec). m.ino < 2 ^ 32) nodes (λ m is. let low = node_low m is in omega (arith, low));
    ascend = nodes_rise;
  }

  pub directory_is : (k : ℕ) → is_directory_number nodes k ≡ is_directory_at n.files k
  directory_is k = any_through node_of (λ (m : NodeRec). m.ino == k && m.kind == 4) n.files

  entry_known : (x : EntryRec) → list_any (λ (y : EntryRec). y.dir == x.dir) n.entries ≡ true → is_directory_number nodes x.dir ≡ true
  entry_known x there =
      directory_is x.dir ∙ sym (has_record_is n.files n.entries n.dirs has.due.named x.dir) ∙ grouped_dir n.dirs n.entries has.due.named.grouped x.dir there

  pub are_entries : AreEntries nodes n.entries
  are_entries = record {
    known = all_of (λ (x : EntryRec). is_directory_number nodes x.dir ≡ true) n.entries
        (λ x is. entry_known x (member_any (λ (y : EntryRec). y.dir == x.dir) x n.entries is (eq-eqb x.dir x.dir refl)));
    group = grouped_up 0 n.dirs n.entries (subst (NumbersAscend 0) (sym has.due.named.directories) (filtered is_directory 0 n.files has.due.named.files_ascend)) has.due.named.grouped;
  }

  root_node : (x : FileRec) → Member x n.files → x.ino ≡ g.rootino → type_of x ≡ 4 → is_directory_number nodes g.rootino ≡ true
  root_node x is number kind =
      member_any (λ (m : NodeRec). m.ino == g.rootino && m.kind == 4) (node_of x) nodes (member_map node_of x n.files is)
      (and_from (x.ino == g.rootino) (type_of x == 4) (eq-eqb x.ino g.rootino number) (eq-eqb (type_of x) 4 kind))

  pub root_directory : is_directory_number nodes g.rootino ≡ true
  root_directory = by_use (is_in_use has.on.kept.files g.rootino) refl
    where
      by_use : (t : Bool) → is_in_use has.on.kept.files g.rootino ≡ t → is_directory_number nodes g.rootino ≡ true
      by_use true used =
          let found = any_member (λ (f : FileRec). f.ino == g.rootino) has.on.kept.files used in
          let number : found.0.ino ≡ g.rootino = eqb-true found.0.ino g.rootino found.2 in
          root_node (Names.linked_file g.rootino has.on.kept found.0) (kept_there g sector s image now e n r has found.0 found.1) number
          (standing_root g.rootino found.0 (file_stands g sector s image now e n r has found.0 found.1) number)
      by_use false free =
          root_node (Names.new_file g.rootino (new_core (volume_of g) s g.rootino))
          (fresh_there g sector s image now e n r has g.rootino (own_inode g sector s image now e n r has g.rootino (inl refl) free)) refl
          (ap (λ (core : Core). core.mode / 2 ^ 12) (new_root (volume_of g) s))

  -- no other reserved inode is a directory
  pub fresh_root : (ino : ℕ) → (new_core (volume_of g) s ino).mode / 2 ^ 12 ≡ 4 → ino ≡ g.rootino
  fresh_root ino kind =
      elim (cases_eq ino g.rootino) [
        | inl at ↦ at
        | inr off ↦
            let regular : (new_core (volume_of g) s ino).mode / 2 ^ 12 ≡ 8 = ap (λ (core : Core). core.mode / 2 ^ 12) (new_system (volume_of g) s ino off) in
            absurd (omega (arith, kind, regular))
      ]

  kept_root : (f : FileRec) → Member f has.on.kept.files → type_of f ≡ 4 → is_reserved_inode g.rootino f.ino ≡ true → f.ino ≡ g.rootino
  kept_root f is kind reserved =
      elim (cases_eq f.ino g.rootino) [
        | inl at ↦ at
        | inr off ↦
            let regular = (standing_system g.rootino f (file_stands g sector s image now e n r has f is) off (reserved_system g.rootino f.ino reserved off)).kind in
            absurd (omega (arith, kind, regular))
      ]

  file_root : (x : FileRec) → Member x n.files → type_of x ≡ 4 → is_reserved_inode g.rootino x.ino ≡ true → x.ino ≡ g.rootino
  file_root x is kind reserved =
      elim (file_cases g sector s image now e n r has x is) [
        | inl linked ↦
            let number : x.ino ≡ linked.0.ino = ap (λ (y : FileRec). y.ino) linked.2 in
            number ∙ kept_root linked.0 linked.1 (sym (ap type_of linked.2) ∙ kind) (ap (is_reserved_inode g.rootino) (sym number) ∙ reserved)
        | inr made ↦ fresh_root x.ino (sym (ap type_of made.1) ∙ kind)
      ]

  pub system_plain : (k : ℕ) → is_directory_number nodes k ≡ true → is_reserved_inode g.rootino k ≡ true → k ≡ g.rootino
  system_plain k is reserved =
      let found = any_member (λ (f : FileRec). f.ino == k && is_directory f) n.files (sym (directory_is k) ∙ is) in
      let parts = and_parts (found.0.ino == k) (is_directory found.0) found.2 in
      let same : found.0.ino ≡ k = eqb-true found.0.ino k parts.0 in
      sym same ∙ file_root found.0 found.1 (eqb-true (type_of found.0) 4 parts.1) (ap (is_reserved_inode g.rootino) same ∙ reserved)
