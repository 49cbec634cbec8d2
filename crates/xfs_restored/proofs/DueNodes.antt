-- The files that are due are those that are wanted, each with its links, and so are the directories.
use Rattle.std.proofs.Common.{◌≡◌, ℕ, Bool, true, false, ◌/◌, ◌^◌, inl, inr, ◌==◌, ◌&&◌, ◌||◌, ◌+◌, if◌then◌else◌, List, map, Option, Some, None, refl, sym, ap, ◌∙◌, subst, []}
use Rattle.std.proofs.lemmas.Bool.{and_from, eq-eqb, eqb-true, ne_eqb, or_cases}
use Rattle.xfs_disk.specs.Blocks.{Image}
use Rattle.xfs_disk.specs.declared.stamp.Stamp.{Stamp}
use Rattle.xfs_geom.specs.Volumes.{volume_of}
use Rattle.xfs_geom.specs.declared.geometry.Geometry.{Geometry}
use Rattle.xfs_volume.specs.Names.{type_of}
use Rattle.xfs_volume.specs.declared.cores.Core.{Core}
use Rattle.xfs_volume.specs.declared.files.FileRec.{FileRec}
use Rattle.xfs_naming.specs.Naming.{file_at, is_in_use}
use Rattle.xfs_links.specs.Entries.{is_kept_node, is_reserved_inode}
use Rattle.xfs_links.specs.declared.records.NodeRec.{NodeRec}
use Rattle.xfs_names.specs.Having.{HasWanted, node_of}
use Rattle.xfs_names.specs.Wanted.{directory_node, wanted_entries, wanted_nodes, with_links}
use Rattle.xfs_names.specs.declared.records.WantedNames.{WantedNames}
use Rattle.xfs_views.proofs.Members.{Member, any_member, map_member}
use Rattle.xfs_salvage.specs.Kept.{own_inodes}
use Rattle.xfs_rename.specs.xfs_scan.declared.evidence.Evidence.{Evidence}
use Rattle.xfs_rename.specs.xfs_rebuild.declared.names_due.NamesDue.{NamesDue}
use Rattle.xfs_rename.specs.Lost.{lost_due}
use Rattle.xfs_rename.specs.xfs_changes.Nodes.{nodes_of_files}
use Rattle.xfs_rename.specs.Renames.{old_files}
use Rattle.xfs_rename.specs.xfs_changes.Slots.{lost_core}
use Rattle.xfs_rename.specs.xfs_changes.declared.lost_found.Lost.{Lost}
use Rattle.xfs_rename.specs.declared.planning.Renamed.{Renamed}
use Rattle.xfs_rename.specs.xfs_built.Directories.{BuiltRuns}
use Rattle.xfs_restored.specs.DueFiles.{new_core, stated_crc}
use Rattle.xfs_restored.specs.Relinking.{IsRelinked, built_at, built_of, file_due, core_anew, file_with_links, renamed_dirs, renamed_files, with_built}
use Rattle.xfs_restored.proofs.FilesAlike.{all_whole, built_kind, built_links, built_number, linked_links, linked_number, links_are, node_same, nodes_are, pairs_are}
use Rattle.xfs_restored.proofs.NamedFiles.{own_inode}
use Rattle.xfs_restored.proofs.WantedBuilt.{lost_none}
use Rattle.xfs_restored.proofs.WantedNumbers.{file_cases, file_not_lost, fresh_is_not_lost, fresh_not_kept, kept_at, kept_is_not_lost, node_cases}
use Rattle.xfs_restored.proofs.WantedLists.{at_first}

none_any : (k : ℕ) (ms : List NodeRec) → ((m : NodeRec) → Member m ms → m.ino ≡ k → ⊥) → is_kept_node ms k ≡ false
none_any k ms none = by_case (is_kept_node ms k) refl
  where
    by_case : (t : Bool) → is_kept_node ms k ≡ t → t ≡ false
    by_case true found = let one = any_member (λ (m : NodeRec). m.ino == k) ms found in absurd (none one.0 one.1 (eqb-true one.0.ino k one.2))
    by_case false off = refl

reserved_own : (root k : ℕ) → is_reserved_inode root k ≡ true → Member k (own_inodes root)
reserved_own root k is =
    elim (or_cases (k == root) (k == root + 1 || k == root + 2) is) [
      | inl first ↦ inl (sym (eqb-true k root first))
      | inr rest ↦ elim (or_cases (k == root + 1) (k == root + 2) rest) [
        | inl second ↦ inr (inl (sym (eqb-true k (root + 1) second)))
        | inr third ↦ inr (inr (inl (sym (eqb-true k (root + 2) third))))
      ]
    ]

module _ (g : Geometry) (sector : List ℕ) (s : Stamp) (image now : Image) (e : Evidence) (n : NamesDue) (r : Renamed) (has : IsRelinked g sector s image now e n r) where
  abbrev pub l : Lost
  l = lost_due g n

  abbrev pub w : WantedNames
  w = has.is.w

  abbrev pub crc : ℕ → ℕ
  crc = stated_crc (volume_of g) now

  abbrev pub built : List BuiltRuns
  built = built_of g s now has.on n w has.is.built has.is.placed

  abbrev pub due : ℕ × ℕ → FileRec
  due = file_due g s now has.on n w has.is.built has.is.placed

  abbrev pub held : List NodeRec
  held = nodes_of_files n.files

  abbrev pub wanted : List NodeRec
  wanted = wanted_nodes held n.entries g.rootino l.new

  -- lost+found is none of the files, and none of the system's own inodes
  pub unused : is_kept_node held l.new ≡ false
  unused =
      none_any l.new held (λ m is same.
      let from = map_member node_of m n.files is in
      file_not_lost g sector s image now e n r has from.0 from.1 (sym same ∙ ap (λ (x : NodeRec). x.ino) (sym from.2)))

  pub free : is_reserved_inode g.rootino l.new ≡ false
  free = by_case (is_reserved_inode g.rootino l.new) refl
    where
      by_use : Member l.new (own_inodes g.rootino) → (t : Bool) → is_in_use has.on.kept.files l.new ≡ t → ⊥
      by_use own true used =
          let found = any_member (λ (f : FileRec). f.ino == l.new) has.on.kept.files used in
          kept_is_not_lost g sector s image now e n r has found.0 found.1 (sym (eqb-true found.0.ino l.new found.2))
      by_use own false none = fresh_is_not_lost g sector s image now e n r has l.new (own_inode g sector s image now e n r has l.new own none) refl

      by_case : (t : Bool) → is_reserved_inode g.rootino l.new ≡ t → t ≡ false
      by_case true is = absurd (by_use (reserved_own g.rootino l.new is) (is_in_use has.on.kept.files l.new) refl)
      by_case false is = refl

  -- a file that is due, by its number and its links
  abbrev pub before : ℕ × ℕ → Option FileRec → FileRec
  before p o = file_with_links (volume_of g) s l has.on.seen crc p o

  pub due_number : (p : ℕ × ℕ) → (due p).ino ≡ p.0
  due_number p =
      built_number (volume_of g) (old_files n w) crc (before p (file_at has.on.kept.files p.0)) (built_at built p.0)
      ∙ linked_number (volume_of g) s l has.on.seen crc p has.on.kept.files (file_at has.on.kept.files p.0) refl

  pub due_links : (p : ℕ × ℕ) → (due p).core.nlink ≡ p.1
  due_links p =
      built_links (volume_of g) (old_files n w) crc (before p (file_at has.on.kept.files p.0)) (built_at built p.0)
      ∙ linked_links (volume_of g) s l has.on.seen crc p has.on.kept.files (file_at has.on.kept.files p.0)

  pub due_kind : (p : ℕ × ℕ) (o : Option FileRec) → file_at has.on.kept.files p.0 ≡ o → type_of (due p) ≡ type_of (before p o)
  due_kind p o is =
      built_kind (volume_of g) (old_files n w) crc (before p (file_at has.on.kept.files p.0)) (built_at built p.0)
      ∙ ap (λ (x : Option FileRec). type_of (before p x)) is

  -- where nothing is built for it, from what there was of it before
  pub due_is : (p : ℕ × ℕ) (o : Option FileRec) → file_at has.on.kept.files p.0 ≡ o → built_at built p.0 ≡ None → due p ≡ before p o
  due_is p o found none = λ i. with_built (volume_of g) (old_files n w) crc (before p (found i)) (none i)

  -- an inode that is made anew is not lost+found
  pub fresh_core_is : (ino : ℕ) → Member ino has.on.kept.fresh → core_anew (volume_of g) s l ino ≡ new_core (volume_of g) s ino
  fresh_core_is ino is =
      ap (λ (t : Bool). if t then lost_core (volume_of g) s ino else new_core (volume_of g) s ino)
      (off l.made (ne_eqb ino l.new (λ same. fresh_is_not_lost g sector s image now e n r has ino is (sym same))))
    where
      off : (t : Bool) → (ino == l.new) ≡ false → (t && ino == l.new) ≡ false
      off true other = other
      off false other = refl

  -- kinds stay
  pub kept_kind : (f : FileRec) (k : ℕ) → Member f has.on.kept.files → type_of (due (f.ino, k)) ≡ type_of f
  kept_kind f k is = due_kind (f.ino, k) (Some f) (kept_at g sector s image now e n r has f is)

  pub fresh_kind : (ino k : ℕ) → Member ino has.on.kept.fresh → type_of (due (ino, k)) ≡ (new_core (volume_of g) s ino).mode / 2 ^ 12
  fresh_kind ino k is =
      due_kind (ino, k) None (fresh_not_kept g sector s image now e n r has ino is) ∙ ap (λ (core : Core). core.mode / 2 ^ 12) (fresh_core_is ino is)

  pub lost_kind : (k : ℕ) → l.made ≡ true → type_of (due (l.new, k)) ≡ 4
  lost_kind k made =
      due_kind (l.new, k) None (at_first has.on.kept.files l.new [] (lost_none g sector s image now e n r has))
      ∙ ap (λ (t : Bool). (if t then lost_core (volume_of g) s l.new else new_core (volume_of g) s l.new).mode / 2 ^ 12)
      (and_from l.made (l.new == l.new) made (eq-eqb l.new l.new refl))

  file_node : (x : FileRec) (k : ℕ) → Member x n.files → node_of (due (x.ino, k)) ≡ node_of x
  file_node x k is =
      node_same (due (x.ino, k)) (node_of x) (due_number (x.ino, k))
      (elim (file_cases g sector s image now e n r has x is) [
        | inl linked ↦ subst (λ (y : FileRec). type_of (due (y.ino, k)) ≡ type_of y) (sym linked.2) (kept_kind linked.0 k linked.1)
        | inr made ↦ fresh_kind x.ino k made.0 ∙ sym (ap type_of made.1)
      ])

  abbrev pub of : NodeRec → ℕ × ℕ
  of m = with_links wanted (wanted_entries held n.entries g.rootino l.new) g.rootino m

  pub node_due : (m : NodeRec) → Member m wanted → node_of (due (of m)) ≡ m
  node_due m is =
      elim (node_cases g sector s image now e n r has m is) [
        | inl lost ↦
            subst (λ (x : NodeRec). node_of (due (of x)) ≡ x) lost.1
            (node_same (due (of (directory_node l.new))) (directory_node l.new) (due_number (of (directory_node l.new))) (lost_kind (of (directory_node l.new)).1 lost.0))
        | inr from ↦ subst (λ (x : NodeRec). node_of (due (of x)) ≡ x) from.2 (file_node from.0 (of (node_of from.0)).1 from.1)
      ]

  pub has_wanted : HasWanted held n.entries g.rootino l.new (renamed_files g s now has.on n has.is.w has.is.built has.is.placed) (renamed_dirs w)
  unfolding renamed_files
  has_wanted = record {
    files_are = ap (λ (ps : List (ℕ × ℕ)). map node_of (map due ps)) has.is.names.wanted.links' ∙ nodes_are due of wanted node_due;
    links_are = links_are due w.links due_number due_links ∙ has.is.names.wanted.links';
    dirs_are = pairs_are w.parents ∙ has.is.names.wanted.parents';
    whole = all_whole w.parents;
  }
