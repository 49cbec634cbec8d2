-- The two system inodes are empty regular files with one link.
use Rattle.std.proofs.Common.{◌≡◌, ℕ, Bool, true, false, cond, ◌+◌, ◌/◌, ◌^◌, inl, inr, ◌==◌, ◌||◌, if◌then◌else◌, List, [], ◌∷◌, length, map, filter, Some, None, refl, sym, ap, ◌∙◌, subst, arith, Any}
use Rattle.std.proofs.lemmas.Bool.{eq-eqb, eqb-true, ne_eqb, true≢false}
use Rattle.xfs_disk.specs.Blocks.{Image}
use Rattle.xfs_disk.specs.Lists.{is_among}
use Rattle.xfs_disk.specs.declared.stamp.Stamp.{Stamp}
use Rattle.xfs_geom.specs.Volumes.{volume_of}
use Rattle.xfs_geom.specs.declared.geometry.Geometry.{Geometry}
use Rattle.xfs_dirdata.specs.declared.records.EntryRec.{EntryRec}
use Rattle.xfs_volume.specs.Names.{type_of}
use Rattle.xfs_volume.specs.declared.cores.Core.{Core}
use Rattle.xfs_volume.specs.declared.files.FileRec.{FileRec}
use Rattle.xfs_naming.specs.Lawful.{IsSystemFile}
use Rattle.xfs_naming.specs.Naming.{entries_in, entries_to, is_in_use, is_system}
use Rattle.xfs_links.specs.Connected.{directory_numbers}
use Rattle.xfs_links.specs.Entries.{is_directory_number, is_reserved_inode}
use Rattle.xfs_links.specs.declared.records.NodeRec.{NodeRec}
use Rattle.xfs_links.specs.Together.{adds_lost}
use Rattle.xfs_names.specs.Having.{node_of}
use Rattle.xfs_names.specs.Rebuilt.{is_rebuilt}
use Rattle.xfs_names.specs.Wanted.{link_count, wanted_entries, with_directory, with_parent}
use Rattle.xfs_names.proofs.Deciding.{directory_with, has_directories}
use Rattle.xfs_views.proofs.Members.{Member, any_member, contains, member_any, member_map}
use Rattle.xfs_salvage.specs.Kept.{own_inodes}
use Rattle.xfs_rename.specs.xfs_request.Fresh.{new_system_core}
use Rattle.xfs_rename.specs.xfs_scan.declared.evidence.Evidence.{Evidence}
use Rattle.xfs_rename.specs.xfs_rebuild.Names as Names
use Rattle.xfs_rename.specs.xfs_rebuild.declared.names_due.NamesDue.{NamesDue}
use Rattle.xfs_rename.specs.Lost.{lost_due}
use Rattle.xfs_rename.specs.xfs_changes.declared.lost_found.Lost.{Lost}
use Rattle.xfs_rename.specs.declared.planning.Renamed.{Renamed}
use Rattle.xfs_rename.specs.xfs_built.Directories.{BuiltRuns}
use Rattle.xfs_restored.specs.DueFiles.{new_core}
use Rattle.xfs_restored.proofs.Others.{among}
use Rattle.xfs_restored.specs.Relinking.{IsRelinked, built_at, core_anew, renamed_files}
use Rattle.xfs_restored.proofs.DueNodes as Due
use Rattle.xfs_restored.proofs.NamedFiles.{IsEmptyRegular, file_stands, new_system, own_inode, standing_system, system_reserved}
use Rattle.xfs_restored.proofs.NamedNodes.{system_plain}
use Rattle.xfs_restored.proofs.WantedBuilt.{not_built}
use Rattle.xfs_restored.proofs.WantedNumbers.{file_node, fresh_not_kept, fresh_there, kept_at, kept_there}

-- the links of a reserved inode that is no directory
one_link : (nodes : List NodeRec) (entries : List EntryRec) (root : ℕ) (m : NodeRec) → m.kind ≡ 8 → is_reserved_inode root m.ino ≡ true → link_count nodes entries root m ≡ 1
one_link nodes entries root m kind reserved =
    ap (λ (t : Bool). if t then 2 + length (filter (λ (e : EntryRec). is_directory_number nodes e.ino) (entries_in entries m.ino)) else (if is_reserved_inode root m.ino then 1 else length (entries_to entries m.ino)))
    (ne_eqb m.kind 4 (λ same. omega (arith, kind, same)))
    ∙ ap (λ (t : Bool). if t then 1 else length (entries_to entries m.ino)) reserved

any_of : {X : Type 0} (P : X → Type 0) (x : X) (xs : List X) → Member x xs → P x → Any P xs
any_of P x xs is holds = let at = contains x xs is in (at.0, x, at.1, at.2, holds)

-- the first numbers of some pairs are among those that the pairs were made of
firsts_among : (test : ℕ × ℕ → Bool) (pair : ℕ → ℕ × ℕ) → ((d : ℕ) → (pair d).0 ≡ d) → (ds : List ℕ) (ino : ℕ)
    → Member ino (map (λ (p : ℕ × ℕ). p.0) (filter test (map pair ds))) → Member ino ds
firsts_among test pair first [] ino is = absurd is
firsts_among test pair first (d ∷ ds) ino is = by_case (test (pair d)) (firsts_among test pair first ds ino) is
  where
    by_case : (t : Bool) → (Member ino (map (λ (p : ℕ × ℕ). p.0) (filter test (map pair ds))) → Member ino ds)
        → Member ino (map (λ (p : ℕ × ℕ). p.0) (cond t (pair d ∷ filter test (map pair ds)) (filter test (map pair ds)))) → Member ino (d ∷ ds)
    by_case true rest is = elim is [ inl same ↦ inl (sym (first d) ∙ same) | inr later ↦ inr (rest later) ]
    by_case false rest is = inr (rest is)

module _ (g : Geometry) (sector : List ℕ) (s : Stamp) (image now : Image) (e : Evidence) (n : NamesDue) (r : Renamed) (has : IsRelinked g sector s image now e n r) where
  abbrev l : Lost
  l = lost_due g n

  abbrev built : List BuiltRuns
  built = Due.built g sector s image now e n r has

  abbrev due : ℕ × ℕ → FileRec
  due = Due.due g sector s image now e n r has

  abbrev held : List NodeRec
  held = Due.held g sector s image now e n r has

  abbrev wanted : List NodeRec
  wanted = Due.wanted g sector s image now e n r has

  abbrev of : NodeRec → ℕ × ℕ
  of = Due.of g sector s image now e n r has

  -- a directory that is built anew is one of those that are wanted
  rebuilt_directory : (ino : ℕ) → is_among has.is.w.rebuilt ino ≡ true → is_directory_number wanted ino ≡ true
  rebuilt_directory ino is =
      let parents : ℕ → ℕ × ℕ = with_parent held n.entries g.rootino l.new in
      let test : ℕ × ℕ → Bool = is_rebuilt n.entries n.dirs (wanted_entries held n.entries g.rootino l.new) in
      let there : Member ino has.is.w.rebuilt = among ino has.is.w.rebuilt is in
      let listed : Member ino (directory_numbers wanted) =
      firsts_among test parents (λ d. refl) (directory_numbers wanted) ino (subst (λ (ns : List ℕ). Member ino ns) has.is.names.wanted.rebuilt' there) in
      sym (has_directories ino wanted) ∙ member_any (λ m. m == ino) ino (directory_numbers wanted) listed (eq-eqb ino ino refl)

  -- no system inode is
  pub not_rebuilt : (ino : ℕ) → is_reserved_inode g.rootino ino ≡ true → (ino ≡ g.rootino → ⊥) → is_among has.is.w.rebuilt ino ≡ false
  not_rebuilt ino reserved off = by_case (is_among has.is.w.rebuilt ino) refl
    where
      other : l.new ≡ ino → ⊥
      other same = true≢false (sym reserved ∙ ap (is_reserved_inode g.rootino) (sym same) ∙ Due.free g sector s image now e n r has)

      held_directory : (t : Bool) → is_directory_number (if t then with_directory l.new held else held) ino ≡ true → is_directory_number held ino ≡ true
      held_directory true is =
          sym (ap (λ (t : Bool). t || is_directory_number held ino) (ne_eqb l.new ino other)) ∙ sym (directory_with l.new ino held) ∙ is
      held_directory false is = is

      by_case : (t : Bool) → is_among has.is.w.rebuilt ino ≡ t → t ≡ false
      by_case true is =
          absurd (off (system_plain g sector s image now e n r has ino (held_directory (adds_lost held n.entries g.rootino) (rebuilt_directory ino is)) reserved))
      by_case false is = refl

  module _ (ino : ℕ) (own : Member ino (own_inodes g.rootino)) (off : ino ≡ g.rootino → ⊥) (system : is_system g.rootino ino ≡ true) where
    none : built_at built ino ≡ None
    none = not_built g sector s image now e n r has ino (not_rebuilt ino (system_reserved g.rootino ino system) off)

    -- that of a file by which names are decided
    from_file : (x : FileRec) → Member x n.files → x.ino ≡ ino → type_of x ≡ 8 → IsEmptyRegular (due (of (node_of x))) → Any (IsSystemFile ino) (renamed_files g s now has.on n has.is.w has.is.built has.is.placed)
    unfolding renamed_files
    from_file x is number kind regular =
        let m : NodeRec = node_of x in
        let listed : Member (of m) has.is.w.links =
        subst (λ (ps : List (ℕ × ℕ)). Member (of m) ps) (sym has.is.names.wanted.links') (member_map of m wanted (file_node g sector s image now e n r has x is)) in
        any_of (IsSystemFile ino) (due (of m)) (map due has.is.w.links) (member_map due (of m) has.is.w.links listed)
        (record {
          number = Due.due_number g sector s image now e n r has (of m) ∙ number;
          regular = regular.kind;
          no_bytes = regular.size;
          no_data = regular.data_none;
          no_tree = regular.tree_none;
          one_link = Due.due_links g sector s image now e n r has (of m)
              ∙ one_link wanted (wanted_entries held n.entries g.rootino l.new) g.rootino m kind (ap (is_reserved_inode g.rootino) number ∙ system_reserved g.rootino ino system);
        })

    kept_empty : (f : FileRec) → Member f has.on.kept.files → f.ino ≡ ino → IsEmptyRegular f
    kept_empty f is number =
        standing_system g.rootino f (file_stands g sector s image now e n r has f is) (λ same. off (sym number ∙ same)) (ap (is_system g.rootino) number ∙ system)

    kept_case : (f : FileRec) → Member f has.on.kept.files → f.ino ≡ ino → (k : ℕ) → IsEmptyRegular (due (f.ino, k))
    kept_case f is number k =
        let empty = kept_empty f is number in
        let same = Due.due_is g sector s image now e n r has (f.ino, k) (Some f) (kept_at g sector s image now e n r has f is) (ap (built_at built) number ∙ none) in
        record {
          kind = ap type_of same ∙ empty.kind;
          size = ap (λ (x : FileRec). x.core.size) same ∙ empty.size;
          data_none = ap (λ (x : FileRec). length x.extents) same ∙ empty.data_none;
          tree_none = ap (λ (x : FileRec). length x.rest.tree) same ∙ empty.tree_none;
        }

    core_is : Member ino has.on.kept.fresh → core_anew (volume_of g) s l ino ≡ new_system_core (volume_of g) s ino
    core_is is = Due.fresh_core_is g sector s image now e n r has ino is ∙ new_system (volume_of g) s ino off

    fresh_case : Member ino has.on.kept.fresh → (k : ℕ) → IsEmptyRegular (due (ino, k))
    fresh_case is k =
        let same = Due.due_is g sector s image now e n r has (ino, k) None (fresh_not_kept g sector s image now e n r has ino is) none in
        record {
          kind = ap type_of same ∙ ap (λ (core : Core). core.mode / 2 ^ 12) (core_is is);
          size = ap (λ (x : FileRec). x.core.size) same ∙ ap (λ (core : Core). core.size) (core_is is);
          data_none = ap (λ (x : FileRec). length x.extents) same;
          tree_none = ap (λ (x : FileRec). length x.rest.tree) same;
        }

    pub system_file : Any (IsSystemFile ino) (renamed_files g s now has.on n has.is.w has.is.built has.is.placed)
    system_file = by_use (is_in_use has.on.kept.files ino) refl
      where
        by_use : (t : Bool) → is_in_use has.on.kept.files ino ≡ t → Any (IsSystemFile ino) (renamed_files g s now has.on n has.is.w has.is.built has.is.placed)
        by_use true used =
            let found = any_member (λ (f : FileRec). f.ino == ino) has.on.kept.files used in
            let number : found.0.ino ≡ ino = eqb-true found.0.ino ino found.2 in
            let x : FileRec = Names.linked_file g.rootino has.on.kept found.0 in
            from_file x (kept_there g sector s image now e n r has found.0 found.1) number (kept_empty found.0 found.1 number).kind (kept_case found.0 found.1 number (of (node_of x)).1)
        by_use false free =
            let fresh : Member ino has.on.kept.fresh = own_inode g sector s image now e n r has ino own free in
            let x : FileRec = Names.new_file ino (new_core (volume_of g) s ino) in
            from_file x (fresh_there g sector s image now e n r has ino fresh) refl (ap (λ (core : Core). core.mode / 2 ^ 12) (new_system (volume_of g) s ino off))
            (fresh_case fresh (of (node_of x)).1)
