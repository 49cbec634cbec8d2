-- The directories that are due read as whole, with the entries that are due and the parents that are wanted.
use Rattle.std.proofs.Common.{◌≡◌, ℕ, Bool, true, false, cond, ◌+◌, ◌≤◌, ◌==◌, if◌then◌else◌, inl, inr, List, [], ◌∷◌, ◌++◌, length, map, filter, unwrap_or, Option, Some, None, refl, sym, ap, ap₂, ◌∙◌, subst, arith}
use Rattle.std.specs.List.{flat_map}
use Rattle.std.specs.Option.{is_some, option_map}
use Rattle.std.proofs.lemmas.Bool.{eq-eqb, eqb-true, ne_eqb, true≢false}
use Rattle.xfs_disk.specs.Blocks.{Image}
use Rattle.xfs_disk.specs.Lists.{is_among}
use Rattle.xfs_disk.specs.declared.stamp.Stamp.{Stamp}
use Rattle.xfs_word.specs.Field.{part_of}
use Rattle.xfs_dirdata.specs.Short.{ShortForm, short_of}
use Rattle.xfs_dirdata.specs.declared.records.EntryRec.{EntryRec}
use Rattle.xfs_geom.specs.Features.{or_else}
use Rattle.xfs_geom.specs.Volumes.{Volume, volume_of}
use Rattle.xfs_geom.specs.declared.geometry.Geometry.{Geometry}
use Rattle.xfs_image.specs.Directories.{data_blocks, dir_of, directories, dirs_read, entries_of, entries_of_form, entries_read, is_whole, parent_of, parent_of_form, short_form}
use Rattle.xfs_image.specs.Slots.{slot_bytes}
use Rattle.xfs_inodebuild.specs.declared.forks.ForkWanted.{ForkWanted}
use Rattle.xfs_volume.specs.Names.{is_directory, type_of}
use Rattle.xfs_volume.specs.declared.cores.Core.{Core}
use Rattle.xfs_volume.specs.declared.directories.DirRec.{DirRec}
use Rattle.xfs_volume.specs.declared.files.FileRec.{FileRec}
use Rattle.xfs_naming.specs.Naming.{entries_in, file_at}
use Rattle.xfs_links.specs.declared.records.NodeRec.{NodeRec}
use Rattle.xfs_names.specs.Having.{node_of}
use Rattle.xfs_names.specs.Pairs.{PairsAscend, parent_among, parent_or_itself}
use Rattle.xfs_names.specs.Rebuilt.{is_whole_with}
use Rattle.xfs_names.specs.Wanted.{with_parent}
use Rattle.xfs_views.proofs.Members.{Member, filter_member, member_all, member_map}
use Rattle.xfs_render.specs.Slots.{IsMadeSlot, wanted_of}
use Rattle.xfs_render.specs.declared.wanted_slots.SlotBase.TheVariants.{Kept}
use Rattle.xfs_render.specs.declared.wanted_slots.SlotWanted.{SlotWanted}
use Rattle.xfs_rename.specs.xfs_request.Fresh.{new_root_core, new_root_fork, new_root_slot}
use Rattle.xfs_rename.specs.xfs_request.Slots.{attrs_wanted, state_at}
use Rattle.xfs_rename.specs.xfs_scan.declared.evidence.Evidence.{Evidence}
use Rattle.xfs_rename.specs.xfs_rebuild.Names as Names
use Rattle.xfs_rename.specs.xfs_rebuild.declared.names_due.NamesDue.{NamesDue}
use Rattle.xfs_rename.specs.Lost.{lost_due}
use Rattle.xfs_rename.specs.xfs_built.Asks.{stands_in_blocks}
use Rattle.xfs_rename.specs.Renames.{old_files}
use Rattle.xfs_rename.specs.xfs_changes.Slots.{lost_core}
use Rattle.xfs_rename.specs.xfs_changes.declared.lost_found.Lost.{Lost}
use Rattle.xfs_rename.specs.declared.planning.Renamed.{Renamed}
use Rattle.xfs_rename.specs.xfs_built.Directories.{BuiltRuns, IsBuiltFile, ReadsAsWanted, ReadsSo}
use Rattle.xfs_restored.specs.RunForks.{fork_of_runs}
use Rattle.xfs_restored.specs.Renamed.{HoldsBuilt}
use Rattle.xfs_restored.proofs.Planned.{all_read, holds_built}
use Rattle.xfs_restored.specs.DueFiles.{linked_core, new_core}
use Rattle.xfs_restored.proofs.Fresh.{empty_form, made_root}
use Rattle.xfs_restored.proofs.RootInodes.{low_root}
use Rattle.xfs_restored.specs.Relinking.{IsRelinked, built_at, entries_due, renamed_dirs, renamed_entries, renamed_files, whole_with, with_built}
use Rattle.xfs_restored.proofs.BuiltForks.{built_file, fork_changes, fork_put, links_leave, short_bytes_of}
use Rattle.xfs_restored.proofs.DueNodes as Due
use Rattle.xfs_restored.proofs.EntriesAlike.{IsRight, right_directory}
use Rattle.xfs_restored.proofs.FilesAlike.{linked_number}
use Rattle.xfs_restored.proofs.KeptDirectories.{fresh_entries, fresh_parent, kept_entries, kept_whole}
use Rattle.xfs_restored.proofs.KeptForms.{holds, inodes, kept_among, kept_dir_read, kept_entries_read, size, slot_made, wants}
use Rattle.xfs_restored.proofs.LostInodes.{lost_inode}
use Rattle.xfs_restored.proofs.NamedFiles.{new_root}
use Rattle.xfs_restored.proofs.NamedNodes.{are_entries, are_files, fresh_root, root_directory}
use Rattle.xfs_restored.proofs.WantedBuilt.{built_has, built_is, lost_built, not_built}
use Rattle.xfs_restored.proofs.WantedCases.{fresh_fork, fresh_wanted, kept_change, kept_wanted, lost_wanted, made_slot}
use Rattle.xfs_restored.proofs.WantedNumbers.{file_cases, fresh_inode, fresh_not_kept, kept_at, kept_inode, node_cases, pair_cases}

-- the directories among files, by the nodes that these are due for
filter_due : (due : ℕ × ℕ → FileRec) (of : NodeRec → ℕ × ℕ) (ms : List NodeRec) → ((m : NodeRec) → Member m ms → is_directory (due (of m)) ≡ (m.kind == 4))
    → filter is_directory (map due (map of ms)) ≡ map due (map of (filter (λ (m : NodeRec). m.kind == 4) ms))
filter_due due of [] each = refl
filter_due due of (m ∷ ms) each =
    ap (λ (t : Bool). cond t (due (of m) ∷ filter is_directory (map due (map of ms))) (filter is_directory (map due (map of ms)))) (each m (inl refl))
    ∙ by_kind (m.kind == 4) (filter_due due of ms (λ x is. each x (inr is)))
  where
    by_kind : (t : Bool) → filter is_directory (map due (map of ms)) ≡ map due (map of (filter (λ (x : NodeRec). x.kind == 4) ms))
        → cond t (due (of m) ∷ filter is_directory (map due (map of ms))) (filter is_directory (map due (map of ms)))
        ≡ map due (map of (cond t (m ∷ filter (λ (x : NodeRec). x.kind == 4) ms) (filter (λ (x : NodeRec). x.kind == 4) ms)))
    by_kind true rest = ap (λ (fs : List FileRec). due (of m) ∷ fs) rest
    by_kind false rest = rest

-- lists item by item
entries_same : (read : FileRec → List EntryRec) (told : ℕ × ℕ → List EntryRec) (due : ℕ × ℕ → FileRec) (of : NodeRec → ℕ × ℕ) (pair : ℕ → ℕ × ℕ) (ms : List NodeRec)
    → ((m : NodeRec) → Member m ms → read (due (of m)) ≡ told (pair m.ino)) → flat_map read (map due (map of ms)) ≡ flat_map told (map pair (map (λ (m : NodeRec). m.ino) ms))
entries_same read told due of pair [] each = refl
entries_same read told due of pair (m ∷ ms) each =
    ap₂ (λ (xs ys : List EntryRec). xs ++ ys) (each m (inl refl)) (entries_same read told due of pair ms (λ x is. each x (inr is)))

dirs_same : (read : FileRec → DirRec) (told : ℕ × ℕ → DirRec) (due : ℕ × ℕ → FileRec) (of : NodeRec → ℕ × ℕ) (pair : ℕ → ℕ × ℕ) (ms : List NodeRec)
    → ((m : NodeRec) → Member m ms → read (due (of m)) ≡ told (pair m.ino)) → map read (map due (map of ms)) ≡ map told (map pair (map (λ (m : NodeRec). m.ino) ms))
dirs_same read told due of pair [] each = refl
dirs_same read told due of pair (m ∷ ms) each =
    ap₂ (λ (x : DirRec) (xs : List DirRec). x ∷ xs) (each m (inl refl)) (dirs_same read told due of pair ms (λ x is. each x (inr is)))

-- the parent that pairs tell of the directory of one
pair_least : (low : ℕ) (p : ℕ × ℕ) (ps : List (ℕ × ℕ)) → PairsAscend low ps → Member p ps → low ≤ p.0
pair_least low p [] up is = absurd is
pair_least low p (q ∷ ps) up is =
    let first = up.0 in
    elim is [
      | inl same ↦ let number : q.0 ≡ p.0 = ap (λ (x : ℕ × ℕ). x.0) same in omega (arith, first, number)
      | inr later ↦ let rest = pair_least (q.0 + 1) p ps up.1 later in omega (arith, first, rest)
    ]

parent_told : (low : ℕ) (p : ℕ × ℕ) (ps : List (ℕ × ℕ)) → PairsAscend low ps → Member p ps → parent_among ps p.0 ≡ Some p.1
parent_told low p [] up is = absurd is
parent_told low p (q ∷ ps) up is =
    elim is [
      | inl same ↦
          ap (λ (t : Bool). if t then Some q.1 else parent_among ps p.0) (eq-eqb q.0 p.0 (ap (λ (x : ℕ × ℕ). x.0) same)) ∙ ap (λ (x : ℕ × ℕ). Some x.1) same
      | inr later ↦
          let above = pair_least (q.0 + 1) p ps up.1 later in
          ap (λ (t : Bool). if t then Some q.1 else parent_among ps p.0) (ne_eqb q.0 p.0 (λ same. omega (arith, above, same))) ∙ parent_told (q.0 + 1) p ps up.1 later
    ]

dir_is : (a b : DirRec) → a.ino ≡ b.ino → a.parent ≡ b.parent → a.whole ≡ b.whole → a ≡ b
dir_is a b number parent whole = λ i. record { ino = number i; parent = parent i; whole = whole i }

module _ (g : Geometry) (sector : List ℕ) (s : Stamp) (image now : Image) (e : Evidence) (n : NamesDue) (r : Renamed) (has : IsRelinked g sector s image now e n r) where
  abbrev v : Volume
  v = volume_of g

  abbrev l : Lost
  l = lost_due g n

  abbrev old : List FileRec
  old = old_files n has.is.w

  abbrev crc : ℕ → ℕ
  crc = Due.crc g sector s image now e n r has

  abbrev built : List BuiltRuns
  built = Due.built g sector s image now e n r has

  abbrev due : ℕ × ℕ → FileRec
  due = Due.due g sector s image now e n r has

  abbrev wanted : List NodeRec
  wanted = Due.wanted g sector s image now e n r has

  abbrev of : NodeRec → ℕ × ℕ
  of = Due.of g sector s image now e n r has

  abbrev pair : ℕ → ℕ × ℕ
  pair = with_parent (Due.held g sector s image now e n r has) n.entries g.rootino l.new

  abbrev dirs : List NodeRec
  dirs = filter (λ (m : NodeRec). m.kind == 4) wanted

  parents_are : has.is.w.parents ≡ map pair (map (λ (m : NodeRec). m.ino) dirs)
  parents_are = has.is.names.wanted.parents'

  parent_listed : (m : NodeRec) → Member m dirs → Member (pair m.ino) has.is.w.parents
  parent_listed m is =
      subst (λ (ps : List (ℕ × ℕ)). Member (pair m.ino) ps) (sym parents_are) (member_map pair m.ino (map (λ (x : NodeRec). x.ino) dirs) (member_map (λ (x : NodeRec). x.ino) m dirs is))

  linked : (m : NodeRec) → Member m wanted → Member (of m) has.is.w.links
  linked m is = subst (λ (ps : List (ℕ × ℕ)). Member (of m) ps) (sym has.is.names.wanted.links') (member_map of m wanted is)

  -- the short form that was built for a directory stands in its slot
  from_slot : (ino : ℕ) (w : SlotWanted) (d : BuiltRuns) → Member ino (inodes g sector s image now e n r has) → wanted_of (wants g sector s image now e n r has) ino ≡ Some w
      → w.fork ≡ Some (fork_of_runs v old d) → stands_in_blocks d.directory ≡ false
      → part_of (slot_bytes v now ino) 176 (length d.directory.image.short.items) ≡ d.directory.image.short.items
  from_slot ino w d is told fork short =
      subst (λ (bytes : List ℕ). part_of (slot_bytes v now ino) 176 (length bytes) ≡ bytes) (short_bytes_of v old d short)
      (fork_put v s.generation w (fork_of_runs v old d) (slot_bytes v image ino) (slot_bytes v now ino) fork (slot_made g sector s image now e n r has ino (Some w) is told))

  abbrev StandsShort : ℕ → BuiltRuns → Type 0
  StandsShort ino d = stands_in_blocks d.directory ≡ false → part_of (slot_bytes v now ino) 176 (length d.directory.image.short.items) ≡ d.directory.image.short.items

  kept_stands : (f : FileRec) (k : ℕ) (d : BuiltRuns) → Member f has.on.kept.files → Member (f.ino, k) has.is.w.links → built_at built f.ino ≡ Some d → StandsShort f.ino d
  kept_stands f k d is there at short =
      let known = kept_wanted g sector s image now e n r has f k is there in
      let drop : Option ℕ = attrs_wanted f (state_at has.on.seen f.ino) in
      from_slot f.ino (record { ino = f.ino; base = Kept; drop_attrs = drop; fork = Some (fork_of_runs v old d); nlink = known.nlink }) d (kept_among g sector s image now e n r has f.ino (kept_inode g sector s image now e n r has f is))
      (known.wanted' ∙ ap (λ (o : Option BuiltRuns). kept_change f.ino drop (option_map (fork_of_runs v old) o) known.nlink) at ∙ fork_changes f.ino drop (fork_of_runs v old d) known.nlink)
      refl short

  fresh_stands : (ino k : ℕ) (d : BuiltRuns) → Member ino has.on.kept.fresh → Member (ino, k) has.is.w.links → built_at built ino ≡ Some d → StandsShort ino d
  fresh_stands ino k d is there at short =
      from_slot ino (made_slot ino (new_core v s ino) (or_else (option_map (fork_of_runs v old) (built_at built ino)) (fresh_fork v ino)) k) d
      (kept_among g sector s image now e n r has ino (fresh_inode g sector s image now e n r has ino is)) (fresh_wanted g sector s image now e n r has ino k is there)
      (ap (λ (o : Option BuiltRuns). or_else (option_map (fork_of_runs v old) o) (fresh_fork v ino)) at) short

  lost_stands : (k : ℕ) (d : BuiltRuns) → l.made ≡ true → Member (l.new, k) has.is.w.links → built_at built l.new ≡ Some d → StandsShort l.new d
  lost_stands k d made there at short =
      from_slot l.new (made_slot l.new (lost_core v s l.new) (option_map (fork_of_runs v old) (built_at built l.new)) k) d
      (lost_inode g sector s image now n r has.is (holds g sector s image now e n r has) (size g sector s image now e n r has) made)
      (lost_wanted g sector s image now e n r has k made there) (ap (option_map (fork_of_runs v old)) at) short

  abbrev StandsAt : ℕ → ℕ → BuiltRuns → Type 0
  StandsAt k ino d = Member (ino, k) has.is.w.links → built_at built ino ≡ Some d → StandsShort ino d

  form_stands : (p : ℕ × ℕ) (d : BuiltRuns) → Member p has.is.w.links → built_at built p.0 ≡ Some d → StandsShort p.0 d
  form_stands p d is at =
      elim (pair_cases g sector s image now e n r has p is) [
        | inl kept ↦ subst (λ (ino : ℕ). StandsAt p.1 ino d) kept.2 (λ there own. kept_stands kept.0 p.1 d kept.1 there own) is at
        | inr rest ↦ elim rest [
          | inl fresh ↦ fresh_stands p.0 p.1 d fresh is at
          | inr lost ↦ subst (λ (ino : ℕ). StandsAt p.1 ino d) (sym lost.1) (λ there own. lost_stands p.1 d lost.0 there own) is at
        ]
      ]

  -- what a directory reads as
  record IsDue (ino k : ℕ) : Type 0 where
    entries : entries_of v now (due (ino, k)) ≡ entries_due n has.is.w (pair ino)
    dir : dir_of v now (due (ino, k)) ≡ whole_with (pair ino)

  -- one that is built anew
  held_built : HoldsBuilt g n has.is.w has.is.built has.is.placed has.is.bytes now
  held_built = holds_built g sector s image n r has.is has.is.buildable has.is.cuts now (holds g sector s image now e n r has)

  built_reads : (m : NodeRec) (d : BuiltRuns) → Member m wanted → built_at built m.ino ≡ Some d → ReadsAsWanted v now has.is.w (due (of m))
  built_reads m d is at =
      let o : Option FileRec = file_at has.on.kept.files m.ino in
      let x : FileRec = Due.before g sector s image now e n r has (of m) o in
      let own = built_is g sector s image now e n r has m.ino d at in
      let number : x.ino ≡ m.ino = linked_number v s l has.on.seen crc (of m) has.on.kept.files o refl in
      let put : StandsShort x.ino d = subst (λ (ino : ℕ). StandsShort ino d) (sym number) (form_stands (of m) d (linked m is) at) in
      let file : IsBuiltFile v now d (with_built v old crc x (Some d)) = built_file v now old crc d x (number ∙ sym own.1) put in
      let reads : ReadsSo v now has.is.w d =
      member_all (ReadsSo v now has.is.w) d built (all_read g n has.is.w has.is.built has.is.placed has.is.bytes now held_built) own.0 in
      subst (ReadsAsWanted v now has.is.w) (sym (ap (λ (b : Option BuiltRuns). with_built v old crc x b) at)) (reads (with_built v old crc x (Some d)) file)

  rebuilt_due : (m : NodeRec) → Member m dirs → is_among has.is.w.rebuilt m.ino ≡ true → IsDue m.ino (of m).1
  rebuilt_due m is anew =
      let among = (filter_member (λ (x : NodeRec). x.kind == 4) m wanted is).0 in
      let d = built_has g sector s image now e n r has m.ino anew in
      let reads = built_reads m d.0 among d.1 in
      let number : (due (of m)).ino ≡ m.ino = Due.due_number g sector s image now e n r has (of m) in
      let parent : parent_or_itself has.is.w.parents m.ino ≡ (pair m.ino).1 =
      ap (λ (o : Option ℕ). unwrap_or o m.ino) (parent_told 0 (pair m.ino) has.is.w.parents has.is.buildable.ascend (parent_listed m is)) in
      record {
        entries = reads.entries' ∙ ap (entries_in has.is.w.entries) number
            ∙ sym (ap (λ (t : Bool). if t then entries_in has.is.w.entries m.ino else entries_in n.entries m.ino) anew);
        dir = dir_is (dir_of v now (due (of m))) (whole_with (pair m.ino)) number (reads.parent' ∙ ap (parent_or_itself has.is.w.parents) number ∙ parent) reads.whole;
      }

  -- one that is not, and was found right
  right : (m : NodeRec) → Member m dirs → is_among has.is.w.rebuilt m.ino ≡ false
      → IsRight (Due.held g sector s image now e n r has) g.rootino l.new n has.is.w (are_files g sector s image now e n r has).ascend (Due.unused g sector s image now e n r has)
      (are_entries g sector s image now e n r has) (root_directory g sector s image now e n r has) has.is.buildable has.is.names.wanted.entries' has.is.names.wanted.parents'
      has.is.names.wanted.rebuilt' (pair m.ino)
  right m is off =
      right_directory (Due.held g sector s image now e n r has) g.rootino l.new n has.is.w (are_files g sector s image now e n r has).ascend (Due.unused g sector s image now e n r has)
      (are_entries g sector s image now e n r has) (root_directory g sector s image now e n r has) has.is.buildable has.is.names.wanted.entries' has.is.names.wanted.parents'
      has.is.names.wanted.rebuilt' (pair m.ino) (parent_listed m is) off

  not_entries : (ino : ℕ) → is_among has.is.w.rebuilt ino ≡ false → entries_in n.entries ino ≡ entries_due n has.is.w (pair ino)
  not_entries ino off = sym (ap (λ (t : Bool). if t then entries_in has.is.w.entries ino else entries_in n.entries ino) off)

  -- a file whose core states other numbers of links and attributes is read as the file is
  plain_entries : (f : FileRec) (k : ℕ) → entries_of v now (Due.before g sector s image now e n r has (f.ino, k) (Some f)) ≡ entries_of v now f
  unfolding entries_of short_form data_blocks
  plain_entries f k = refl

  plain_parent : (f : FileRec) (k : ℕ) → parent_of v now (Due.before g sector s image now e n r has (f.ino, k) (Some f)) ≡ parent_of v now f
  unfolding parent_of short_form data_blocks
  plain_parent f k = refl

  plain_whole : (f : FileRec) (k : ℕ) → is_whole v now (Due.before g sector s image now e n r has (f.ino, k) (Some f)) ≡ is_whole v now f
  unfolding is_whole short_form data_blocks
  plain_whole f k = refl

  kept_due : (f : FileRec) (k : ℕ) → Member f has.on.kept.files → is_directory f ≡ true → is_among has.is.w.rebuilt f.ino ≡ false
      → Member (pair f.ino) has.is.w.parents → is_whole v image f ≡ true → parent_of v image f ≡ (pair f.ino).1 → IsDue f.ino k
  kept_due f k is dir off there whole parent =
      let none = not_built g sector s image now e n r has f.ino off in
      let same : due (f.ino, k) ≡ Due.before g sector s image now e n r has (f.ino, k) (Some f) = Due.due_is g sector s image now e n r has (f.ino, k) (Some f) (kept_at g sector s image now e n r has f is) none in
      let read : dir_of v now f ≡ dir_of v image f = kept_dir_read g sector s image now e n r has f is off in
      record {
        entries = ap (entries_of v now) same ∙ plain_entries f k ∙ kept_entries_read g sector s image now e n r has f is off ∙ sym (kept_entries g sector s image now e n r has f is dir) ∙ not_entries f.ino off;
        dir = ap (dir_of v now) same
            ∙ dir_is (dir_of v now (Due.before g sector s image now e n r has (f.ino, k) (Some f))) (whole_with (pair f.ino)) refl
            (plain_parent f k ∙ ap (λ (d : DirRec). d.parent) read ∙ parent) (plain_whole f k ∙ ap (λ (d : DirRec). d.whole) read ∙ whole);
      }

  -- a root that is made anew, without entries
  abbrev root_file : ℕ → FileRec
  root_file k = Names.new_file g.rootino (linked_core (new_root_core v s) k (crc g.rootino))

  abbrev root_slot : Core → Option ForkWanted → ℕ → SlotWanted
  root_slot core fork k = made_slot g.rootino core fork k

  module _ (k : ℕ) (is : Member g.rootino has.on.kept.fresh) (there : Member (g.rootino, k) has.is.w.links) (off : is_among has.is.w.rebuilt g.rootino ≡ false) where
    none : built_at built g.rootino ≡ None
    none = not_built g sector s image now e n r has g.rootino off

    fork_is : or_else (option_map (fork_of_runs v old) (built_at built g.rootino)) (fresh_fork v g.rootino) ≡ Some (new_root_fork v)
    fork_is =
        ap (λ (o : Option BuiltRuns). or_else (option_map (fork_of_runs v old) o) (fresh_fork v g.rootino)) none
        ∙ ap (λ (t : Bool). if t then Some (new_root_fork v) else None) (eq-eqb g.rootino g.rootino refl)

    slot_is : wanted_of (wants g sector s image now e n r has) g.rootino ≡ Some (root_slot (new_root_core v s) (Some (new_root_fork v)) k)
    slot_is = fresh_wanted g sector s image now e n r has g.rootino k is there ∙ (λ i. Some (root_slot (new_root v s i) (fork_is i) k))

    made : IsMadeSlot v s.generation (root_slot (new_root_core v s) (Some (new_root_fork v)) k) (slot_bytes v image g.rootino) (slot_bytes v now g.rootino)
    made =
        slot_made g sector s image now e n r has g.rootino (Some (root_slot (new_root_core v s) (Some (new_root_fork v)) k))
        (kept_among g sector s image now e n r has g.rootino (fresh_inode g sector s image now e n r has g.rootino is)) slot_is

    form : short_of g.rootino (part_of (slot_bytes v now g.rootino) 176 6) ≡ Some (empty_form g.rootino)
    form =
        let alone : IsMadeSlot v s.generation (new_root_slot v s) (slot_bytes v image g.rootino) made.forked =
        record { based = made.based; bare = made.bare; forked = made.forked; base = made.base; attrs = made.attrs; fork = made.fork; links = refl } in
        ap (short_of g.rootino) (links_leave v g.rootino 6 (Some k) made.forked (slot_bytes v now g.rootino) made.links)
        ∙ (made_root v s s.generation (slot_bytes v image g.rootino) made.forked (low_root g) alone).form

    root_is : due (g.rootino, k) ≡ root_file k
    root_is =
        Due.due_is g sector s image now e n r has (g.rootino, k) None (fresh_not_kept g sector s image now e n r has g.rootino is) none
        ∙ ap (λ (core : Core). Names.new_file g.rootino (linked_core core k (crc g.rootino))) (Due.fresh_core_is g sector s image now e n r has g.rootino is ∙ new_root v s)

    root_entries : entries_of v now (root_file k) ≡ []
    unfolding entries_of short_form
    root_entries = ap entries_of_form form

    root_parent : parent_of v now (root_file k) ≡ g.rootino
    unfolding parent_of short_form
    root_parent = ap parent_of_form form

    root_whole : is_whole v now (root_file k) ≡ true
    unfolding is_whole short_form
    root_whole = ap (λ (o : Option ShortForm). is_some o) form

    root_due : g.rootino ≡ (pair g.rootino).1 → IsDue g.rootino k
    root_due parent = record {
      entries = ap (entries_of v now) root_is ∙ root_entries ∙ sym (fresh_entries g sector s image now e n r has g.rootino is) ∙ not_entries g.rootino off;
      dir = ap (dir_of v now) root_is ∙ dir_is (dir_of v now (root_file k)) (whole_with (pair g.rootino)) refl (root_parent ∙ parent) root_whole;
    }

  fresh_due : (ino k : ℕ) → ino ≡ g.rootino → Member ino has.on.kept.fresh → Member (ino, k) has.is.w.links → is_among has.is.w.rebuilt ino ≡ false → g.rootino ≡ (pair ino).1 → IsDue ino k
  fresh_due ino k same = subst (λ (m : ℕ). Member m has.on.kept.fresh → Member (m, k) has.is.w.links → is_among has.is.w.rebuilt m ≡ false → g.rootino ≡ (pair m).1 → IsDue m k) (sym same)
      (λ is there off parent. root_due k is there off parent)

  named_due : (x : FileRec) (k : ℕ) → Member x n.files → type_of x ≡ 4 → Member (node_of x) dirs → Member (x.ino, k) has.is.w.links → is_among has.is.w.rebuilt x.ino ≡ false → IsDue x.ino k
  named_due x k is kind listed there off =
      let fit = right (node_of x) listed off in
      elim (file_cases g sector s image now e n r has x is) [
        | inl kept ↦
            let f : FileRec = kept.0 in
            let number : x.ino ≡ f.ino = ap (λ (y : FileRec). y.ino) kept.2 in
            let dir : is_directory f ≡ true = eq-eqb (type_of f) 4 (sym (ap type_of kept.2) ∙ kind) in
            let whole = kept_whole g sector s image now e n r has f (pair f.ino).1 kept.1 dir (subst (λ (ino : ℕ). is_whole_with n.dirs ino (pair ino).1 ≡ true) number fit.whole) in
            subst (λ (ino : ℕ). IsDue ino k) (sym number)
            (kept_due f k kept.1 dir (ap (is_among has.is.w.rebuilt) (sym number) ∙ off) (subst (λ (ino : ℕ). Member (pair ino) has.is.w.parents) number (parent_listed (node_of x) listed)) whole.whole whole.parent')
        | inr made ↦
            let root : x.ino ≡ g.rootino = fresh_root g sector s image now e n r has x.ino (sym (ap type_of made.1) ∙ kind) in
            fresh_due x.ino k root made.0 there off (fresh_parent g sector s image now e n r has x.ino (pair x.ino).1 made.0 fit.whole)
      ]

  node_due : (m : NodeRec) → Member m dirs → IsDue m.ino (of m).1
  node_due m is = by_built (is_among has.is.w.rebuilt m.ino) refl
    where
      parts : Member m wanted × ((m.kind == 4) ≡ true)
      parts = filter_member (λ (x : NodeRec). x.kind == 4) m wanted is

      by_built : (t : Bool) → is_among has.is.w.rebuilt m.ino ≡ t → IsDue m.ino (of m).1
      by_built true anew = rebuilt_due m is anew
      by_built false off =
          elim (node_cases g sector s image now e n r has m parts.0) [
            | inl lost ↦
                let d = lost_built g sector s image now e n r has lost.0 in
                let anew = (built_is g sector s image now e n r has l.new d.0 d.1).2 in
                absurd (true≢false (sym anew ∙ ap (is_among has.is.w.rebuilt) (ap (λ (x : NodeRec). x.ino) lost.1) ∙ off))
            | inr file ↦
                let number : file.0.ino ≡ m.ino = ap (λ (x : NodeRec). x.ino) file.2 in
                let kind : type_of file.0 ≡ 4 = ap (λ (x : NodeRec). x.kind) file.2 ∙ eqb-true m.kind 4 parts.1 in
                subst (λ (ino : ℕ). IsDue ino (of m).1) number
                (named_due file.0 (of m).1 file.1 kind (subst (λ (x : NodeRec). Member x dirs) (sym file.2) is) (subst (λ (ino : ℕ). Member (ino, (of m).1) has.is.w.links) (sym number) (linked m parts.0))
                (ap (is_among has.is.w.rebuilt) number ∙ off))
          ]

  -- all of them
  directories_are : filter is_directory (map due has.is.w.links) ≡ map due (map of dirs)
  directories_are =
      ap (λ (ps : List (ℕ × ℕ)). filter is_directory (map due ps)) has.is.names.wanted.links'
      ∙ filter_due due of wanted (λ m is. ap (λ (x : NodeRec). x.kind == 4) (Due.node_due g sector s image now e n r has m is))

  pub entries_are_read : entries_read v now (renamed_files g s now has.on n has.is.w has.is.built has.is.placed) ≡ renamed_entries n has.is.w
  unfolding entries_read directories renamed_files renamed_entries
  entries_are_read =
      ap (λ (fs : List FileRec). flat_map (entries_of v now) fs) directories_are
      ∙ entries_same (entries_of v now) (entries_due n has.is.w) due of pair dirs (λ m is. (node_due m is).entries)
      ∙ ap (λ (ps : List (ℕ × ℕ)). flat_map (entries_due n has.is.w) ps) (sym parents_are)

  pub dirs_are_read : dirs_read v now (renamed_files g s now has.on n has.is.w has.is.built has.is.placed) ≡ renamed_dirs has.is.w
  unfolding dirs_read directories renamed_files
  dirs_are_read =
      ap (λ (fs : List FileRec). map (dir_of v now) fs) directories_are
      ∙ dirs_same (dir_of v now) whole_with due of pair dirs (λ m is. (node_due m is).dir)
      ∙ ap (λ (ps : List (ℕ × ℕ)). map whole_with ps) (sym parents_are)
