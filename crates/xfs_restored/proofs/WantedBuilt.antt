-- The files as they were before names change, and the directories that are built anew by their numbers.
use Rattle.std.proofs.Common.{◌≡◌, ◌⊎◌, inl, inr, ℕ, Bool, true, false, cond, not, ◌==◌, ◌&&◌, if◌then◌else◌, List, [], ◌∷◌, map, filter, take, drop, Option, Some, None, refl, sym, ap, ◌∙◌, subst}
use Rattle.std.specs.Option.{option_map}
use Rattle.std.proofs.lemmas.Bool.{eq-eqb, eqb-true, false≢true, false_from_ne_true, ne_eqb, not_from_false}
use Rattle.xfs_disk.specs.Blocks.{Image}
use Rattle.xfs_disk.specs.Lists.{is_among}
use Rattle.xfs_disk.specs.declared.stamp.Stamp.{Stamp}
use Rattle.xfs_geom.specs.Volumes.{Volume, volume_of}
use Rattle.xfs_geom.specs.declared.geometry.Geometry.{Geometry}
use Rattle.xfs_geom.specs.declared.records.Run.{Run}
use Rattle.xfs_links.specs.Connected.{directory_numbers}
use Rattle.xfs_links.specs.declared.records.NodeRec.{NodeRec}
use Rattle.xfs_names.specs.Rebuilt.{are_right_entries, is_rebuilt, is_whole_with}
use Rattle.xfs_names.specs.Wanted.{directory_node, wanted_entries, wanted_nodes, wanted_parents, with_parent}
use Rattle.xfs_names.specs.declared.building.BuiltDirectory.{BuiltDirectory}
use Rattle.xfs_names.specs.declared.records.WantedNames.{WantedNames}
use Rattle.xfs_naming.specs.Naming.{entries_in, file_at}
use Rattle.xfs_views.proofs.Members.{Member, any_member, filter_member, map_member, member_any, member_filter, member_map}
use Rattle.xfs_salvage.specs.declared.found.Salvaged.{Salvaged}
use Rattle.xfs_rename.specs.xfs_request.Fresh.{new_root_core, new_system_core}
use Rattle.xfs_rename.specs.xfs_request.Slots.{links_due, wanted_slots}
use Rattle.xfs_rename.proofs.xfs_made.Taken.{among_member}
use Rattle.xfs_rename.specs.xfs_scan.declared.evidence.Evidence.{Evidence}
use Rattle.xfs_volume.specs.Names.{is_directory, type_of}
use Rattle.xfs_volume.specs.declared.directories.DirRec.{DirRec}
use Rattle.xfs_volume.specs.declared.files.FileRec.{FileRec}
use Rattle.xfs_rename.specs.xfs_rebuild.Names.{due_files, linked_file, linked_files, made_files, new_file}
use Rattle.xfs_rename.specs.xfs_rebuild.declared.names_due.NamesDue.{NamesDue}
use Rattle.xfs_restored.specs.DueFiles.{new_core}
use Rattle.xfs_rename.specs.xfs_changes.Forks.{attribute_blocks, attribute_blocks_at, first_attribute_blocks, fork_listed, forks_of}
use Rattle.xfs_rename.specs.Lost.{lost_due}
use Rattle.xfs_rename.specs.xfs_changes.Nodes.{nodes_of_files}
use Rattle.xfs_rename.specs.xfs_built.Asks.{stands_in_blocks}
use Rattle.xfs_rename.specs.Renames.{old_files, placed_forks}
use Rattle.xfs_rename.specs.Settled.{is_old, staying_file, staying_files, without_data}
use Rattle.xfs_rename.specs.xfs_changes.Slots.{first_fork, first_links, fork_at, links_held_at}
use Rattle.xfs_rename.specs.xfs_changes.declared.forks.DirectoryFork.{DirectoryFork}
use Rattle.xfs_rename.specs.xfs_changes.declared.lost_found.Lost.{Lost}
use Rattle.xfs_rename.specs.declared.planning.Renamed.{Renamed}
use Rattle.xfs_restored.proofs.ForkRuns.{forks_go}
use Rattle.xfs_rename.specs.xfs_built.Directories.{BuiltRuns, asks_of_built, built_runs, runs_of_built, with_runs}
use Rattle.xfs_restored.specs.RunForks.{fork_of_runs}
use Rattle.xfs_restored.specs.Relinking.{IsRelinked, built_at, first_built}
use Rattle.xfs_restored.proofs.WantedLists.{all_stay, at_first, at_none, filter_map, mades_gone, none_other}
use Rattle.xfs_restored.proofs.WantedNumbers.{file_cases, file_not_lost, fresh_is_not_lost, fresh_none, fresh_there, kept_alone, kept_there, lost_node, node_cases}
use Rattle.xfs_restored.proofs.WantedSlots.{made_is}

-- directories with their runs have the numbers of the directories
numbers_if : (t : Bool) (b : BuiltDirectory) (mine : List Run) (some none : List BuiltRuns) (numbers : List ℕ) → map (λ (p : BuiltRuns). p.directory.ino) some ≡ numbers
    → map (λ (p : BuiltRuns). p.directory.ino) none ≡ numbers → map (λ (p : BuiltRuns). p.directory.ino) (if t then built_runs b mine ∷ some else built_runs b [] ∷ none) ≡ b.ino ∷ numbers
numbers_if true b mine some none numbers one two = ap (λ (ns : List ℕ). b.ino ∷ ns) one
numbers_if false b mine some none numbers one two = ap (λ (ns : List ℕ). b.ino ∷ ns) two

runs_numbers : (built : List BuiltDirectory) (cuts : List ℕ) (runs : List Run) → map (λ (p : BuiltRuns). p.directory.ino) (with_runs built cuts runs) ≡ map (λ (b : BuiltDirectory). b.ino) built
unfolding with_runs
runs_numbers [] cuts runs = refl
runs_numbers (b ∷ bs) cuts runs =
    numbers_if (stands_in_blocks b) b (take (runs_of_built b cuts) runs) (with_runs bs (drop (asks_of_built b) cuts) (drop (runs_of_built b cuts) runs)) (with_runs bs cuts runs)
    (map (λ (x : BuiltDirectory). x.ino) bs) (runs_numbers bs (drop (asks_of_built b) cuts) (drop (runs_of_built b cuts) runs)) (runs_numbers bs cuts runs)

-- the first of them with a number, its fork among theirs, and none where the number is none of theirs
first_of_some : (ds : List BuiltRuns) (d : BuiltRuns) → first_built ds ≡ Some d → Member d ds
first_of_some [] d is = absurd cc
first_of_some (x ∷ xs) d is = let same : x ≡ d = cc in inl same

some_first : (d : BuiltRuns) (ds : List BuiltRuns) → Member d ds → (x : BuiltRuns) × (first_built ds ≡ Some x)
some_first d [] is = absurd is
some_first d (x ∷ xs) is = (x, refl)

pub built_found : (ds : List BuiltRuns) (ino : ℕ) (d : BuiltRuns) → built_at ds ino ≡ Some d → Member d ds × (d.directory.ino ≡ ino)
built_found ds ino d is =
    let found = filter_member (λ (x : BuiltRuns). x.directory.ino == ino) d ds (first_of_some (filter (λ (x : BuiltRuns). x.directory.ino == ino) ds) d is) in
    (found.0, eqb-true d.directory.ino ino found.1)

pub built_some : (ds : List BuiltRuns) (ino : ℕ) → Member ino (map (λ (p : BuiltRuns). p.directory.ino) ds) → (d : BuiltRuns) × (built_at ds ino ≡ Some d)
built_some ds ino is =
    let one = map_member (λ (p : BuiltRuns). p.directory.ino) ino ds is in
    some_first one.0 (filter (λ (x : BuiltRuns). x.directory.ino == ino) ds)
    (member_filter (λ (x : BuiltRuns). x.directory.ino == ino) one.0 ds one.1 (eq-eqb one.0.directory.ino ino one.2))

pub built_none : (ds : List BuiltRuns) (ino : ℕ) → (Member ino (map (λ (p : BuiltRuns). p.directory.ino) ds) → ⊥) → built_at ds ino ≡ None
built_none ds ino out = by_case (built_at ds ino) refl
  where
    by_case : (o : Option BuiltRuns) → built_at ds ino ≡ o → built_at ds ino ≡ None
    by_case None e = e
    by_case (Some d) e =
        let found = built_found ds ino d e in
        absurd (out (subst (λ (m : ℕ). Member m (map (λ (p : BuiltRuns). p.directory.ino) ds)) found.1 (member_map (λ (p : BuiltRuns). p.directory.ino) d ds found.0)))

module _ (v : Volume) (files : List FileRec) (ino : ℕ) where
  abbrev listed_fork : BuiltRuns → DirectoryFork
  listed_fork p = fork_listed v files p.directory (fork_of_runs v files p)

  abbrev forks_with : List BuiltRuns → List DirectoryFork
  forks_with ds = filter (λ (f : DirectoryFork). f.ino == ino) (map listed_fork ds)

  abbrev built_with : List BuiltRuns → List BuiltRuns
  built_with ds = filter (λ (d : BuiltRuns). d.directory.ino == ino) ds

  forks_found : (ds : List BuiltRuns) → first_fork (forks_with ds) ≡ option_map (fork_of_runs v files) (first_built (built_with ds))
  forks_found [] = refl
  forks_found (d ∷ ds) = by_case (d.directory.ino == ino) (forks_found ds)
    where
      by_case : (t : Bool) → first_fork (forks_with ds) ≡ option_map (fork_of_runs v files) (first_built (built_with ds))
          → first_fork (cond t (listed_fork d ∷ forks_with ds) (forks_with ds)) ≡ option_map (fork_of_runs v files) (first_built (cond t (d ∷ built_with ds) (built_with ds)))
      by_case true rest = refl
      by_case false rest = rest

  pub fork_found : (built : List BuiltDirectory) (cuts : List ℕ) (runs : List Run)
      → fork_at (forks_of v files built cuts runs) ino ≡ option_map (fork_of_runs v files) (built_at (with_runs built cuts runs) ino)
  fork_found built cuts runs = ap (λ (forks : List DirectoryFork). fork_at forks ino) (forks_go v files built cuts runs) ∙ forks_found (with_runs built cuts runs)

same_number : (rebuilt : List ℕ) (f : FileRec) → (staying_file rebuilt f).ino ≡ f.ino
same_number rebuilt f = by_case (is_among rebuilt f.ino)
  where
    by_case : (t : Bool) → (if t then without_data f else f).ino ≡ f.ino
    by_case true = refl
    by_case false = refl

same_attributes : (rebuilt : List ℕ) (f : FileRec) → attribute_blocks (staying_file rebuilt f) ≡ attribute_blocks f
same_attributes rebuilt f = by_case (is_among rebuilt f.ino)
  where
    by_case : (t : Bool) → attribute_blocks (if t then without_data f else f) ≡ attribute_blocks f
    by_case true = refl
    by_case false = refl

same_links : (rebuilt : List ℕ) (f : FileRec) → (staying_file rebuilt f).core.nlink ≡ f.core.nlink
same_links rebuilt f = by_case (is_among rebuilt f.ino)
  where
    by_case : (t : Bool) → (if t then without_data f else f).core.nlink ≡ f.core.nlink
    by_case true = refl
    by_case false = refl

module _ (g : Geometry) (sector : List ℕ) (s : Stamp) (image now : Image) (e : Evidence) (n : NamesDue) (r : Renamed) (has : IsRelinked g sector s image now e n r) where
  abbrev v : Volume
  v = volume_of g

  abbrev kept : Salvaged
  kept = has.on.kept

  abbrev l : Lost
  l = lost_due g n

  abbrev w : WantedNames
  w = has.is.w

  abbrev old : List FileRec
  old = old_files n has.is.w

  abbrev built : List BuiltRuns
  built = with_runs has.is.built has.is.placed.cuts has.is.placed.runs

  -- the files that were there before are those that are kept
  made_new : (f : FileRec) → Member f (made_files (wanted_slots v s kept has.on.seen)) → is_old n.fresh f ≡ false
  made_new f is =
      let one = made_is v s kept has.on.seen f is in
      let number : one.0 ≡ f.ino = sym (ap (λ (x : FileRec). x.ino) one.1.1) in
      let among : is_among n.fresh f.ino ≡ true =
      ap (λ (ns : List ℕ). is_among ns f.ino) has.due.fresh' ∙ subst (λ (m : ℕ). is_among kept.fresh m ≡ true) number one.1.0 in
      ap not among

  linked_old : (f : FileRec) → Member f (linked_files g.rootino kept) → is_old n.fresh f ≡ true
  linked_old f is =
      let one = map_member (linked_file g.rootino kept) f kept.files is in
      let number : one.0.ino ≡ f.ino = ap (λ (x : FileRec). x.ino) one.2 in
      not_from_false (is_among n.fresh f.ino)
      (ap (λ (ns : List ℕ). is_among ns f.ino) has.due.fresh'
      ∙ false_from_ne_true (is_among kept.fresh f.ino) (λ fresh.
      let none = fresh_none g sector s image now e n r has f.ino (among_member f.ino kept.fresh fresh) in
      subst (λ (fs : List FileRec). Member one.0 fs) none (member_filter (λ (x : FileRec). x.ino == f.ino) one.0 kept.files one.1 (eq-eqb one.0.ino f.ino number))))

  pub old_are : old ≡ map (staying_file has.is.w.rebuilt) (linked_files g.rootino kept)
  unfolding staying_files due_files
  old_are =
      ap (λ (fs : List FileRec). map (staying_file has.is.w.rebuilt) (filter (is_old n.fresh) fs)) has.due.files'
      ∙ ap (map (staying_file has.is.w.rebuilt))
      (mades_gone (is_old n.fresh) (made_files (wanted_slots v s kept has.on.seen)) (linked_files g.rootino kept) made_new
      ∙ all_stay (is_old n.fresh) (linked_files g.rootino kept) linked_old)

  old_at : (ino : ℕ) → filter (λ (x : FileRec). x.ino == ino) old
      ≡ map (staying_file has.is.w.rebuilt) (map (linked_file g.rootino kept) (filter (λ (x : FileRec). x.ino == ino) kept.files))
  old_at ino =
      ap (filter (λ (x : FileRec). x.ino == ino)) old_are
      ∙ (filter_map (staying_file has.is.w.rebuilt) (same_number has.is.w.rebuilt) ino (linked_files g.rootino kept)
      ∙ ap (map (staying_file has.is.w.rebuilt)) (filter_map (linked_file g.rootino kept) (λ f. refl) ino kept.files))

  old_one : (f : FileRec) → Member f kept.files → filter (λ (x : FileRec). x.ino == f.ino) old ≡ staying_file has.is.w.rebuilt (linked_file g.rootino kept f) ∷ []
  old_one f is =
      old_at f.ino
      ∙ ap (λ (fs : List FileRec). map (staying_file has.is.w.rebuilt) (map (linked_file g.rootino kept) fs)) (kept_alone g sector s image now e n r has f is)

  old_none : (ino : ℕ) → filter (λ (x : FileRec). x.ino == ino) kept.files ≡ [] → filter (λ (x : FileRec). x.ino == ino) old ≡ []
  old_none ino none =
      old_at ino ∙ ap (λ (fs : List FileRec). map (staying_file has.is.w.rebuilt) (map (linked_file g.rootino kept) fs)) none

  pub own_attributes : (f : FileRec) → Member f kept.files → attribute_blocks_at old f.ino ≡ attribute_blocks f
  own_attributes f is = ap first_attribute_blocks (old_one f is) ∙ same_attributes has.is.w.rebuilt (linked_file g.rootino kept f)

  pub no_attributes : (ino : ℕ) → file_at kept.files ino ≡ None → attribute_blocks_at old ino ≡ 0
  no_attributes ino none = ap first_attribute_blocks (old_none ino (at_none kept.files ino none))

  pub own_links : (f : FileRec) → Member f kept.files → links_held_at old f.ino ≡ Some (links_due g.rootino kept.files kept.entries f)
  own_links f is =
      ap first_links (old_one f is) ∙ ap (λ (k : ℕ). Some k) (same_links has.is.w.rebuilt (linked_file g.rootino kept f))

  pub no_links : (ino : ℕ) → filter (λ (x : FileRec). x.ino == ino) kept.files ≡ [] → links_held_at old ino ≡ None
  no_links ino none = ap first_links (old_none ino none)

  -- the numbers of the new ones are those of no kept file
  pub lost_none : filter (λ (x : FileRec). x.ino == l.new) kept.files ≡ []
  lost_none =
      none_other kept.files l.new (λ f is same. file_not_lost g sector s image now e n r has (linked_file g.rootino kept f) (kept_there g sector s image now e n r has f is) (sym same))

  pub lost_not_kept : l.made ≡ true → file_at kept.files l.new ≡ None
  lost_not_kept made = at_first kept.files l.new [] lost_none

  pub lost_not_fresh : l.made ≡ true → Member l.new kept.fresh → ⊥
  lost_not_fresh made is = fresh_is_not_lost g sector s image now e n r has l.new is refl

  -- the forks of directories that are built anew
  pub fork_is : (ino : ℕ) → fork_at (placed_forks g n has.is.w has.is.built has.is.placed) ino ≡ option_map (fork_of_runs v old) (built_at built ino)
  fork_is ino = fork_found v old ino has.is.built has.is.placed.cuts has.is.placed.runs

  numbers_are : map (λ (p : BuiltRuns). p.directory.ino) built ≡ has.is.w.rebuilt
  numbers_are = runs_numbers has.is.built has.is.placed.cuts has.is.placed.runs ∙ has.is.names.numbers

  pub built_is : (ino : ℕ) (d : BuiltRuns) → built_at built ino ≡ Some d → Member d built × (d.directory.ino ≡ ino) × (is_among has.is.w.rebuilt ino ≡ true)
  built_is ino d is =
      let found = built_found built ino d is in
      let among : Member ino has.is.w.rebuilt =
      subst (Member ino) numbers_are
      (subst (λ (m : ℕ). Member m (map (λ (p : BuiltRuns). p.directory.ino) built)) found.1 (member_map (λ (p : BuiltRuns). p.directory.ino) d built found.0)) in
      (found.0, found.1, member_any (λ (m : ℕ). m == ino) ino has.is.w.rebuilt among (eq-eqb ino ino refl))

  pub built_has : (ino : ℕ) → is_among has.is.w.rebuilt ino ≡ true → (d : BuiltRuns) × (built_at built ino ≡ Some d)
  built_has ino is = built_some built ino (subst (Member ino) (sym numbers_are) (among_member ino has.is.w.rebuilt is))

  pub not_built : (ino : ℕ) → is_among has.is.w.rebuilt ino ≡ false → built_at built ino ≡ None
  not_built ino off =
      built_none built ino (λ is.
      false≢true (sym off ∙ member_any (λ (m : ℕ). m == ino) ino has.is.w.rebuilt (subst (Member ino) numbers_are is) (eq-eqb ino ino refl)))

  -- each number that is rebuilt is that of a directory
  abbrev nodes : List NodeRec
  nodes = nodes_of_files n.files

  abbrev all_nodes : List NodeRec
  all_nodes = wanted_nodes nodes n.entries g.rootino l.new

  abbrev pairs : List (ℕ × ℕ)
  pairs = wanted_parents nodes n.entries g.rootino l.new

  abbrev rebuilds : ℕ × ℕ → Bool
  rebuilds d = is_rebuilt n.entries n.dirs (wanted_entries nodes n.entries g.rootino l.new) d

  pub rebuilt_node : (ino : ℕ) → is_among has.is.w.rebuilt ino ≡ true → (x : NodeRec) × Member x all_nodes × (x.ino ≡ ino) × (x.kind ≡ 4)
  rebuilt_node ino is =
      let one = map_member (λ (d : ℕ × ℕ). d.0) ino (filter rebuilds pairs) (subst (Member ino) has.is.names.wanted.rebuilt' (among_member ino has.is.w.rebuilt is)) in
      let two = filter_member rebuilds one.0 pairs one.1 in
      let three = map_member (with_parent nodes n.entries g.rootino l.new) one.0 (directory_numbers all_nodes) two.0 in
      let four = map_member (λ (f : NodeRec). f.ino) three.0 (filter (λ (f : NodeRec). f.kind == 4) all_nodes) three.1 in
      let five = filter_member (λ (f : NodeRec). f.kind == 4) four.0 all_nodes four.1 in
      (four.0, five.0, four.2 ∙ (ap (λ (q : ℕ × ℕ). q.0) three.2 ∙ one.2), eqb-true four.0.kind 4 five.1)

  pub rebuilt_cases : (ino : ℕ) → is_among has.is.w.rebuilt ino ≡ true
      → ((l.made ≡ true) × (ino ≡ l.new)) ⊎ ((f : FileRec) × Member f n.files × (f.ino ≡ ino) × (type_of f ≡ 4))
  rebuilt_cases ino is =
      let one = rebuilt_node ino is in
      elim (node_cases g sector s image now e n r has one.0 one.1) [
        | inl lost ↦ inl (lost.0, sym (ap (λ (x : NodeRec). x.ino) lost.1 ∙ one.2))
        | inr file ↦ inr (file.0, file.1, ap (λ (x : NodeRec). x.ino) file.2 ∙ one.2, ap (λ (x : NodeRec). x.kind) file.2 ∙ one.3)
      ]

  -- of a kept file
  alone : (f x : FileRec) → Member f kept.files → Member x kept.files → x.ino ≡ f.ino → x ≡ f
  alone f x is other same =
      let there : Member x (f ∷ []) =
      subst (λ (fs : List FileRec). Member x fs) (kept_alone g sector s image now e n r has f is)
      (member_filter (λ (y : FileRec). y.ino == f.ino) x kept.files other (eq-eqb x.ino f.ino same)) in
      elim there [ inl it ↦ sym it | inr none ↦ absurd none ]

  file_kind : (f x : FileRec) → Member f kept.files → Member x n.files → x.ino ≡ f.ino → type_of x ≡ type_of f
  file_kind f x is other same = elim (file_cases g sector s image now e n r has x other) [
    | inl one ↦
        let number : one.0.ino ≡ f.ino = sym (ap (λ (y : FileRec). y.ino) one.2) ∙ same in
        ap type_of one.2 ∙ ap type_of (alone f one.0 is one.1 number)
    | inr fresh ↦
        absurd (subst (λ (fs : List FileRec). Member f fs) (fresh_none g sector s image now e n r has x.ino fresh.0)
        (member_filter (λ (y : FileRec). y.ino == x.ino) f kept.files is (eq-eqb f.ino x.ino (sym same))))
  ]

  pub kept_built_directory : (f : FileRec) (d : BuiltRuns) → Member f kept.files → built_at built f.ino ≡ Some d → type_of f ≡ 4
  kept_built_directory f d is found =
      let one = rebuilt_node f.ino (built_is f.ino d found).2 in
      elim (node_cases g sector s image now e n r has one.0 one.1) [
        | inl lost ↦
            absurd (file_not_lost g sector s image now e n r has (linked_file g.rootino kept f) (kept_there g sector s image now e n r has f is)
            (ap (λ (x : NodeRec). x.ino) lost.1 ∙ one.2))
        | inr file ↦
            sym (file_kind f file.0 is file.1 (ap (λ (x : NodeRec). x.ino) file.2 ∙ one.2)) ∙ (ap (λ (x : NodeRec). x.kind) file.2 ∙ one.3)
      ]

  -- no system inode is one
  system_kind : (ino : ℕ) → (ino ≡ g.rootino → ⊥) → type_of (new_file ino (new_core v s ino)) ≡ 4 → ⊥
  system_kind ino other is =
      let plain : type_of (new_file ino (new_core v s ino)) ≡ type_of (new_file ino (new_system_core v s ino)) =
      ap (λ (t : Bool). type_of (new_file ino (if t then new_root_core v s else new_system_core v s ino))) (ne_eqb ino v.rootino other) in
      eight (sym plain ∙ is)
    where
      eight : type_of (new_file ino (new_system_core v s ino)) ≡ 4 → ⊥
      eight is = absurd cc

  pub system_not_built : (ino : ℕ) → Member ino kept.fresh → (ino ≡ g.rootino → ⊥) → built_at built ino ≡ None
  system_not_built ino is other =
      not_built ino (false_from_ne_true (is_among has.is.w.rebuilt ino) (λ among.
      let one = rebuilt_node ino among in
      elim (node_cases g sector s image now e n r has one.0 one.1) [
        | inl lost ↦
            file_not_lost g sector s image now e n r has (new_file ino (new_core v s ino)) (fresh_there g sector s image now e n r has ino is)
            (ap (λ (x : NodeRec). x.ino) lost.1 ∙ one.2)
        | inr file ↦
            let number : file.0.ino ≡ ino = ap (λ (x : NodeRec). x.ino) file.2 ∙ one.2 in
            elim (file_cases g sector s image now e n r has file.0 file.1) [
              | inl kept' ↦
                  subst (λ (fs : List FileRec). Member kept'.0 fs) (fresh_none g sector s image now e n r has ino is)
                  (member_filter (λ (y : FileRec). y.ino == ino) kept'.0 kept.files kept'.1
                  (eq-eqb kept'.0.ino ino (sym (ap (λ (y : FileRec). y.ino) kept'.2) ∙ number)))
              | inr fresh ↦
                  system_kind ino other
                  (sym (ap type_of (fresh.1 ∙ ap (λ (m : ℕ). new_file m (new_core v s m)) number)) ∙ (ap (λ (x : NodeRec). x.kind) file.2 ∙ one.3))
            ]
      ]))

  -- a new lost+found is
  dirs_other : (parent : ℕ) → is_whole_with n.dirs l.new parent ≡ false
  dirs_other parent = false_from_ne_true (is_whole_with n.dirs l.new parent) (λ is.
      let one = any_member (λ (d : DirRec). d.ino == l.new && (d.whole && d.parent == parent)) n.dirs is in
      let number : one.0.ino ≡ l.new = eqb-true one.0.ino l.new (first_part (one.0.ino == l.new) (one.0.whole && one.0.parent == parent) one.2) in
      let among : Member one.0.ino (map (λ (f : FileRec). f.ino) (filter is_directory n.files)) =
      subst (Member one.0.ino) has.due.named.directories (member_map (λ (d : DirRec). d.ino) one.0 n.dirs one.1) in
      let file = map_member (λ (f : FileRec). f.ino) one.0.ino (filter is_directory n.files) among in
      file_not_lost g sector s image now e n r has file.0 (filter_member is_directory file.0 n.files file.1).0 (sym (file.2 ∙ number)))
    where
      first_part : (a b : Bool) → (a && b) ≡ true → a ≡ true
      first_part true b is = refl
      first_part false b is = absurd cc

  lost_rebuilt : l.made ≡ true → is_among has.is.w.rebuilt l.new ≡ true
  lost_rebuilt made =
      let pair : ℕ × ℕ = with_parent nodes n.entries g.rootino l.new l.new in
      let entry : Bool = are_right_entries (entries_in n.entries l.new) (entries_in (wanted_entries nodes n.entries g.rootino l.new) l.new) in
      let number : Member l.new (directory_numbers all_nodes) =
      member_map (λ (f : NodeRec). f.ino) (directory_node l.new) (filter (λ (f : NodeRec). f.kind == 4) all_nodes)
      (member_filter (λ (f : NodeRec). f.kind == 4) (directory_node l.new) all_nodes (lost_node g sector s image now e n r has made) refl) in
      let there : Member pair pairs = member_map (with_parent nodes n.entries g.rootino l.new) l.new (directory_numbers all_nodes) number in
      let changes : rebuilds pair ≡ true = ap (λ (t : Bool). not (t && entry)) (dirs_other pair.1) in
      let among : Member l.new has.is.w.rebuilt =
      subst (Member l.new) (sym has.is.names.wanted.rebuilt') (member_map (λ (d : ℕ × ℕ). d.0) pair (filter rebuilds pairs) (member_filter rebuilds pair pairs there changes)) in
      member_any (λ (m : ℕ). m == l.new) l.new has.is.w.rebuilt among (eq-eqb l.new l.new refl)

  pub lost_built : l.made ≡ true → (d : BuiltRuns) × (built_at built l.new ≡ Some d)
  lost_built made = built_has l.new (lost_rebuilt made)
