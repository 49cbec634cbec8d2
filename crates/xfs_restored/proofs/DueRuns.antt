-- What the due files own: what the files that were there before go on to claim, and what was placed for directories.
use Rattle.std.proofs.Common.{◌≡◌, ◌⊎◌, inl, inr, ℕ, Bool, true, false, ◌+◌, ◌==◌, if◌then◌else◌, List, [], ◌∷◌, ◌++◌, map, filter, take, drop, Option, Some, None, is_some, refl, sym, ap, ap₂, ◌∙◌, subst, append-nil, arith}
use Rattle.std.specs.List.{flat_map, sum_by}
use Rattle.std.proofs.lemmas.Bool.{eq-eqb, eqb-true, false≢true, or_cases, or_left, or_right}
use Rattle.std.proofs.lemmas.List.Sums.{sum_by-append}
use Rattle.xfs_disk.specs.Blocks.{Image}
use Rattle.xfs_disk.specs.Lists.{is_among}
use Rattle.xfs_disk.specs.declared.stamp.Stamp.{Stamp}
use Rattle.xfs_geom.specs.Volumes.{Volume, volume_of}
use Rattle.xfs_geom.specs.declared.geometry.Geometry.{Geometry}
use Rattle.xfs_geom.specs.declared.records.Run.{Run}
use Rattle.xfs_laws.specs.Counting.{is_used}
use Rattle.xfs_naming.specs.Naming.{NumbersAscend, file_at, is_in_use, numbers_of}
use Rattle.xfs_names.specs.declared.building.BuiltDirectory.{BuiltDirectory}
use Rattle.xfs_names.specs.declared.records.WantedNames.{WantedNames}
use Rattle.xfs_place.specs.Objects.{ServeAsks, asks_of}
use Rattle.xfs_place.specs.declared.placed.Placed.{Placed}
use Rattle.xfs_views.proofs.Members.{Member, any_member, contained, contains, filter_member, map_member, member_any, member_either, member_left, member_map, member_right}
use Rattle.xfs_space.specs.Owners.{attribute_flag, extent_run, file_runs}
use Rattle.xfs_volume.specs.declared.files.FileRec.{FileRec}
use Rattle.xfs_salvage.specs.declared.found.Salvaged.{Salvaged}
use Rattle.xfs_rename.specs.xfs_request.Chunks.{is_inode_used}
use Rattle.xfs_rename.specs.xfs_request.declared.seen.SlotSeen.{SlotSeen}
use Rattle.xfs_rename.proofs.xfs_made.Taken.{among_member}
use Rattle.xfs_rename.specs.xfs_rebuild.Names as Names
use Rattle.xfs_rename.specs.xfs_rebuild.Names.{linked_files}
use Rattle.xfs_rename.specs.xfs_rebuild.Rebuilds.{Ground}
use Rattle.xfs_rename.specs.xfs_rebuild.declared.names_due.NamesDue.{NamesDue}
use Rattle.xfs_restored.proofs.DueOwners.{mapped_same}
use Rattle.xfs_restored.specs.DueFiles.{stated_crc}
use Rattle.xfs_rename.specs.Lost.{lost_due}
use Rattle.xfs_rename.specs.xfs_built.Asks.{objects_of, stands_in_blocks}
use Rattle.xfs_rename.specs.Renames.{old_files}
use Rattle.xfs_rename.specs.xfs_changes.Rooms.{fork_rooms}
use Rattle.xfs_rename.specs.Settled.{settled, staying_file, without_data}
use Rattle.xfs_rename.specs.xfs_changes.declared.lost_found.Lost.{Lost}
use Rattle.xfs_rename.specs.xfs_built.Directories.{BuiltRuns, asks_of_built, built_runs, runs_of_built, with_runs}
use Rattle.xfs_restored.specs.Numbered.{AreNumbered, IsNumberOf, numbers_linked}
use Rattle.xfs_restored.specs.Relinking.{built_at, built_of, extents_built, file_due, first_built, file_with_links, renamed_files, with_built}
use Rattle.xfs_rename.proofs.xfs_built.NumberedSums.{none_at, one_at, sum_each, sum_flat, sum_mapped, sum_same, sum_two}
use Rattle.xfs_restored.proofs.ServedRuns.{all_served, runs_built}
use Rattle.xfs_restored.proofs.WantedLists.{at_first, at_has}

-- the first of some directories that have a number has it
first_directory : (ino : ℕ) (xs : List BuiltRuns) (x : BuiltRuns) → ((y : BuiltRuns) → Member y xs → y.directory.ino ≡ ino) → first_built xs ≡ Some x → x.directory.ino ≡ ino
first_directory ino [] x each is = absurd cc
first_directory ino (y ∷ ys) x each is = let same : y ≡ x = cc in sym (ap (λ (d : BuiltRuns). d.directory.ino) same) ∙ each y (inl refl)

passing : {X : Type 0} (number : X → ℕ) (ino : ℕ) (xs : List X) (y : X) → Member y (filter (λ (x : X). number x == ino) xs) → number y ≡ ino
passing {X} number ino [] y is = absurd is
passing {X} number ino (x ∷ xs) y is = by_test (number x == ino) refl is (passing number ino xs y)
  where
    by_test : (t : Bool) → (number x == ino) ≡ t → Member y (if t then x ∷ filter (λ (z : X). number z == ino) xs else filter (λ (z : X). number z == ino) xs)
        → (Member y (filter (λ (z : X). number z == ino) xs) → number y ≡ ino) → number y ≡ ino
    by_test true e has rest = elim has [ inl same ↦ sym (ap number same) ∙ eqb-true (number x) ino e | inr there ↦ rest there ]
    by_test false e has rest = rest has

built_at_number : (ds : List BuiltRuns) (ino : ℕ) (x : BuiltRuns) → built_at ds ino ≡ Some x → x.directory.ino ≡ ino
built_at_number ds ino x is = first_directory ino (filter (λ (d : BuiltRuns). d.directory.ino == ino) ds) x (passing (λ (d : BuiltRuns). d.directory.ino) ino ds) is

-- and is one of them
first_built_member : (x : BuiltRuns) (xs : List BuiltRuns) → first_built xs ≡ Some x → Member x xs
first_built_member x [] is = absurd cc
first_built_member x (y ∷ ys) is = let same : y ≡ x = cc in inl same

pub built_member : (ds : List BuiltRuns) (ino : ℕ) (x : BuiltRuns) → built_at ds ino ≡ Some x → Member x ds
built_member ds ino x is =
    (filter_member (λ (d : BuiltRuns). d.directory.ino == ino) x ds (first_built_member x (filter (λ (d : BuiltRuns). d.directory.ino == ino) ds) is)).0

-- directories with their runs have the numbers of the directories
numbers_if : (t : Bool) (b : BuiltDirectory) (mine : List Run) (some none : List BuiltRuns) (ns : List ℕ) → map (λ (d : BuiltRuns). d.directory.ino) some ≡ ns
    → map (λ (d : BuiltRuns). d.directory.ino) none ≡ ns → map (λ (d : BuiltRuns). d.directory.ino) (if t then built_runs b mine ∷ some else built_runs b [] ∷ none) ≡ b.ino ∷ ns
numbers_if true b mine some none ns one two = ap (λ (xs : List ℕ). b.ino ∷ xs) one
numbers_if false b mine some none ns one two = ap (λ (xs : List ℕ). b.ino ∷ xs) two

built_numbers : (built : List BuiltDirectory) (cuts : List ℕ) (runs : List Run) → map (λ (d : BuiltRuns). d.directory.ino) (with_runs built cuts runs) ≡ map (λ (b : BuiltDirectory). b.ino) built
unfolding with_runs
built_numbers [] cuts runs = refl
built_numbers (b ∷ bs) cuts runs =
    numbers_if (stands_in_blocks b) b (take (runs_of_built b cuts) runs) (with_runs bs (drop (asks_of_built b) cuts) (drop (runs_of_built b cuts) runs)) (with_runs bs cuts runs)
    (map (λ (x : BuiltDirectory). x.ino) bs) (built_numbers bs (drop (asks_of_built b) cuts) (drop (runs_of_built b cuts) runs)) (built_numbers bs cuts runs)

-- what is summed of the runs of a due file: of what it goes on to claim, and of what was placed for it
abbrev staying_part : Volume → List ℕ → Option FileRec → List Run
staying_part v rebuilt None = []
staying_part v rebuilt (Some x) = file_runs v (staying_file rebuilt x)

abbrev placed_part : Volume → Option BuiltRuns → List Run
placed_part v None = []
placed_part v (Some d) = runs_built v d

module _ (v : Volume) (s : Stamp) (l : Lost) (seen : List SlotSeen) (crc : ℕ → ℕ) (old : List FileRec) (rebuilt : List ℕ) (f : Run → ℕ) (pair : ℕ × ℕ) where
  abbrev due_runs : Option FileRec → Option BuiltRuns → List Run
  due_runs o b = file_runs v (with_built v old crc (file_with_links v s l seen crc pair o) b)

  due_sum : (o : Option FileRec) (b : Option BuiltRuns) → ((x : FileRec) → o ≡ Some x → x.ino ≡ pair.0) → ((d : BuiltRuns) → b ≡ Some d → d.directory.ino ≡ pair.0)
      → is_among rebuilt pair.0 ≡ is_some b → sum_by f (due_runs o b) ≡ sum_by f (staying_part v rebuilt o) + sum_by f (placed_part v b)
  due_sum None None own mine among = refl
  due_sum None (Some d) own mine among =
      let es : ℕ → List Run = λ ino. map (extent_run v ino 0) (extents_built v d) in
      let same : sum_by f (es pair.0 ++ [] ++ []) ≡ sum_by f (es d.directory.ino) =
      ap (sum_by f) (append-nil (es pair.0 ++ []) ∙ append-nil (es pair.0)) ∙ ap (λ (ino : ℕ). sum_by f (es ino)) (sym (mine d refl)) in
      let none : sum_by f [] ≡ 0 = refl in
      omega (arith, same, none)
  due_sum (Some x) None own mine among =
      let off : is_among rebuilt x.ino ≡ false = ap (is_among rebuilt) (own x refl) ∙ among in
      let stays : sum_by f (file_runs v (staying_file rebuilt x)) ≡ sum_by f (file_runs v x) = ap (λ (t : Bool). sum_by f (file_runs v (if t then without_data x else x))) off in
      let none : sum_by f [] ≡ 0 = refl in
      omega (arith, stays, none)
  due_sum (Some x) (Some d) own mine among =
      let on : is_among rebuilt x.ino ≡ true = ap (is_among rebuilt) (own x refl) ∙ among in
      let attributes : List Run = map (extent_run v x.ino attribute_flag) x.rest.attr_extents in
      let es : ℕ → List Run = λ ino. map (extent_run v ino 0) (extents_built v d) in
      let stays : sum_by f (file_runs v (staying_file rebuilt x)) ≡ sum_by f attributes =
      ap (λ (t : Bool). sum_by f (file_runs v (if t then without_data x else x))) on ∙ ap (sum_by f) (append-nil attributes) in
      let whole : sum_by f (es x.ino ++ attributes ++ []) ≡ sum_by f (es x.ino) + sum_by f attributes =
      ap (sum_by f) (append-nil (es x.ino ++ attributes)) ∙ sum_by-append f (es x.ino) attributes in
      let same : sum_by f (es x.ino) ≡ sum_by f (es d.directory.ino) = ap (λ (ino : ℕ). sum_by f (es ino)) (own x refl ∙ sym (mine d refl)) in
      omega (arith, stays, whole, same)

  due_number : (o : Option FileRec) (b : Option BuiltRuns) → ((x : FileRec) → o ≡ Some x → x.ino ≡ pair.0) → (with_built v old crc (file_with_links v s l seen crc pair o) b).ino ≡ pair.0
  due_number None None own = refl
  due_number None (Some d) own = refl
  due_number (Some x) None own = own x refl
  due_number (Some x) (Some d) own = own x refl

same_tests : (a b : Bool) → (a ≡ true → b ≡ true) → (b ≡ true → a ≡ true) → a ≡ b
same_tests true b to from = sym (to refl)
same_tests false true to from = absurd (false≢true (from refl))
same_tests false false to from = refl

module _ (g : Geometry) (s : Stamp) (now : Image) (on : Ground) (n : NamesDue) (w : WantedNames) (built : List BuiltDirectory) (p : Placed)
    (fresh : n.fresh ≡ on.kept.fresh)
    (numbers : map (λ (b : BuiltDirectory). b.ino) built ≡ w.rebuilt) (ascend : NumbersAscend 0 w.rebuilt)
    (serve : ServeAsks (asks_of (objects_of (fork_rooms w.rebuilt n.files) built)) p.cuts p.runs)
    (has : AreNumbered g.rootino on.kept (lost_due g n) w (old_files n w)) where
  abbrev v : Volume
  v = volume_of g

  abbrev l : Lost
  l = lost_due g n

  abbrev kept : Salvaged
  kept = on.kept

  abbrev crc : ℕ → ℕ
  crc = stated_crc v now

  abbrev old : List FileRec
  old = old_files n w

  abbrev ds : List BuiltRuns
  ds = built_of g s now on n w built p

  abbrev due : ℕ × ℕ → FileRec
  due = file_due g s now on n w built p

  abbrev files : List FileRec
  files = renamed_files g s now on n w built p

  abbrev after : Salvaged
  after = settled n l w

  numbers_are : map (λ (d : BuiltRuns). d.directory.ino) ds ≡ w.rebuilt
  numbers_are = built_numbers built p.cuts p.runs ∙ numbers

  directories_up : NumbersAscend 0 (map (λ (d : BuiltRuns). d.directory.ino) ds)
  directories_up = subst (NumbersAscend 0) (sym numbers_are) ascend

  -- a directory is found where it is built anew
  built_here : (d : BuiltRuns) → Member d ds → built_at ds d.directory.ino ≡ Some d
  built_here d is = ap first_built (one_at (λ (x : BuiltRuns). x.directory.ino) 0 d ds directories_up is)

  built_off : (ino : ℕ) → (Member ino w.rebuilt → ⊥) → built_at ds ino ≡ None
  built_off ino off = ap first_built (none_at (λ (x : BuiltRuns). x.directory.ino) ino ds (λ is. off (subst (Member ino) numbers_are is)))

  pub among_built : (ino : ℕ) → is_among w.rebuilt ino ≡ is_some (built_at ds ino)
  among_built ino = by_test (is_among w.rebuilt ino) refl
    where
      by_test : (t : Bool) → is_among w.rebuilt ino ≡ t → t ≡ is_some (built_at ds ino)
      by_test true is =
          let one = map_member (λ (d : BuiltRuns). d.directory.ino) ino ds (subst (Member ino) (sym numbers_are) (among_member ino w.rebuilt is)) in
          sym (ap (λ (k : ℕ). is_some (built_at ds k)) (sym one.2) ∙ ap is_some (built_here one.0 one.1))
      by_test false is =
          sym (ap is_some (built_off ino (λ there. false≢true (sym is ∙ member_any (λ (m : ℕ). m == ino) ino w.rebuilt there (eq-eqb ino ino refl)))))

  module _ (f : Run → ℕ) where
    abbrev A : ℕ → ℕ
    A ino = sum_by f (staying_part v w.rebuilt (file_at kept.files ino))

    abbrev B : ℕ → ℕ
    B ino = sum_by f (placed_part v (built_at ds ino))

    each_pair : (pair : ℕ × ℕ) → sum_by f (file_runs v (due pair)) ≡ A pair.0 + B pair.0
    each_pair pair =
        due_sum v s l on.seen crc old w.rebuilt f pair (file_at kept.files pair.0) (built_at ds pair.0) (λ x is. (at_has kept.files pair.0 x is).1) (λ d is. built_at_number ds pair.0 d is)
        (among_built pair.0)

    -- the files that stay
    staying_sum : sum_by A (numbers_linked w) ≡ sum_by f (flat_map (file_runs v) old)
    staying_sum =
        sum_same A 0 (numbers_linked w) (numbers_of kept.files) has.up has.kept_up
        (λ ino is. contained ino (numbers_linked w) (has.each ino (inl (contains ino (numbers_of kept.files) is))))
        (λ ino is off. ap (λ (o : Option FileRec). sum_by f (staying_part v w.rebuilt o)) (at_first kept.files ino [] (none_at (λ (x : FileRec). x.ino) ino kept.files off)))
        ∙ (sum_mapped A (λ (x : FileRec). x.ino) kept.files
        ∙ (sum_each (λ (x : FileRec). A x.ino) (λ (x : FileRec). sum_by f (file_runs v (staying_file w.rebuilt x))) kept.files
        (λ x is. ap (λ (o : Option FileRec). sum_by f (staying_part v w.rebuilt o)) (at_first kept.files x.ino (x ∷ []) (one_at (λ (y : FileRec). y.ino) 0 x kept.files has.kept_up is)))
        ∙ (sym (sum_flat f (λ (x : FileRec). file_runs v (staying_file w.rebuilt x)) kept.files) ∙ ap (sum_by f) (sym old_runs))))
      where
        one_old : (x : FileRec) → file_runs v (staying_file w.rebuilt (Names.linked_file g.rootino kept x)) ≡ file_runs v (staying_file w.rebuilt x)
        one_old x = by_among (is_among w.rebuilt x.ino)
          where
            by_among : (t : Bool) → file_runs v (if t then without_data (Names.linked_file g.rootino kept x) else Names.linked_file g.rootino kept x) ≡ file_runs v (if t then without_data x else x)
            by_among true = refl
            by_among false = refl

        old_runs : flat_map (file_runs v) old ≡ flat_map (λ (x : FileRec). file_runs v (staying_file w.rebuilt x)) kept.files
        old_runs =
            ap (flat_map (file_runs v)) has.old'
            ∙ (mapped_same (file_runs v) (λ (x : FileRec). file_runs v (staying_file w.rebuilt x)) (staying_file w.rebuilt) (linked_files g.rootino kept) (λ x is. refl)
            ∙ mapped_same (λ (x : FileRec). file_runs v (staying_file w.rebuilt x)) (λ (x : FileRec). file_runs v (staying_file w.rebuilt x)) (Names.linked_file g.rootino kept) kept.files
            (λ x is. one_old x))

    -- what was placed
    placed_sum : sum_by B (numbers_linked w) ≡ sum_by f p.runs
    placed_sum =
        let large = g.shape.groups.large in
        sum_same B 0 (numbers_linked w) (map (λ (d : BuiltRuns). d.directory.ino) ds) has.up directories_up
        (λ ino is. contained ino (numbers_linked w) (has.built ino (contains ino w.rebuilt (subst (Member ino) numbers_are is))))
        (λ ino is off. ap (λ (xs : List BuiltRuns). sum_by f (placed_part v (first_built xs))) (none_at (λ (d : BuiltRuns). d.directory.ino) ino ds off))
        ∙ (sum_mapped B (λ (d : BuiltRuns). d.directory.ino) ds
        ∙ (sum_each (λ (d : BuiltRuns). B d.directory.ino) (λ (d : BuiltRuns). sum_by f (runs_built v d)) ds (λ d is. ap (λ (o : Option BuiltRuns). sum_by f (placed_part v o)) (built_here d is))
        ∙ (sym (sum_flat f (runs_built v) ds)
        ∙ ap (sum_by f) (all_served v (omega (arith, large)) g.shape.addresses.enough (fork_rooms w.rebuilt n.files) built p.cuts p.runs serve))))

    pub files_sum : sum_by f (flat_map (file_runs v) files) ≡ sum_by f (flat_map (file_runs v) old) + sum_by f p.runs
    unfolding renamed_files
    files_sum =
        let whole : sum_by f (flat_map (file_runs v) files) ≡ sum_by A (numbers_linked w) + sum_by B (numbers_linked w) =
        sum_flat f (file_runs v) (map due w.links)
        ∙ (sum_mapped (λ (x : FileRec). sum_by f (file_runs v x)) due w.links
        ∙ (sum_each (λ (pair : ℕ × ℕ). sum_by f (file_runs v (due pair))) (λ (pair : ℕ × ℕ). A pair.0 + B pair.0) w.links (λ pair is. each_pair pair)
        ∙ (sum_two (λ (pair : ℕ × ℕ). A pair.0) (λ (pair : ℕ × ℕ). B pair.0) w.links
        ∙ ap₂ (λ (a b : ℕ). a + b) (sym (sum_mapped A (λ (pair : ℕ × ℕ). pair.0) w.links)) (sym (sum_mapped B (λ (pair : ℕ × ℕ). pair.0) w.links))))) in
        let one = staying_sum in
        let other = placed_sum in
        omega (arith, whole, one, other)

  -- who is used
  pub number_is : (pair : ℕ × ℕ) → (due pair).ino ≡ pair.0
  number_is pair = due_number v s l on.seen crc old w.rebuilt (λ r. 0) pair (file_at kept.files pair.0) (built_at ds pair.0) (λ x is. (at_has kept.files pair.0 x is).1)

  used_linked : (ino : ℕ) → is_used files ino ≡ true → Member ino (numbers_linked w)
  unfolding renamed_files
  used_linked ino used =
      let one = any_member (λ (x : FileRec). x.ino == ino) files used in
      let pair = map_member due one.0 w.links one.1 in
      let same : pair.0.0 ≡ ino = sym (number_is pair.0) ∙ (ap (λ (x : FileRec). x.ino) pair.2 ∙ eqb-true one.0.ino ino one.2) in
      subst (λ (k : ℕ). Member k (numbers_linked w)) same (member_map (λ (q : ℕ × ℕ). q.0) pair.0 w.links pair.1)

  linked_used : (ino : ℕ) → Member ino (numbers_linked w) → is_used files ino ≡ true
  unfolding renamed_files
  linked_used ino is =
      let pair = map_member (λ (q : ℕ × ℕ). q.0) ino w.links is in
      member_any (λ (x : FileRec). x.ino == ino) (due pair.0) files (member_map due pair.0 w.links pair.1) (eq-eqb (due pair.0).ino ino (number_is pair.0 ∙ pair.2))

  -- the files that were there before have the numbers of the kept ones
  old_number : (x : FileRec) → (staying_file w.rebuilt (Names.linked_file g.rootino kept x)).ino ≡ x.ino
  old_number x = by_among (is_among w.rebuilt x.ino)
    where
      by_among : (t : Bool) → (if t then without_data (Names.linked_file g.rootino kept x) else Names.linked_file g.rootino kept x).ino ≡ x.ino
      by_among true = refl
      by_among false = refl

  mapped_numbers : (change : FileRec → FileRec) (xs : List FileRec) → ((x : FileRec) → (change x).ino ≡ x.ino) → numbers_of (map change xs) ≡ numbers_of xs
  mapped_numbers change [] same = refl
  mapped_numbers change (x ∷ xs) same = ap₂ (λ (k : ℕ) (ks : List ℕ). k ∷ ks) (same x) (mapped_numbers change xs same)

  twice_mapped : (xs : List FileRec) → numbers_of (map (staying_file w.rebuilt) (map (Names.linked_file g.rootino kept) xs)) ≡ numbers_of xs
  twice_mapped [] = refl
  twice_mapped (x ∷ xs) = ap₂ (λ (k : ℕ) (ks : List ℕ). k ∷ ks) (old_number x) (twice_mapped xs)

  old_numbers : numbers_of old ≡ numbers_of kept.files
  old_numbers = ap numbers_of has.old' ∙ twice_mapped kept.files

  pub file_used : (ino : ℕ) → Member ino (numbers_of kept.files) → is_in_use old ino ≡ true
  file_used ino is =
      let one = map_member (λ (x : FileRec). x.ino) ino old (subst (Member ino) (sym old_numbers) is) in
      member_any (λ (x : FileRec). x.ino == ino) one.0 old one.1 (eq-eqb one.0.ino ino one.2)

  used_file : (ino : ℕ) → is_in_use old ino ≡ true → Member ino (numbers_of kept.files)
  used_file ino used =
      let one = any_member (λ (x : FileRec). x.ino == ino) old used in
      subst (Member ino) old_numbers (subst (λ (k : ℕ). Member k (numbers_of old)) (eqb-true one.0.ino ino one.2) (member_map (λ (x : FileRec). x.ino) one.0 old one.1))

  made_there : (t : Bool) → t ≡ true → Member l.new (if t then n.fresh ++ l.new ∷ [] else n.fresh)
  made_there true made = member_right l.new n.fresh (l.new ∷ []) (inl refl)
  made_there false made = absurd (false≢true made)

  fresh_there : (ino : ℕ) (t : Bool) → Member ino n.fresh → Member ino (if t then n.fresh ++ l.new ∷ [] else n.fresh)
  fresh_there ino true is = member_left ino n.fresh (l.new ∷ []) is
  fresh_there ino false is = is

  fresh_cases : (ino : ℕ) (t : Bool) → Member ino (if t then n.fresh ++ l.new ∷ [] else n.fresh) → Member ino n.fresh ⊎ ((t ≡ true) × (ino ≡ l.new))
  fresh_cases ino true is = elim (member_either ino n.fresh (l.new ∷ []) is) [
    | inl old_one ↦ inl old_one
    | inr new ↦ elim new [ inl same ↦ inr (refl, sym same) | inr none ↦ absurd none ]
  ]
  fresh_cases ino false is = inl is

  is_there : (ino : ℕ) → Member ino after.fresh → is_among after.fresh ino ≡ true
  is_there ino is = member_any (λ (m : ℕ). m == ino) ino after.fresh is (eq-eqb ino ino refl)

  number_used : (ino : ℕ) → IsNumberOf kept l ino → is_inode_used after ino ≡ true
  number_used ino is = elim is [
    | inl file ↦ or_left (is_in_use old ino) (is_among after.fresh ino) (file_used ino (contained ino (numbers_of kept.files) file))
    | inr rest ↦ elim rest [
      | inl new ↦
          or_right (is_in_use old ino) (is_among after.fresh ino)
          (is_there ino (fresh_there ino l.made (subst (Member ino) (sym fresh) (contained ino kept.fresh new))))
      | inr lost ↦
          or_right (is_in_use old ino) (is_among after.fresh ino)
          (is_there ino (subst (λ (k : ℕ). Member k after.fresh) (sym lost.1) (made_there l.made lost.0)))
    ]
  ]

  pub used_number : (ino : ℕ) → is_inode_used after ino ≡ true → IsNumberOf kept l ino
  used_number ino used = elim (or_cases (is_in_use old ino) (is_among after.fresh ino) used) [
    | inl file ↦ inl (contains ino (numbers_of kept.files) (used_file ino file))
    | inr anew ↦ elim (fresh_cases ino l.made (among_member ino after.fresh anew)) [
      | inl new ↦ inr (inl (contains ino kept.fresh (subst (Member ino) fresh new)))
      | inr lost ↦ inr (inr lost)
    ]
  ]

  pub used_same : (ino : ℕ) → is_used files ino ≡ is_inode_used after ino
  used_same ino =
      same_tests (is_used files ino) (is_inode_used after ino)
      (λ used. number_used ino (has.all ino (contains ino (numbers_linked w) (used_linked ino used))))
      (λ used. linked_used ino (contained ino (numbers_linked w) (has.each ino (used_number ino used))))
