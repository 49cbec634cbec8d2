-- The names of a new volume keep their laws.
use Rattle.std.proofs.Common.{◌≡◌, ◌≢◌, ℕ, zero, suc, ◌+◌, ◌/◌, ◌^◌, ◌==◌, ◌≤◌, ◌<◌, ◌⊎◌, inl, inr, Bool, true, false, cond, List, [], ◌∷◌, length, count_by, map, get_or, Some, None, refl, sym, subst, ap, ◌∙◌, arith}
use Rattle.std.specs.List.{All, Any, flat_map}
use Rattle.std.proofs.lemmas.Bool.{cases_eq, cases_lt, eq-eqb, eqb-true}
use Rattle.std.proofs.lemmas.List.Elements.{All-map}
use Rattle.std.proofs.lemmas.List.Sums.{length-filter}
use Rattle.xfs_dirdata.specs.declared.records.EntryRec.{EntryRec}
use Rattle.xfs_geom.specs.Volumes.{Volume}
use Rattle.xfs_naming.specs.Lawful.{HasLawfulEntries, HasLawfulLinks, HasLawfulPlaces, IsDirectory, IsNamingLawful, IsOrdinary, IsOther, IsReached, IsSystemFile}
use Rattle.xfs_naming.specs.Naming.{AreGrouped, AreNamed, entries_in, entries_to, is_directory_at as names_directory, naming_laws}
use Rattle.xfs_volume.specs.Laws.{AreKept}
use Rattle.xfs_volume.specs.Names.{entry_type, is_name, type_of}
use Rattle.xfs_volume.specs.declared.directories.DirRec.{DirRec}
use Rattle.xfs_volume.specs.declared.files.FileRec.{FileRec}
use Rattle.xfs_proto.specs.declared.protofile.ProtoKind.{ProtoKind}
use Rattle.xfs_proto.specs.declared.protofile.ProtoKind.TheVariants as Kind
use Rattle.xfs_proto.specs.declared.protofile.ProtoNode.{ProtoNode}
use Rattle.xfs_filled.specs.Directories.{made_directory_at, made_directory}
use Rattle.xfs_filled.specs.Entries.{directories_in, entries_at, entry_of_place, parent_of_place}
use Rattle.xfs_filled.specs.FileTrees.{AreProtoNodes, child_places, is_directory_node, is_directory_kind, node_at, type_of_kind}
use Rattle.xfs_filled.specs.Numbers.{number_of}
use Rattle.xfs_filled.specs.Slots.{links_of_made}
use Rattle.xfs_built.proofs.NamingKept.{naming_kept}
use Rattle.xfs_populated.specs.Names.{HasFileNumbers}
use Rattle.xfs_populated.specs.Populated.{directory_due, dirs_due, filled_entries}
use Rattle.xfs_populated.proofs.NameLists.{contains_map, list_passes, map_both, same_pass}
use Rattle.xfs_populated.proofs.NamedEntries as Entries
use Rattle.xfs_populated.proofs.NamedFiles as Files
use Rattle.xfs_populated.proofs.NamedFiles.{StatesFiles}
use Rattle.xfs_populated.proofs.NamedPlaces.{IsNamedPlace, child_inside, directories, directories_are, directories_inside, has_directory}

entry_directory : (kind : ProtoKind) → (entry_type (type_of_kind kind) == 2) ≡ is_directory_kind kind
unfolding entry_type
entry_directory (Kind.Regular name line) = refl
entry_directory Kind.Directory = refl
entry_directory (Kind.Link target) = refl
entry_directory (Kind.Block major minor) = refl
entry_directory (Kind.Character major minor) = refl
entry_directory Kind.Pipe = refl

module _ (v : Volume) (starts : List ℕ) (ns : List ProtoNode) (fs : AreProtoNodes ns) (numbers : HasFileNumbers v starts (length ns)) (file : ℕ → FileRec) (first second : FileRec)
    (states : StatesFiles v starts ns file first second) (links : (k : ℕ) → k < length ns → (file k).core.nlink ≡ links_of_made (made_directory_at v starts ns k)) where
  abbrev number : ℕ → ℕ
  number = number_of v starts

  abbrev files : List FileRec
  files = Files.all v starts ns fs numbers file first second states

  abbrev entries : List EntryRec
  entries = Entries.all_named v starts ns fs numbers

  abbrev due : ℕ → DirRec
  due = directory_due v starts ns

  abbrev dirs : List DirRec
  dirs = map due (directories ns)

  some_files : 0 < length ns
  some_files = let some = fs.some in omega (arith, some)

  -- equal numbers are those of one place
  one_place : (i j : ℕ) → i < length ns → j < length ns → number i ≡ number j → i ≡ j
  one_place i j low few same = elim (cases_eq i j) [
    | inl is ↦ is
    | inr other ↦ absurd (Entries.number_differs v starts ns fs numbers i j low few other same)
  ]

  parent_low : (i : ℕ) → 1 ≤ i → i < length ns → (node_at ns i).parent < length ns
  parent_low i some low = let before = (fs.below i some low).behind in omega (arith, before, low)

  names_apart : (i j : ℕ) → IsNamedPlace ns i → IsNamedPlace ns j → i ≢ j → number (node_at ns i).parent ≡ number (node_at ns j).parent → (node_at ns i).name ≢ (node_at ns j).name
  names_apart i j one two differ same_dir same_name =
      let parents : (node_at ns i).parent ≡ (node_at ns j).parent =
      one_place (node_at ns i).parent (node_at ns j).parent (parent_low i one.0 one.1) (parent_low j two.0 two.1) same_dir in
      elim (cases_lt i j) [
        | inl less ↦ fs.names i j one.0 less two.1 parents same_name
        | inr more ↦ fs.names j i two.0 (omega (arith, more, differ)) one.1 (sym parents) (sym same_name)
      ]

  lawful_entries : HasLawfulEntries 128 files entries dirs
  lawful_entries = record {
    whole = All-map (λ (d : DirRec). d.whole ≡ true) due (directories ns) (λ m d low. refl);
    valid = Entries.all_entries v starts ns fs numbers (λ (e : EntryRec). is_name e.name ≡ true) (λ i some low. (fs.below i some low).name);
    differ = Entries.all_pairs v starts ns fs numbers (λ (a b : EntryRec). a.dir ≡ b.dir → a.name ≢ b.name) names_apart;
    in_use =
        Entries.all_entries v starts ns fs numbers (λ (e : EntryRec). Any (λ (f : FileRec). f.ino ≡ e.ino) files) (λ i some low.
        Files.any_file v starts ns fs numbers file first second states (λ (f : FileRec). f.ino ≡ number i) i low (states.ino i));
    ordinary =
        Entries.all_entries v starts ns fs numbers (λ (e : EntryRec). IsOrdinary 128 e.ino) (λ i some low.
        (Files.other_first v starts ns fs numbers file first second states i low, Files.other_second v starts ns fs numbers file first second states i low));
    types =
        Entries.all_entries v starts ns fs numbers (λ (e : EntryRec). (e.ftype ≡ 0) ⊎ Any (λ (f : FileRec). (f.ino ≡ e.ino) × (e.ftype ≡ entry_type (type_of f))) files) (λ i some low.
        inr (Files.any_file v starts ns fs numbers file first second states (λ (f : FileRec). (f.ino ≡ number i) × (entry_type ((node_at ns i).mode / 2 ^ 12) ≡ entry_type (type_of f))) i low
        (states.ino i, ap entry_type (fs.types i low ∙ sym (states.type' i low)))));
  }

  any_directory : (P : DirRec → Type 0) (k : ℕ) → k < length ns → is_directory_node ns k ≡ true → P (due k) → Any P dirs
  any_directory P k low is holds = let at = contains_map due k (directories ns) (has_directory ns k low is) in (at.0, due k, at.1, at.2, holds)

  all_directories : (P : DirRec → Type 0) → ((k : ℕ) → k < length ns → is_directory_node ns k ≡ true → P (due k)) → All P dirs
  all_directories P each =
      All-map P due (directories ns) (λ m d low. each (get_or (directories ns) m d) (directories_inside ns m d low) (directories_are ns m d low))

  is_directory_type : (k : ℕ) → k < length ns → is_directory_node ns k ≡ true → IsDirectory (file k)
  is_directory_type k low is = eqb-true (type_of (file k)) 4 (Files.is_one v starts ns fs numbers file first second states k low ∙ is)

  named_behind : (P : FileRec → Type 0) → ((k : ℕ) → 1 ≤ k → k < length ns → P (file k)) → (k : ℕ) → k < length ns → IsOther (file k) → P (file k)
  named_behind P each zero low other = absurd (other (is_directory_type 0 low fs.root))
  named_behind P each (suc k) low other = each (suc k) (omega arith) low

  once_due : (k : ℕ) → k < length ns → number k ≢ 128 → length (entries_to entries (number k)) ≡ 1
  once_due zero low other = absurd (other numbers.root)
  once_due (suc k) low other = Entries.named_once v starts ns fs numbers (suc k) (omega arith) low

  lawful_places : HasLawfulPlaces 128 files entries dirs
  lawful_places = record {
    root_directory =
        Files.any_file v starts ns fs numbers file first second states (λ (f : FileRec). (f.ino ≡ 128) × IsDirectory f) 0 some_files
        (states.ino 0 ∙ numbers.root, is_directory_type 0 some_files fs.root);
    root_unnamed =
        Entries.all_entries v starts ns fs numbers (λ (e : EntryRec). e.ino ≢ 128) (λ i some low same. let high = numbers.behind i some low in omega (arith, high, same));
    root_parent = any_directory (λ (d : DirRec). (d.ino ≡ 128) × (d.parent ≡ 128)) 0 some_files fs.root (numbers.root, ap number fs.itself ∙ numbers.root);
    once = all_directories (λ (d : DirRec). d.ino ≢ 128 → length (entries_to entries d.ino) ≡ 1) (λ k low is. once_due k low);
    by_parent =
        Entries.all_entries v starts ns fs numbers (λ (e : EntryRec). names_directory files e.ino ≡ true → Any (λ (d : DirRec). (d.ino ≡ e.ino) × (d.parent ≡ e.dir)) dirs) (λ i some low is.
        any_directory (λ (d : DirRec). (d.ino ≡ number i) × (d.parent ≡ number (node_at ns i).parent)) i low
        (sym (Files.directory_is v starts ns fs numbers file first second states i low) ∙ is) (refl, refl));
    reached =
        all_directories (λ (d : DirRec). IsReached entries 128 d.ino) (λ k low is.
        subst (λ (r : ℕ). IsReached entries r (number k)) numbers.root (Entries.reached v starts ns fs numbers (suc k) k (omega arith) low));
    named =
        Files.all_files v starts ns fs numbers file first second states (λ (f : FileRec). IsOther f → IsOrdinary 128 f.ino → Any (λ (e : EntryRec). e.ino ≡ f.ino) entries)
        (λ other plain. absurd (plain.0 states.first'.number))
        (λ other plain. absurd (plain.1 states.second'.number))
        (λ k low other plain.
        named_behind (λ (f : FileRec). Any (λ (e : EntryRec). e.ino ≡ f.ino) entries)
        (λ m some few. Entries.any_entry v starts ns fs numbers (λ (e : EntryRec). e.ino ≡ (file m).ino) m some few (sym (states.ino m))) k low other);
  }

  -- as many links as names
  made_links : (k : ℕ) → is_directory_node ns k ≡ true → links_of_made (made_directory_at v starts ns k) ≡ 2 + directories_in (entries_at v starts ns k)
  made_links k is = ap (λ (t : Bool). links_of_made (cond t (Some (made_directory (entries_at v starts ns k) (number k) (parent_of_place v starts ns k))) None)) is

  one_link : (k : ℕ) → is_directory_node ns k ≡ false → links_of_made (made_directory_at v starts ns k) ≡ 1
  one_link k is = ap (λ (t : Bool). links_of_made (cond t (Some (made_directory (entries_at v starts ns k) (number k) (parent_of_place v starts ns k))) None)) is

  types_alike : (i : ℕ) → i < length ns → names_directory files (number i) ≡ (entry_type ((node_at ns i).mode / 2 ^ 12) == 2)
  types_alike i low =
      Files.directory_is v starts ns fs numbers file first second states i low
      ∙ (sym (entry_directory (node_at ns i).kind) ∙ ap (λ (n : ℕ). entry_type n == 2) (sym (fs.types i low)))

  counted : (k : ℕ) → k < length ns → is_directory_node ns k ≡ true → count_by (λ (e : EntryRec). names_directory files e.ino) (entries_in entries (number k)) ≡ directories_in (entries_at v starts ns k)
  counted k low is =
      ap (count_by (λ (e : EntryRec). names_directory files e.ino)) (Entries.own_entries v starts ns fs numbers k low is)
      ∙ (sym (length-filter (λ (e : EntryRec). names_directory files e.ino) (entries_at v starts ns k))
      ∙ ap length (same_pass (λ (e : EntryRec). names_directory files e.ino) (λ (e : EntryRec). e.ftype == 2) (entries_at v starts ns k)
      (All-map (λ (e : EntryRec). names_directory files e.ino ≡ (e.ftype == 2)) (entry_of_place v starts ns) (child_places ns k)
      (λ m d few. types_alike (get_or (child_places ns k) m d) (child_inside ns k m d few).1))))

  of_directory : (k : ℕ) → k < length ns → IsDirectory (file k)
      → (file k).core.nlink ≡ 2 + count_by (λ (e : EntryRec). names_directory files e.ino) (entries_in entries (file k).ino)
  of_directory k low is =
      let dir : is_directory_node ns k ≡ true = sym (Files.is_one v starts ns fs numbers file first second states k low) ∙ eq-eqb (type_of (file k)) 4 is in
      links k low ∙ (made_links k dir ∙ ap (λ (n : ℕ). 2 + n) (sym (counted k low dir)
      ∙ ap (λ (n : ℕ). count_by (λ (e : EntryRec). names_directory files e.ino) (entries_in entries n)) (sym (states.ino k))))

  of_other : (k : ℕ) → 1 ≤ k → k < length ns → IsOther (file k) → (file k).core.nlink ≡ length (entries_to entries (file k).ino)
  of_other k some low other =
      let plain : is_directory_node ns k ≡ false = by_case (is_directory_node ns k) refl in
      links k low ∙ (one_link k plain ∙ (sym (Entries.named_once v starts ns fs numbers k some low) ∙ ap (λ (n : ℕ). length (entries_to entries n)) (sym (states.ino k))))
    where
      by_case : (t : Bool) → is_directory_node ns k ≡ t → t ≡ false
      by_case true is = absurd (other (is_directory_type k low is))
      by_case false is = refl

  not_first : (f : FileRec) → type_of f ≡ 8 → IsDirectory f → ⊥
  not_first f regular is = omega (arith, regular, is)

  lawful_links : HasLawfulLinks 128 files entries
  lawful_links = record {
    of_directories =
        Files.all_files v starts ns fs numbers file first second states (λ (f : FileRec). IsDirectory f → f.core.nlink ≡ 2 + count_by (λ (e : EntryRec). names_directory files e.ino) (entries_in entries f.ino))
        (λ is. absurd (not_first first states.first'.regular is)) (λ is. absurd (not_first second states.second'.regular is)) of_directory;
    of_others =
        Files.all_files v starts ns fs numbers file first second states (λ (f : FileRec). IsOther f → IsOrdinary 128 f.ino → f.core.nlink ≡ length (entries_to entries f.ino))
        (λ other plain. absurd (plain.0 states.first'.number)) (λ other plain. absurd (plain.1 states.second'.number))
        (λ k low other plain. named_behind (λ (f : FileRec). IsOther f → f.core.nlink ≡ length (entries_to entries f.ino)) of_other k low other other);
    first = Files.any_first v starts ns fs numbers file first second states (IsSystemFile 129) states.first';
    second = Files.any_second v starts ns fs numbers file first second states (IsSystemFile 130) states.second';
  }

  -- directory by directory
  grouped : (ks : List ℕ) → AreGrouped (map due ks) (flat_map (entries_at v starts ns) ks)
  grouped [] = refl
  grouped (k ∷ ks) = (
    entries_at v starts ns k,
    flat_map (entries_at v starts ns) ks,
    refl,
    list_passes (λ (e : EntryRec). e.dir == number k) (entries_at v starts ns k)
        (λ m d low. eq-eqb _ (number k) (Entries.own_of v starts ns fs numbers k m d low)),
    grouped ks,
  )

  named : AreNamed files (filled_entries v starts ns) dirs
  unfolding filled_entries
  named = record {
    files_ascend = Files.files_ascend v starts ns fs numbers file first second states;
    directories = map_both (λ (d : DirRec). d.ino) due (directories ns) ∙ Files.directories_listed v starts ns fs numbers file first second states;
    grouped = grouped (directories ns);
  }

  root_found : names_directory files 128 ≡ true
  root_found =
      ap (names_directory files) (sym numbers.root) ∙ (Files.directory_is v starts ns fs numbers file first second states 0 some_files ∙ fs.root)

  lawful : IsNamingLawful 128 files (filled_entries v starts ns) dirs
  lawful =
      subst (λ (es : List EntryRec). IsNamingLawful 128 files es dirs) (sym (Entries.entries_are v starts ns fs numbers))
      (record { directories = lawful_entries; places = lawful_places; links = lawful_links })

  pub names_kept : AreKept (naming_laws 128 files (filled_entries v starts ns) (dirs_due v starts ns))
  unfolding dirs_due
  names_kept = naming_kept 128 files (filled_entries v starts ns) dirs named root_found lawful
