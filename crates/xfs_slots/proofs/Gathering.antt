-- What slots give, taken one by one, is what all give.
use Rattle.std.proofs.Common.{◌≡◌, ℕ, true, false, cond, List, [], ◌∷◌, ◌++◌, map, Option, Some, None, Result, Ok, Err, OnOk, refl, sym, ap, ap₂, ◌∙◌}
use Rattle.std.specs.List.{filter, flat_map}
use Rattle.std.specs.Option.{option_or}
use Rattle.std.proofs.lemmas.List.{append_assoc, append-nil, map-append}
use Rattle.std.proofs.lemmas.List.Elements.{filter-append}
use Rattle.std.proofs.lemmas.Grind.{flat_map-append}
use Rattle.xfs_disk.specs.Blocks.{Image}
use Rattle.xfs_geom.specs.Volumes.{Volume}
use Rattle.xfs_dirs.specs.declared.found.DirFound.{DirFound}
use Rattle.xfs_volume.specs.Names.{is_directory}
use Rattle.xfs_volume.specs.declared.files.FileRec.{FileRec}
use Rattle.xfs_image.specs.Directories.{dir_of, directories, dirs_read, entries_of, entries_read, is_whole, parent_of}
use Rattle.xfs_dirdata.specs.declared.records.EntryRec.{EntryRec}
use Rattle.xfs_inode.specs.declared.files.FileRead.{FileRead}
use Rattle.xfs_inode.specs.declared.files.FileRead.TheVariants as Reads
use Rattle.xfs_volume.specs.declared.directories.DirRec.{DirRec}
use Rattle.xfs_image.specs.Claims.{file_if}
use Rattle.xfs_image.specs.Files.{files_at, with_file_read}
use Rattle.xfs_image.specs.Slots.{reads_as}
use Rattle.xfs_slots.specs.Gathered.{Gathered, bare_if, feature_if, files_if, first_feature, gathered, gathered_both, nothing_gathered, of_directory, of_file, of_found, of_read, of_slot}

or_none : {A : Type 0} (a : Option A) → option_or a None ≡ a
or_none None = refl
or_none (Some x) = refl

or_assoc : {A : Type 0} (a b c : Option A) → option_or (option_or a b) c ≡ option_or a (option_or b c)
or_assoc None b c = refl
or_assoc (Some x) b c = refl

pub joined_nothing : (a : Gathered) → gathered_both a nothing_gathered ≡ a
joined_nothing a = λ i. record {
  files = append-nil a.files i;
  bare = append-nil a.bare i;
  entries = append-nil a.entries i;
  dirs = append-nil a.dirs i;
  unread = or_none a.unread i;
  feature = or_none a.feature i;
}

pub joined_assoc : (a b c : Gathered) → gathered_both (gathered_both a b) c ≡ gathered_both a (gathered_both b c)
joined_assoc a b c = λ i. record {
  files = append_assoc a.files b.files c.files i;
  bare = append_assoc a.bare b.bare c.bare i;
  entries = append_assoc a.entries b.entries c.entries i;
  dirs = append_assoc a.dirs b.dirs c.dirs i;
  unread = or_assoc a.unread b.unread c.unread i;
  feature = or_assoc a.feature b.feature c.feature i;
}

-- what follows where a call ended well
pub on_ok : {T E : Type 0} (P Q : Type 0) (r : Result T E) → (P → Q) → OnOk r P → OnOk r Q
on_ok P Q (Ok value) step held = step held
on_ok P Q (Err fault) step held = held

module _ (v : Volume) (image : Image) where
  pub gathered-append : (xs ys : List ℕ) → gathered v image (xs ++ ys) ≡ gathered_both (gathered v image xs) (gathered v image ys)
  unfolding gathered
  gathered-append [] ys = refl
  gathered-append (x ∷ xs) ys =
      ap (gathered_both (of_slot v image x)) (gathered-append xs ys) ∙ sym (joined_assoc (of_slot v image x) (gathered v image xs) (gathered v image ys))

  -- one slot more, some slots more, and none more
  pub slot_more : (ino : ℕ) (inos rest : List ℕ) (old new all : Gathered) → inos ≡ ino ∷ rest → new ≡ gathered_both old (of_slot v image ino)
      → gathered_both old (gathered v image inos) ≡ all → gathered_both new (gathered v image rest) ≡ all
  unfolding gathered
  slot_more ino inos rest old new all split more held =
      ap (λ a. gathered_both a (gathered v image rest)) more ∙ joined_assoc old (of_slot v image ino) (gathered v image rest)
      ∙ ap (λ xs. gathered_both old (gathered v image xs)) (sym split) ∙ held

  pub slots_more : (part inos rest : List ℕ) (old new all : Gathered) → inos ≡ part ++ rest → new ≡ gathered_both old (gathered v image part)
      → gathered_both old (gathered v image inos) ≡ all → gathered_both new (gathered v image rest) ≡ all
  slots_more part inos rest old new all split more held =
      ap (λ a. gathered_both a (gathered v image rest)) more ∙ joined_assoc old (gathered v image part) (gathered v image rest)
      ∙ ap (gathered_both old) (sym (gathered-append part rest)) ∙ ap (λ xs. gathered_both old (gathered v image xs)) (sym split) ∙ held

  pub slots_end : (rest : List ℕ) (new all : Gathered) → rest ≡ [] → gathered_both new (gathered v image rest) ≡ all → new ≡ all
  unfolding gathered
  slots_end rest new all none held = sym (joined_nothing new) ∙ ap (λ xs. gathered_both new (gathered v image xs)) (sym none) ∙ held

  -- a file that is no directory has no entries, and one that is has those that are found
  no_directory : (f : FileRec) → is_directory f ≡ false → of_directory v image f ≡ nothing_gathered
  unfolding entries_read dirs_read directories
  no_directory f other = λ i. record {
    files = [];
    bare = [];
    entries = flat_map (entries_of v image) (cond (other i) (f ∷ []) []);
    dirs = map (dir_of v image) (cond (other i) (f ∷ []) []);
    unread = None;
    feature = None;
  }

  pub other_file : (f : FileRec) (old : Gathered) → is_directory f ≡ false → old ≡ gathered_both old (of_directory v image f)
  other_file f old other = sym (ap (gathered_both old) (no_directory f other) ∙ joined_nothing old)

  -- what is found of a file as a directory, and then the file itself, are what the file gives
  pub file_taken : (f : FileRec) (old mid new : Gathered) → mid ≡ gathered_both old (of_directory v image f)
      → new ≡ gathered_both mid (record { files = f ∷ []; bare = []; entries = []; dirs = []; unread = None; feature = None })
      → new ≡ gathered_both old (of_file v image f [] None)
  file_taken f old mid new found pushed =
      let one : Gathered = record { files = f ∷ []; bare = []; entries = []; dirs = []; unread = None; feature = None } in
      let both : gathered_both (of_directory v image f) one ≡ of_file v image f [] None = λ i. record {
        files = f ∷ [];
        bare = [];
        entries = append-nil (entries_read v image (f ∷ [])) i;
        dirs = append-nil (dirs_read v image (f ∷ [])) i;
        unread = None;
        feature = None;
      } in
      pushed ∙ (ap (λ (a : Gathered). gathered_both a one) found ∙ (joined_assoc old (of_directory v image f) one ∙ ap (gathered_both old) both))

  -- a file that is noted as one without attributes, and then taken up
  pub bare_taken : (f : FileRec) (old mid new : Gathered)
      → mid ≡ gathered_both old (record { files = []; bare = f.ino ∷ []; entries = []; dirs = []; unread = Some f.ino; feature = None })
      → new ≡ gathered_both mid (of_file v image f [] None) → new ≡ gathered_both old (of_file v image f (f.ino ∷ []) (Some f.ino))
  bare_taken f old mid new noted taken =
      let note : Gathered = record { files = []; bare = f.ino ∷ []; entries = []; dirs = []; unread = Some f.ino; feature = None } in
      taken ∙ (ap (λ (a : Gathered). gathered_both a (of_file v image f [] None)) noted ∙ joined_assoc old note (of_file v image f [] None))

  pub found_directory : (f : FileRec) (found : DirFound) → is_directory f ≡ true
      → found.entries ≡ entries_of v image f → found.parent ≡ parent_of v image f → found.whole ≡ is_whole v image f
      → of_found f.ino found ≡ of_directory v image f
  unfolding entries_read dirs_read directories
  found_directory f found is entries parent whole =
      (λ i. record {
        files = [];
        bare = [];
        entries = (entries ∙ sym (append-nil (entries_of v image f))) i;
        dirs = record { ino = f.ino; parent = parent i; whole = whole i } ∷ [];
        unread = None;
        feature = None;
      })
      ∙ (λ i. record {
        files = [];
        bare = [];
        entries = flat_map (entries_of v image) (cond (sym is i) (f ∷ []) []);
        dirs = map (dir_of v image) (cond (sym is i) (f ∷ []) []);
        unread = None;
        feature = None;
      })

module _ (v : Volume) (image : Image) where
  -- the files, where all slots read, are those of the image
  pub files_read_so : (inos : List ℕ) → files_at v image inos ≡ files_if (gathered v image inos).unread (gathered v image inos).files
  unfolding gathered
  files_read_so [] = refl
  files_read_so (ino ∷ inos) = ap (with_file_read ino (reads_as v image ino)) (files_read_so inos) ∙ by_read (reads_as v image ino) (gathered v image inos)
    where
      by_file : (file : FileRec) (unread : Option ℕ) (files : List FileRec) → with_file_read ino (Reads.File file) (files_if unread files) ≡ files_if unread (file ∷ files)
      by_file file None files = refl
      by_file file (Some other) files = refl

      by_read : (read : FileRead) (rest : Gathered)
          → with_file_read ino read (files_if rest.unread rest.files) ≡ files_if (gathered_both (of_read v image ino read) rest).unread (gathered_both (of_read v image ino read) rest).files
      by_read Reads.Free rest = refl
      by_read (Reads.File file) rest = by_file file rest.unread rest.files
      by_read (Reads.FileWithoutAttrs file) rest = refl
      by_read (Reads.Unsupported what) rest = refl
      by_read Reads.Unsound rest = refl

  entries_read-append : (xs ys : List FileRec) → entries_read v image (xs ++ ys) ≡ entries_read v image xs ++ entries_read v image ys
  unfolding entries_read directories
  entries_read-append xs ys = ap (flat_map (entries_of v image)) (filter-append is_directory xs ys) ∙ flat_map-append (entries_of v image) (filter is_directory xs) (filter is_directory ys)

  dirs_read-append : (xs ys : List FileRec) → dirs_read v image (xs ++ ys) ≡ dirs_read v image xs ++ dirs_read v image ys
  unfolding dirs_read directories
  dirs_read-append xs ys = ap (map (dir_of v image)) (filter-append is_directory xs ys) ∙ map-append (dir_of v image) (filter is_directory xs) (filter is_directory ys)

  -- the entries and the directories are those of the files
  record AreOfFiles (g : Gathered) : Type 0 where
    pub entries : g.entries ≡ entries_read v image g.files
    pub dirs : g.dirs ≡ dirs_read v image g.files

  none_of_files : AreOfFiles nothing_gathered
  unfolding entries_read dirs_read directories
  none_of_files = record { entries = refl; dirs = refl }

  slot_of_files : (ino : ℕ) (read : FileRead) → AreOfFiles (of_read v image ino read)
  slot_of_files ino Reads.Free = none_of_files
  slot_of_files ino (Reads.File file) = record { entries = refl; dirs = refl }
  slot_of_files ino (Reads.FileWithoutAttrs file) = record { entries = refl; dirs = refl }
  slot_of_files ino (Reads.Unsupported what) = record { entries = none_of_files.entries; dirs = none_of_files.dirs }
  slot_of_files ino Reads.Unsound = record { entries = none_of_files.entries; dirs = none_of_files.dirs }

  of_files : (inos : List ℕ) → AreOfFiles (gathered v image inos)
  unfolding gathered
  of_files [] = none_of_files
  of_files (ino ∷ inos) =
      let one = slot_of_files ino (reads_as v image ino) in
      let rest = of_files inos in
      record {
        entries = ap₂ (λ (a b : List EntryRec). a ++ b) one.entries rest.entries ∙ sym (entries_read-append (of_slot v image ino).files (gathered v image inos).files);
        dirs = ap₂ (λ (a b : List DirRec). a ++ b) one.dirs rest.dirs ∙ sym (dirs_read-append (of_slot v image ino).files (gathered v image inos).files);
      }

  pub entries_of_files : (inos : List ℕ) → (gathered v image inos).entries ≡ entries_read v image (gathered v image inos).files
  entries_of_files inos = (of_files inos).entries

  pub dirs_of_files : (inos : List ℕ) → (gathered v image inos).dirs ≡ dirs_read v image (gathered v image inos).files
  dirs_of_files inos = (of_files inos).dirs

  -- the files, those without attributes, and the first feature are those of the image
  pub all_files : (inos : List ℕ) → (gathered v image inos).files ≡ flat_map (λ ino. file_if (reads_as v image ino)) inos
  unfolding gathered
  all_files [] = refl
  all_files (ino ∷ inos) = by_read (reads_as v image ino) (all_files inos)
    where
      by_read : (read : FileRead) → (gathered v image inos).files ≡ flat_map (λ ino. file_if (reads_as v image ino)) inos
          → (of_read v image ino read).files ++ (gathered v image inos).files ≡ file_if read ++ flat_map (λ ino. file_if (reads_as v image ino)) inos
      by_read Reads.Free rest = rest
      by_read (Reads.File file) rest = ap (λ (files : List FileRec). file ∷ files) rest
      by_read (Reads.FileWithoutAttrs file) rest = ap (λ (files : List FileRec). file ∷ files) rest
      by_read (Reads.Unsupported what) rest = rest
      by_read Reads.Unsound rest = rest

  pub all_bare : (inos : List ℕ) → (gathered v image inos).bare ≡ flat_map (λ ino. bare_if ino (reads_as v image ino)) inos
  unfolding gathered
  all_bare [] = refl
  all_bare (ino ∷ inos) = by_read (reads_as v image ino) (all_bare inos)
    where
      by_read : (read : FileRead) → (gathered v image inos).bare ≡ flat_map (λ ino. bare_if ino (reads_as v image ino)) inos
          → (of_read v image ino read).bare ++ (gathered v image inos).bare ≡ bare_if ino read ++ flat_map (λ ino. bare_if ino (reads_as v image ino)) inos
      by_read Reads.Free rest = rest
      by_read (Reads.File file) rest = rest
      by_read (Reads.FileWithoutAttrs file) rest = ap (λ (inos : List ℕ). ino ∷ inos) rest
      by_read (Reads.Unsupported what) rest = rest
      by_read Reads.Unsound rest = rest

  pub first_found : (inos : List ℕ) → (gathered v image inos).feature ≡ first_feature v image inos
  unfolding gathered
  first_found [] = refl
  first_found (ino ∷ inos) = by_read (reads_as v image ino) (first_found inos)
    where
      by_read : (read : FileRead) → (gathered v image inos).feature ≡ first_feature v image inos
          → option_or (of_read v image ino read).feature (gathered v image inos).feature ≡ option_or (feature_if ino read) (first_feature v image inos)
      by_read Reads.Free rest = rest
      by_read (Reads.File file) rest = rest
      by_read (Reads.FileWithoutAttrs file) rest = rest
      by_read (Reads.Unsupported what) rest = refl
      by_read Reads.Unsound rest = rest
