-- The laws of names do not look at checksums, at attributes, or at how many blocks files have.
use Rattle.std.proofs.Common.{◌≡◌, ℕ, Bool, true, false, not, ◌+◌, ◌==◌, ◌&&◌, ◌||◌, if◌then◌else◌, List, [], ◌∷◌, ◌++◌, map, length, count_by, Option, Some, None, refl, ap, ap₂, ◌∙◌}
use Rattle.std.specs.List.{list_all, list_any}
use Rattle.std.specs.Option.{option_map}
use Rattle.xfs_disk.specs.Lists.{with_number}
use Rattle.xfs_dirdata.specs.declared.records.EntryRec.{EntryRec}
use Rattle.xfs_naming.specs.Naming.{directory_at, directory_laws, entries_in, entries_to, file_at, first_failing, has_target, has_type, is_directory_at, is_empty_regular, is_in_use, is_system, link_laws, links_at, links_of, names_differ, naming_laws, numbers_of, other_directory_tests, other_file_tests, place_law, place_laws, states_parent}
use Rattle.xfs_volume.specs.Laws.{law_at}
use Rattle.xfs_volume.specs.Names.{entry_type, is_directory, is_name, type_of}
use Rattle.xfs_volume.specs.declared.directories.DirRec.{DirRec}
use Rattle.xfs_volume.specs.declared.files.FileRec.{FileRec}
use Rattle.xfs_volume.specs.declared.findings.Law.{Law}

-- a file but for these
abbrev pub plain : FileRec → FileRec
plain f = record f { core = record f.core { nblocks = 0; anextents = 0; aformat = 0; crc = 0 } }

any_plain : (test : FileRec → Bool) → ((f : FileRec) → test (plain f) ≡ test f) → (fs : List FileRec) → list_any test (map plain fs) ≡ list_any test fs
any_plain test same [] = refl
any_plain test same (f ∷ fs) = ap₂ (λ (a b : Bool). a || b) (same f) (any_plain test same fs)

numbers_plain : (fs : List FileRec) → numbers_of (map plain fs) ≡ numbers_of fs
numbers_plain [] = refl
numbers_plain (f ∷ fs) = ap (λ (ns : List ℕ). f.ino ∷ ns) (numbers_plain fs)

file_at_plain : (fs : List FileRec) (ino : ℕ) → file_at (map plain fs) ino ≡ option_map plain (file_at fs ino)
file_at_plain [] ino = refl
file_at_plain (f ∷ fs) ino = by_case (f.ino == ino) (file_at_plain fs ino)
  where
    by_case : (t : Bool) → file_at (map plain fs) ino ≡ option_map plain (file_at fs ino)
        → (if t then Some (plain f) else file_at (map plain fs) ino) ≡ option_map plain (if t then Some f else file_at fs ino)
    by_case true rest = refl
    by_case false rest = rest

module _ (root : ℕ) (files : List FileRec) (entries : List EntryRec) (dirs : List DirRec) where
  in_use : (ino : ℕ) → is_in_use (map plain files) ino ≡ is_in_use files ino
  in_use ino = any_plain (λ (f : FileRec). f.ino == ino) (λ f. refl) files

  directory : (ino : ℕ) → is_directory_at (map plain files) ino ≡ is_directory_at files ino
  directory ino = any_plain (λ (f : FileRec). f.ino == ino && is_directory f) (λ f. refl) files

  typed : (e : EntryRec) → has_type (map plain files) e ≡ has_type files e
  typed e = ap (λ (t : Bool). e.ftype == 0 || t) (any_plain (λ (f : FileRec). f.ino == e.ino && entry_type (type_of f) == e.ftype) (λ f. refl) files)

  target : (e : EntryRec) → has_target root (map plain files) e ≡ has_target root files e
  target e = ap (λ (t : Bool). t && not (is_system root e.ino)) (in_use e.ino)

  directory_same : (d : DirRec) → directory_at root (map plain files) entries d ≡ directory_at root files entries d
  directory_same d =
      let own : List EntryRec = entries_in entries d.ino in
      ap₂ (λ (targets types : EntryRec → Bool). law_at 7 d.ino (first_failing (
      (1, d.whole) ∷ (2, list_all (λ (e : EntryRec). is_name e.name) own && names_differ own) ∷ (3, list_all targets own) ∷ (4, list_all types own) ∷ []
      )) 0)
      (λ i e. target e i) (λ i e. typed e i)

  place_same : (ino : ℕ) → place_law root (map plain files) entries dirs ino ≡ place_law root files entries dirs ino
  place_same ino =
      ap (λ (is : ℕ → Bool). law_at 8 ino (first_failing (
      if ino == root
      then ((1, length (entries_to entries root) == 0) ∷ (2, not (is root) || states_parent dirs root root) ∷ (3, is root) ∷ [])
      else (if is ino then other_directory_tests root entries dirs ino else other_file_tests root entries ino)
      )) 0)
      (λ i n. directory n i)

  links_same : (f : FileRec) → links_of (map plain files) entries (plain f) ≡ links_of files entries f
  links_same f =
      ap (λ (is : ℕ → Bool). if is_directory f then 2 + count_by (λ (e : EntryRec). is e.ino) (entries_in entries f.ino) else length (entries_to entries f.ino))
      (λ i n. directory n i)

  link_same : (o : Option FileRec) (ino : ℕ) → links_at root (map plain files) entries (option_map plain o) ino ≡ links_at root files entries o ino
  link_same None ino = refl
  link_same (Some f) ino =
      ap (λ (n : ℕ). if is_system root ino then (if is_empty_regular f then law_at 9 ino f.core.nlink 1 else law_at 9 ino 0 1) else law_at 9 ino f.core.nlink n) (links_same f)

  link_at_same : (ino : ℕ) → links_at root (map plain files) entries (file_at (map plain files) ino) ino ≡ links_at root files entries (file_at files ino) ino
  link_at_same ino = ap (λ (o : Option FileRec). links_at root (map plain files) entries o ino) (file_at_plain files ino) ∙ link_same (file_at files ino) ino

  directories_same : directory_laws root (map plain files) entries dirs ≡ directory_laws root files entries dirs
  unfolding directory_laws
  directories_same = ap (λ (law : DirRec → Law). map law dirs) (λ i d. directory_same d i)

  places_same : place_laws root (map plain files) entries dirs ≡ place_laws root files entries dirs
  unfolding place_laws
  places_same =
      ap (λ (law : ℕ → Law). map law (with_number root (numbers_of (map plain files)))) (λ i ino. place_same ino i)
      ∙ ap (λ (ns : List ℕ). map (place_law root files entries dirs) (with_number root ns)) (numbers_plain files)

  all_links_same : link_laws root (map plain files) entries ≡ link_laws root files entries
  unfolding link_laws
  all_links_same =
      ap (λ (law : ℕ → Law). map law (with_number (root + 1) (with_number (root + 2) (numbers_of (map plain files))))) (λ i ino. link_at_same ino i)
      ∙ ap (λ (ns : List ℕ). map (λ ino. links_at root files entries (file_at files ino) ino) (with_number (root + 1) (with_number (root + 2) ns))) (numbers_plain files)

  pub naming_plain : naming_laws root (map plain files) entries dirs ≡ naming_laws root files entries dirs
  unfolding naming_laws
  naming_plain = λ i. directories_same i ++ places_same i ++ all_links_same i
