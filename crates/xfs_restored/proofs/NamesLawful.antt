-- The names that are due once names are changed are lawful.
use Rattle.std.proofs.Common.{◌≡◌, ℕ, true, ◌+◌, ◌^◌, ◌<◌, ◌==◌, List, length, count_by, map, inl, inr, refl, sym, ap, ◌∙◌, arith}
use Rattle.std.specs.List.{All}
use Rattle.std.proofs.lemmas.Bool.{eq-eqb, or_left, or_right}
use Rattle.std.proofs.lemmas.List.Elements.{All-weaker}
use Rattle.xfs_disk.specs.Blocks.{Image}
use Rattle.xfs_disk.specs.declared.stamp.Stamp.{Stamp}
use Rattle.xfs_dirdata.specs.declared.records.EntryRec.{EntryRec}
use Rattle.xfs_geom.specs.declared.geometry.Geometry.{Geometry}
use Rattle.xfs_volume.specs.Laws.{AreKept}
use Rattle.xfs_volume.specs.declared.directories.DirRec.{DirRec}
use Rattle.xfs_volume.specs.declared.files.FileRec.{FileRec}
use Rattle.xfs_naming.specs.Lawful.{HasLawfulEntries, HasLawfulLinks, HasLawfulPlaces, IsDirectory, IsNamingLawful, IsOrdinary, IsOther}
use Rattle.xfs_naming.specs.Naming.{AreNamed, entries_in, entries_to, is_directory_at, naming_laws}
use Rattle.xfs_links.specs.Connected.{kept_entries}
use Rattle.xfs_links.specs.Entries.{AreEntries, AreFiles, is_directory_number, is_reserved_inode}
use Rattle.xfs_links.specs.declared.records.NodeRec.{NodeRec}
use Rattle.xfs_links.specs.Settled.{IsSettled, untyped}
use Rattle.xfs_links.proofs.ByDirectory.{as_many_untyped}
use Rattle.xfs_links.proofs.Settling as Settling
use Rattle.xfs_names.specs.Having.{HasWanted}
use Rattle.xfs_names.proofs.Having as Having
use Rattle.xfs_rename.specs.xfs_scan.declared.evidence.Evidence.{Evidence}
use Rattle.xfs_rename.specs.xfs_rebuild.declared.names_due.NamesDue.{NamesDue}
use Rattle.xfs_rename.specs.Lost.{lost_due}
use Rattle.xfs_rename.specs.declared.planning.Renamed.{Renamed}
use Rattle.xfs_restored.specs.Relinking.{IsRelinked, renamed_dirs, renamed_entries, renamed_files}
use Rattle.xfs_restored.proofs.DueNodes as Due
use Rattle.xfs_restored.proofs.EntriesAlike.{IsTyped, counted_untyped, entries_alike, entries_grouped, entries_typed}
use Rattle.xfs_restored.proofs.KeptFew.{entries_few}
use Rattle.xfs_restored.proofs.NamedNodes.{are_entries, are_files, root_directory, system_plain}
use Rattle.xfs_rename.proofs.xfs_built.NamingKept.{naming_kept}
use Rattle.xfs_restored.proofs.SystemFiles.{system_file}

module _ (g : Geometry) (sector : List ℕ) (s : Stamp) (image now : Image) (e : Evidence) (n : NamesDue) (r : Renamed) (has : IsRelinked g sector s image now e n r) where
  abbrev root : ℕ
  root = g.rootino

  abbrev new : ℕ
  new = (lost_due g n).new

  abbrev held : List NodeRec
  held = Due.held g sector s image now e n r has

  abbrev files : List FileRec
  files = renamed_files g s now has.on n has.is.w has.is.built has.is.placed

  abbrev entries : List EntryRec
  entries = renamed_entries n has.is.w

  abbrev dirs : List DirRec
  dirs = renamed_dirs has.is.w

  nodes_listed : AreFiles held
  nodes_listed = are_files g sector s image now e n r has

  entries_listed : AreEntries held n.entries
  entries_listed = are_entries g sector s image now e n r has

  dir : is_directory_number held root ≡ true
  dir = root_directory g sector s image now e n r has

  system : (k : ℕ) → is_directory_number held k ≡ true → is_reserved_inode root k ≡ true → k ≡ root
  system = system_plain g sector s image now e n r has

  wanted : HasWanted held n.entries root new files dirs
  wanted = Due.has_wanted g sector s image now e n r has

  -- with the entries that are wanted
  first : IsSettled held n.entries root new files has.is.w.entries dirs
  first =
      Having.settled held n.entries root new files has.is.w.entries dirs nodes_listed.ascend (Due.unused g sector s image now e n r has)
      has.is.names.wanted.entries' wanted

  alike : map untyped entries ≡ map untyped has.is.w.entries
  alike =
      entries_alike held root new n has.is.w nodes_listed.ascend (Due.unused g sector s image now e n r has) entries_listed dir has.is.buildable
      has.is.names.wanted.entries' has.is.names.wanted.parents' has.is.names.wanted.rebuilt'

  -- with those that are due
  pub named : AreNamed files entries dirs
  named = record {
    files_ascend = first.named.files_ascend;
    directories = first.named.directories;
    grouped = entries_grouped n has.is.w;
  }

  settled : IsSettled held n.entries root new files entries dirs
  settled = record {
    files_are = first.files_are;
    directories_are = first.directories_are;
    entries_are = record { same = alike ∙ first.entries_are.same };
    named = named;
  }

  few : length (kept_entries held n.entries root) < 2 ^ 64
  few =
      entries_few held n.entries root new has.is.w entries_listed dir has.is.buildable has.is.names.wanted.entries'

  typed : All (IsTyped files) entries
  typed =
      entries_typed held root new n has.is.w nodes_listed.ascend (Due.unused g sector s image now e n r has) entries_listed dir has.is.buildable
      has.is.names.wanted.entries' has.is.names.wanted.parents' has.is.names.wanted.rebuilt' files
      (Having.types held n.entries root new files has.is.w.entries dirs nodes_listed.ascend (Due.unused g sector s image now e n r has)
      has.is.names.wanted.entries' wanted)

  lawful_entries : HasLawfulEntries root files entries dirs
  lawful_entries =
      let unused = Due.unused g sector s image now e n r has in
      let free = Due.free g sector s image now e n r has in
      record {
        whole = settled.directories_are.whole;
        valid = Settling.valid_due held n.entries root new files entries dirs nodes_listed entries_listed few dir system unused free settled;
        differ = Settling.differ_due held n.entries root new files entries dirs nodes_listed entries_listed few dir system unused free settled;
        in_use = Settling.in_use_due held n.entries root new files entries dirs nodes_listed entries_listed few dir system unused free settled;
        ordinary = Settling.ordinary_entries_due held n.entries root new files entries dirs nodes_listed entries_listed few dir system unused free settled;
        types = typed;
      }

  lawful_places : HasLawfulPlaces root files entries dirs
  lawful_places =
      let unused = Due.unused g sector s image now e n r has in
      let free = Due.free g sector s image now e n r has in
      record {
        root_directory = Settling.root_directory_due held n.entries root new files entries dirs nodes_listed entries_listed few dir system unused free settled;
        root_unnamed = Settling.root_unnamed_due held n.entries root new files entries dirs nodes_listed entries_listed few dir system unused free settled;
        root_parent = Settling.root_parent_due held n.entries root new files entries dirs nodes_listed entries_listed few dir system unused free settled;
        once = Settling.all_once_due held n.entries root new files entries dirs nodes_listed entries_listed few dir system unused free settled;
        by_parent = Settling.by_parent_due held n.entries root new files entries dirs nodes_listed entries_listed few dir system unused free settled;
        reached = Settling.all_reached_due held n.entries root new files entries dirs nodes_listed entries_listed few dir system unused free settled;
        named = Settling.all_named_due held n.entries root new files entries dirs nodes_listed entries_listed few dir system unused free settled;
      }

  -- as many links as names
  of_directories : All (λ (f : FileRec). IsDirectory f → f.core.nlink ≡ 2 + count_by (λ (x : EntryRec). is_directory_at files x.ino) (entries_in entries f.ino)) files
  of_directories =
      All-weaker (λ (f : FileRec). IsDirectory f → f.core.nlink ≡ 2 + count_by (λ (x : EntryRec). is_directory_at files x.ino) (entries_in has.is.w.entries f.ino))
      (λ (f : FileRec). IsDirectory f → f.core.nlink ≡ 2 + count_by (λ (x : EntryRec). is_directory_at files x.ino) (entries_in entries f.ino))
      (λ f told is. told is ∙ ap (λ m. 2 + m) (sym (counted_untyped (is_directory_at files) f.ino entries has.is.w.entries alike))) files
      (Having.directory_links held n.entries root new files has.is.w.entries dirs nodes_listed.ascend (Due.unused g sector s image now e n r has)
      has.is.names.wanted.entries' wanted)

  of_others : All (λ (f : FileRec). IsOther f → IsOrdinary root f.ino → f.core.nlink ≡ length (entries_to entries f.ino)) files
  of_others =
      All-weaker (λ (f : FileRec). IsOther f → IsOrdinary root f.ino → f.core.nlink ≡ length (entries_to has.is.w.entries f.ino))
      (λ (f : FileRec). IsOther f → IsOrdinary root f.ino → f.core.nlink ≡ length (entries_to entries f.ino))
      (λ f told other plain. told other plain ∙ sym (as_many_untyped entries has.is.w.entries alike f.ino)) files
      (Having.other_links held n.entries root new files has.is.w.entries dirs nodes_listed.ascend (Due.unused g sector s image now e n r has)
      has.is.names.wanted.entries' wanted dir)

  lawful_links : HasLawfulLinks root files entries
  lawful_links = record {
    of_directories = of_directories;
    of_others = of_others;
    first = system_file g sector s image now e n r has (root + 1) (inr (inl refl)) (λ same. omega (arith, same))
        (or_left (root + 1 == root + 1) (root + 1 == root + 2) (eq-eqb (root + 1) (root + 1) refl));
    second = system_file g sector s image now e n r has (root + 2) (inr (inr (inl refl))) (λ same. omega (arith, same))
        (or_right (root + 2 == root + 1) (root + 2 == root + 2) (eq-eqb (root + 2) (root + 2) refl));
  }

  pub names_lawful : IsNamingLawful root files entries dirs
  names_lawful = record { directories = lawful_entries; places = lawful_places; links = lawful_links }

  root_found : is_directory_at files root ≡ true
  root_found = settled.files_are.directory root ∙ or_left (is_directory_number held root) _ dir

  pub names_kept : AreKept (naming_laws root files entries dirs)
  names_kept = naming_kept root files entries dirs named root_found names_lawful
