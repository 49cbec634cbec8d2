-- An image that says in each part what is due where names were changed is consistent.
use Rattle.std.proofs.Common.{◌≡◌, ℕ, ◌++◌, ◌≤◌, ◌<◌, true, List, Ok, None, refl}
use Rattle.xfs_disk.specs.Blocks.{Image}
use Rattle.xfs_disk.specs.declared.stamp.Stamp.{Stamp}
use Rattle.xfs_dirdata.specs.declared.records.EntryRec.{EntryRec}
use Rattle.xfs_geom.specs.Volumes.{Volume, volume_of}
use Rattle.xfs_geom.specs.declared.geometry.Geometry.{Geometry}
use Rattle.xfs_image.specs.Consistent.{IsConsistent, IsElected, backup_agrees}
use Rattle.xfs_image.specs.Directories.{dirs_read, entries_read}
use Rattle.xfs_image.specs.Files.{files_read}
use Rattle.xfs_image.specs.Groups.{groups_read}
use Rattle.xfs_image.specs.Lsns.{lsns_read}
use Rattle.xfs_image.specs.View.{counts_of, log_of, view}
use Rattle.xfs_laws.specs.Counting.{chunk_laws, counter_laws, list_laws, log_laws}
use Rattle.xfs_laws.specs.Lawful.{broken_law, counting_laws, laws_of}
use Rattle.xfs_naming.specs.Naming.{naming_laws}
use Rattle.xfs_space.specs.SpaceLaws.{space_laws}
use Rattle.xfs_volume.specs.Laws.{AreKept}
use Rattle.xfs_volume.specs.declared.directories.DirRec.{DirRec}
use Rattle.xfs_volume.specs.declared.files.FileRec.{FileRec}
use Rattle.xfs_volume.specs.declared.findings.Law.{Law}
use Rattle.xfs_volume.specs.declared.groups.GroupRec.{GroupRec}
use Rattle.xfs_rename.proofs.xfs_made.KeptLaws.{both_kept}
use Rattle.xfs_rename.proofs.xfs_made.Catalogs.{reads_as}
use Rattle.xfs_rename.proofs.xfs_made.Kept.{none_broken}
use Rattle.xfs_names.specs.declared.building.BuiltDirectory.{BuiltDirectory}
use Rattle.xfs_names.specs.declared.records.WantedNames.{WantedNames}
use Rattle.xfs_place.specs.declared.placed.Placed.{Placed}
use Rattle.xfs_rename.specs.xfs_rebuild.Rebuilds.{Ground}
use Rattle.xfs_rename.specs.xfs_rebuild.declared.names_due.NamesDue.{NamesDue}
use Rattle.xfs_restored.specs.Catalogs.{renamed_catalog, renamed_groups}
use Rattle.xfs_restored.specs.Relinking.{renamed_dirs, renamed_entries, renamed_files}

-- each part of the image reads as it is due
pub record ReadsAsDue (g : Geometry) (s : Stamp) (now : Image) (on : Ground) (n : NamesDue) (w : WantedNames) (built : List BuiltDirectory) (p : Placed) : Type 0 where
  pub groups' : groups_read (volume_of g) now ≡ Ok (renamed_groups g now n w p)
  pub files' : files_read (volume_of g) now (renamed_groups g now n w p) ≡ Ok (renamed_files g s now on n w built p)
  pub entries' : entries_read (volume_of g) now (renamed_files g s now on n w built p) ≡ renamed_entries n w
  pub dirs' : dirs_read (volume_of g) now (renamed_files g s now on n w built p) ≡ renamed_dirs w
  pub counts' : counts_of now ≡ p.counts

-- no law of any kind is broken by what is due
pub record KeepsLaws (g : Geometry) (s : Stamp) (now : Image) (on : Ground) (n : NamesDue) (w : WantedNames) (built : List BuiltDirectory) (p : Placed) : Type 0 where
  pub space : AreKept (space_laws (volume_of g) (renamed_groups g now n w p) (renamed_files g s now on n w built p))
  pub chunks : AreKept (chunk_laws (volume_of g) (renamed_files g s now on n w built p) (renamed_groups g now n w p))
  pub counters : AreKept (counter_laws (volume_of g) (renamed_groups g now n w p) p.counts)
  pub lists : AreKept (list_laws (renamed_groups g now n w p))
  pub naming : AreKept (naming_laws g.rootino (renamed_files g s now on n w built p) (renamed_entries n w) (renamed_dirs w))
  pub log : AreKept (log_laws (renamed_groups g now n w p) (log_of (volume_of g) now)
      (lsns_read (volume_of g) now (renamed_groups g now n w p) (renamed_files g s now on n w built p)))

-- the primary superblock and the backups are the volume's
pub record HasSupers (g : Geometry) (now : Image) : Type 0 where
  pub elected : IsElected (volume_of g) now
  pub first : elected.vote.place ≡ 0
  pub backups : (ag : ℕ) → 1 ≤ ag → ag < g.agcount → backup_agrees (volume_of g) now ag ≡ true

module _ (g : Geometry) (s : Stamp) (now : Image) (on : Ground) (n : NamesDue) (w : WantedNames) (built : List BuiltDirectory) (p : Placed) where
  abbrev v : Volume
  v = volume_of g

  abbrev groups : List GroupRec
  groups = renamed_groups g now n w p

  abbrev files : List FileRec
  files = renamed_files g s now on n w built p

  abbrev entries : List EntryRec
  entries = renamed_entries n w

  abbrev dirs : List DirRec
  dirs = renamed_dirs w

  pub says : ReadsAsDue g s now on n w built p → view g now ≡ Ok (renamed_catalog g s now on n w built p)
  says is =
      reads_as g now groups files entries dirs p.counts (log_of v now) (lsns_read v now groups files) is.groups' is.files' is.entries' is.dirs' is.counts' refl refl

  pub lawful : KeepsLaws g s now on n w built p → broken_law (renamed_catalog g s now on n w built p) ≡ None
  unfolding broken_law
  lawful keeps =
      let names : List Law = naming_laws g.rootino files entries dirs in
      let logs : List Law = log_laws groups (log_of v now) (lsns_read v now groups files) in
      let counts : List Law = counting_laws (renamed_catalog g s now on n w built p) in
      let counting : AreKept counts =
      both_kept (chunk_laws v files groups) (counter_laws v groups p.counts ++ list_laws groups) keeps.chunks
      (both_kept (counter_laws v groups p.counts) (list_laws groups) keeps.counters keeps.lists) in
      none_broken (laws_of (renamed_catalog g s now on n w built p))
      (both_kept (space_laws v groups files) (counts ++ (names ++ logs)) keeps.space (both_kept counts (names ++ logs) counting (both_kept names logs keeps.naming keeps.log)))

  pub consistent : ReadsAsDue g s now on n w built p → KeepsLaws g s now on n w built p → HasSupers g now → IsConsistent broken_law g now
  consistent is keeps supers = record {
    elected = supers.elected;
    first = supers.first;
    catalog = renamed_catalog g s now on n w built p;
    reads = says is;
    lawful = lawful keeps;
    backups = supers.backups;
  }
