-- What is read of the directories of a new volume is what is due.
use Rattle.std.proofs.Common.{◌≡◌, ℕ, true, List, length, map, get_or, ap, ◌∙◌}
use Rattle.std.specs.List.{All, flat_map}
use Rattle.xfs_disk.specs.Blocks.{Image}
use Rattle.xfs_disk.specs.declared.stamp.Stamp.{Stamp}
use Rattle.xfs_geom.specs.Volumes.{Volume, volume_of}
use Rattle.xfs_geom.specs.declared.geometry.Geometry.{Geometry}
use Rattle.xfs_geom.specs.declared.records.Run.{Run}
use Rattle.xfs_image.specs.Directories.{dir_of, directories, dirs_read, entries_of, entries_read}
use Rattle.xfs_volume.specs.declared.files.FileRec.{FileRec}
use Rattle.xfs_empty.specs.Inodes.{system_core}
use Rattle.xfs_made.specs.Files.{plain_file}
use Rattle.xfs_proto.specs.declared.protofile.ProtoNode.{ProtoNode}
use Rattle.xfs_render.specs.declared.plan.Plan.{Plan}
use Rattle.xfs_filled.specs.Chunks.{chunk_starts}
use Rattle.xfs_filled.specs.Entries.{entries_at, parent_of_place}
use Rattle.xfs_filled.specs.FileTrees.{places_of_kind}
use Rattle.xfs_populated.specs.Names.{AreDirectoriesBuilt, HasShortForms, ReadsDirectory}
use Rattle.xfs_populated.specs.Populated.{IsPopulated, directory_due, dirs_due, filled_entries, filled_file, filled_files}
use Rattle.xfs_populated.proofs.DirectoriesRead.{directory_reads}
use Rattle.xfs_populated.proofs.DueNames.{due_states}
use Rattle.xfs_populated.proofs.NameLists.{flat_same, map_both, map_same}
use Rattle.xfs_populated.proofs.NamedFiles.{directories_found}
use Rattle.xfs_populated.proofs.NamedPlaces.{directories_are, directories_inside}
use Rattle.xfs_populated.proofs.NumbersStand.{numbers_stand}

module _ (g : Geometry) (sector : List ℕ) (s : Stamp) (ns : List ProtoNode) (contents : List (List ℕ)) (plan : Plan) (blocks : ℕ) (image : Image) (crc : ℕ → ℕ)
    (is : IsPopulated g sector s ns contents plan blocks image) (built : AreDirectoriesBuilt (volume_of g) (chunk_starts g (length ns)) ns)
    (shorts : HasShortForms (volume_of g) (chunk_starts g (length ns)) ns image) where
  abbrev v : Volume
  v = volume_of g

  abbrev starts : List ℕ
  starts = chunk_starts g (length ns)

  abbrev runs : List Run
  runs = is.filled.placed.runs

  abbrev file : ℕ → FileRec
  file = filled_file v s starts ns contents runs crc

  found : directories (filled_files v s starts ns contents runs crc) ≡ map file (places_of_kind ns true)
  unfolding directories filled_files
  found =
      directories_found v starts ns is.files (numbers_stand g ns is.first is.room.chunks) file (plain_file (system_core v s 129) (crc 129)) (plain_file (system_core v s 130) (crc 130))
      (due_states v s starts ns contents runs crc is.files)

  each : All (λ k. ReadsDirectory v image (file k) (entries_at v starts ns k) (parent_of_place v starts ns k)) (places_of_kind ns true)
  each m d low =
      directory_reads g sector s ns contents plan blocks image crc is built shorts (get_or (places_of_kind ns true) m d) (directories_inside ns m d low) (directories_are ns m d low)

  pub entries_are : entries_read v image (filled_files v s starts ns contents runs crc) ≡ filled_entries v starts ns
  unfolding entries_read filled_entries
  entries_are =
      ap (flat_map (entries_of v image)) found
      ∙ flat_same (entries_of v image) file (entries_at v starts ns) (places_of_kind ns true) (λ m d low. (each m d low).entries')

  pub dirs_are : dirs_read v image (filled_files v s starts ns contents runs crc) ≡ dirs_due v starts ns
  unfolding dirs_read dirs_due
  dirs_are =
      ap (map (dir_of v image)) found
      ∙ (map_both (dir_of v image) file (places_of_kind ns true)
      ∙ map_same (λ k. dir_of v image (file k)) (directory_due v starts ns) (places_of_kind ns true) (λ m d low.
      let reads = each m d low in
      λ i. record { ino = (file (get_or (places_of_kind ns true) m d)).ino; parent = reads.parent' i; whole = reads.whole i }))
