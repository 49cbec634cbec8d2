-- The files that a new volume is due to have break no law of names.
use Rattle.std.proofs.Common.{ℕ, List, length, refl}
use Rattle.xfs_disk.specs.declared.stamp.Stamp.{Stamp}
use Rattle.xfs_geom.specs.Volumes.{Volume}
use Rattle.xfs_geom.specs.declared.records.Run.{Run}
use Rattle.xfs_naming.specs.Lawful.{IsSystemFile}
use Rattle.xfs_naming.specs.Naming.{naming_laws}
use Rattle.xfs_volume.specs.Laws.{AreKept}
use Rattle.xfs_empty.specs.Inodes.{system_core}
use Rattle.xfs_made.specs.Files.{plain_file}
use Rattle.xfs_proto.specs.declared.protofile.ProtoNode.{ProtoNode}
use Rattle.xfs_filled.specs.FileTrees.{AreProtoNodes}
use Rattle.xfs_populated.specs.Names.{HasFileNumbers}
use Rattle.xfs_populated.specs.Populated.{dirs_due, filled_entries, filled_file, filled_files}
use Rattle.xfs_populated.proofs.NamedFiles.{StatesFiles}
use Rattle.xfs_populated.proofs.NamesKept.{names_kept}

system_file : (v : Volume) (s : Stamp) (ino crc : ℕ) → IsSystemFile ino (plain_file (system_core v s ino) crc)
system_file v s ino crc = record { number = refl; regular = refl; no_bytes = refl; no_data = refl; no_tree = refl; one_link = refl }

pub due_states : (v : Volume) (s : Stamp) (starts : List ℕ) (ns : List ProtoNode) (contents : List (List ℕ)) (runs : List Run) (crc : ℕ → ℕ) → AreProtoNodes ns
    → StatesFiles v starts ns (filled_file v s starts ns contents runs crc) (plain_file (system_core v s 129) (crc 129)) (plain_file (system_core v s 130) (crc 130))
due_states v s starts ns contents runs crc fs = record {
  ino = λ k. refl;
  type' = λ k low. fs.types k low;
  first' = system_file v s 129 (crc 129);
  second' = system_file v s 130 (crc 130);
}

pub due_names_kept : (v : Volume) (s : Stamp) (starts : List ℕ) (ns : List ProtoNode) (contents : List (List ℕ)) (runs : List Run) (crc : ℕ → ℕ) → AreProtoNodes ns
    → HasFileNumbers v starts (length ns) → AreKept (naming_laws 128 (filled_files v s starts ns contents runs crc) (filled_entries v starts ns) (dirs_due v starts ns))
unfolding filled_files
due_names_kept v s starts ns contents runs crc fs numbers =
    names_kept v starts ns fs numbers (filled_file v s starts ns contents runs crc) (plain_file (system_core v s 129) (crc 129)) (plain_file (system_core v s 130) (crc 130))
    (due_states v s starts ns contents runs crc fs) (λ k low. refl)
