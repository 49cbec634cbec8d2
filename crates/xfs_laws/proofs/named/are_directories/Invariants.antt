use Rattle.std.proofs.Common.{◌≡◌, ◌↔◌, ◌≤◌, drop, filter, length, map}
use Rattle.xfs_volume.specs.Names.{is_directory}
use Rattle.xfs_volume.specs.declared.directories.DirRec.{DirRec}
use Rattle.xfs_volume.specs.declared.files.FileRec.{FileRec}
use Rattle.xfs_laws.proofs.named.are_directories.Given as goal

abbrev pub invariant-loop-file : goal.invariant-loop-file
invariant-loop-file l = record {
  within : l.at ≤ length l.dirs;
  left :
      map (λ (d : DirRec). d.ino) (drop l.at l.dirs) ≡ map (λ (f : FileRec). f.ino) (filter is_directory (drop l.file-index l.files))
      ↔ map (λ (d : DirRec). d.ino) l.dirs ≡ map (λ (f : FileRec). f.ino) (filter is_directory l.files);
}
