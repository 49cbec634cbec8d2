use Rattle.std.proofs.Common.{◌≡◌, ◌++◌, ◌<◌, ◌^◌, drop, take}
use Rattle.std.specs.List.{All, flat_map}
use Rattle.xfs_geom.specs.Volumes.{volume_of}
use Rattle.xfs_volume.specs.declared.files.FileRec.{FileRec}
use Rattle.xfs_space.specs.Owners.{file_runs}
use Rattle.xfs_space.proofs.owned_files.push_files.Given as goal

abbrev pub invariant-loop-file : goal.invariant-loop-file
invariant-loop-file l = record {
  same : l.runs.items ++ flat_map (file_runs (volume_of l.g)) (drop l.file-index l.files) ≡ l.fn.runs.items ++ flat_map (file_runs (volume_of l.g)) l.files;
  small : All (λ (f : FileRec). f.ino < 2 ^ 64) (take l.file-index l.files);
}
