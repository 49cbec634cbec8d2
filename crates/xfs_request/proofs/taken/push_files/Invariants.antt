use Rattle.std.proofs.Common.{◌≡◌, ◌++◌, drop}
use Rattle.std.specs.List.{flat_map}
use Rattle.xfs_geom.specs.Volumes.{volume_of}
use Rattle.xfs_space.specs.Owners.{file_runs}
use Rattle.xfs_request.proofs.taken.push_files.Given as goal

abbrev pub invariant-loop-file : goal.invariant-loop-file
invariant-loop-file l = l.runs.items ++ flat_map (file_runs (volume_of l.g)) (drop l.file-index l.files) ≡ l.fn.runs.items ++ flat_map (file_runs (volume_of l.g)) l.files
