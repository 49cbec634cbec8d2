use Rattle.std.proofs.Common.{◌≡◌, ◌+◌, ◌^◌, ◌<◌, drop}
use Rattle.std.specs.List.{sum_by}
use Rattle.xfs_scan.specs.Refused.{extents_of}
use Rattle.xfs_scan.proofs.limits.count_extents.Given as goal

abbrev pub invariant-loop-file : goal.invariant-loop-file
invariant-loop-file l = record {
  counted : l.count + sum_by extents_of (drop l.file-index l.files) ≡ sum_by extents_of l.files;
  fits : l.count < 2 ^ 64;
}
