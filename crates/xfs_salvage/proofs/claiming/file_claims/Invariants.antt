use Rattle.std.proofs.Common.{◌≡◌, ◌++◌, ◌↔◌, drop, map}
use Rattle.xfs_geom.specs.Volumes.{volume_of}
use Rattle.xfs_views.specs.Claimed.{file_claim}
use Rattle.xfs_salvage.specs.Claimable.{AscendClaiming}
use Rattle.xfs_salvage.proofs.claiming.file_claims.Given as goal

abbrev pub invariant-loop-file : goal.invariant-loop-file
invariant-loop-file g l = record {
  left : AscendClaiming (volume_of l.g) l.low (drop l.file-index l.files) ↔ AscendClaiming (volume_of l.g) 0 l.files;
  same : l.claims.items ++ map (file_claim (volume_of l.g)) (drop l.file-index l.files) ≡ map (file_claim (volume_of l.g)) l.files;
}
