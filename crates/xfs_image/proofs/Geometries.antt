-- The numbers of a volume make its geometry.
use Rattle.std.proofs.Common.{◌≡◌, ℕ}
use Rattle.std.proofs.Math.Path.{PathP, to_path_p}
use Rattle.std.proofs.Props.{props}
use Rattle.xfs_geom.specs.Shape.{IsShaped}
use Rattle.xfs_geom.specs.Volumes.{volume_of}
use Rattle.xfs_geom.specs.declared.geometry.Geometry.{Geometry}

shape_prop : (a b c d e f g h : ℕ) → IsProp (IsShaped a b c d e f g h)
shape_prop a b c d e f g h = hlevel props

pub same_geometry : (a b : Geometry) → volume_of a ≡ volume_of b → a ≡ b
same_geometry a b same =
    let shape : PathP (λ i. IsShaped (same i).dblocks (same i).agblocks (same i).agcount (same i).agblklog (same i).log (same i).logblocks (same i).rootino (same i).logsectlog) a.shape b.shape =
    to_path_p (λ i. IsShaped (same i).dblocks (same i).agblocks (same i).agcount (same i).agblklog (same i).log (same i).logblocks (same i).rootino (same i).logsectlog)
    (shape_prop b.dblocks b.agblocks b.agcount b.agblklog b.log b.logblocks b.rootino b.logsectlog _ _) in
    λ i. record {
      dblocks = (same i).dblocks;
      agblocks = (same i).agblocks;
      agcount = (same i).agcount;
      agblklog = (same i).agblklog;
      log = (same i).log;
      logblocks = (same i).logblocks;
      rootino = (same i).rootino;
      logsectlog = (same i).logsectlog;
      uuid = (same i).uuid;
      shape = shape i;
    }
