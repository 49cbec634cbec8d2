use Rattle.std.proofs.Common.{ap, ◌∙◌}
use Rattle.xfs_geom.specs.Volumes.{volume_of}
use Rattle.xfs_request.specs.Cycles.{kept_lsns}
use Rattle.xfs_rebuild.specs.Bytes.{file_lsns}
use Rattle.xfs_rebuild.proofs.bytes.kept_numbers.Goals as goal

pub kept_lsns-requires-clause-files : goal.kept_lsns-requires-clause-files
kept_lsns-requires-clause-files g c = c.requires.files

pub kept_lsns-requires-clause-clusters : goal.kept_lsns-requires-clause-clusters
kept_lsns-requires-clause-clusters g c = c.requires.clusters

pub returns-in-Err : goal.returns-in-Err
returns-in-Err g c =
    let failed = c.in-Err.ensures in
    record { numbers = tt; refused = failed.refused; cause = failed.cause; disk = failed.disk }

pub returns-in-Ok-kept_lsns : goal.returns-in-Ok-kept_lsns
returns-in-Ok-kept_lsns g c =
    let v = volume_of c.args.g.now in
    let read = c.in-Ok.ensures in
    record {
      numbers = λ image told.
          c.in-Ok-kept_lsns.ensures
          ∙ ap (kept_lsns v c.args.kept.now c.args.seen.now) (c.as_slice-2.ensures.value ∙ read.lsns image told ∙ ap (file_lsns v image) c.as_slice.ensures);
      refused = tt;
      cause = read.cause;
      disk = read.disk;
    }

pub returns : goal.returns
returns g c =
    let read = c.in-Ok.ensures in
    record { numbers = tt; refused = tt; cause = read.cause; disk = read.disk }
