use Rattle.std.proofs.Common.{sym, ap, ◌∙◌, arith}
use Rattle.xfs_geom.specs.Volumes.{volume_of}
use Rattle.xfs_disk.specs.Blocks.{bytes_of_block}
use Rattle.xfs_groups.specs.Private.Heads.{heads_of}
use Rattle.xfs_groups.proofs.heads.read_heads.Goals as goal

pub returns-in-Ok : goal.returns-in-Ok
returns-in-Ok g c = record {
  read = λ image told.
      c.heads_in.ensures
      ∙ ap (heads_of (volume_of c.args.g.now) c.args.ag) (sym (c.in-Ok.ensures.bytes image told) ∙ ap (bytes_of_block image) c.start_of_group.ensures.value);
  cause = c.in-Ok.ensures.cause;
  disk = c.in-Ok.ensures.disk;
  reads = omega arith;
  ticks = c.in-Ok.ensures.ticks;
}

pub returns-in-Err : goal.returns-in-Err
returns-in-Err g c = record { read = tt; cause = c.in-Err.ensures.cause; disk = c.in-Err.ensures.disk; reads = omega arith; ticks = c.in-Err.ensures.ticks }
