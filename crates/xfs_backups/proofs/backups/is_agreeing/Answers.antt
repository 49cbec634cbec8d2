-- The first sector of the block that was read is that of the group's first block.
use Rattle.std.proofs.Common.{◌≡◌, ℕ, ◌*◌, [], sym, ap, ◌∙◌}
use Rattle.std.proofs.lemmas.Option.{get_or_from_slice_get}
use Rattle.xfs_disk.specs.Blocks.{bytes_of_block}
use Rattle.xfs_geom.specs.Election.{super_of}
use Rattle.xfs_geom.specs.Superblocks.{is_agreeing}
use Rattle.xfs_geom.specs.Volumes.{Volume}
use Rattle.xfs_backups.specs.Backups.{start_of}
use Rattle.xfs_backups.proofs.backups.is_agreeing.Goals as goal

pub returns-in-Ok-clause-agreeing : goal.returns-in-Ok-clause-agreeing
unfolding start_of
returns-in-Ok-clause-agreeing g c = λ image told.
    let at : ℕ = c.start_of_group.result in
    let place : at ≡ start_of c.args.primary.now c.args.group = c.start_of_group.ensures.value ∙ ap (λ (v : Volume). c.args.group * v.agblocks) c.requires.stated in
    let read : c.read.new.into ≡ bytes_of_block image at = sym (get_or_from_slice_get image at c.read.new.into [] (c.in-Ok.ensures.bytes image told)) in
    let sector : c.first_sector.result.now ≡ super_of (bytes_of_block image (start_of c.args.primary.now c.args.group)) =
    c.first_sector.ensures.value ∙ ap super_of read ∙ ap (λ (p : ℕ). super_of (bytes_of_block image p)) place in
    c.agrees.ensures ∙ (λ i. is_agreeing (c.requires.stated i) (sector i))

pub returns-in-Ok-clause-cause : goal.returns-in-Ok-clause-cause
returns-in-Ok-clause-cause g c = c.in-Ok.ensures.cause

pub returns-in-Ok-clause-disk : goal.returns-in-Ok-clause-disk
returns-in-Ok-clause-disk g c = record {
  same_size = c.read.ensures.size;
  same_contents = c.read.ensures.holds;
  same_write_faults = c.read.ensures.write_faults;
  same_writes = c.read.ensures.writes;
  tells = c.read.ensures.tells;
  leaves = c.read.ensures.stops;
  past = c.read.ensures.past;
}

pub returns-in-Err-clause-agreeing : goal.returns-in-Err-clause-agreeing
returns-in-Err-clause-agreeing g c = tt

pub returns-in-Err-clause-cause : goal.returns-in-Err-clause-cause
returns-in-Err-clause-cause g c = c.in-Err.ensures.cause

pub returns-in-Err-clause-disk : goal.returns-in-Err-clause-disk
returns-in-Err-clause-disk g c = record {
  same_size = c.read.ensures.size;
  same_contents = c.read.ensures.holds;
  same_write_faults = c.read.ensures.write_faults;
  same_writes = c.read.ensures.writes;
  tells = c.read.ensures.tells;
  leaves = c.read.ensures.stops;
  past = c.read.ensures.past;
}
