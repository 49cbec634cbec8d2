-- One block more was looked at.
use Rattle.std.proofs.Common.{ℕ, ◌≤◌, List, length, arith, refl, ap, ◌∙◌}
use Rattle.std.specs.List.{list_any}
use Rattle.std.proofs.lemmas.List.{take_all}
use Rattle.xfs_disk.proofs.Reading.{reads_none, reads_on}
use Rattle.xfs_disk.specs.Blocks.{bytes_of_block}
use Rattle.xfs_mkfs.specs.Marks.{bears}
use Rattle.xfs_mkfs.proofs.Marking.{block_bytes, one_more, reads_more}
use Rattle.xfs_mkfs.proofs.marks.look_at.Goals as goal

pub loop-block-init : goal.loop-block-init
loop-block-init g c =
    let D = g.D.Disk in
    record {
      there = λ image told. refl;
      faults = omega arith;
      disk = reads_none D.size D.holds D.write_faults D.writes D.tells_stops D.moment D.may_leave D.left_since c.args.disk.now;
      reads = refl;
    }

pub loop-block-preserved : goal.loop-block-preserved
loop-block-preserved g c =
    let D = g.D.Disk in
    let read = c.in-Ok.ensures in
    let was = c.loop-block.invariant in
    record {
      there = λ image told.
          let bytes = block_bytes image _ c.read.new.into (read.bytes image (was.disk.same_contents ∙ told)) in
          one_more image c.args.blocks.now c.loop-block.block-index c.loop-block.there c.either-there.result c.bears.result _ c.read.new.into
          c.loop-block-test.true refl bytes (was.there image told) c.bears.ensures c.either-there.ensures;
      faults = let before = was.faults in let more = read.cause in omega (arith, before, more);
      disk = reads_on D.size D.holds D.write_faults D.writes D.tells_stops D.moment D.may_leave D.left_since c.args.disk.now c.loop-block.disk c.read.new.self was.disk
          (record { same_size = read.size; same_contents = read.holds; same_write_faults = read.write_faults; same_writes = read.writes; tells = read.tells; leaves = read.stops; past = read.past });
      reads = reads_more (D.reads c.args.disk.now) (D.reads c.loop-block.disk) (D.reads c.read.new.self) c.loop-block.block-index was.reads read.reads;
    }

pub returns-clause-value : goal.returns-clause-value
returns-clause-value g c = λ image told.
    let ended : length c.args.blocks.now ≤ c.loop-block.block-index = omega (arith, c.loop-block-test.false) in
    c.loop-block.invariant.there image told
    ∙ ap (λ (blocks : List ℕ). list_any (λ (block : ℕ). bears block (bytes_of_block image block)) blocks) (take_all c.loop-block.block-index c.args.blocks.now ended)
