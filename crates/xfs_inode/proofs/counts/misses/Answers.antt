use Rattle.std.proofs.Common.{refl, sym, ◌∙◌}
use Rattle.std.specs.List.{list_all}
use Rattle.xfs_inode.specs.declared.claims.BlockRange.{BlockRange}
use Rattle.xfs_inode.specs.Files.{is_apart, range_of_block}
use Rattle.xfs_inode.proofs.Tested.{tested_all, tested_more, tested_stop}
use Rattle.xfs_inode.proofs.counts.misses.Goals as goal

abbrev none : BlockRange
none = record { start = 0; end = 0 }

pub loop-run-init : goal.loop-run-init
loop-run-init c = refl

pub returns-then-not-is_beside : goal.returns-then-not-is_beside
returns-then-not-is_beside c =
    let test = is_apart (range_of_block c.args.block) in
    tested_stop test c.args.runs.now c.loop-run.run-index none (list_all test c.args.runs.now) c.loop-run-test.true (sym c.is_beside.ensures ∙ c.if-not-is_beside.true) c.loop-run.invariant

pub loop-run-preserved : goal.loop-run-preserved
loop-run-preserved c =
    let test = is_apart (range_of_block c.args.block) in
    tested_more test c.args.runs.now c.loop-run.run-index none (list_all test c.args.runs.now) c.loop-run-test.true (sym c.is_beside.ensures ∙ c.if-not-is_beside.false) c.loop-run.invariant

pub returns : goal.returns
returns c =
    let test = is_apart (range_of_block c.args.block) in
    tested_all test c.args.runs.now c.loop-run.run-index (list_all test c.args.runs.now) c.loop-run-test.false c.loop-run.invariant
