use Rattle.std.proofs.Common.{ℕ, refl, sym, ◌∙◌}
use Rattle.std.specs.List.{list_all}
use Rattle.xfs_inode.specs.Files.{is_apart, range_of_block}
use Rattle.xfs_inode.proofs.Tested.{tested_all, tested_more, tested_stop}
use Rattle.xfs_inode.proofs.counts.miss.Goals as goal

pub loop-block-init : goal.loop-block-init
loop-block-init c = refl

pub returns-then-not-misses : goal.returns-then-not-misses
returns-then-not-misses c =
    let test = λ (block : ℕ). list_all (is_apart (range_of_block block)) c.args.runs.now in
    tested_stop test c.args.blocks.now c.loop-block.block-index 0 (list_all test c.args.blocks.now) c.loop-block-test.true (sym c.misses.ensures ∙ c.if-not-misses.true) c.loop-block.invariant

pub loop-block-preserved : goal.loop-block-preserved
loop-block-preserved c =
    let test = λ (block : ℕ). list_all (is_apart (range_of_block block)) c.args.runs.now in
    tested_more test c.args.blocks.now c.loop-block.block-index 0 (list_all test c.args.blocks.now) c.loop-block-test.true (sym c.misses.ensures ∙ c.if-not-misses.false) c.loop-block.invariant

pub returns : goal.returns
returns c =
    let test = λ (block : ℕ). list_all (is_apart (range_of_block block)) c.args.runs.now in
    tested_all test c.args.blocks.now c.loop-block.block-index (list_all test c.args.blocks.now) c.loop-block-test.false c.loop-block.invariant
