use Rattle.std.proofs.Common.{◌≡◌, ℕ, nat_lt, refl}
use Rattle.std.proofs.lemmas.Bool.{le-ltb, lt-ltb}
use Rattle.xfs_geom.specs.Volumes.{volume_of}
use Rattle.xfs_inode.specs.Files.{are_blocks}
use Rattle.xfs_inode.proofs.Tested.{tested_all, tested_more, tested_stop}
use Rattle.xfs_inode.proofs.claims.are_blocks.Goals as goal

pub loop-block-init : goal.loop-block-init
loop-block-init c = refl

pub returns-then-block-g : goal.returns-then-block-g
returns-then-block-g c =
    let blocks = c.args.blocks.now in
    tested_stop (λ (block : ℕ). nat_lt block c.args.g.now.dblocks) blocks c.loop-block.block-index 0 (are_blocks (volume_of c.args.g.now) blocks)
    c.loop-block-test.true (le-ltb _ _ c.if-block-g.true) c.loop-block.invariant

pub loop-block-preserved : goal.loop-block-preserved
loop-block-preserved c =
    let blocks = c.args.blocks.now in
    tested_more (λ (block : ℕ). nat_lt block c.args.g.now.dblocks) blocks c.loop-block.block-index 0 (are_blocks (volume_of c.args.g.now) blocks)
    c.loop-block-test.true (lt-ltb _ _ c.if-block-g.false) c.loop-block.invariant

pub returns : goal.returns
returns c =
    let blocks = c.args.blocks.now in
    tested_all (λ (block : ℕ). nat_lt block c.args.g.now.dblocks) blocks c.loop-block.block-index (are_blocks (volume_of c.args.g.now) blocks) c.loop-block-test.false c.loop-block.invariant
