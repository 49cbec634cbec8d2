use Rattle.std.proofs.Common.{◌≡◌, ◌+◌, ◌-◌, take, drop, length, arith, ap, ◌∙◌}
use Rattle.xfs_collections.proofs.Lists.{block_long}
use Rattle.xfs_collections.proofs.piece.block_of.Goals as goal

pub returns-clause-block : goal.returns-clause-block
returns-clause-block c =
    let width : c.args.piece.now.at + 4096 - c.args.piece.now.at ≡ 4096 = omega arith in
    (λ k. take (width k) (drop c.args.piece.now.at (c.bytes.ensures k)))

pub returns-clause-size : goal.returns-clause-size
returns-clause-size c =
    let width : c.args.piece.now.at + 4096 - c.args.piece.now.at ≡ 4096 = omega arith in
    ap length (λ k. take (width k) (drop c.args.piece.now.at (c.bytes.ensures k))) ∙ block_long c.args.piece.now c.requires
