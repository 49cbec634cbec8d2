use Rattle.std.proofs.Common.{refl}
use Rattle.xfs_rounds.proofs.Rows.{block_more}
use Rattle.xfs_rounds.proofs.pieces.push_block.Goals as goal

pub returns : goal.returns
returns c =
    block_more c.args.round.now c.args.at c.args.blocks.now.items _ _ c.requires.inside c.requires.before refl refl c.in_ok-push.ensures.items
