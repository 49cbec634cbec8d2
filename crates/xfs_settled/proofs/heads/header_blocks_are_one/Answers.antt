use Rattle.xfs_settled.proofs.Headers.{header_one}
use Rattle.xfs_settled.proofs.heads.header_blocks_are_one.Goals as goal

pub returns : goal.returns
returns c = header_one
