use Rattle.xfs_word.proofs.Rows.{entry_of}
use Rattle.xfs_word.proofs.checksum.entry.Goals as goal

pub returns : goal.returns
returns c = entry_of c.args.row c.args.word c.requires
