use Rattle.xfs_word.proofs.Rows.{far_entry_of}
use Rattle.xfs_word.proofs.checksum.far_entry.Goals as goal

pub returns : goal.returns
returns c = far_entry_of c.args.row c.args.word c.requires
