use Rattle.std.proofs.Common.{◌*◌, arith}
use Rattle.xfs_word.proofs.Register.{four, entry_behind, entry_first}
use Rattle.xfs_word.proofs.checksum.four_entries.Goals as goal

pub returns : goal.returns
returns c =
    let rows = c.args.rows in
    four (8 * rows) c.args.word c.entry-4.result c.entry-3.result c.entry-2.result c.entry.result (omega arith)
    (entry_behind rows 3 32 _ _ c.entry-4.ensures (omega arith))
    (entry_behind rows 2 24 _ _ c.entry-3.ensures (omega arith))
    (entry_behind rows 1 16 _ _ c.entry-2.ensures (omega arith))
    (entry_first rows _ _ c.entry.ensures)
