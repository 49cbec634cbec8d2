use Rattle.std.proofs.Common.{◌*◌, arith}
use Rattle.xfs_word.proofs.Register.{eight, entry_behind, entry_first}
use Rattle.xfs_word.proofs.checksum.entries.Goals as goal

pub returns : goal.returns
returns c =
    let rows = c.args.rows in
    eight (8 * rows) c.args.word c.entry-8.result c.entry-7.result c.entry-6.result c.entry-5.result c.entry-4.result c.entry-3.result c.entry-2.result c.entry.result (omega arith)
    (entry_behind rows 7 64 _ _ c.entry-8.ensures (omega arith))
    (entry_behind rows 6 56 _ _ c.entry-7.ensures (omega arith))
    (entry_behind rows 5 48 _ _ c.entry-6.ensures (omega arith))
    (entry_behind rows 4 40 _ _ c.entry-5.ensures (omega arith))
    (entry_behind rows 3 32 _ _ c.entry-4.ensures (omega arith))
    (entry_behind rows 2 24 _ _ c.entry-3.ensures (omega arith))
    (entry_behind rows 1 16 _ _ c.entry-2.ensures (omega arith))
    (entry_first rows _ _ c.entry.ensures)
