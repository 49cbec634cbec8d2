use Rattle.xfs_place.proofs.ListedRows.{Listed}
use Rattle.xfs_place.proofs.open_rows.list_rows.Given as goal

abbrev pub invariant-loop-block : goal.invariant-loop-block
invariant-loop-block l = Listed l.uses l.block l.found l.rows.starts.items l.rows.counts.items
