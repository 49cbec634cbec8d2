-- One more row.
use Rattle.std.proofs.Common.{◌≡◌, [], length, get_or, arith}
use Rattle.std.proofs.lemmas.List.{get_or_default}
use Rattle.xfs_writing.proofs.RowSteps.{next_row}
use Rattle.xfs_backups.proofs.backups.rows_of.Goals as goal

pub loop-place-preserved : goal.loop-place-preserved
loop-place-preserved c =
    let places = c.args.places.now in
    let i = c.loop-place.place-index in
    let number : c.len-index.result ≡ length c.loop-place.rows.items = omega (arith, c.len-index.ensures, c.loop-place.rows.ok.0) in
    next_row [] c.loop-place.rows.items c.push.new.self.items places i (get_or places i 0) c.len-index.result
    c.loop-place-test.true (get_or_default places i 0 (get_or places i 0) c.loop-place-test.true) c.loop-place.invariant number
    c.in_ok-push.ensures.items
