use Rattle.std.proofs.Common.{arith, rules}
use Rattle.xfs_scan.proofs.Counting.{counted_all}
use Rattle.xfs_scan.proofs.limits.count_extents.Goals as goal

pub returns : goal.returns
returns c =
    let all = counted_all c.args.files.now c.loop-file.file-index c.loop-file.count (search rules) c.loop-file.invariant.counted in
    let fits = c.loop-file.invariant.fits in
    (omega (arith, all, fits), all)
