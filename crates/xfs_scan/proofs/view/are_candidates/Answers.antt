use Rattle.std.proofs.Common.{false, rules}
use Rattle.xfs_slots.proofs.Rests.{agree_before}
use Rattle.xfs_scan.proofs.view.are_candidates.Goals as goal

pub loop-i-preserved : goal.loop-i-preserved
loop-i-preserved c =
    let before = c.loop-i.invariant in
    record {
      agree = λ rest. before.agree (agree_before c.args.clusters.now c.args.candidates.now c.loop-i.i (record { block = 0; recorded = false }) (search rules) (search rules) c.if-clusters-i.false rest);
      many = before.many;
      ends = before.ends;
    }
