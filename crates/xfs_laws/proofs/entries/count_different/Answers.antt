use Rattle.std.proofs.Common.{arith, sym, ◌∙◌}
use Rattle.xfs_laws.proofs.Repeated.{again, new}
use Rattle.xfs_laws.proofs.entries.count_different.Goals.{then-not-is_repeated, else-not-is_repeated}
use Rattle.xfs_laws.proofs.entries.count_different.Goals as goal

pub loop-index-preserved : goal.loop-index-preserved
loop-index-preserved c =
    elim c.if-not-is_repeated.branch [
      | then-not-is_repeated w ↦
          let more = new c.args.entries.now c.loop-index.index c.loop-index-test.true (sym c.is_repeated.ensures ∙ w.if-not-is_repeated.true) in
          record {
            few = omega (arith, w.count-is, c.loop-index.invariant.few);
            left = omega (arith, more, w.count-is, c.loop-index.invariant.left);
          }
      | else-not-is_repeated w ↦
          let same = again c.args.entries.now c.loop-index.index c.loop-index-test.true (sym c.is_repeated.ensures ∙ w.if-not-is_repeated.false) in
          record {
            few = omega (arith, w.count-is, c.loop-index.invariant.few);
            left = omega (arith, same, w.count-is, c.loop-index.invariant.left);
          }
    ]
