use Rattle.std.proofs.Common.{false, arith}
use Rattle.xfs_naming.specs.Naming.{AreGrouped}
use Rattle.xfs_volume.specs.declared.directories.DirRec.{DirRec}
use Rattle.xfs_laws.proofs.Grouped.{one_more, none_left}
use Rattle.xfs_laws.proofs.named.are_grouped.Goals as goal

some : DirRec
some = record { ino = 0; parent = 0; whole = false }

pub loop-index-preserved : goal.loop-index-preserved
loop-index-preserved c = record {
  within = omega (arith, c.own_entries-at.ensures.within);
  left =
      one_more c.args.dirs.now c.args.entries.now c.loop-index.index c.loop-index.at c.own_entries-at.result some
      (AreGrouped c.args.dirs.now c.args.entries.now) c.loop-index-test.true (c.own_entries-at.ensures.own some) c.loop-index.invariant.left;
}

pub returns : goal.returns
returns c =
    none_left c.args.dirs.now c.args.entries.now c.loop-index.index c.loop-index.at
    (AreGrouped c.args.dirs.now c.args.entries.now)
    (omega arith) (omega arith) c.loop-index.invariant.left
