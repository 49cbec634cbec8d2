use Rattle.std.proofs.Common.{◌≡◌, ◌++◌, drop, map}
use Rattle.std.specs.List.{All}
use Rattle.xfs_image.specs.Lsns.{at}
use Rattle.xfs_journal.specs.Placed.{IsInBlock, listed}
use Rattle.xfs_journal.proofs.places.push_each.Given as goal

abbrev pub invariant-loop-block : goal.invariant-loop-block
invariant-loop-block l = record {
  listed : listed l.places.items ++ map (at l.byte) (drop l.block-index l.blocks) ≡ listed l.fn.places.items ++ map (at l.byte) l.blocks;
  inside : All IsInBlock l.places.items;
}
