use Rattle.std.proofs.Common.{◌≡◌, ◌+◌, ◌++◌}
use Rattle.std.specs.List.{All}
use Rattle.xfs_image.specs.Lsns.{at}
use Rattle.xfs_journal.specs.Placed.{IsInBlock, byte_of, listed}
use Rattle.xfs_journal.proofs.Listing.{rest_of}
use Rattle.xfs_journal.proofs.extents.push_run.Given as goal

abbrev pub invariant-loop-i : goal.invariant-loop-i
invariant-loop-i l = record {
  listed : listed l.places.items ++ rest_of l.i l.count (λ i. at (byte_of l.owner (l.offset + i)) (l.start + i))
      ≡ listed l.fn.places.items ++ rest_of 0 l.count (λ i. at (byte_of l.owner (l.offset + i)) (l.start + i));
  inside : All IsInBlock l.places.items;
}
