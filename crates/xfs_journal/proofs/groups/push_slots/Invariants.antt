use Rattle.std.proofs.Common.{◌≡◌, ◌++◌}
use Rattle.std.specs.List.{All}
use Rattle.xfs_image.specs.Lsns.{slot_place}
use Rattle.xfs_tree.specs.Blocks.{each_of}
use Rattle.xfs_journal.proofs.Listing.{rest_of}
use Rattle.xfs_journal.specs.Placed.{IsInBlock, listed}
use Rattle.xfs_journal.proofs.groups.push_slots.Given as goal

abbrev pub invariant-loop-slot : goal.invariant-loop-slot
invariant-loop-slot l = record {
  listed : listed l.places.items ++ rest_of l.slot 8 (slot_place l.block) ≡ listed l.fn.places.items ++ each_of 8 (slot_place l.block);
  inside : All IsInBlock l.places.items;
}
