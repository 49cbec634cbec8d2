use Rattle.std.proofs.Common.{◌≡◌, ◌++◌, map}
use Rattle.xfs_objects.specs.Items.{AllInside, row_items, item_of}
use Rattle.xfs_objects.proofs.items.push_run.Given as goal

abbrev pub invariant-loop-i : goal.invariant-loop-i
invariant-loop-i l =
    record {
      items : map item_of l.items.items ≡ map item_of l.fn.items.items ++ row_items l.run.name.now l.run.first l.i l.run.offset l.run.step l.run.shape;
      inside : AllInside l.size l.items.items;
    }
