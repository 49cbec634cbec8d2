use Rattle.std.proofs.Common.{◌≡◌, bytes_eq, map, drop}
use Rattle.std.specs.List.{find}
use Rattle.xfs_objects.specs.Tables.{Item}
use Rattle.xfs_objects.specs.Items.{item_of}
use Rattle.xfs_objects.proofs.items.find_item.Given as goal

abbrev pub invariant-loop-item : goal.invariant-loop-item
invariant-loop-item l =
    let named : Item → _ = λ i. bytes_eq i.name l.name in find named (map item_of (drop l.item-index l.items)) ≡ find named (map item_of l.items)
