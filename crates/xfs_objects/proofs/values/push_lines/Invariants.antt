use Rattle.std.proofs.Common.{◌≡◌, ◌++◌, map, take}
use Rattle.std.specs.List.{flat_map}
use Rattle.xfs_objects.specs.Items.{item_of}
use Rattle.xfs_objects.specs.Values.{item_line}
use Rattle.xfs_objects.proofs.values.push_lines.Given as goal

abbrev pub invariant-loop-item : goal.invariant-loop-item
invariant-loop-item l = l.text.items ≡ l.fn.text.items ++ flat_map (item_line l.object) (map item_of (take l.item-index l.items))
