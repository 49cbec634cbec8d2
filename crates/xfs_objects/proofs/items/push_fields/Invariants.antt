use Rattle.std.proofs.Common.{◌≡◌, ◌++◌, map, take}
use Rattle.xfs_objects.specs.Items.{AllInside, field_item, item_of}
use Rattle.xfs_objects.proofs.items.push_fields.Given as goal

abbrev pub invariant-loop-field : goal.invariant-loop-field
invariant-loop-field l =
    record {
      items : map item_of l.items.items ≡ map item_of l.fn.items.items ++ map field_item (take l.field-index l.fields);
      inside : AllInside l.size l.items.items;
    }
