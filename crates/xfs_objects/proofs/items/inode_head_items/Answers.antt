use Rattle.xfs_objects.proofs.Listing.{three_parts}
use Rattle.xfs_objects.specs.Items.{agi_items, item_of}
use Rattle.xfs_objects.proofs.items.inode_head_items.Goals as goal

pub returns-clause-items : goal.returns-clause-items
unfolding agi_items
returns-clause-items c =
    three_parts item_of _ _ _ _ _ _ _ c.new-items.ensures.items c.in_ok-push_fields.ensures.items c.in_ok-push_array.ensures.items c.in_ok-push_fields-2.ensures.items
