use Rattle.xfs_objects.proofs.Listing.{two_parts}
use Rattle.xfs_objects.specs.Items.{agfl_items, item_of}
use Rattle.xfs_objects.proofs.items.free_list_items.Goals as goal

pub returns-clause-items : goal.returns-clause-items
unfolding agfl_items
returns-clause-items c =
    two_parts item_of _ _ _ _ _ c.new-items.ensures.items c.in_ok-push_fields.ensures.items c.in_ok-push_array.ensures.items
