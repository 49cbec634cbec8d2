use Rattle.xfs_views.proofs.TreesStay.{tree_stays}
use Rattle.xfs_views.proofs.staying_trees.trees_stay.Goals as goal

pub returns : goal.returns
returns c d = record { stays = tree_stays }
