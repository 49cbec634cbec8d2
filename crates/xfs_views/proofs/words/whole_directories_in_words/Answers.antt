use Rattle.xfs_views.proofs.Wholes.{leaf_both, node_both, single_both, whole_both}
use Rattle.xfs_views.proofs.words.whole_directories_in_words.Goals as goal

pub returns-clause-single : goal.returns-clause-single
returns-clause-single c = single_both

pub returns-clause-leaf : goal.returns-clause-leaf
returns-clause-leaf c = leaf_both

pub returns-clause-node : goal.returns-clause-node
returns-clause-node c = node_both

pub returns-clause-whole : goal.returns-clause-whole
returns-clause-whole c = whole_both
