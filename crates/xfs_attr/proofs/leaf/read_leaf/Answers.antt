use Rattle.xfs_attr.proofs.Disjoint.{disjoint}
use Rattle.xfs_attr.proofs.leaf.read_leaf.Goals as goal

pub returns-then-not-are_local-clause-disjoint : goal.returns-then-not-are_local-clause-disjoint
returns-then-not-are_local-clause-disjoint c = λ count. disjoint c.args.block.now count c.requires

pub returns-then-not-is_sound_leaf-clause-disjoint : goal.returns-then-not-is_sound_leaf-clause-disjoint
returns-then-not-is_sound_leaf-clause-disjoint c = λ count. disjoint c.args.block.now count c.requires

pub returns-in-Ok-clause-disjoint : goal.returns-in-Ok-clause-disjoint
returns-in-Ok-clause-disjoint c = λ count. disjoint c.args.block.now count c.requires

pub returns-in-Err-clause-disjoint : goal.returns-in-Err-clause-disjoint
returns-in-Err-clause-disjoint c = λ count. disjoint c.args.block.now count c.requires
