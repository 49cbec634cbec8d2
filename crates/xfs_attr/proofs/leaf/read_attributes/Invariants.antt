use Rattle.std.proofs.Common.{◌≡◌, map}
use Rattle.std.specs.List.{filter}
use Rattle.xfs_attr.specs.Leaf.{entries, is_complete, attribute_of}
use Rattle.xfs_attr.proofs.leaf.read_attributes.Given as goal

abbrev pub invariant-loop-index : goal.invariant-loop-index
invariant-loop-index l = l.attributes.items ≡ map (attribute_of l.block) (filter is_complete (entries l.block l.index))
