use Rattle.std.proofs.lemmas.List.Sorted.{searched}
use Rattle.xfs_naming.proofs.Ascending.{ascend_rises}
use Rattle.xfs_naming.proofs.numbering.place_of.Goals as goal

pub returns : goal.returns
returns c = searched c.args.numbers.now c.args.number c.binary_search.result c.binary_search.ensures.position (ascend_rises 0 c.args.numbers.now c.requires)
