use Rattle.std.proofs.Common.{◌∙◌, ap}
use Rattle.xfs_proto.specs.Numbers.{limited}
use Rattle.xfs_proto.proofs.Decimals.{bounded_below}
use Rattle.xfs_proto.proofs.numbers.number_below.Goals as goal

pub returns : goal.returns
returns c = c.limited.ensures ∙ (ap (limited c.args.limit) c.read_decimal.ensures ∙ bounded_below c.args.limit c.args.text.now c.requires)
