use Rattle.std.proofs.lemmas.List.{take_rest}
use Rattle.xfs_place.proofs.placing.runs_from.Goals as goal

pub returns : goal.returns
returns c = take_rest c.args.all.now c.args.first
