use Rattle.std.proofs.Common.{◌∙◌, ap, ◌==◌}
use Rattle.xfs_names.proofs.ByNumber.{kind_tells}
use Rattle.xfs_names.proofs.lookup.is_directory_near.Goals as goal

pub returns : goal.returns
returns c = ap (λ k. k == 4) c.kind_near.ensures ∙ kind_tells 0 c.args.nodes.now c.args.ino c.requires
