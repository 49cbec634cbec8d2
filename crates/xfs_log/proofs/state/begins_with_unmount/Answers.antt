use Rattle.std.proofs.Common.{length, refl, ap, ◌∙◌}
use Rattle.xfs_log.specs.Log.{is_unmount}
use Rattle.xfs_log.proofs.Zeros.{all_listed}
use Rattle.xfs_log.proofs.state.begins_with_unmount.Goals as goal

pub returns : goal.returns
returns c = c.is_unmount.ensures ∙ ap (λ xs. is_unmount xs 0) (all_listed c.args.seen.now (length c.args.seen.now) refl)
