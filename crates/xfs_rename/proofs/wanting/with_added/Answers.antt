use Rattle.std.proofs.Common.{ap, ◌∙◌}
use Rattle.std.proofs.lemmas.Result.{IfOk-from_err}
use Rattle.xfs_rename.specs.Settled.{with_numbers}
use Rattle.xfs_rename.proofs.wanting.with_added.Goals as goal

pub returns-in_err-clusters : goal.returns-in_err-clusters
returns-in_err-clusters c = IfOk-from_err c.from_residual.result _ c.from_residual.ensures.0

pub returns : goal.returns
returns c = λ i. record c.args.kept { clusters = (c.from_vec.ensures ∙ c.in_ok-clusters.ensures ∙ ap (with_numbers c.args.added.now) c.into_vec.ensures) i }
