use Rattle.std.proofs.lemmas.Result.{IfOk-from_err}
use Rattle.xfs_journal.proofs.places.all_places.Goals as goal

pub returns-in_err-push-clause-listed : goal.returns-in_err-push-clause-listed
returns-in_err-push-clause-listed c = IfOk-from_err c.from_residual-in_err-push.result _ c.from_residual-in_err-push.ensures.0

pub returns-in_err-push-clause-inside : goal.returns-in_err-push-clause-inside
returns-in_err-push-clause-inside c = IfOk-from_err c.from_residual-in_err-push.result _ c.from_residual-in_err-push.ensures.0

pub returns-in_err-push_group_places-clause-listed : goal.returns-in_err-push_group_places-clause-listed
returns-in_err-push_group_places-clause-listed c = IfOk-from_err c.from_residual-in_err-push_group_places.result _ c.from_residual-in_err-push_group_places.ensures.0

pub returns-in_err-push_group_places-clause-inside : goal.returns-in_err-push_group_places-clause-inside
returns-in_err-push_group_places-clause-inside c = IfOk-from_err c.from_residual-in_err-push_group_places.result _ c.from_residual-in_err-push_group_places.ensures.0

pub returns-in_err-push_cluster_places-clause-listed : goal.returns-in_err-push_cluster_places-clause-listed
returns-in_err-push_cluster_places-clause-listed c = IfOk-from_err c.from_residual-in_err-push_cluster_places.result _ c.from_residual-in_err-push_cluster_places.ensures.0

pub returns-in_err-push_cluster_places-clause-inside : goal.returns-in_err-push_cluster_places-clause-inside
returns-in_err-push_cluster_places-clause-inside c = IfOk-from_err c.from_residual-in_err-push_cluster_places.result _ c.from_residual-in_err-push_cluster_places.ensures.0

pub returns-in_err-push_file_places-clause-listed : goal.returns-in_err-push_file_places-clause-listed
returns-in_err-push_file_places-clause-listed c = IfOk-from_err c.from_residual-in_err-push_file_places.result _ c.from_residual-in_err-push_file_places.ensures.0

pub returns-in_err-push_file_places-clause-inside : goal.returns-in_err-push_file_places-clause-inside
returns-in_err-push_file_places-clause-inside c = IfOk-from_err c.from_residual-in_err-push_file_places.result _ c.from_residual-in_err-push_file_places.ensures.0

pub push_group_places-requires-clause-few : goal.push_group_places-requires-clause-few
push_group_places-requires-clause-few c = c.requires.few

pub push_group_places-requires-clause-inside : goal.push_group_places-requires-clause-inside
push_group_places-requires-clause-inside c = c.push.ensures.inside

pub push_cluster_places-requires-clause-low : goal.push_cluster_places-requires-clause-low
push_cluster_places-requires-clause-low c = c.requires.low

pub push_cluster_places-requires-clause-inside : goal.push_cluster_places-requires-clause-inside
push_cluster_places-requires-clause-inside c = c.push_group_places.ensures.inside

pub push_file_places-requires : goal.push_file_places-requires
push_file_places-requires c = record { inside = c.push_cluster_places.ensures.inside }

pub returns-clause-inside : goal.returns-clause-inside
returns-clause-inside c = c.push_file_places.ensures.inside
