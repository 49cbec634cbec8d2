use Rattle.xfs_geom.specs.Volumes.{volume_of}
use Rattle.std.proofs.Common.{map, ◌++◌, ◌∙◌, ap}
use Rattle.xfs_image.specs.Lsns.{at, data_places}
use Rattle.xfs_journal.specs.Placed.{fork_places, listed}
use Rattle.xfs_journal.specs.declared.extents.Owner.TheVariants as owners
use Rattle.xfs_journal.proofs.Listing.{three_parts}
use Rattle.std.proofs.lemmas.Result.{IfOk-from_err}
use Rattle.xfs_journal.proofs.files.push_file.Goals as goal

pub returns-clause-listed : goal.returns-clause-listed
returns-clause-listed c =
    let v = volume_of c.args.g.now in
    three_parts (listed c.args.places.now.items) (listed c.push_data.new.places.items) (listed c.push_each.new.places.items) (listed c.push_fork.new.places.items)
    (data_places v c.args.file.now) (map (at 32) c.args.file.now.rest.tree) (fork_places v owners.Attributes c.args.file.now.rest.attr_extents)
    c.in_ok-push_data.ensures.listed (c.in_ok-push_each.ensures.listed ∙ ap (λ blocks. listed c.push_data.new.places.items ++ map (at 32) blocks) c.tree.ensures)
    (c.in_ok-push_fork.ensures.listed ∙ ap (λ extents. listed c.push_each.new.places.items ++ fork_places v owners.Attributes extents) c.attr_extents.ensures)

pub push_data-requires : goal.push_data-requires
push_data-requires c = record { inside = c.requires.inside }

pub returns-in_err-push_data-clause-listed : goal.returns-in_err-push_data-clause-listed
returns-in_err-push_data-clause-listed c = IfOk-from_err c.from_residual.result _ c.from_residual.ensures.0

pub returns-in_err-push_data-clause-inside : goal.returns-in_err-push_data-clause-inside
returns-in_err-push_data-clause-inside c = c.push_data.ensures.inside

pub push_each-requires-clause-inside : goal.push_each-requires-clause-inside
push_each-requires-clause-inside c = c.push_data.ensures.inside

pub returns-in_err-push_each-clause-listed : goal.returns-in_err-push_each-clause-listed
returns-in_err-push_each-clause-listed c = IfOk-from_err c.from_residual-in_err-push_each.result _ c.from_residual-in_err-push_each.ensures.0

pub returns-in_err-push_each-clause-inside : goal.returns-in_err-push_each-clause-inside
returns-in_err-push_each-clause-inside c = c.push_each.ensures.inside

pub push_fork-requires : goal.push_fork-requires
push_fork-requires c = record { inside = c.push_each.ensures.inside }

pub returns-in_err-push_fork-clause-listed : goal.returns-in_err-push_fork-clause-listed
returns-in_err-push_fork-clause-listed c = IfOk-from_err c.from_residual-in_err-push_fork.result _ c.from_residual-in_err-push_fork.ensures.0

pub returns-in_err-push_fork-clause-inside : goal.returns-in_err-push_fork-clause-inside
returns-in_err-push_fork-clause-inside c = c.push_fork.ensures.inside

pub returns-clause-inside : goal.returns-clause-inside
returns-clause-inside c = c.push_fork.ensures.inside
