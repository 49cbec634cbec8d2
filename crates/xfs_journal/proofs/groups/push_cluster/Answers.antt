use Rattle.xfs_tree.specs.Blocks.{each_of}
use Rattle.xfs_image.specs.Lsns.{slot_place}
use Rattle.xfs_journal.specs.Placed.{listed}
use Rattle.xfs_journal.proofs.Listing.{four_parts}
use Rattle.std.proofs.lemmas.Result.{IfOk-from_err}
use Rattle.xfs_journal.proofs.groups.push_cluster.Goals as goal

pub returns-clause-listed : goal.returns-clause-listed
returns-clause-listed c =
    four_parts (λ block. each_of 8 (slot_place block)) c.args.cluster (listed c.args.places.now.items) (listed c.push_slots.new.places.items)
    (listed c.push_slots-2.new.places.items) (listed c.push_slots-3.new.places.items) (listed c.push_slots-4.new.places.items)
    c.in_ok-push_slots.ensures.listed c.in_ok-push_slots-2.ensures.listed c.in_ok-push_slots-3.ensures.listed c.in_ok-push_slots-4.ensures.listed

pub returns-in_err-push_slots-clause-listed : goal.returns-in_err-push_slots-clause-listed
returns-in_err-push_slots-clause-listed c = IfOk-from_err c.from_residual.result _ c.from_residual.ensures.0

pub returns-in_err-push_slots-clause-inside : goal.returns-in_err-push_slots-clause-inside
returns-in_err-push_slots-clause-inside c = c.push_slots.ensures.inside

pub push_slots-requires : goal.push_slots-requires
push_slots-requires c = record { inside = c.requires.inside }

pub returns-in_err-push_slots-2-clause-listed : goal.returns-in_err-push_slots-2-clause-listed
returns-in_err-push_slots-2-clause-listed c = IfOk-from_err c.from_residual-in_err-push_slots-2.result _ c.from_residual-in_err-push_slots-2.ensures.0

pub returns-in_err-push_slots-2-clause-inside : goal.returns-in_err-push_slots-2-clause-inside
returns-in_err-push_slots-2-clause-inside c = c.push_slots-2.ensures.inside

pub push_slots-requires-2 : goal.push_slots-requires-2
push_slots-requires-2 c = record { inside = c.push_slots.ensures.inside }

pub returns-in_err-push_slots-3-clause-listed : goal.returns-in_err-push_slots-3-clause-listed
returns-in_err-push_slots-3-clause-listed c = IfOk-from_err c.from_residual-in_err-push_slots-3.result _ c.from_residual-in_err-push_slots-3.ensures.0

pub returns-in_err-push_slots-3-clause-inside : goal.returns-in_err-push_slots-3-clause-inside
returns-in_err-push_slots-3-clause-inside c = c.push_slots-3.ensures.inside

pub push_slots-requires-3 : goal.push_slots-requires-3
push_slots-requires-3 c = record { inside = c.push_slots-2.ensures.inside }

pub returns-in_err-push_slots-4-clause-listed : goal.returns-in_err-push_slots-4-clause-listed
returns-in_err-push_slots-4-clause-listed c = IfOk-from_err c.from_residual-in_err-push_slots-4.result _ c.from_residual-in_err-push_slots-4.ensures.0

pub returns-in_err-push_slots-4-clause-inside : goal.returns-in_err-push_slots-4-clause-inside
returns-in_err-push_slots-4-clause-inside c = c.push_slots-4.ensures.inside

pub push_slots-requires-4 : goal.push_slots-requires-4
push_slots-requires-4 c = record { inside = c.push_slots-3.ensures.inside }

pub returns-clause-inside : goal.returns-clause-inside
returns-clause-inside c = c.push_slots-4.ensures.inside
