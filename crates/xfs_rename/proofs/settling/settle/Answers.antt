use Rattle.std.proofs.Common.{inl, refl, ap, ◌∙◌}
use Rattle.xfs_changes.specs.Nodes.{nodes_of_files}
use Rattle.xfs_rename.proofs.settling.settle.Goals as goal

pub settle_files-requires-clause-due : goal.settle_files-requires-clause-due
settle_files-requires-clause-due c = c.requires.due

pub settle_files-requires-clause-nodes : goal.settle_files-requires-clause-nodes
settle_files-requires-clause-nodes c = c.deref.ensures.value ∙ c.in-Ok.ensures ∙ ap nodes_of_files c.as_slice.ensures

pub returns-in-Ok : goal.returns-in-Ok
returns-in-Ok c = let is = c.settle_files.ensures in record { settled = is.settled; cause = is.cause }

pub returns-in-Err : goal.returns-in-Err
returns-in-Err c = record { settled = tt; cause = inl refl }
