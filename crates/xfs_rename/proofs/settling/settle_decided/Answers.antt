use Rattle.xfs_rebuild.proofs.Known.{known_taken}
use Rattle.xfs_rename.proofs.SettledNames.{memory_only}
use Rattle.xfs_rename.proofs.settling.settle_decided.Goals as goal

pub find_lost-requires-clause-nodes : goal.find_lost-requires-clause-nodes
find_lost-requires-clause-nodes c = c.requires.decided.nodes'

pub find_lost-requires-clause-files : goal.find_lost-requires-clause-files
find_lost-requires-clause-files c = c.requires.decided.files'

pub find_lost-requires-clause-root : goal.find_lost-requires-clause-root
find_lost-requires-clause-root c = c.requires.decided.root'

pub find_lost-requires-clause-decided : goal.find_lost-requires-clause-decided
find_lost-requires-clause-decided c = c.requires.decided.decided

pub find_lost-requires-clause-taken : goal.find_lost-requires-clause-taken
find_lost-requires-clause-taken c = known_taken c.args.g.now c.args.stamp.now c.args.due.now c.requires.due

pub settle_lost-requires-clause-due : goal.settle_lost-requires-clause-due
settle_lost-requires-clause-due c = c.requires.due

pub settle_lost-requires-clause-decided : goal.settle_lost-requires-clause-decided
settle_lost-requires-clause-decided c = c.requires.decided

pub settle_lost-requires-clause-lost : goal.settle_lost-requires-clause-lost
settle_lost-requires-clause-lost c = c.in-Ok.ensures.lost

pub settle_lost-requires-clause-found : goal.settle_lost-requires-clause-found
settle_lost-requires-clause-found c = c.in-Ok.ensures.found

pub returns-in-Ok : goal.returns-in-Ok
returns-in-Ok c = record { settled = c.settle_lost.ensures.settled; cause = memory_only _ c.settle_lost.result c.settle_lost.ensures.cause }

pub returns-in-Err : goal.returns-in-Err
returns-in-Err c = record { settled = tt; cause = c.in-Err.ensures.cause }
