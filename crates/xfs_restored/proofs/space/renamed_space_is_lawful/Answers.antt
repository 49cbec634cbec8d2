use Rattle.xfs_restored.proofs.SettledSpace.{chains, chunks, counters, lists, space}
use Rattle.xfs_restored.proofs.space.renamed_space_is_lawful.Goals as goal

pub returns-clause-space : goal.returns-clause-space
returns-clause-space c = space

pub returns-clause-counters : goal.returns-clause-counters
returns-clause-counters c = counters

pub returns-clause-chunks : goal.returns-clause-chunks
returns-clause-chunks c = chunks

pub returns-clause-lists : goal.returns-clause-lists
returns-clause-lists c = lists

pub returns-clause-chains : goal.returns-clause-chains
returns-clause-chains c = chains
