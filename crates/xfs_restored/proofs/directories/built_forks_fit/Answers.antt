use Rattle.xfs_restored.proofs.ShortRoom.{fork_room_is, short_fits}
use Rattle.xfs_restored.proofs.directories.built_forks_fit.Goals as goal

pub returns-clause-short : goal.returns-clause-short
returns-clause-short c = short_fits

pub returns-clause-told : goal.returns-clause-told
returns-clause-told c = fork_room_is
