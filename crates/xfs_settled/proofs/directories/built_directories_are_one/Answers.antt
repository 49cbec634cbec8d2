use Rattle.xfs_settled.proofs.BuiltOnce.{blocks_alike, built_alike, built_sealed, forks_alike, objects_alike}
use Rattle.xfs_settled.proofs.directories.built_directories_are_one.Goals as goal

pub returns-clause-blocks : goal.returns-clause-blocks
returns-clause-blocks c = λ w rooms built other same ib io. blocks_alike built other (built_alike w rooms built other same ib io)

pub returns-clause-objects : goal.returns-clause-objects
returns-clause-objects c = λ w rooms built other same ib io. objects_alike rooms built other (built_alike w rooms built other same ib io)

pub returns-clause-forks : goal.returns-clause-forks
returns-clause-forks c = λ v files w rooms built other same ib io. forks_alike v files built other (built_alike w rooms built other same ib io)

pub returns-clause-sealed : goal.returns-clause-sealed
returns-clause-sealed c = built_sealed
