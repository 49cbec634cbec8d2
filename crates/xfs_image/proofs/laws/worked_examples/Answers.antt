use Rattle.xfs_image.proofs.Examples as examples
use Rattle.xfs_image.proofs.laws.worked_examples.Goals as goal

pub returns-clause-both : goal.returns-clause-both
returns-clause-both c = examples.both

pub returns-clause-second : goal.returns-clause-second
returns-clause-second c = examples.second

pub returns-clause-first : goal.returns-clause-first
returns-clause-first c = examples.first

pub returns-clause-root : goal.returns-clause-root
returns-clause-root c = examples.root

pub returns-clause-own : goal.returns-clause-own
returns-clause-own c = examples.own

pub returns-clause-inodes : goal.returns-clause-inodes
returns-clause-inodes c = examples.inodes

pub returns-clause-given_two : goal.returns-clause-given_two
returns-clause-given_two c = examples.given_two

pub returns-clause-given_part : goal.returns-clause-given_part
returns-clause-given_part c = examples.given_part

pub returns-clause-last_chunk : goal.returns-clause-last_chunk
returns-clause-last_chunk c = examples.last_chunk

pub returns-clause-before_chunks : goal.returns-clause-before_chunks
returns-clause-before_chunks c = examples.before_chunks

pub returns-clause-hole : goal.returns-clause-hole
returns-clause-hole c = examples.hole

pub returns-clause-written : goal.returns-clause-written
returns-clause-written c = examples.written

pub returns-clause-unwritten : goal.returns-clause-unwritten
returns-clause-unwritten c = examples.unwritten

pub returns-clause-ordered : goal.returns-clause-ordered
returns-clause-ordered c = examples.ordered
