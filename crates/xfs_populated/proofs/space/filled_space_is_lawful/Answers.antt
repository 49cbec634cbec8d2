use Rattle.xfs_populated.proofs.ChunksDue.{chunks_are_kept}
use Rattle.xfs_populated.proofs.SpaceDue.{counters, lists, space}
use Rattle.xfs_populated.proofs.space.filled_space_is_lawful.Goals as goal

pub returns-clause-space : goal.returns-clause-space
returns-clause-space c = λ g sector s ns contents plan blocks image crc agf agi is. space g sector s ns contents plan blocks image is crc agf agi

pub returns-clause-counters : goal.returns-clause-counters
returns-clause-counters c = λ g sector s ns contents plan blocks image agf agi is. counters g sector s ns contents plan blocks image is agf agi

pub returns-clause-lists : goal.returns-clause-lists
returns-clause-lists c = λ g sector s ns contents plan blocks image agf agi is. lists g sector s ns contents plan blocks image is agf agi

pub returns-clause-chunks : goal.returns-clause-chunks
returns-clause-chunks c = λ g sector s ns contents plan blocks image crc agf agi is. chunks_are_kept g sector s ns contents plan blocks image is crc agf agi
