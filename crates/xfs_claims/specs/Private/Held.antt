-- What is kept so far, as the program holds it.
use Rattle.xfs_collections.specs.Blocks.{is_in}
use Rattle.xfs_claims.specs.declared.holding.TakenBlocks.{TakenBlocks}
use Rattle.std.specs.Prelude.{[]}
use Rattle.xfs_claims.specs.Keeping.{Holding}
use Rattle.xfs_claims.specs.Private.Arrived.{arrived}

abbrev pub held_of : TakenBlocks → Holding
held_of taken = record { blocks = is_in taken.blocks; clusters = taken.clusters.keys; files = arrived [] taken.files.items }
