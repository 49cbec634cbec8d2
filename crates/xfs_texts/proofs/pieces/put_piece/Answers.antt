use Rattle.std.proofs.Common.{ap}
use Rattle.xfs_texts.specs.Explaining.{piece_text}
use Rattle.xfs_texts.proofs.Telling.{puts_as}
use Rattle.xfs_texts.proofs.pieces.put_piece.Goals as goal

pub returns-in-Nothing : goal.returns-in-Nothing
unfolding piece_text
returns-in-Nothing g c = puts_as _ _ _ _ _ _ _ (ap piece_text c.in-Nothing.is) c.put_line.ensures

pub returns-in-Count : goal.returns-in-Count
unfolding piece_text
returns-in-Count g c = puts_as _ _ _ _ _ _ _ (ap piece_text c.in-Count.is) c.put_line-in-Count.ensures

pub returns-in-Run : goal.returns-in-Run
unfolding piece_text
returns-in-Run g c = puts_as _ _ _ _ _ _ _ (ap piece_text c.in-Run.is) c.put_run.ensures

pub returns-in-Chunk : goal.returns-in-Chunk
unfolding piece_text
returns-in-Chunk g c = puts_as _ _ _ _ _ _ _ (ap piece_text c.in-Chunk.is) c.put_chunk.ensures

pub returns-in-Owner : goal.returns-in-Owner
unfolding piece_text
returns-in-Owner g c = puts_as _ _ _ _ _ _ _ (ap piece_text c.in-Owner.is) c.put_owner.ensures

pub returns-in-Sequence : goal.returns-in-Sequence
unfolding piece_text
returns-in-Sequence g c = puts_as _ _ _ _ _ _ _ (ap piece_text c.in-Sequence.is) c.put_line-in-Sequence.ensures

pub returns-in-Chain : goal.returns-in-Chain
unfolding piece_text
returns-in-Chain g c = puts_as _ _ _ _ _ _ _ (ap piece_text c.in-Chain.is) c.put_line-in-Chain.ensures
