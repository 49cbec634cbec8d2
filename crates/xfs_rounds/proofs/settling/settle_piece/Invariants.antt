use Rattle.std.proofs.Common.{◌≡◌, ℕ, ◌<◌, ◌≤◌, get_or}
use Rattle.xfs_geom.specs.Volumes.{volume_of}
use Rattle.xfs_rounds.specs.declared.pieces.BlockParts.{BlockParts}
use Rattle.xfs_rounds.specs.Named.{AreFoundIn, IsDone}
use Rattle.xfs_rounds.proofs.settling.settle_piece.Given as goal

abbrev pub invariant-loop-i : goal.invariant-loop-i
invariant-loop-i g l = record {
  rest : (j : ℕ) (d : BlockParts) → l.i ≤ j → get_or l.piece j d ≡ get_or l.initial.piece j d;
  done : (j : ℕ) (d : BlockParts) → j < l.i → IsDone (volume_of l.g) (AreFoundIn (volume_of l.g) l.named l.found) l.bank (get_or l.initial.piece j d) (get_or l.piece j d);
}
