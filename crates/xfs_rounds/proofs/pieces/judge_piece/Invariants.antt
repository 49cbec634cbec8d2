use Rattle.std.proofs.Common.{◌≡◌, ℕ, ◌<◌, ◌≤◌, get_or}
use Rattle.xfs_geom.specs.Volumes.{volume_of}
use Rattle.xfs_rounds.specs.Judged.{IsJudged}
use Rattle.xfs_rounds.specs.declared.pieces.BlockParts.{BlockParts}
use Rattle.xfs_rounds.proofs.pieces.judge_piece.Given as goal

abbrev pub invariant-loop-i : goal.invariant-loop-i
invariant-loop-i g l = record {
  rest : (j : ℕ) (d : BlockParts) → l.i ≤ j → get_or l.piece j d ≡ get_or l.initial.piece j d;
  done : (j : ℕ) (d : BlockParts) → j < l.i → IsJudged (volume_of l.g) l.bank (get_or l.initial.piece j d) (get_or l.piece j d);
}
