use Rattle.std.proofs.Common.{◌≡◌, ℕ, ◌<◌, ◌≤◌, get_or}
use Rattle.xfs_geom.specs.Volumes.{volume_of}
use Rattle.xfs_forest.specs.Forest.{IsJudged}
use Rattle.xfs_forest.proofs.pieces.judge_piece.Given as goal

abbrev pub invariant-loop-i : goal.invariant-loop-i
invariant-loop-i g l = record {
  rest : (j : ℕ) (d : _) → l.i ≤ j → get_or l.piece j d ≡ get_or l.initial.piece j d;
  done : (j : ℕ) (d : _) → j < l.i → IsJudged g.K.Kind.shape (volume_of l.g) l.plants l.bank (get_or l.initial.piece j d) (get_or l.piece j d);
}
