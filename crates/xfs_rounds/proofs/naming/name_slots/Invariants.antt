use Rattle.std.proofs.Common.{◌≡◌, ℕ, ◌<◌, ◌≤◌, get_or}
use Rattle.xfs_geom.specs.Volumes.{volume_of}
use Rattle.xfs_rounds.specs.declared.pieces.BlockParts.{BlockParts}
use Rattle.xfs_rounds.specs.Named.{AreWithin, IsInPlace, IsNumbered}
use Rattle.xfs_rounds.proofs.naming.name_slots.Given as goal

abbrev pub invariant-loop-i : goal.invariant-loop-i
invariant-loop-i l = record {
  rest : (j : ℕ) (d : BlockParts) → l.i ≤ j → get_or l.judged j d ≡ get_or l.initial.judged j d;
  placed : (j : ℕ) (d : BlockParts) → j < l.i → IsInPlace (get_or l.initial.judged j d) (get_or l.judged j d);
  done : (j : ℕ) (d : BlockParts) → j < l.i → IsNumbered (volume_of l.g) l.g.dblocks l.named l.bank (get_or l.judged j d);
  within : AreWithin l.g.dblocks l.named;
}
