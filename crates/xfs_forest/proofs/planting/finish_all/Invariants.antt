use Rattle.std.proofs.Common.{◌≡◌, [], ℕ, ◌≤◌, length, map, take, get_or}
use Rattle.xfs_disk.specs.Blocks.{Image}
use Rattle.xfs_geom.specs.Volumes.{volume_of}
use Rattle.xfs_forest.specs.Forest.{contents_of, reads_as, AreGrowing}
use Rattle.xfs_forest.proofs.planting.finish_all.Given as goal

abbrev pub invariant-loop-i : goal.invariant-loop-i
invariant-loop-i g l = record {
  ends : l.i-end ≡ length l.plants;
  rest : (j : ℕ) (d : _) → l.i ≤ j → get_or l.trees j d ≡ get_or l.fn.trees j d;
  read : (image : Image) → AreGrowing g.K.Kind.shape (volume_of l.g) image l.plants l.fn.trees []
      → map contents_of l.grown.items ≡ map (reads_as g.K.Kind.shape (volume_of l.g) image) (take l.i l.plants);
}
