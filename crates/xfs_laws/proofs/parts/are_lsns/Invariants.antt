use Rattle.std.proofs.Common.{ℕ, ◌<◌, get_or}
use Rattle.xfs_volume.specs.declared.catalogs.BlockLsn.{BlockLsn}
use Rattle.xfs_laws.proofs.parts.are_lsns.Given as goal

abbrev pub invariant-loop-lsn : goal.invariant-loop-lsn
invariant-loop-lsn l = (k : ℕ) (d : BlockLsn) → k < l.lsn-index → (get_or l.lsns k d).block < l.g.dblocks
