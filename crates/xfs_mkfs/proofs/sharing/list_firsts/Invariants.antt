-- Each file passed has its place.
use Rattle.std.proofs.Common.{◌≡◌, length}
use Rattle.xfs_mkfs.proofs.sharing.list_firsts.Given as goal

abbrev pub invariant-loop-k : goal.invariant-loop-k
invariant-loop-k l = length l.firsts.items ≡ l.k
