use Rattle.std.proofs.Common.{◌≡◌, ℕ, ◌+◌, ◌*◌, ◌<◌, get_or}
use Rattle.xfs_word.specs.Field.{field_of}
use Rattle.xfs_heads.proofs.arrays.ArrayLayout.read_all.Given as goal

abbrev pub invariant-loop-index : goal.invariant-loop-index
invariant-loop-index l = (k : ℕ) → k < l.index → get_or l.values k 0 ≡ field_of l.bytes (l.self.offset + 4 * k) 4
