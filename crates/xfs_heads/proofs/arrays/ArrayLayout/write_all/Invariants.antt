use Rattle.std.proofs.Common.{◌≡◌, ℕ, ◌+◌, ◌*◌, ◌<◌, get_or}
use Rattle.xfs_word.specs.Field.{field_of, KeepsBeside, KeepsParts}
use Rattle.xfs_heads.proofs.arrays.ArrayLayout.write_all.Given as goal

abbrev pub invariant-loop-index : goal.invariant-loop-index
invariant-loop-index l = record {
  put : (k : ℕ) → k < l.index → field_of l.bytes (l.self.offset + 4 * k) 4 ≡ get_or l.values k 0;
  keeps : KeepsBeside l.initial.bytes l.bytes l.self.offset (4 * l.index);
  keeps_parts : KeepsParts l.initial.bytes l.bytes l.self.offset (4 * l.index);
}
