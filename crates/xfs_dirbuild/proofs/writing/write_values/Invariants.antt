use Rattle.std.proofs.Common.{◌≡◌, ℕ, ◌+◌, ◌*◌, ◌<◌, get_or}
use Rattle.xfs_word.specs.Field.{field_of, SameBeside}
use Rattle.xfs_dirbuild.proofs.writing.write_values.Given as goal

abbrev pub invariant-loop-j : goal.invariant-loop-j
invariant-loop-j l = record {
  each : (k : ℕ) → k < l.j → field_of l.block (l.at + 2 * k) 2 ≡ get_or l.values k 0;
  others : SameBeside l.initial.block l.block l.at (2 * l.j);
}
