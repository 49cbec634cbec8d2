use Rattle.std.proofs.Common.{◌≡◌, length, map, take}
use Rattle.xfs_dirs.specs.declared.gathered.KeptBlock.{KeptBlock}
use Rattle.xfs_dirs.proofs.whole_forms.seen_of.Given as goal

abbrev pub invariant-loop-i : goal.invariant-loop-i
invariant-loop-i l = record {
  ends : l.i-end ≡ length l.kept;
  offsets : l.offsets.items ≡ map (λ (k : KeptBlock). k.offset) (take l.i l.kept);
  size : length l.blocks ≡ length l.kept;
  blocks : take l.i l.blocks ≡ map (λ (k : KeptBlock). k.bytes) (take l.i l.kept);
}
