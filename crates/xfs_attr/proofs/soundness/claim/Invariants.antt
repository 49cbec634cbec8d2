use Rattle.std.proofs.Common.{◌≡◌, ℕ, ◌<◌, ◌≤◌, ◌&&◌, ◌||◌, false, get_or}
use Rattle.std.specs.Prelude.{nat_le, nat_lt}
use Rattle.xfs_attr.proofs.soundness.claim.Given as goal

abbrev pub invariant-loop-byte : goal.invariant-loop-byte
invariant-loop-byte l = record {
  free : (b : ℕ) → l.start ≤ b → b < l.byte → get_or l.initial.taken b false ≡ false;
  taken : (b : ℕ) → b < 4096 → get_or l.taken b false ≡ (get_or l.initial.taken b false || (nat_le l.start b && nat_lt b l.byte));
}
