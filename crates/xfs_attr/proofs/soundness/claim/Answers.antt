use Rattle.std.proofs.Common.{◌≡◌, arith}
use Rattle.xfs_attr.proofs.soundness.claim.Goals as goal

pub returns-clause-taken : goal.returns-clause-taken
returns-clause-taken c = λ _ b h. let e : c.loop-byte.byte ≡ c.args.end = omega arith in rw (← e) (c.loop-byte.invariant.taken b h)
