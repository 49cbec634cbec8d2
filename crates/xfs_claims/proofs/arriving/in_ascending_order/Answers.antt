use Rattle.std.proofs.Common.{ℕ, List, [], refl, sym, subst}
use Rattle.xfs_claims.specs.Private.Arrived.{AscendFrom}
use Rattle.xfs_claims.proofs.Arrived.{as_they_came}
use Rattle.xfs_claims.proofs.arriving.in_ascending_order.Goals as goal

pub returns-then-ascend : goal.returns-then-ascend
returns-then-ascend c =
    sym (as_they_came 0 [] c.args.numbers.items tt (subst (λ (xs : List ℕ). AscendFrom 0 xs) c.deref.ensures.value (c.if-ascend.ensures refl)))
