use Rattle.std.proofs.Common.{◌≡◌, false, length, sym, ◌∙◌, arith}
use Rattle.std.specs.Prelude.{nat_lt}
use Rattle.std.proofs.lemmas.Bool.Decides.{nat_tests}
use Rattle.xfs_log.proofs.Zeros.{no_flag}
use Rattle.xfs_log.proofs.state.has_flag.Goals as goal

pub returns-else-place-seen : goal.returns-else-place-seen
returns-else-place-seen c =
    let out : nat_lt c.args.place (length c.args.seen.now) ≡ false = grind (arith, nat_tests, c.if-place-seen.false) in
    out ∙ sym (no_flag c.args.seen.now c.args.place (omega (arith, c.if-place-seen.false)))
