use Rattle.std.proofs.Common.{ℕ, ap}
use Rattle.xfs_proto.specs.declared.modes.Mode.{Mode}
use Rattle.xfs_proto.proofs.modes.new_mode.Goals as goal

pub returns : goal.returns
returns c = ap (λ (bits : ℕ). let m : Mode = record { kind = c.args.kind; bits = bits } in m) c.bits_of.ensures
