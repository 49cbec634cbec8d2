use Rattle.std.proofs.Common.{◌≡◌, ◌++◌, drop}
use Rattle.xfs_shell.specs.LineParts.{line_parts}
use Rattle.xfs_shell.proofs.Cutting.{ahead}
use Rattle.xfs_shell.proofs.line_parts.parts.Given as goal

abbrev pub invariant-loop-byte : goal.invariant-loop-byte
invariant-loop-byte l = l.parts.items ++ ahead l.cut l.part.items (drop l.byte-index l.bytes) ≡ line_parts l.cut l.bytes
