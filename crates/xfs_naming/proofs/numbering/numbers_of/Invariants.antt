use Rattle.std.proofs.Common.{◌≡◌, ◌++◌, drop, map}
use Rattle.xfs_naming.specs.declared.kinds.FileKind.{FileKind}
use Rattle.xfs_naming.proofs.numbering.numbers_of.Given as goal

abbrev pub invariant-loop-kind : goal.invariant-loop-kind
invariant-loop-kind l = l.numbers.items ++ map (λ (k : FileKind). k.ino) (drop l.kind-index l.names.kinds.now) ≡ map (λ (k : FileKind). k.ino) l.names.kinds.now
