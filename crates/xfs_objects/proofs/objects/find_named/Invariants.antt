use Rattle.std.proofs.Common.{◌≡◌, drop, bytes_eq}
use Rattle.std.specs.List.{find}
use Rattle.xfs_objects.specs.Objects.{type_name}
use Rattle.xfs_objects.specs.declared.objects.ObjectType.{ObjectType}
use Rattle.xfs_objects.proofs.objects.find_named.Given as goal

abbrev pub invariant-loop-kind : goal.invariant-loop-kind
invariant-loop-kind l =
    let named : ObjectType → _ = λ kind. bytes_eq (type_name kind) l.name in find named (drop l.kind-index l.kinds) ≡ find named l.kinds
