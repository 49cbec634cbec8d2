use Rattle.std.proofs.Common.{List, ap₂}
use Rattle.xfs_place.specs.declared.wanted.GroupInodes.{GroupInodes}
use Rattle.xfs_place.specs.declared.wanted.Object.{Object}
use Rattle.xfs_volume_tests.proofs.render.wanted.with_objects.Goals as goal

pub returns : goal.returns
returns c = ap₂ (λ (os : List Object) (gs : List GroupInodes). record c.args.wanted { objects = os; inodes = gs }) c.from_vec.ensures c.from_vec-2.ensures
