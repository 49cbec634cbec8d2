use Rattle.std.proofs.Common.{◌-◌}
use Rattle.xfs_geom.specs.Volumes.{volume_of}
use Rattle.xfs_volume_tests.specs.Rendered.{AreSmallSlots}
use Rattle.xfs_volume_tests.proofs.render.slots.list_slots.Given as goal

abbrev pub invariant-loop-ino : goal.invariant-loop-ino
invariant-loop-ino l = AreSmallSlots (volume_of l.g) (l.ino - 128) l.slots.items
