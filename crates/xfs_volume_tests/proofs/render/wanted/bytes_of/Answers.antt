use Rattle.std.proofs.Common.{List, refl, sym, subst}
use Rattle.xfs_geom.specs.Volumes.{volume_of}
use Rattle.xfs_render.specs.declared.wanted_slots.SlotWanted.{SlotWanted}
use Rattle.xfs_volume_tests.specs.Rendered.{AreSmallSlots}
use Rattle.xfs_volume_tests.proofs.render.wanted.bytes_of.Goals as goal

pub returns : goal.returns
returns c = record {
  empty = c.in_ok-bytes.bytes;
  made = c.in_ok-bytes.ensures;
  slots' = c.from_vec.result;
  are = subst (λ (s : List SlotWanted). AreSmallSlots (volume_of c.args.g.now) 64 s) (sym c.from_vec.ensures) c.in_ok-list_slots.ensures;
  is = refl;
}
