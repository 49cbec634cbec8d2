use Rattle.std.proofs.Common.{drop}
use Rattle.xfs_render.specs.declared.wanted_slots.SlotWanted.{SlotWanted}
use Rattle.xfs_rebuild.specs.xfs_request.Slots.{StandByNumber}
use Rattle.xfs_rename.proofs.planning.stand_by_number.Given as goal

abbrev pub invariant-loop-slot : goal.invariant-loop-slot
invariant-loop-slot l = StandByNumber (λ (w : SlotWanted). w.ino) l.least (drop l.slot-index l.slots) → StandByNumber (λ (w : SlotWanted). w.ino) 0 l.slots
