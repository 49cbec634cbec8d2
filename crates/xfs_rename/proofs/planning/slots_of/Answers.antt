use Rattle.std.proofs.Common.{◌∙◌, subst, sym}
use Rattle.std.specs.List.Sorted.{IsNonDecreasingBy}
use Rattle.xfs_geom.specs.Volumes.{volume_of}
use Rattle.xfs_names.specs.declared.building.BuiltDirectory.{BuiltDirectory}
use Rattle.xfs_render.specs.declared.wanted_slots.SlotWanted.{SlotWanted}
use Rattle.xfs_rebuild.specs.xfs_request.Slots.{StandByNumber}
use Rattle.xfs_changes.specs.declared.forks.DirectoryFork.{DirectoryFork}
use Rattle.xfs_rename.proofs.ForkNumbers.{forks_in_order}
use Rattle.xfs_rename.proofs.Standing.{in_order}
use Rattle.xfs_rename.proofs.planning.slots_of.Goals as goal

pub changes_of-requires-clause-forks : goal.changes_of-requires-clause-forks
changes_of-requires-clause-forks c =
    subst (IsNonDecreasingBy (λ (f : DirectoryFork). f.ino)) (sym (c.as_slice-4.ensures.value ∙ c.in_ok-forks.ensures))
    (forks_in_order (volume_of c.args.chosen.now.geometry) c.as_slice-files.result.now c.as_slice.result.now c.as_slice-2.result.now c.as_slice-3.result.now
    (subst (IsNonDecreasingBy (λ (b : BuiltDirectory). b.ino)) (sym c.as_slice.ensures) c.requires.built))

pub returns-clause-order : goal.returns-clause-order
returns-clause-order c =
    in_order (λ (w : SlotWanted). w.ino) 0 c.in_ok-all.all.items
    (subst (StandByNumber (λ (w : SlotWanted). w.ino) 0) c.deref.ensures.value (c.stand_by_number.ensures c.if-not-stand_by_number.false))
