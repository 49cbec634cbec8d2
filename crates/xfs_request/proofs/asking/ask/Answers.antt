use Rattle.std.proofs.Common.{rules, List, ◌≤◌, ◌^◌, sym, subst, arith}
use Rattle.std.specs.List.Sorted.{IsNonDecreasingBy}
use Rattle.std.proofs.lemmas.Result.{IfOk-from_err}
use Rattle.xfs_dirdata.specs.declared.records.EntryRec.{EntryRec}
use Rattle.xfs_volume.specs.declared.files.FileRec.{FileRec}
use Rattle.xfs_naming.specs.Ordered.{AreLinks}
use Rattle.xfs_salvage.proofs.xfs_laws.Roots.{root_low}
use Rattle.xfs_request.specs.Slots.{CanBeSearched, StandByNumber}
use Rattle.xfs_request.specs.declared.seen.SlotSeen.{SlotSeen}
use Rattle.xfs_request.proofs.Numbers.{same_directories}
use Rattle.xfs_request.proofs.Rising.{files_in_order, stand_in_order}
use Rattle.xfs_request.proofs.asking.ask.Goals as goal

pub wanted_slots-requires-clause-low : goal.wanted_slots-requires-clause-low
wanted_slots-requires-clause-low c =
    let v = c.args.g.now in
    let some : 1 ≤ 2 ^ v.agblklog = omega (arith, v.shape.addresses.enough, v.shape.groups.large) in
    root_low v.agcount v.agblocks (2 ^ v.agblklog) v.dblocks v.rootino v.shape.groups.two v.shape.groups.last v.shape.groups.small v.shape.addresses.least some v.shape.root.group

pub wanted_slots-requires-clause-order : goal.wanted_slots-requires-clause-order
wanted_slots-requires-clause-order c =
    let kept = c.args.kept.now in
    subst (CanBeSearched kept c.as_slice-4.result.now c.args.slots.now) (sym c.as_slice-5.ensures.value)
    (record {
      by_file = files_in_order kept.files c.requires.files;
      by_number = same_directories kept.files c.as_slice-3.result.now c.in_ok-directories.directories.items c.as_slice-4.result.now c.as_slice-3.ensures c.as_slice-4.ensures.value c.in_ok-directories.ensures;
      by_directory = stand_in_order (λ (e : EntryRec). e.dir) kept.entries
          (subst (StandByNumber (λ (e : EntryRec). e.dir) 0) c.as_slice.ensures (c.stand_by_number-else-not-stand_by_number.ensures.0 (search rules)));
      by_slot = stand_in_order (λ (slot : SlotSeen). slot.ino) c.args.slots.now (c.stand_by_number.ensures.0 (search rules));
      by_target = c.in_ok-links.ensures.rise;
      linked = subst (λ (es : List EntryRec). AreLinks es c.in_ok-links.links.items) c.as_slice-2.ensures c.in_ok-links.ensures.linked;
    })

pub directories_of-requires : goal.directories_of-requires
directories_of-requires c =
    subst (IsNonDecreasingBy (λ (f : FileRec). f.ino)) (sym c.as_slice-3.ensures) (files_in_order c.args.kept.now.files c.requires.files)

pub volume_wanted-requires-clause-files : goal.volume_wanted-requires-clause-files
volume_wanted-requires-clause-files c = files_in_order c.args.kept.now.files c.requires.files

pub returns-in_err-links : goal.returns-in_err-links
returns-in_err-links c = record {
  wanted = IfOk-from_err c.from_residual.result _ c.from_residual.ensures.0;
  slots = IfOk-from_err c.from_residual.result _ c.from_residual.ensures.0;
  kept = IfOk-from_err c.from_residual.result _ c.from_residual.ensures.0;
  cleared = IfOk-from_err c.from_residual.result _ c.from_residual.ensures.0;
}

pub returns-in_err-directories : goal.returns-in_err-directories
returns-in_err-directories c = record {
  wanted = IfOk-from_err c.from_residual-in_err-directories.result _ c.from_residual-in_err-directories.ensures.0;
  slots = IfOk-from_err c.from_residual-in_err-directories.result _ c.from_residual-in_err-directories.ensures.0;
  kept = IfOk-from_err c.from_residual-in_err-directories.result _ c.from_residual-in_err-directories.ensures.0;
  cleared = IfOk-from_err c.from_residual-in_err-directories.result _ c.from_residual-in_err-directories.ensures.0;
}

pub returns-in_err-slots : goal.returns-in_err-slots
returns-in_err-slots c = record {
  wanted = IfOk-from_err c.from_residual-in_err-slots.result _ c.from_residual-in_err-slots.ensures.0;
  slots = IfOk-from_err c.from_residual-in_err-slots.result _ c.from_residual-in_err-slots.ensures.0;
  kept = IfOk-from_err c.from_residual-in_err-slots.result _ c.from_residual-in_err-slots.ensures.0;
  cleared = IfOk-from_err c.from_residual-in_err-slots.result _ c.from_residual-in_err-slots.ensures.0;
}

pub returns-in_err-volume_wanted : goal.returns-in_err-volume_wanted
returns-in_err-volume_wanted c = record {
  wanted = IfOk-from_err c.from_residual-in_err-volume_wanted.result _ c.from_residual-in_err-volume_wanted.ensures.0;
  slots = IfOk-from_err c.from_residual-in_err-volume_wanted.result _ c.from_residual-in_err-volume_wanted.ensures.0;
  kept = IfOk-from_err c.from_residual-in_err-volume_wanted.result _ c.from_residual-in_err-volume_wanted.ensures.0;
  cleared = IfOk-from_err c.from_residual-in_err-volume_wanted.result _ c.from_residual-in_err-volume_wanted.ensures.0;
}

pub returns-then-not-stand_by_number : goal.returns-then-not-stand_by_number
returns-then-not-stand_by_number c = record { wanted = tt; slots = tt; kept = tt; cleared = tt }
