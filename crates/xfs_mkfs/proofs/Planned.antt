-- What is planned of the files that are asked for, by what they are.
use Rattle.std.proofs.Common.{◌≡◌, ℕ, ◌≤◌, ◌⊎◌, List, length, Result, Ok, Err, IfOk, IfErr, OnOk, sym, subst, arith}
use Rattle.xfs_disk.specs.Faults.{Rose}
use Rattle.xfs_disk.specs.declared.stamp.Stamp.{Stamp}
use Rattle.xfs_geom.specs.Volumes.{volume_of}
use Rattle.xfs_geom.specs.declared.geometry.Geometry.{Geometry}
use Rattle.xfs_place.specs.declared.faults.PlaceFault.{PlaceFault}
use Rattle.xfs_render.specs.declared.plan.Plan.{Plan}
use Rattle.xfs_empty.specs.Supers.{IsNewSuper}
use Rattle.xfs_empty.specs.Placing.{empty_wanted}
use Rattle.xfs_empty.specs.Planning.{HasRoom}
use Rattle.xfs_mkfs.specs.FilesAsked.{HasFilesCause}
use Rattle.xfs_mkfs.specs.Outcome.{HasRoomFor, IsPlanWith, IsPlanned}
use Rattle.xfs_mkfs.specs.declared.files.FilesAsked.{FilesAsked}
use Rattle.xfs_mkfs.specs.declared.files.FilesAsked.TheVariants.{Root}
use Rattle.xfs_mkfs.specs.declared.outcome.MakeOutcome.{MakeOutcome}
use Rattle.xfs_mkfs.specs.declared.outcome.MakeOutcome.TheVariants as Out
use Rattle.xfs_mkfs.proofs.Failing.{rose_later}

pub planned_for : (g : Geometry) (label sector : List ℕ) (s : Stamp) (asked same : FilesAsked) (r : Result Plan PlaceFault) → asked ≡ same → IsNewSuper (volume_of g) label sector
    → IfOk r (IsPlanWith g sector s same) → IfOk r (IsPlanned g label s asked)
planned_for g label sector s asked same (Ok plan) is super with =
    record { sector = sector; super = super; is = subst (λ (a : FilesAsked). IsPlanWith g sector s a plan) (sym is) with }
planned_for g label sector s asked same (Err fault) is super with = tt

pub root_room : (g : Geometry) (r : Result Plan PlaceFault) → IfOk r (λ plan. HasRoom (empty_wanted g)) → OnOk r (HasRoomFor g Root)
root_room g (Ok plan) room = room
root_room g (Err fault) room = tt

-- what is answered of a later call is answered of all calls
pub caused_later : (A B : Type 0) (a b now : ℕ) (outcome : MakeOutcome) → a ≤ b → HasFilesCause {A = A} b now (Err outcome) → HasFilesCause {A = B} a now (Err outcome)
caused_later A B a b now (Out.Made summary) up cause = omega (arith, up, cause)
caused_later A B a b now (Out.TooSmall what) up cause = omega (arith, up, cause)
caused_later A B a b now Out.HasVolume up cause = omega (arith, up, cause)
caused_later A B a b now (Out.BadProto line reason) up cause = omega (arith, up, cause)
caused_later A B a b now (Out.NoFile line) up cause = omega (arith, up, cause)
caused_later A B a b now Out.LibraryFault up cause = rose_later a b now up cause
caused_later A B a b now (Out.NoRoom what) up cause = omega (arith, up, cause)
caused_later A B a b now (Out.ReadFault faults) up cause = omega (arith, up, cause)
caused_later A B a b now (Out.WriteFault n) up cause = omega (arith, up, cause)
caused_later A B a b now Out.NoMemory up cause = omega (arith, up, cause)
