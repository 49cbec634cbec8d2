-- What is answered where placing or writing fails.
use Rattle.std.proofs.Common.{◌≡◌, ℕ, ◌≤◌, ◌⊎◌, inl, inr, Bool, true, false, List, Option, None, Result, Ok, Err, OnOk, OnErr, arith, refl, sym, subst}
use Rattle.xfs_disk.specs.Counts.{raised_times}
use Rattle.xfs_disk.specs.Blocks.{Image}
use Rattle.xfs_disk.specs.Faults.{Rose}
use Rattle.xfs_disk.specs.Files.{Files}
use Rattle.xfs_disk.specs.declared.failed.Failed.{Failed}
use Rattle.xfs_disk.specs.declared.stamp.Stamp.{Stamp}
use Rattle.xfs_geom.specs.declared.geometry.Geometry.{Geometry}
use Rattle.xfs_options.specs.declared.make_words.MakeOptions.{MakeOptions}
use Rattle.xfs_place.specs.declared.faults.Unplaced.{Unplaced}
use Rattle.xfs_place.specs.declared.faults.PlaceFault.{PlaceFault}
use Rattle.xfs_place.specs.declared.faults.PlaceFault.TheVariants as Placing
use Rattle.xfs_render.specs.declared.plan.Plan.{Plan}
use Rattle.xfs_mkfs.specs.Counts.{CountsBlocks, CountsReads, IsUnwritten, LooksPartly, looked}
use Rattle.xfs_mkfs.specs.Due.{refusal}
use Rattle.xfs_mkfs.specs.Outcome.{IsMakingCause, IsDueMake, IsPlanOf, IsPlanningCause, IsPrepared, IsVolumeAsked, LacksRoomFor, MakeLeaves, place_outcome, put_outcome}
use Rattle.xfs_mkfs.specs.Putting.{CountsPut, HasPutCause, LeavesUnput}
use Rattle.xfs_mkfs.specs.Stops.{IsDurableMake, IsMadeStopped, StopLeaves}
use Rattle.xfs_mkfs.specs.declared.files.FilesAsked.{FilesAsked}
use Rattle.xfs_mkfs.specs.declared.outcome.MakeOutcome.{MakeOutcome}
use Rattle.xfs_mkfs.specs.declared.outcome.MakeOutcome.TheVariants as Out
use Rattle.xfs_mkfs.specs.declared.volume.PutFault.{PutFault}
use Rattle.xfs_mkfs.specs.declared.volume.PutFault.TheVariants as Put

same_place : (what other : Unplaced) → Placing.NoRoom what ≡ Placing.NoRoom other → other ≡ what
same_place what other h = cc

no_memory : (what : Unplaced) → Placing.NoRoom what ≡ Placing.NoMemory → ⊥
no_memory what h = cc

pub due_placing : (o : MakeOptions) (s : Stamp) (told : Option Files) (blocks : ℕ) (image : Image) (g : Geometry) (asked : FilesAsked) → refusal o blocks image ≡ None
    → IsVolumeAsked o s told blocks g asked → (fault : PlaceFault) → IsPlanningCause g asked fault → IsDueMake o s told blocks image (place_outcome fault)
due_placing o s told blocks image g asked none volume Placing.NoMemory cause = tt
due_placing o s told blocks image g asked none volume (Placing.NoRoom what) (inl is) = absurd (no_memory what is)
due_placing o s told blocks image g asked none volume (Placing.NoRoom what) (inr found) = (
  none,
  record {
    geometry = g;
    asked = asked;
    volume = volume;
    none = subst (λ (w : Unplaced). LacksRoomFor g asked w) (same_place what found.0 found.1) found.2;
  },
)

pub caused_placing : (a b c d before now : ℕ) (fault : PlaceFault) → IsMakingCause a b c d before now (place_outcome fault)
caused_placing a b c d before now Placing.NoMemory = tt
caused_placing a b c d before now (Placing.NoRoom what) = tt

pub due_putting : (o : MakeOptions) (s : Stamp) (told : Option Files) (blocks : ℕ) (image : Image) (g : Geometry) (plan : Plan) → refusal o blocks image ≡ None
    → IsPrepared o s told blocks g plan → (fault : PutFault) → IsDueMake o s told blocks image (put_outcome fault)
due_putting o s told blocks image g plan none is Put.NoMemory = tt
due_putting o s told blocks image g plan none is (Put.Failed n) = (none, record { geometry = g; asked = is.asked; volume = is.volume; room = is.room })

pub leaves_putting : (o : MakeOptions) (s : Stamp) (told : Option Files) (blocks : ℕ) (image : Image) (now : Option Image) (g : Geometry) (plan : Plan)
    → IsPrepared o s told blocks g plan → (fault : PutFault) → LeavesUnput plan image now fault → MakeLeaves o s told blocks image now (put_outcome fault)
leaves_putting o s told blocks image now g plan is Put.NoMemory left = left
leaves_putting o s told blocks image now g plan is (Put.Failed n) left =
    record { geometry = g; asked = is.asked; volume_asked = is.volume; plan = plan; planned = is.rendered; put = left }

pub caused_putting : (a b c d before now : ℕ) (fault : PutFault) → HasPutCause c d (Err fault) → IsMakingCause a b c d before now (put_outcome fault)
caused_putting a b c d before now Put.NoMemory cause = tt
caused_putting a b c d before now (Put.Failed n) cause = cause

-- nothing was written where placing failed
pub unwritten_placing : (fault : PlaceFault) → IsUnwritten (place_outcome fault)
unwritten_placing Placing.NoMemory = tt
unwritten_placing (Placing.NoRoom what) = tt

pub reads_placing : (force : Bool) (before now : ℕ) (fault : PlaceFault) → now ≡ looked force before → CountsReads force before now (place_outcome fault)
reads_placing force before now Placing.NoMemory is = is
reads_placing force before now (Placing.NoRoom what) is = is

-- what was read and written where writing failed
pub reads_putting : (force : Bool) (before now : ℕ) (fault : PutFault) → now ≡ looked force before → CountsReads force before now (put_outcome fault)
reads_putting force before now Put.NoMemory is = is
reads_putting force before now (Put.Failed n) is = is

-- what was read where a read failed: nothing yet, or some of the blocks that have the marks
pub reads_failed : (force : Bool) (before now faults : ℕ) (outcome : MakeOutcome) → outcome ≡ Out.ReadFault faults → LooksPartly force before now
    → CountsReads force before now outcome
reads_failed force before now faults outcome is read = subst (λ (x : MakeOutcome). CountsReads force before now x) (sym is) read

-- the answer to a read that failed, by which nothing was written
pub due_read : (o : MakeOptions) (s : Stamp) (told : Option Files) (blocks : ℕ) (image : Image) (faults : ℕ) (outcome : MakeOutcome) → outcome ≡ Out.ReadFault faults
    → IsDueMake o s told blocks image outcome
due_read o s told blocks image faults outcome is = subst (λ (x : MakeOutcome). IsDueMake o s told blocks image x) (sym is) tt

pub early_read : (faults : ℕ) (outcome : MakeOutcome) → outcome ≡ Out.ReadFault faults → IsUnwritten outcome
early_read faults outcome is = subst (λ (x : MakeOutcome). IsUnwritten x) (sym is) tt

pub caused_read : (a b c d before now : ℕ) (outcome : MakeOutcome) → outcome ≡ Out.ReadFault b → Rose a b → IsMakingCause a b c d before now outcome
caused_read a b c d before now outcome is rose = subst (λ (x : MakeOutcome). IsMakingCause a b c d before now x) (sym is) (rose, refl)

pub rose_later : (a b c : ℕ) → a ≤ b → Rose b c → Rose a c
rose_later a b c up (le, rose) = (omega (arith, up, le), omega (arith, up, le, rose))

pub reads_nothing : (force : Bool) (before now : ℕ) → now ≡ before → LooksPartly force before now
reads_nothing force before now same = (0, omega arith, same)

pub reads_partly : (force : Bool) (before now : ℕ) → force ≡ false → (k : ℕ) × (k ≤ 3) × (now ≡ raised_times k before) → LooksPartly force before now
reads_partly true before now is read = cc
reads_partly false before now is read = read

pub reads_by_result : (force : Bool) (before now : ℕ) (result : Result Bool Failed) → force ≡ false → OnErr result ((k : ℕ) × (k ≤ 3) × (now ≡ raised_times k before))
    → OnErr result (LooksPartly force before now)
reads_by_result force before now (Ok there) is read = tt
reads_by_result force before now (Err fault) is read = reads_partly force before now is read

pub looks_by_result : (force : Bool) (before now : ℕ) (result : Result Bool Failed) → force ≡ false → OnOk result (now ≡ raised_times 4 before)
    → OnOk result (now ≡ looked force before)
looks_by_result true before now result is read = cc
looks_by_result false before now result is read = read

pub not_looked : (force : Bool) (before : ℕ) → force ≡ true → before ≡ looked force before
not_looked true before is = refl
not_looked false before is = cc

pub counts_putting : (o : MakeOptions) (s : Stamp) (told : Option Files) (blocks before now : ℕ) (plan : Plan) → IsPlanOf o s told blocks plan → (fault : PutFault)
    → CountsPut plan before now (Err fault) → CountsBlocks o s told blocks before now (put_outcome fault)
counts_putting o s told blocks before now plan due Put.NoMemory counted = counted
counts_putting o s told blocks before now plan due (Put.Failed n) counted = record { plan = plan; due = due; most = counted.0; counted = counted.1 }

pub kept_putting : (tells : Type 0) (now : Option Image) (may_leave : ℕ → List ℕ → Type 0) (fault : PutFault) → IsDurableMake tells now may_leave (put_outcome fault)
kept_putting tells now may_leave Put.NoMemory = tt
kept_putting tells now may_leave (Put.Failed n) = tt

-- memory is wanting where nothing was written
pub unwritten_putting : (fault : PutFault) → IsUnwritten (put_outcome fault) → fault ≡ Put.NoMemory
unwritten_putting Put.NoMemory is = refl
unwritten_putting (Put.Failed n) is = absurd is

-- what a stop leaves where writing failed
pub stops_putting : (o : MakeOptions) (s : Stamp) (told : Option Files) (blocks : ℕ) (image stopped : Image) (fault : PutFault) (before now : Type 0)
    → (fault ≡ Put.NoMemory → now → before) → (now → before ⊎ IsMadeStopped o s told blocks image stopped) → now
    → before ⊎ StopLeaves o s told blocks image stopped (put_outcome fault)
stops_putting o s told blocks image stopped Put.NoMemory before now same left it = inl (same refl it)
stops_putting o s told blocks image stopped (Put.Failed n) before now same left it = left it

-- the count of failed writes has not fallen
pub put_rises : (before now : ℕ) (fault : PutFault) → HasPutCause before now (Err fault) → before ≤ now
put_rises before now Put.NoMemory cause = cause
put_rises before now (Put.Failed n) cause = cause.0

-- the plan of what was prepared
pub plan_of : (o : MakeOptions) (s : Stamp) (told : Option Files) (blocks : ℕ) (g : Geometry) (plan : Plan) → IsPrepared o s told blocks g plan → IsPlanOf o s told blocks plan
plan_of o s told blocks g plan is = record { geometry = g; asked = is.asked; volume = is.volume; rendered = is.rendered }
