-- What each answer says, and what the disk then holds.
use Rattle.std.specs.Prelude.{◌≡◌, ℕ, ◌⊎◌, List, Option, Some, None}
use Rattle.std.specs.Option.{ForSome}
use Rattle.xfs_disk.specs.Blocks.{Image}
use Rattle.xfs_disk.specs.Faults.{Rose}
use Rattle.xfs_disk.specs.Files.{Files}
use Rattle.xfs_disk.specs.declared.stamp.Stamp.{Stamp}
use Rattle.xfs_geom.specs.Volumes.{volume_of}
use Rattle.xfs_geom.specs.declared.geometry.Geometry.{Geometry}
use Rattle.xfs_place.specs.Wanted.{FindsNoRoom}
use Rattle.xfs_place.specs.declared.faults.Unplaced.{Unplaced}
use Rattle.xfs_place.specs.declared.faults.PlaceFault.{PlaceFault}
use Rattle.xfs_place.specs.declared.faults.PlaceFault.TheVariants as Placing
use Rattle.xfs_render.specs.declared.plan.Plan.{Plan}
use Rattle.xfs_empty.specs.Supers.{IsNewSuper}
use Rattle.xfs_empty.specs.Placing.{empty_wanted}
use Rattle.xfs_empty.specs.Planning.{HasRoom, IsEmptyPlan}
use Rattle.xfs_filled.specs.Planning.{HoldsFiles, IsFilledPlan, LacksRoom}
use Rattle.xfs_populated.specs.xfs_made.Volumes.{IsMadeVolume}
use Rattle.xfs_populated.specs.Volumes.{IsFilledVolume}
use Rattle.xfs_mkfs.specs.Due.{IsGeometry, refusal}
use Rattle.xfs_mkfs.specs.FilesAsked.{IsAsked, IsFilesRefusal}
use Rattle.xfs_mkfs.specs.Putting.{IsPut, IsPutPartly}
use Rattle.xfs_options.specs.declared.make_words.MakeOptions.{MakeOptions}
use Rattle.xfs_mkfs.specs.declared.files.FilesAsked.{FilesAsked}
use Rattle.xfs_mkfs.specs.declared.files.FilesAsked.TheVariants.{Root, Listed}
use Rattle.xfs_mkfs.specs.declared.outcome.MadeSummary.{MadeSummary}
use Rattle.xfs_mkfs.specs.declared.outcome.MakeOutcome.{MakeOutcome}
use Rattle.xfs_mkfs.specs.declared.outcome.MakeOutcome.TheVariants as Out
use Rattle.xfs_mkfs.specs.declared.volume.PutFault.{PutFault}
use Rattle.xfs_mkfs.specs.declared.volume.PutFault.TheVariants as Put

-- the summary of a volume of this geometry
abbrev pub summary_of : Geometry → MadeSummary
summary_of g = record { dblocks = g.dblocks; agcount = g.agcount; log = g.log; logblocks = g.logblocks; rootino = g.rootino; uuid = g.uuid }

-- the answer where placing failed, and where the blocks were not all written
abbrev pub place_outcome : PlaceFault → MakeOutcome
place_outcome (Placing.NoRoom what) = Out.NoRoom what
place_outcome Placing.NoMemory = Out.NoMemory

abbrev pub put_outcome : PutFault → MakeOutcome
put_outcome Put.NoMemory = Out.NoMemory
put_outcome (Put.Failed n) = Out.WriteFault n

-- the plan of a volume of this geometry with these files and this superblock
abbrev pub IsPlanWith : Geometry → List ℕ → Stamp → FilesAsked → Plan → Type 0
IsPlanWith g sector s Root plan = IsEmptyPlan g sector s plan
IsPlanWith g sector s (Listed nodes contents) plan = IsFilledPlan g sector s nodes contents plan

-- the plan of a volume of this geometry with these files, and with a superblock that has the label
pub record IsPlanned (g : Geometry) (label : List ℕ) (s : Stamp) (asked : FilesAsked) (plan : Plan) : Type 0 where
  pub sector : List ℕ
  pub super : IsNewSuper (volume_of g) label sector
  pub is : IsPlanWith g sector s asked plan

-- a volume of this geometry with these files has no room for this, or it has room for all
abbrev pub LacksRoomFor : Geometry → FilesAsked → Unplaced → Type 0
LacksRoomFor g Root what = FindsNoRoom (empty_wanted g) what
LacksRoomFor g (Listed nodes contents) what = LacksRoom g nodes contents what

abbrev pub HasRoomFor : Geometry → FilesAsked → Type 0
HasRoomFor g Root = HasRoom (empty_wanted g)
HasRoomFor g (Listed nodes contents) = HoldsFiles g nodes contents

-- why such a volume is not planned: memory is wanting, or this has no room
abbrev pub IsPlanningCause : Geometry → FilesAsked → PlaceFault → Type 0
IsPlanningCause g asked fault = (fault ≡ Placing.NoMemory) ⊎ ((what : Unplaced) × (fault ≡ Placing.NoRoom what) × LacksRoomFor g asked what)

-- the geometry and the files of the volume that is asked for
pub record IsVolumeAsked (o : MakeOptions) (s : Stamp) (told : Option Files) (blocks : ℕ) (g : Geometry) (asked : FilesAsked) : Type 0 where
  pub chosen : IsGeometry o s blocks g
  pub files : IsAsked o told asked

-- the plan of the volume that is asked for
pub record IsPlanOf (o : MakeOptions) (s : Stamp) (told : Option Files) (blocks : ℕ) (plan : Plan) : Type 0 where
  pub geometry : Geometry
  pub asked : FilesAsked
  pub volume : IsVolumeAsked o s told blocks geometry asked
  pub rendered : IsPlanned geometry o.label s asked plan

-- the volume of this geometry that is asked for is planned
pub record IsPrepared (o : MakeOptions) (s : Stamp) (told : Option Files) (blocks : ℕ) (g : Geometry) (plan : Plan) : Type 0 where
  pub asked : FilesAsked
  pub volume : IsVolumeAsked o s told blocks g asked
  pub room : HasRoomFor g asked
  pub rendered : IsPlanned g o.label s asked plan

-- the volume that is asked for has no room for this
pub record HasNoRoom (o : MakeOptions) (s : Stamp) (told : Option Files) (blocks : ℕ) (what : Unplaced) : Type 0 where
  pub geometry : Geometry
  pub asked : FilesAsked
  pub volume : IsVolumeAsked o s told blocks geometry asked
  pub none : LacksRoomFor geometry asked what

-- the volume that is asked for has room for all
pub record HasAllRoom (o : MakeOptions) (s : Stamp) (told : Option Files) (blocks : ℕ) : Type 0 where
  pub geometry : Geometry
  pub asked : FilesAsked
  pub volume : IsVolumeAsked o s told blocks geometry asked
  pub room : HasRoomFor geometry asked

-- so has the volume, and the summary is that of its geometry
pub record HasSummary (o : MakeOptions) (s : Stamp) (told : Option Files) (blocks : ℕ) (summary : MadeSummary) : Type 0 where
  pub geometry : Geometry
  pub asked : FilesAsked
  pub volume : IsVolumeAsked o s told blocks geometry asked
  pub room : HasRoomFor geometry asked
  pub is : summary ≡ summary_of geometry

-- a refusal comes exactly where it is due, that of files behind those of the disk, no room exactly where placing finds none, and a volume is made
-- where nothing is refused
abbrev pub IsDueMake : MakeOptions → Stamp → Option Files → ℕ → Image → MakeOutcome → Type 0
IsDueMake o s told blocks image (Out.Made summary) = (refusal o blocks image ≡ None) × HasSummary o s told blocks summary
IsDueMake o s told blocks image (Out.TooSmall what) = refusal o blocks image ≡ Some (Out.TooSmall what)
IsDueMake o s told blocks image Out.HasVolume = refusal o blocks image ≡ Some Out.HasVolume
IsDueMake o s told blocks image (Out.BadProto line reason) = (refusal o blocks image ≡ None) × IsFilesRefusal o told (Out.BadProto line reason)
IsDueMake o s told blocks image (Out.NoFile line) = (refusal o blocks image ≡ None) × IsFilesRefusal o told (Out.NoFile line)
IsDueMake o s told blocks image Out.LibraryFault = Unit {0}
IsDueMake o s told blocks image (Out.NoRoom what) = (refusal o blocks image ≡ None) × HasNoRoom o s told blocks what
IsDueMake o s told blocks image (Out.ReadFault faults) = Unit {0}
IsDueMake o s told blocks image (Out.WriteFault n) = (refusal o blocks image ≡ None) × HasAllRoom o s told blocks
IsDueMake o s told blocks image Out.NoMemory = Unit {0}

-- a read fault comes only where a read failed, and it tells how many have; a write fault only where a write or a sync failed; a library
-- fault only where the library failed
abbrev pub IsMakingCause : ℕ → ℕ → ℕ → ℕ → ℕ → ℕ → MakeOutcome → Type 0
IsMakingCause faults_before faults writes_before writes library_before library (Out.ReadFault n) = Rose faults_before faults × (n ≡ faults)
IsMakingCause faults_before faults writes_before writes library_before library (Out.WriteFault n) = Rose writes_before writes
IsMakingCause faults_before faults writes_before writes library_before library (Out.Made summary) = Unit {0}
IsMakingCause faults_before faults writes_before writes library_before library (Out.TooSmall what) = Unit {0}
IsMakingCause faults_before faults writes_before writes library_before library Out.HasVolume = Unit {0}
IsMakingCause faults_before faults writes_before writes library_before library (Out.BadProto line reason) = Unit {0}
IsMakingCause faults_before faults writes_before writes library_before library (Out.NoFile line) = Unit {0}
IsMakingCause faults_before faults writes_before writes library_before library Out.LibraryFault = Rose library_before library
IsMakingCause faults_before faults writes_before writes library_before library (Out.NoRoom what) = Unit {0}
IsMakingCause faults_before faults writes_before writes library_before library Out.NoMemory = Unit {0}

-- the volume that a disk holds is the one that was made: with none but its root, or with files, each regular one of which has its bytes
abbrev pub SaysVolume : Geometry → Stamp → FilesAsked → Option Image → Type 0
SaysVolume g s Root now = ForSome now (IsMadeVolume g s)
SaysVolume g s (Listed nodes contents) now = ForSome now (IsFilledVolume g s nodes contents)

-- the volume was made on a disk that held an image: its plan was written, and what the disk then holds says just that volume and is consistent
pub record IsMade (o : MakeOptions) (s : Stamp) (told : Option Files) (blocks : ℕ) (image : Image) (now : Option Image) (summary : MadeSummary) : Type 0 where
  pub geometry : Geometry
  pub asked : FilesAsked
  pub volume_asked : IsVolumeAsked o s told blocks geometry asked
  pub is : summary ≡ summary_of geometry
  pub plan : Plan
  pub planned : IsPlanned geometry o.label s asked plan
  pub put : IsPut plan image now
  pub volume : SaysVolume geometry s asked now

-- it was made in part
pub record IsMadePartly (o : MakeOptions) (s : Stamp) (told : Option Files) (blocks : ℕ) (image : Image) (now : Option Image) (n : ℕ) : Type 0 where
  pub geometry : Geometry
  pub asked : FilesAsked
  pub volume_asked : IsVolumeAsked o s told blocks geometry asked
  pub plan : Plan
  pub planned : IsPlanned geometry o.label s asked plan
  pub put : IsPutPartly plan image n now

-- what the disk holds: the whole plan, or the first n blocks of it and the next one old or new; after every other answer what it held
abbrev pub MakeLeaves : MakeOptions → Stamp → Option Files → ℕ → Image → Option Image → MakeOutcome → Type 0
MakeLeaves o s told blocks image now (Out.Made summary) = IsMade o s told blocks image now summary
MakeLeaves o s told blocks image now (Out.WriteFault n) = IsMadePartly o s told blocks image now n
MakeLeaves o s told blocks image now (Out.TooSmall what) = now ≡ Some image
MakeLeaves o s told blocks image now Out.HasVolume = now ≡ Some image
MakeLeaves o s told blocks image now (Out.BadProto line reason) = now ≡ Some image
MakeLeaves o s told blocks image now (Out.NoFile line) = now ≡ Some image
MakeLeaves o s told blocks image now Out.LibraryFault = now ≡ Some image
MakeLeaves o s told blocks image now (Out.NoRoom what) = now ≡ Some image
MakeLeaves o s told blocks image now (Out.ReadFault faults) = now ≡ Some image
MakeLeaves o s told blocks image now Out.NoMemory = now ≡ Some image
