-- Which superblocks are accepted, why others are not, and which backups agree (chapter "Superblocks").
use Rattle.std.specs.Prelude.{ℕ, ◌+◌, ◌-◌, ◌^◌, Bool, ◌==◌, ◌&&◌, ◌||◌, not, if◌then◌else◌, List, Option, Some, None, is_none, replicate, bytes_eq}
use Rattle.xfs_word.specs.Seal.{is_sealed}
use Rattle.xfs_word.specs.declared.kinds.Seal.{Seal}
use Rattle.xfs_word.specs.declared.kinds.SealKind.TheVariants.{Super}
use Rattle.xfs_geom.specs.Features.{or_else, refused_feature}
use Rattle.xfs_geom.specs.Fixed.{fixed_fault}
use Rattle.xfs_geom.specs.Stated.{stated, parts_fault, first_place_fault}
use Rattle.xfs_geom.specs.Volumes.{Volume, stated_volume}
use Rattle.xfs_geom.specs.declared.features.Departure.{Departure}
use Rattle.xfs_geom.specs.declared.reading.SuperFault.{SuperFault}
use Rattle.xfs_geom.specs.declared.reading.SuperFault.TheVariants.{NotSealed, Unsupported, Shape}

-- the seal of a superblock: neither place nor identifier is asked for
abbrev pub super_seal : Seal
super_seal = record { kind = Super; place = 0; owner = None; uuid = replicate 16 0 }

-- a refused feature as a fault
abbrev pub feature_fault : Option Departure → Option SuperFault
feature_fault None = None
feature_fault (Some departure) = Some (Unsupported departure.word departure.bits)

-- a shape word that fails as a fault
abbrev pub shape_fault : Option ℕ → Option SuperFault
shape_fault None = None
shape_fault (Some word) = Some (Shape word)

-- what is wrong with a primary superblock before its features are looked at: it was left while it was made
abbrev pub progress_fault : ℕ → List ℕ → Option SuperFault
progress_fault place sector = if place == 0 && not ((stated sector).inprogress == 0) then Some (Shape 19) else None

-- The first fault of a superblock that stands at the block place of an image of so many blocks: the
-- primary at place 0, a backup elsewhere. It is accepted where there is none.
unfoldable pub super_fault : List ℕ → ℕ → ℕ → Option SuperFault
super_fault sector place blocks =
    if is_sealed super_seal sector then
    or_else (progress_fault place sector)
    (or_else (feature_fault (refused_feature sector))
    (or_else (shape_fault (fixed_fault sector))
    (or_else (shape_fault (parts_fault (stated sector)))
    (shape_fault (first_place_fault (stated sector) place blocks)))))
    else Some NotSealed

-- an inode number of a backup is the primary's, or all ones
abbrev pub agrees_on_inode : ℕ → ℕ → Bool
agrees_on_inode due ino = ino == due || ino == 2 ^ 64 - 1

-- a backup has the primary's values of what makes the geometry
abbrev pub states_volume : Volume → List ℕ → Bool
states_volume v sector =
    let held = stated_volume sector in
    held.dblocks == v.dblocks
    && held.agblocks == v.agblocks
    && held.agcount == v.agcount
    && held.agblklog == v.agblklog
    && held.log == v.log
    && held.logblocks == v.logblocks
    && held.logsectlog == v.logsectlog
    && bytes_eq held.uuid v.uuid
    && agrees_on_inode v.rootino (stated sector).rootino
    && agrees_on_inode (v.rootino + 1) (stated sector).rbmino
    && agrees_on_inode (v.rootino + 2) (stated sector).rsumino

-- A superblock that stands at the start of a group above 0 agrees with the volume: it is sealed, its
-- features and the words of its shape are right, and it states the volume.
unfoldable pub is_agreeing : Volume → List ℕ → Bool
is_agreeing v sector =
    is_sealed super_seal sector
    && is_none (refused_feature sector)
    && is_none (fixed_fault sector)
    && is_none (parts_fault (stated sector))
    && states_volume v sector
