-- Laws about what is wanted of slots once names are settled. The function does nothing; its contract is the laws.
use Rattle.std.specs.Prelude.{List}
use Rattle.xfs_disk.specs.Blocks.{Image}
use Rattle.xfs_disk.specs.declared.stamp.Stamp.{Stamp}
use Rattle.xfs_geom.specs.declared.geometry.Geometry.{Geometry}
use Rattle.xfs_names.specs.declared.records.WantedNames.{WantedNames}
use Rattle.xfs_render.specs.declared.wanted_slots.SlotWanted.{SlotWanted}
use Rattle.xfs_request.specs.Slots.{StandByNumber}
use Rattle.xfs_scan.specs.declared.evidence.Evidence.{Evidence}
use Rattle.xfs_mend.specs.xfs_rebuild.Rebuilds.{Ground}
use Rattle.xfs_mend.specs.xfs_rebuild.declared.names_due.NamesDue.{NamesDue}
use Rattle.xfs_mend.specs.xfs_rename.Lost.{lost_due}
use Rattle.xfs_mend.specs.xfs_rename.Renames.{renamed_slots}
use Rattle.xfs_mend.specs.xfs_rename.Settled.{AreWanted}
use Rattle.xfs_changes.specs.declared.forks.DirectoryFork.{DirectoryFork}
use Rattle.xfs_settled.specs.Gathered.{IsGathered}

-- With what names change of any image, what is wanted of slots stands by inode, whatever forks directories are given.
abbrev pub SettledSlotsStandByNumber : Type 0
SettledSlotsStandByNumber = (g : Geometry) (s : Stamp) (image : Image) (e : Evidence) (on : Ground) (n : NamesDue) → IsGathered g s image e on n
    → (w : WantedNames) → AreWanted g n (lost_due g n) w → (forks : List DirectoryFork)
    → StandByNumber (λ (slot : SlotWanted). slot.ino) 0 (renamed_slots g s n w forks)
