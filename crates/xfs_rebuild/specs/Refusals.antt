-- Why no rebuild is planned.
use Rattle.std.specs.Prelude.{◌≡◌, ℕ, true, false, ◌≤◌, Result, MatchResult, ⊤}
use Rattle.xfs_disk.specs.Faults.{Rose}
use Rattle.xfs_disk.specs.declared.stamp.Stamp.{Stamp}
use Rattle.xfs_geom.specs.Volumes.{volume_of}
use Rattle.xfs_geom.specs.declared.geometry.Geometry.{Geometry}
use Rattle.xfs_place.specs.Wanted.{FindsNoRoom}
use Rattle.xfs_place.specs.declared.wanted.Wanted.{Wanted}
use Rattle.xfs_scan.specs.declared.evidence.Evidence.{Evidence}
use Rattle.xfs_rebuild.specs.Rebuilds.{AreNamesDue, Ground, IsFound, IsGround, asked, names_change}
use Rattle.xfs_rebuild.specs.declared.faults.RebuildFault.{RebuildFault}
use Rattle.xfs_rebuild.specs.declared.faults.RebuildFault.TheVariants as faults

-- a refusal has its cause, names before room; a fault of the disk or want of memory may stand in its place
abbrev pub IsRefusedOn : Geometry → Stamp → Ground → RebuildFault → Type 0
IsRefusedOn g s on (faults.Names due) = (names_change g s on ≡ true) × AreNamesDue g s on due
IsRefusedOn g s on (faults.NoRoom what) = (names_change g s on ≡ false) × FindsNoRoom (asked g on) what
IsRefusedOn g s on faults.ReadFault = ⊤
IsRefusedOn g s on faults.NoMemory = ⊤

-- so it is by what an evidence gives, wherever it is refused
abbrev pub IsRefused : Geometry → Stamp → Evidence → RebuildFault → Type 0
IsRefused g s e (faults.Names due) = (on : Ground) × IsGround (volume_of g) e on × (names_change g s on ≡ true) × AreNamesDue g s on due × IsFound (volume_of g) on.kept
IsRefused g s e (faults.NoRoom what) = (on : Ground) × IsGround (volume_of g) e on × (names_change g s on ≡ false) × FindsNoRoom (asked g on) what
IsRefused g s e faults.ReadFault = ⊤
IsRefused g s e faults.NoMemory = ⊤

-- where blocks are placed, room alone is refused; where they are read, nothing is
abbrev pub IsPlaceRefused : Wanted → RebuildFault → Type 0
IsPlaceRefused w (faults.Names due) = ⊥
IsPlaceRefused w (faults.NoRoom what) = FindsNoRoom w what
IsPlaceRefused w faults.ReadFault = ⊤
IsPlaceRefused w faults.NoMemory = ⊤

abbrev pub IsReadRefused : RebuildFault → Type 0
IsReadRefused (faults.Names due) = ⊥
IsReadRefused (faults.NoRoom what) = ⊥
IsReadRefused faults.ReadFault = ⊤
IsReadRefused faults.NoMemory = ⊤

-- a read fault is answered only where the count of failed reads rose
abbrev pub IsRebuildCause : ℕ → ℕ → RebuildFault → Type 0
IsRebuildCause before now (faults.Names due) = before ≤ now
IsRebuildCause before now (faults.NoRoom what) = before ≤ now
IsRebuildCause before now faults.ReadFault = Rose before now
IsRebuildCause before now faults.NoMemory = before ≤ now

abbrev pub HasRebuildCause : {T : Type 0} → ℕ → ℕ → Result T RebuildFault → Type 0
HasRebuildCause before now result = MatchResult result (λ _. before ≤ now) (IsRebuildCause before now)
