-- A law about the numbers of links that are wanted. The function does nothing; its contract is the law.
use Rattle.std.specs.Prelude.{◌<◌, ◌^◌, ℕ}
use Rattle.std.specs.List.{All}
use Rattle.xfs_geom.specs.declared.geometry.Geometry.{Geometry}
use Rattle.xfs_names.specs.Built.{CanBeBuilt}
use Rattle.xfs_names.specs.declared.records.WantedNames.{WantedNames}
use Rattle.xfs_mend.specs.xfs_rebuild.declared.names_due.NamesDue.{NamesDue}
use Rattle.xfs_mend.specs.xfs_rename.Settled.{AreWanted}
use Rattle.xfs_changes.specs.declared.lost_found.Lost.{Lost}

-- Where directories can be built of the names that are wanted, 32 bits hold the number of links of each file.
abbrev pub SettledLinksFit : Type 0
SettledLinksFit = (g : Geometry) (n : NamesDue) (l : Lost) (w : WantedNames) → AreWanted g n l w → CanBeBuilt w → All (λ (p : ℕ × ℕ). p.1 < 2 ^ 32) w.links
