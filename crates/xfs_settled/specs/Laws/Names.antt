-- Laws about names. The function does nothing; its contract is the laws.
use Rattle.std.specs.Prelude.{◌≡◌, ℕ, ◌≤◌, List}
use Rattle.std.specs.List.{AllByRecursion}
use Rattle.xfs_disk.specs.declared.stamp.Stamp.{Stamp}
use Rattle.xfs_geom.specs.declared.geometry.Geometry.{Geometry}
use Rattle.xfs_geom.specs.declared.records.Run.{Run}
use Rattle.xfs_names.specs.declared.records.WantedNames.{WantedNames}
use Rattle.xfs_place.specs.Objects.{ServeAsks}
use Rattle.xfs_place.specs.declared.wanted.RunAsk.{RunAsk}
use Rattle.xfs_mend.specs.xfs_rebuild.Rebuilds.{AreNamesDue, Ground}
use Rattle.xfs_mend.specs.xfs_rebuild.declared.names_due.NamesDue.{NamesDue}
use Rattle.xfs_mend.specs.xfs_rename.Settled.{AreWanted}
use Rattle.xfs_changes.specs.declared.lost_found.Lost.{Lost}

-- What is known of a volume in which a name has to change is given by what its rebuild goes by (`due`), and the names that are
-- wanted by this and by where lost+found stands (`wanted`). Runs that have some blocks each are shared out among what is asked for in
-- one way (`cuts`).
abbrev pub NamesAreOneDue : Type 0
NamesAreOneDue = (g : Geometry) (s : Stamp) (on : Ground) (m n : NamesDue) → AreNamesDue g s on m → AreNamesDue g s on n → m ≡ n

-- of the same, `wanted`
abbrev pub NamesAreOneWanted : Type 0
NamesAreOneWanted = (g : Geometry) (n : NamesDue) (l : Lost) (w x : WantedNames) → AreWanted g n l w → AreWanted g n l x → w ≡ x

-- of the same, `cuts`
abbrev pub NamesAreOneCuts : Type 0
NamesAreOneCuts = (asks : List RunAsk) (cuts others : List ℕ) (runs : List Run) → AllByRecursion (λ (r : Run). 1 ≤ r.count) runs
    → ServeAsks asks cuts runs → ServeAsks asks others runs → cuts ≡ others
