-- Names that are put together from entries and parents.
use Rattle.std.specs.Prelude.{◌≡◌, ℕ, List, map}
use Rattle.xfs_dirdata.specs.declared.records.EntryRec.{EntryRec}
use Rattle.xfs_volume.specs.declared.directories.DirRec.{DirRec}
use Rattle.xfs_links.specs.declared.records.NodeRec.{NodeRec}
use Rattle.xfs_names.specs.Rebuilt.{rebuilt_among}
use Rattle.xfs_names.specs.Wanted.{with_links}
use Rattle.xfs_names.specs.declared.records.WantedNames.{WantedNames}

-- the entries and parents, the links that the entries give, and the directories that have others
pub record AreNamesOf (nodes : List NodeRec) (listed : List EntryRec) (dirs : List DirRec) (root : ℕ) (due : List EntryRec) (above : List (ℕ × ℕ)) (names : WantedNames) : Type 0 where
  pub entries' : names.entries ≡ due
  pub parents' : names.parents ≡ above
  pub links' : names.links ≡ map (with_links nodes due root) nodes
  pub rebuilt' : names.rebuilt ≡ rebuilt_among listed dirs due above
