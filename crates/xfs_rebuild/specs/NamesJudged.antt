-- Whether names have to change, as it is judged of what is kept.
use Rattle.std.specs.Prelude.{◌≡◌, ℕ, true, false, List}
use Rattle.xfs_naming.specs.Naming.{AreNamed}
use Rattle.xfs_render.specs.declared.wanted_slots.SlotWanted.{SlotWanted}
use Rattle.xfs_salvage.specs.declared.found.Salvaged.{Salvaged}
use Rattle.xfs_rebuild.specs.Names.{AreDueNames, needs_names}
use Rattle.xfs_rebuild.specs.declared.names.Judged.{Judged}
use Rattle.xfs_rebuild.specs.declared.names.Judged.TheVariants.{Change, Stay}

-- where they stay the clusters are the kept ones; where they change the names are those that are due
abbrev pub AreNamesJudged : ℕ → Salvaged → List SlotWanted → Judged → Type 0
AreNamesJudged root kept slots (Stay clusters) = (needs_names root kept slots ≡ false) × (clusters ≡ kept.clusters)
AreNamesJudged root kept slots (Change names) = (needs_names root kept slots ≡ true) × AreDueNames root kept slots names × AreNamed names.files names.entries names.dirs
