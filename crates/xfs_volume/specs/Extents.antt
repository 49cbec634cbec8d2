-- The extents that a list of extents holds.
use Rattle.std.specs.Prelude.{List, [], ◌∷◌}
use Rattle.xfs_word.specs.declared.extents.Extent.{Extent}
use Rattle.xfs_volume.specs.declared.extents.Held.{Held}
use Rattle.xfs_volume.specs.declared.extents.Held.TheVariants.{Nothing, One, Several}

abbrev pub extents_of : Held → List Extent
extents_of Nothing = []
extents_of (One extent) = extent ∷ []
extents_of (Several list) = list.value.items
