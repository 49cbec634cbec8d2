use Rattle.std.proofs.Common.{◌≡◌, ◌++◌, drop}
use Rattle.std.specs.List.{flat_map}
use Rattle.xfs_names.specs.declared.building.BuiltDirectory.{BuiltDirectory}
use Rattle.xfs_changes.proofs.objects.blocks_of_built.Given as goal

abbrev pub invariant-loop-directory : goal.invariant-loop-directory
invariant-loop-directory l =
    l.bank ++ flat_map (λ (b : BuiltDirectory). b.image.blocks) (drop l.directory-index l.built) ≡ flat_map (λ (b : BuiltDirectory). b.image.blocks) l.built
