use Rattle.std.proofs.Common.{List, [], ◌∷◌, refl}
use Rattle.xfs_treebuild.proofs.Apart.{different_take}
use Rattle.xfs_format_tests.proofs.tree.assert_packed.Goals as goal

pub pack-requires-clause-different : goal.pack-requires-clause-different
pack-requires-clause-different g c =
    λ κs. different_take c.tree_size-size.result (100 ∷ 101 ∷ 102 ∷ 103 ∷ 104 ∷ 105 ∷ 106 ∷ 107 ∷ 108 ∷ 109 ∷ 110 ∷ []) refl
