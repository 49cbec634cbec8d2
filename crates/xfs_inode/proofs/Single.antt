-- Where there is one run at most none meets another, and where there is no block none meets a run.
use Rattle.std.proofs.Common.{◌≡◌, ℕ, ◌≤◌, Bool, true, List, [], ◌∷◌, ◌++◌, map, length, refl, arith}
use Rattle.std.specs.List.{list_all}
use Rattle.xfs_word.specs.declared.extents.Extent.{Extent}
use Rattle.xfs_geom.specs.Volumes.{Volume}
use Rattle.xfs_inode.specs.Files.{range_of, range_of_block, ranges_apart}

-- one extent and no block
pub single_apart : (v : Volume) (extents : List Extent) (blocks : List ℕ) → length blocks ≡ 0 → length extents ≤ 1
    → true ≡ ranges_apart (map (range_of v) extents ++ map range_of_block blocks)
unfolding ranges_apart
single_apart v [] [] none few = refl
single_apart v (e ∷ []) [] none few = refl
single_apart v (e ∷ f ∷ rest) [] none few = absurd (omega (arith, few))
single_apart v extents (b ∷ blocks) none few = absurd (omega (arith, none))

-- no block
pub none_met : (test : ℕ → Bool) (blocks : List ℕ) → length blocks ≡ 0 → true ≡ list_all test blocks
none_met test [] none = refl
none_met test (b ∷ blocks) none = absurd (omega (arith, none))
