-- The free blocks of a group are no more than its blocks, and what its trees have at least and at most.
use Rattle.std.proofs.Common.{◌≡◌, ℕ, ◌+◌, ◌^◌, ◌<◌, ◌≤◌, true, List, [], ◌∷◌, length, Some, None, ap, sym, ◌∙◌, arith}
use Rattle.std.specs.List.{sum}
use Rattle.std.specs.Prelude.{IsTrue}
use Rattle.std.proofs.lemmas.Bool.{and_parts, leb-true, ltb-true}
use Rattle.std.proofs.lemmas.List.Sums.{sum-map, sum_by-cons}
use Rattle.xfs_geom.specs.Conversions.{group_length}
use Rattle.xfs_geom.specs.Sums.{free_blocks}
use Rattle.xfs_geom.specs.Volumes.{Volume}
use Rattle.xfs_geom.specs.declared.records.InoRec.{InoRec}
use Rattle.xfs_geom.specs.declared.records.Span.{Span}
use Rattle.xfs_kinds.specs.FreeTrees.{bno_shape, is_free_run}
use Rattle.xfs_place.proofs.Sizes.{size_small}
use Rattle.xfs_place.specs.declared.placed.GroupPlaced.{GroupPlaced}
use Rattle.xfs_tree.specs.Rules.{are_lawful}
use Rattle.xfs_treebuild.specs.Size.{rows_of}
use Rattle.xfs_render.specs.Groups.{IsSoundGroup, tree_places}

-- one free run more
free_more : (s : Span) (runs : List Span) → free_blocks (s ∷ runs) ≡ s.count + free_blocks runs
free_more s runs =
    sum-map (λ (x : Span). x.count) (s ∷ runs)
    ∙ sum_by-cons (λ (x : Span). x.count) s runs
    ∙ ap (λ (n : ℕ). s.count + n) (sym (sum-map (λ (x : Span). x.count) runs))

-- a lawful run ends inside the group, and begins behind the one before
run_inside : (v : Volume) (ag : ℕ) (s : Span) → is_free_run v ag s ≡ true → s.start + s.count ≤ group_length v ag
run_inside v ag s lawful =
    let inside = (and_parts _ _ lawful).1 in
    leb-true (s.start + s.count) (group_length v ag) ((and_parts _ _ inside).1)

free_behind : (v : Volume) (ag : ℕ) (before : Span) (runs : List Span) → before.start + before.count ≤ group_length v ag
    → IsTrue (are_lawful (bno_shape ag) v (Some before) runs) → before.start + before.count + free_blocks runs ≤ group_length v ag
free_behind v ag before [] inside lawful = omega (arith, inside)
free_behind v ag before (s ∷ runs) inside lawful =
    let parts = and_parts _ _ lawful in
    let own = and_parts _ _ parts.0 in
    let behind : before.start + before.count < s.start = ltb-true _ _ own.1 in
    let rest = free_behind v ag s runs (run_inside v ag s own.0) parts.1 in
    omega (arith, behind, rest, free_more s runs)

pub free_small : (v : Volume) (ag : ℕ) (runs : List Span) → IsTrue (are_lawful (bno_shape ag) v None runs) → free_blocks runs ≤ group_length v ag
free_small v ag [] lawful = omega arith
free_small v ag (s ∷ runs) lawful =
    let parts = and_parts _ _ lawful in
    let own = and_parts _ _ parts.0 in
    let rest = free_behind v ag s runs (run_inside v ag s own.0) parts.1 in
    omega (arith, rest, free_more s runs)

-- a tree of fewer than 2^28 records has some blocks, and not too many
pub tree_small : (leaf_cap node_cap records blocks : ℕ) → 1 ≤ leaf_cap → 2 ≤ node_cap → records < 2 ^ 28 → blocks ≡ sum (rows_of leaf_cap node_cap records)
    → (0 < blocks) × (blocks < 2 ^ 30)
tree_small leaf_cap node_cap records blocks leaves nodes few size =
    let small = size_small leaf_cap node_cap records leaves nodes in
    (omega (arith, size, small.0), omega (arith, size, small.1))

-- the trees of free space and of owners have some blocks each, and together fewer than 2^32
pub space_trees : (v : Volume) (ag : ℕ) (inodes : List InoRec) (p : GroupPlaced) → IsSoundGroup v ag inodes p
    → (0 < length (tree_places p 0)) × (0 < length (tree_places p 1)) × (0 < length (tree_places p 4))
    × (length (tree_places p 0) + length (tree_places p 1) + length (tree_places p 4) < 2 ^ 32)
space_trees v ag inodes p sound =
    let bno = tree_small 505 336 (length p.bno) (length (tree_places p 0)) (omega arith) (omega arith) sound.bno.few sound.bno.size in
    let cnt = tree_small 505 336 (length p.cnt) (length (tree_places p 1)) (omega arith) (omega arith) sound.cnt.few sound.cnt.size in
    let rmap = tree_small 168 91 (length p.rmap) (length (tree_places p 4)) (omega arith) (omega arith) sound.rmap.few sound.rmap.size in
    (bno.0, cnt.0, rmap.0, omega (arith, bno.1, cnt.1, rmap.1))

-- the trees of inodes have some
pub inode_trees : (v : Volume) (ag : ℕ) (inodes : List InoRec) (p : GroupPlaced) → IsSoundGroup v ag inodes p
    → (0 < length (tree_places p 2)) × (0 < length (tree_places p 3))
inode_trees v ag inodes p sound =
    let ino = tree_small 252 505 (length inodes) (length (tree_places p 2)) (omega arith) (omega arith) sound.ino.few sound.ino.size in
    let fino = tree_small 252 505 (length p.fino) (length (tree_places p 3)) (omega arith) (omega arith) sound.fino.few sound.fino.size in
    (ino.0, fino.0)
