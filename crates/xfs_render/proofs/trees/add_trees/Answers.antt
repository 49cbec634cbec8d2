use Rattle.std.proofs.Common.{arith, refl, ℕ, ◌<◌, sym, subst, lit<}
use Rattle.std.proofs.lemmas.Result.{IfOk-from_err}
use Rattle.xfs_geom.specs.Volumes.{volume_of}
use Rattle.xfs_kinds.specs.FreeTrees.{bno_shape, cnt_shape}
use Rattle.xfs_kinds.specs.InodeTrees.{ino_shape, fino_shape}
use Rattle.xfs_kinds.specs.OwnerTrees.{rmap_shape}
use Rattle.xfs_render.proofs.TreeSteps.{five_trees, named_tree, packs_named}
use Rattle.xfs_render.proofs.trees.add_trees.Goals as goal

pub returns : goal.returns
returns c =
    let v = volume_of c.args.g.now in
    let ag = c.args.ag in
    five_trees v ag c.args.inodes.now c.args.placed.now (omega arith) c.requires.sound _ _ _ _ _ _
    (named_tree (bno_shape ag) v _ _ _ _ _ _ c.as_slice.ensures c.tree_places.ensures c.in_ok-add_tree.ensures)
    (named_tree (cnt_shape ag) v _ _ _ _ _ _ c.as_slice-2.ensures c.tree_places-2.ensures c.in_ok-add_tree-2.ensures)
    (named_tree (ino_shape ag) v _ _ _ _ _ _ refl c.tree_places-3.ensures c.in_ok-add_tree-3.ensures)
    (named_tree (fino_shape ag) v _ _ _ _ _ _ c.as_slice-3.ensures c.tree_places-4.ensures c.in_ok-add_tree-4.ensures)
    (named_tree (rmap_shape ag) v _ _ _ _ _ _ c.as_slice-4.ensures c.tree_places-5.ensures c.in_ok-add_tree-5.ensures)

pub tree_places-requires : goal.tree_places-requires
tree_places-requires c = subst (λ (n : ℕ). 0 < n) (sym c.requires.sound.five) (lit< tt)

pub add_tree-requires-clause-can_pack : goal.add_tree-requires-clause-can_pack
add_tree-requires-clause-can_pack c = λ κs. packs_named (bno_shape c.args.ag) (volume_of c.args.g.now) _ _ _ _ c.as_slice.ensures c.tree_places.ensures c.requires.sound.bno

pub add_tree-requires-clause-draft : goal.add_tree-requires-clause-draft
add_tree-requires-clause-draft c = λ κs. c.requires.draft

pub returns-in_err-add_tree : goal.returns-in_err-add_tree
returns-in_err-add_tree c = IfOk-from_err c.from_residual.result _ c.from_residual.ensures.0

pub tree_places-requires-2 : goal.tree_places-requires-2
tree_places-requires-2 c = subst (λ (n : ℕ). 1 < n) (sym c.requires.sound.five) (lit< tt)

pub add_tree-requires-2-clause-can_pack : goal.add_tree-requires-2-clause-can_pack
add_tree-requires-2-clause-can_pack c = λ κs. packs_named (cnt_shape c.args.ag) (volume_of c.args.g.now) _ _ _ _ c.as_slice-2.ensures c.tree_places-2.ensures c.requires.sound.cnt

pub add_tree-requires-2-clause-draft : goal.add_tree-requires-2-clause-draft
add_tree-requires-2-clause-draft c = λ κs. c.in_ok-add_tree.ensures.adds.whole

pub returns-in_err-add_tree-2 : goal.returns-in_err-add_tree-2
returns-in_err-add_tree-2 c = IfOk-from_err c.from_residual-in_err-add_tree-2.result _ c.from_residual-in_err-add_tree-2.ensures.0

pub tree_places-requires-3 : goal.tree_places-requires-3
tree_places-requires-3 c = subst (λ (n : ℕ). 2 < n) (sym c.requires.sound.five) (lit< tt)

pub add_tree-requires-3-clause-can_pack : goal.add_tree-requires-3-clause-can_pack
add_tree-requires-3-clause-can_pack c = λ κs. packs_named (ino_shape c.args.ag) (volume_of c.args.g.now) _ _ _ _ refl c.tree_places-3.ensures c.requires.sound.ino

pub add_tree-requires-3-clause-draft : goal.add_tree-requires-3-clause-draft
add_tree-requires-3-clause-draft c = λ κs. c.in_ok-add_tree-2.ensures.adds.whole

pub returns-in_err-add_tree-3 : goal.returns-in_err-add_tree-3
returns-in_err-add_tree-3 c = IfOk-from_err c.from_residual-in_err-add_tree-3.result _ c.from_residual-in_err-add_tree-3.ensures.0

pub tree_places-requires-4 : goal.tree_places-requires-4
tree_places-requires-4 c = subst (λ (n : ℕ). 3 < n) (sym c.requires.sound.five) (lit< tt)

pub add_tree-requires-4-clause-can_pack : goal.add_tree-requires-4-clause-can_pack
add_tree-requires-4-clause-can_pack c = λ κs. packs_named (fino_shape c.args.ag) (volume_of c.args.g.now) _ _ _ _ c.as_slice-3.ensures c.tree_places-4.ensures c.requires.sound.fino

pub add_tree-requires-4-clause-draft : goal.add_tree-requires-4-clause-draft
add_tree-requires-4-clause-draft c = λ κs. c.in_ok-add_tree-3.ensures.adds.whole

pub returns-in_err-add_tree-4 : goal.returns-in_err-add_tree-4
returns-in_err-add_tree-4 c = IfOk-from_err c.from_residual-in_err-add_tree-4.result _ c.from_residual-in_err-add_tree-4.ensures.0

pub tree_places-requires-5 : goal.tree_places-requires-5
tree_places-requires-5 c = subst (λ (n : ℕ). 4 < n) (sym c.requires.sound.five) (lit< tt)

pub add_tree-requires-5-clause-can_pack : goal.add_tree-requires-5-clause-can_pack
add_tree-requires-5-clause-can_pack c = λ κs. packs_named (rmap_shape c.args.ag) (volume_of c.args.g.now) _ _ _ _ c.as_slice-4.ensures c.tree_places-5.ensures c.requires.sound.rmap

pub add_tree-requires-5-clause-draft : goal.add_tree-requires-5-clause-draft
add_tree-requires-5-clause-draft c = λ κs. c.in_ok-add_tree-4.ensures.adds.whole

pub returns-in_err-add_tree-5 : goal.returns-in_err-add_tree-5
returns-in_err-add_tree-5 c = IfOk-from_err c.from_residual-in_err-add_tree-5.result _ c.from_residual-in_err-add_tree-5.ensures.0
