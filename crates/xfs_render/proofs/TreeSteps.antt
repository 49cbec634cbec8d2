-- The five trees of a group, put down one after the other.
use Rattle.std.proofs.Common.{◌≡◌, ℕ, ◌+◌, ◌%◌, ◌<◌, ◌≤◌, false, List, ◌++◌, length, length-append, refl, sym, subst, arith}
use Rattle.xfs_disk.specs.Blocks.{Image}
use Rattle.xfs_geom.specs.Volumes.{Volume}
use Rattle.xfs_geom.specs.declared.records.InoRec.{InoRec}
use Rattle.xfs_kinds.specs.FreeTrees.{bno_shape, cnt_shape}
use Rattle.xfs_kinds.specs.InodeTrees.{ino_shape, fino_shape}
use Rattle.xfs_kinds.specs.OwnerTrees.{rmap_shape}
use Rattle.xfs_place.specs.declared.placed.GroupPlaced.{GroupPlaced}
use Rattle.xfs_treebuild.specs.Packing.{root_of}
use Rattle.xfs_tree.specs.Shape.{Shape}
use Rattle.xfs_render.specs.Counters.{levels}
use Rattle.xfs_render.specs.Groups.{CanPack, IsSoundGroup, tree_places}
use Rattle.xfs_render.specs.Trees.{AddsTree, AddsTrees, HasTree, block_in_group, group_tree_places}
use Rattle.xfs_render.specs.declared.draft.Draft.{Draft}
use Rattle.xfs_render.proofs.DraftSteps.{adds_as, adds_then}
use Rattle.xfs_render.proofs.Roots.{root_in_group}
use Rattle.xfs_render.proofs.Sums.{inode_trees, space_trees}

-- a tree whose records and places are named in other words
pub named_tree : {R K : Type 0} (s : Shape R K) (v : Volume) (old new : Draft) (rs ss : List R) (ps qs : List ℕ) → rs ≡ ss → ps ≡ qs
    → AddsTree s v old new rs ps → AddsTree s v old new ss qs
named_tree s v old new rs ss ps qs records places tree =
    let here = subst (λ xs. AddsTree s v old new xs ps) records tree in
    subst (λ (xs : List ℕ). AddsTree s v old new ss xs) places here

-- what can be packed, where its records and places are named in other words
pub packs_named : {R K : Type 0} (s : Shape R K) (v : Volume) (rs ss : List R) (ps qs : List ℕ) → rs ≡ ss → ps ≡ qs → CanPack s v ss qs → CanPack s v rs ps
packs_named s v rs ss ps qs records places can =
    let here = subst (λ xs. CanPack s v xs qs) (sym records) can in
    subst (λ (xs : List ℕ). CanPack s v rs xs) (sym places) here

-- a tree reads from the AG block of its root
from_root : {R K : Type 0} (s : Shape R K) (v : Volume) (image : Image) (ag : ℕ) (records : List R) (places : List ℕ) (n : ℕ) → 1 ≤ v.agblocks → s.layout.long ≡ false
    → s.owner ≡ ag → 0 < length places → CanPack s v records places → HasTree s v image (root_of places) n records places
    → HasTree s v image (block_in_group v ag (root_of places % v.agblocks)) n records places
from_root s v image ag records places n some short owner there can has =
    let root = root_in_group s v ag records places some short owner there can in
    subst (λ (r : ℕ). HasTree s v image r n records places) (sym root.is) has

module _ (v : Volume) (ag : ℕ) (inodes : List InoRec) (p : GroupPlaced) (some : 1 ≤ v.agblocks) (sound : IsSoundGroup v ag inodes p) where
  pub five_trees : (a b c d e f : Draft) → AddsTree (bno_shape ag) v a b p.bno (tree_places p 0) → AddsTree (cnt_shape ag) v b c p.cnt (tree_places p 1)
      → AddsTree (ino_shape ag) v c d inodes (tree_places p 2) → AddsTree (fino_shape ag) v d e p.fino (tree_places p 3)
      → AddsTree (rmap_shape ag) v e f p.rmap (tree_places p 4) → AddsTrees v ag inodes p a f
  five_trees a b c d e f bno cnt ino fino rmap =
      let space = space_trees v ag inodes p sound in
      let chunks = inode_trees v ag inodes p sound in
      let t0 = tree_places p 0 in
      let t1 = tree_places p 1 in
      let t2 = tree_places p 2 in
      let t3 = tree_places p 3 in
      let t4 = tree_places p 4 in
      let ac = adds_then a b c t0 t1 (length t0) (length t1) bno.adds cnt.adds in
      let ad = adds_then a c d (t0 ++ t1) t2 (length t0 + length t1) (length t2) ac ino.adds in
      let ae = adds_then a d e (t0 ++ t1 ++ t2) t3 (length t0 + length t1 + length t2) (length t3) ad fino.adds in
      let af = adds_then a e f (t0 ++ t1 ++ t2 ++ t3) t4 (length t0 + length t1 + length t2 + length t3) (length t4) ae rmap.adds in
      let five = t0 ++ t1 ++ t2 ++ t3 ++ t4 in
      let count : length t0 + length t1 + length t2 + length t3 + length t4 ≡ length five =
      omega (arith, length-append t0 t1, length-append (t0 ++ t1) t2, length-append (t0 ++ t1 ++ t2) t3, length-append (t0 ++ t1 ++ t2 ++ t3) t4) in
      record {
        adds = adds_as a f five (group_tree_places p) (length t0 + length t1 + length t2 + length t3 + length t4) (length five) refl count af;
        reads = λ image in_f.
            let in_e = rmap.adds.before image in_f in
            let in_d = fino.adds.before image in_e in
            let in_c = ino.adds.before image in_d in
            let in_b = cnt.adds.before image in_c in
            record {
              bno = from_root (bno_shape ag) v image ag p.bno (tree_places p 0) (levels 505 336 (length p.bno)) some refl refl space.0 sound.bno (bno.has image in_b);
              cnt = from_root (cnt_shape ag) v image ag p.cnt (tree_places p 1) (levels 505 336 (length p.cnt)) some refl refl space.1 sound.cnt (cnt.has image in_c);
              ino = from_root (ino_shape ag) v image ag inodes (tree_places p 2) (levels 252 505 (length inodes)) some refl refl chunks.0 sound.ino (ino.has image in_d);
              fino = from_root (fino_shape ag) v image ag p.fino (tree_places p 3) (levels 252 505 (length p.fino)) some refl refl chunks.1 sound.fino (fino.has image in_e);
              rmap = from_root (rmap_shape ag) v image ag p.rmap (tree_places p 4) (levels 168 91 (length p.rmap)) some refl refl space.2 sound.rmap (rmap.has image in_f);
            };
      }
