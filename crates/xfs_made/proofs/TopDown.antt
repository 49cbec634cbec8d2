-- The blocks of a packed tree, level by level from the root, are those that it was given, in another order.
use Rattle.std.proofs.Common.{◌≡◌, ℕ, zero, suc, ◌+◌, List, [], ◌∷◌, ◌++◌, length, get_or, map, take, drop, take-append-drop, length-drop, refl, sym, ◌∙◌, ap, subst, arith}
use Rattle.std.specs.List.{sum}
use Rattle.std.specs.List.Sorted.{IsPermutation}
use Rattle.std.proofs.lemmas.List.{nil_from_length}
use Rattle.std.proofs.lemmas.List.Sorted.{IsPermutation-append_comm, IsPermutation-append_left, IsPermutation-refl, IsPermutation-trans, length_permutation}
use Rattle.std.proofs.lemmas.List.Sums.{sum_by-cons}
use Rattle.xfs_geom.specs.Volumes.{Volume}
use Rattle.xfs_geom.specs.declared.records.InoRec.{InoRec}
use Rattle.xfs_geom.specs.declared.records.Run.{Run}
use Rattle.xfs_treebuild.specs.Packing.{rows_in, top_down}
use Rattle.xfs_volume.specs.declared.groups.TreeBlocks.{TreeBlocks}
use Rattle.xfs_place.specs.Choice.{blocks_of_size}
use Rattle.xfs_place.specs.Placing.{AreByLength, tree_sizes}
use Rattle.xfs_place.specs.Standing.{IsOfPool}
use Rattle.xfs_place.specs.declared.placed.GroupPlaced.{GroupPlaced}
use Rattle.xfs_render.specs.Groups.{no_tree, tree_places}
use Rattle.xfs_render.proofs.LawfulRuns.{as_many}

-- places that are cut into rows and put together from the last row on
pub top_down_moved : (sizes places : List ℕ) → length places ≡ sum sizes → IsPermutation places (top_down (rows_in sizes places))
top_down_moved [] places all = subst (λ (xs : List ℕ). IsPermutation xs []) (sym (nil_from_length places all)) (IsPermutation-refl [])
top_down_moved (s ∷ ss) places all =
    let whole : sum (s ∷ ss) ≡ s + sum ss = sum_by-cons (λ (x : ℕ). x) s ss in
    let rest = top_down_moved ss (drop s places) (omega (arith, length-drop s places, whole, all)) in
    let above = top_down (rows_in ss (drop s places)) in
    subst (λ (xs : List ℕ). IsPermutation xs (above ++ take s places)) (take-append-drop s places)
    (IsPermutation-trans (take s places ++ drop s places) (drop s places ++ take s places) (above ++ take s places)
    (IsPermutation-append_comm (take s places) (drop s places)) (IsPermutation-append_left (take s places) (drop s places) above rest))

pub as_many_blocks : (sizes places : List ℕ) → length places ≡ sum sizes → length (top_down (rows_in sizes places)) ≡ length places
as_many_blocks sizes places all = length_permutation places (top_down (rows_in sizes places)) (top_down_moved sizes places all)

-- each of the five trees has as many blocks as its records need
pub record AreSized (inodes : List InoRec) (p : GroupPlaced) : Type 0 where
  pub bno : length (tree_places p 0) ≡ blocks_of_size 505 336 (length p.bno)
  pub cnt : length (tree_places p 1) ≡ blocks_of_size 505 336 (length p.cnt)
  pub ino : length (tree_places p 2) ≡ blocks_of_size 252 505 (length inodes)
  pub fino : length (tree_places p 3) ≡ blocks_of_size 252 505 (length p.fino)
  pub rmap : length (tree_places p 4) ≡ blocks_of_size 168 91 (length p.rmap)

size_read : (ts : List TreeBlocks) (i : ℕ) → get_or (map (λ (t : TreeBlocks). length t.blocks) ts) i 0 ≡ length (get_or ts i no_tree).blocks
size_read [] i = refl
size_read (t ∷ ts) zero = refl
size_read (t ∷ ts) (suc i) = size_read ts i

pub are_sized : (v : Volume) (kept : List Run) (reserved : List ℕ) (base : ℕ) (inodes : List InoRec) (p : GroupPlaced)
    → IsOfPool v kept reserved base inodes p → AreByLength p.bno p.cnt → AreSized inodes p
are_sized v kept reserved base inodes p pool by =
    let sizes = tree_sizes (length p.bno) (length inodes) (length p.fino) (length p.rmap) in
    let at = λ (i : ℕ). sym (size_read p.trees i) ∙ ap (λ (ns : List ℕ). get_or ns i 0) pool.sizes in
    record {
      bno = at 0;
      cnt = at 1 ∙ ap (blocks_of_size 505 336) (sym (as_many p.bno p.cnt by));
      ino = at 2;
      fino = at 3;
      rmap = at 4;
    }
