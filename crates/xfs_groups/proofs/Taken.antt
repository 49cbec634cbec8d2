-- The trees of one kind of all groups, read and taken group by group.
use Rattle.std.proofs.Common.{◌≡◌, ℕ, suc, ◌+◌, ◌<◌, List, [], ◌∷◌, ◌++◌, drop, map, Option, Some, None, Result, slice_get, get_or, refl, sym, ap, subst, ◌∙◌, arith}
use Rattle.std.specs.List.{range_with_len}
use Rattle.std.specs.Option.{option_and_then, option_map}
use Rattle.std.proofs.lemmas.Option.{get_or_from_slice_get}
use Rattle.std.proofs.lemmas.List.FromFn.{get_or-map-range_with_len}
use Rattle.std.specs.Vec.Iter.{into_iter_items}
use Rattle.xfs_disk.specs.Blocks.{Image}
use Rattle.xfs_geom.specs.Volumes.{Volume}
use Rattle.xfs_tree.specs.Shape.{Shape}
use Rattle.xfs_tree.specs.Reading.{Contents}
use Rattle.xfs_tree.specs.declared.tree.Tree.{Tree}
use Rattle.xfs_tree.specs.declared.unread.Unread.{Unread}
use Rattle.xfs_image.specs.Groups.{agfl_at, contents}
use Rattle.xfs_kinds.specs.FreeTrees.{bno_shape, cnt_shape}
use Rattle.xfs_kinds.specs.InodeTrees.{ino_shape, fino_shape}
use Rattle.xfs_kinds.specs.OwnerTrees.{rmap_shape}
use Rattle.xfs_kinds.specs.declared.free_trees.Bno.{Bno}
use Rattle.xfs_kinds.specs.declared.free_trees.Cnt.{Cnt}
use Rattle.xfs_kinds.specs.declared.inode_trees.Ino.{Ino}
use Rattle.xfs_kinds.specs.declared.inode_trees.Fino.{Fino}
use Rattle.xfs_kinds.specs.declared.owner_trees.Rmap.{Rmap}
use Rattle.xfs_forest.specs.Forest.{contents_of}
use Rattle.xfs_groups.specs.Private.Forests.{IsTaken, grown_at, grown_from, tree_from}
use Rattle.xfs_groups.specs.Private.Heads.{heads_at}
use Rattle.xfs_groups.specs.Private.Left.{AreLeft, AreTaken}
use Rattle.xfs_groups.specs.Private.ReadGroups.{ArePartsRead}
use Rattle.xfs_groups.specs.Private.Roots.{bno_root, cnt_root, fino_root, ino_root, rmap_root}
use Rattle.xfs_groups.specs.declared.forests.Forests.{Forests}
use Rattle.xfs_groups.specs.declared.heads.Heads.{Heads}
use Rattle.xfs_groups.specs.declared.roots.Root.{Root}
use Rattle.xfs_groups.specs.declared.trees.Trees.{Trees}
use Rattle.xfs_groups.proofs.Grouped.{lists_more}

-- the first of a list, or another value where there is none
abbrev first_or : {X : Type 0} → X → List X → X
first_or other [] = other
first_or other (x ∷ xs) = x

module _ {T R K : Type 0} (shape : T → Shape R K) (kind_of : ℕ → T) (v : Volume) (image : Image) (root_of : Heads → Option Root) (heads : List Heads) where
  -- the trees of one group more
  pub grown_more : (ag : ℕ) (root : Option Root) (old new : List (Result (Contents R) Unread)) → root ≡ option_and_then root_of (slice_get heads ag)
      → old ≡ grown_from shape kind_of v image root_of heads 0 ag → new ≡ old ++ grown_at shape kind_of v image ag root
      → new ≡ grown_from shape kind_of v image root_of heads 0 (ag + 1)
  grown_more ag root old new is held more =
      lists_more (λ i. grown_at shape kind_of v image i (option_and_then root_of (slice_get heads i))) ag old (grown_at shape kind_of v image ag root) new held
      (ap (grown_at shape kind_of v image ag) is) more

  -- the tree that is taken is the group's, and those behind it are left
  one_taken : {P Q : Type 0} (ag : ℕ) (root : Option Root) (old new : List (Result (Tree P R Q) Unread)) (more : List (Result (Contents R) Unread)) (tree : Option (Contents R))
      → map contents_of old ≡ grown_at shape kind_of v image ag root ++ more → IsTaken root old tree new
      → (tree ≡ tree_from shape kind_of v image ag root) × (map contents_of new ≡ more)
  one_taken ag None old new more tree is left = (left.0, ap (map contents_of) left.1 ∙ is)
  one_taken ag (Some root) [] new more tree is left = absurd cc
  one_taken ag (Some root) (first ∷ rest) new more tree is left =
      let one = left first rest refl in
      (one.0 ∙ ap contents (ap (first_or (contents_of first)) is), ap (map contents_of) one.1 ∙ ap (drop 1) is)

  pub taken_next : {P Q : Type 0} (h : Heads) (ag count more : ℕ) (old new : List (Result (Tree P R Q) Unread)) (tree : Option (Contents R)) → slice_get heads ag ≡ Some h
      → count ≡ suc more → map contents_of old ≡ grown_from shape kind_of v image root_of heads ag count → IsTaken (root_of h) old tree new
      → (tree ≡ tree_from shape kind_of v image ag (root_of h)) × (map contents_of new ≡ grown_from shape kind_of v image root_of heads (ag + 1) more)
  taken_next h ag count more old new tree at next is left =
      one_taken ag (root_of h) old new (grown_from shape kind_of v image root_of heads (ag + 1) more) tree
      (is ∙ ap (grown_from shape kind_of v image root_of heads ag) next
      ∙ ap (λ (o : Option Heads). grown_at shape kind_of v image ag (option_and_then root_of o) ++ grown_from shape kind_of v image root_of heads (ag + 1) more) at) left

-- what a header names, where it reads
through : {A B C : Type 0} (f : B → Option C) (g : A → B) (o : Option A) → option_and_then f (option_map g o) ≡ option_and_then (λ a. f (g a)) o
through f g None = refl
through f g (Some a) = refl

-- the trees that are taken are the group's, and those of the groups behind it are left
pub group_taken : (v : Volume) (image : Image) (heads : List Heads) (h : Heads) (ag count more : ℕ) (old new : Forests) (trees : Trees) → slice_get heads ag ≡ Some h
    → h ≡ heads_at v image ag → count ≡ suc more → AreLeft v image heads ag count old → AreTaken h old trees new
    → ArePartsRead v image ag h trees × AreLeft v image heads (ag + 1) more new
group_taken v image heads h ag count more old new trees at is next left taken =
    let bno = taken_next (λ (k : Bno). bno_shape k.ag) (λ ag. record { ag = ag }) v image bno_root heads h ag count more (into_iter_items old.bno) (into_iter_items new.bno) trees.bno at next left.bno taken.bno in
    let cnt = taken_next (λ (k : Cnt). cnt_shape k.ag) (λ ag. record { ag = ag }) v image cnt_root heads h ag count more (into_iter_items old.cnt) (into_iter_items new.cnt) trees.cnt at next left.cnt taken.cnt in
    let ino = taken_next (λ (k : Ino). ino_shape k.ag) (λ ag. record { ag = ag }) v image ino_root heads h ag count more (into_iter_items old.ino) (into_iter_items new.ino) trees.ino at next left.ino taken.ino in
    let fino = taken_next (λ (k : Fino). fino_shape k.ag) (λ ag. record { ag = ag }) v image fino_root heads h ag count more (into_iter_items old.fino) (into_iter_items new.fino) trees.fino at next left.fino taken.fino in
    let rmap = taken_next (λ (k : Rmap). rmap_shape k.ag) (λ ag. record { ag = ag }) v image rmap_root heads h ag count more (into_iter_items old.rmap) (into_iter_items new.rmap) trees.rmap at next left.rmap taken.rmap in (
      record {
        agf = ap (λ (h : Heads). h.agf) is;
        agi = ap (λ (h : Heads). h.agi) is;
        agfl = subst (λ (h : Heads). h.agfl ≡ option_and_then (agfl_at v image ag) h.agf) (sym is) refl;
        bno = bno.0 ∙ through _ _ h.agf;
        cnt = cnt.0 ∙ through _ _ h.agf;
        ino = ino.0 ∙ through _ _ h.agi;
        fino = fino.0 ∙ through _ _ h.agi;
        rmap = rmap.0 ∙ through _ _ h.agf;
      },
      record { bno = bno.1; cnt = cnt.1; ino = ino.1; fino = fino.1; rmap = rmap.1 },
    )

-- the headers of a group are those that stand at its number
pub heads_of_group : (v : Volume) (image : Image) (heads : List Heads) (h : Heads) (ag n : ℕ) → heads ≡ map (heads_at v image) (range_with_len 0 n) → ag < n
    → slice_get heads ag ≡ Some h → h ≡ heads_at v image ag
heads_of_group v image heads h ag n is inside at =
    sym (get_or_from_slice_get heads ag h h at)
    ∙ ap (λ (hs : List Heads). get_or hs ag h) is
    ∙ get_or-map-range_with_len (heads_at v image) 0 n ag ag h inside (omega arith)
