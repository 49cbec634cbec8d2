-- The blocks of the trees of an empty volume differ, and have no other use.
use Rattle.std.proofs.Common.{◌≡◌, ℕ, zero, suc, ◌+◌, ◌*◌, ◌≤◌, ◌<◌, true, false, List, [], ◌∷◌, ◌++◌, length, map, get_or, refl, sym, ap, ◌∙◌, subst, arith}
use Rattle.std.specs.List.{All, flat_map}
use Rattle.std.proofs.lemmas.List.Elements.{All-append, All-from_get_or, All-nil, All-weaker}
use Rattle.xfs_geom.proofs.LogPlace.{group_small}
use Rattle.xfs_geom.specs.Conversions.{group_length, is_fixed}
use Rattle.xfs_geom.specs.Shape.{HasGroups}
use Rattle.xfs_geom.specs.Volumes.{Volume}
use Rattle.xfs_geom.specs.declared.records.InoRec.{InoRec}
use Rattle.xfs_geom.specs.declared.records.Run.{Run}
use Rattle.xfs_volume.specs.declared.groups.TreeBlocks.{TreeBlocks}
use Rattle.xfs_place.proofs.GroupIs.{length_uses, use_in}
use Rattle.xfs_place.proofs.ListedRows.{open_inside}
use Rattle.xfs_place.proofs.Rooms.{open_is}
use Rattle.xfs_place.specs.Placing.{IsPlacedGroup, inner_blocks, tree_sizes}
use Rattle.xfs_place.specs.Pool.{is_open, is_pool, is_taken}
use Rattle.xfs_place.specs.Standing.{AreOfPool, IsOfPool, standing_blocks}
use Rattle.xfs_place.specs.Wanted.{ArePlaced, group_in, inodes_in_group, uses_in}
use Rattle.xfs_place.specs.declared.placed.GroupPlaced.{GroupPlaced}
use Rattle.xfs_place.specs.declared.wanted.GroupInodes.{GroupInodes}
use Rattle.xfs_render.proofs.TreePlaces.{all_of_cut, pool_parts}
use Rattle.xfs_render.specs.Groups.{no_tree, tree_places}
use Rattle.xfs_render.specs.Plans.{IsOnce}
use Rattle.xfs_render.specs.Trees.{group_tree_places}
use Rattle.xfs_empty.specs.Placing.{chunk_run}
use Rattle.xfs_made.proofs.OnceLists.{ascend_once, counted, counted_append, joined}

-- the block has no fixed use and is none of the first chunk
pub record IsFree (v : Volume) (block : ℕ) : Type 0 where
  pub clear : is_fixed v block ≡ false
  pub free : is_taken (chunk_run ∷ []) block ≡ false

-- a block that trees of a group may stand on
record IsTreeBlock (v : Volume) (ag block : ℕ) : Type 0 where
  free : IsFree v block
  from : ag * v.agblocks ≤ block
  below : block < (ag + 1) * v.agblocks

record AreTreeBlocks (v : Volume) (ag : ℕ) (blocks : List ℕ) : Type 0 where
  once : IsOnce blocks
  all : All (IsTreeBlock v ag) blocks

abbrev blocks_in : TreeBlocks → List ℕ
blocks_in t = t.blocks

abbrev tree_in : List TreeBlocks → ℕ → List ℕ
tree_in ts i = (get_or ts i no_tree).blocks

-- the blocks of five trees by their numbers are those of all trees
five_counted : (at : ℕ) (ts : List TreeBlocks) → length ts ≡ 5
    → counted at (tree_in ts 0 ++ tree_in ts 1 ++ tree_in ts 2 ++ tree_in ts 3 ++ tree_in ts 4) ≡ counted at (flat_map blocks_in ts)
five_counted at [] five = absurd (omega (arith, five))
five_counted at (a ∷ []) five = absurd (omega (arith, five))
five_counted at (a ∷ b ∷ []) five = absurd (omega (arith, five))
five_counted at (a ∷ b ∷ c ∷ []) five = absurd (omega (arith, five))
five_counted at (a ∷ b ∷ c ∷ d ∷ []) five = absurd (omega (arith, five))
five_counted at (a ∷ b ∷ c ∷ d ∷ e ∷ f ∷ ts) five = absurd (omega (arith, five))
five_counted at (a ∷ b ∷ c ∷ d ∷ e ∷ []) five =
    as_many a.blocks b.blocks c.blocks d.blocks e.blocks
  where
    as_many : (p q r s t : List ℕ) → counted at (p ++ q ++ r ++ s ++ t) ≡ counted at (p ++ (q ++ (r ++ (s ++ (t ++ [])))))
    as_many p q r s t =
        let one = counted_append at (p ++ q ++ r ++ s) t in
        let two = counted_append at (p ++ q ++ r) s in
        let three = counted_append at (p ++ q) r in
        let four = counted_append at p q in
        let first = counted_append at p (q ++ (r ++ (s ++ (t ++ [])))) in
        let second = counted_append at q (r ++ (s ++ (t ++ []))) in
        let third = counted_append at r (s ++ (t ++ [])) in
        let fourth = counted_append at s (t ++ []) in
        let fifth = counted_append at t [] in
        let none : counted at [] ≡ 0 = refl in
        omega (arith, one, two, three, four, first, second, third, fourth, fifth, none)

-- the blocks of the trees of a group
module _ (v : Volume) (groups : HasGroups v.dblocks v.agblocks v.agcount) (ag : ℕ) (inodes : List InoRec) (p : GroupPlaced)
    (placed : IsPlacedGroup (group_in v (chunk_run ∷ []) [] ag (inner_blocks inodes)) (ag * v.agblocks) inodes p)
    (pool : IsOfPool v (chunk_run ∷ []) [] (ag * v.agblocks) inodes p) where
  blocks_are : All (λ b. IsTreeBlock v ag (ag * v.agblocks + b)) placed.blocks
  blocks_are =
      All-from_get_or (λ b. IsTreeBlock v ag (ag * v.agblocks + b)) placed.blocks 0 (λ k inside.
      let kept : List Run = chunk_run ∷ [] in
      let b = get_or placed.blocks k 0 in
      let open' = placed.low.open' k inside in
      let short : group_length v ag ≤ v.agblocks = group_small v.dblocks v.agblocks v.agcount ag groups.covered in
      let here : b < group_length v ag = omega (arith, open_inside (uses_in v kept [] ag) b open', length_uses v kept [] ag) in
      let is : is_pool v kept [] (ag * v.agblocks + b) ≡ true =
      sym (open_is v kept [] (ag * v.agblocks + b)) ∙ ap is_open (sym (use_in v kept [] ag b here)) ∙ open' in
      let parts = pool_parts v kept [] (ag * v.agblocks + b) is in
      record {
        free = record { clear = parts.0; free = parts.1 };
        from = omega arith;
        below = omega (arith, here, short);
      })

  tree_blocks_are : (i : ℕ) → All (IsTreeBlock v ag) (tree_places p i)
  tree_blocks_are i =
      let sizes = tree_sizes (length p.bno) (length inodes) (length p.fino) (length p.rmap) in
      subst (λ (ts : List TreeBlocks). All (IsTreeBlock v ag) (get_or ts i no_tree).blocks) (sym placed.trees)
      (all_of_cut (IsTreeBlock v ag) (ag * v.agblocks) sizes placed.blocks i blocks_are)

  five : length p.trees ≡ 5
  five = ap length placed.trees

  group_blocks : AreTreeBlocks v ag (group_tree_places p)
  group_blocks =
      let P = IsTreeBlock v ag in
      record {
        once = record {
          each = λ at.
              let list = map (λ block. ag * v.agblocks + block) p.agfl in
              let part = counted_append at (flat_map blocks_in p.trees) list in
              let all = (ascend_once (standing_blocks (ag * v.agblocks) p) pool.ascend).each at in
              omega (arith, part, all, five_counted at p.trees five);
        };
        all =
            All-append P (tree_places p 0 ++ tree_places p 1 ++ tree_places p 2 ++ tree_places p 3) (tree_places p 4)
            (All-append P (tree_places p 0 ++ tree_places p 1 ++ tree_places p 2) (tree_places p 3)
            (All-append P (tree_places p 0 ++ tree_places p 1) (tree_places p 2)
            (All-append P (tree_places p 0) (tree_places p 1) (tree_blocks_are 0) (tree_blocks_are 1))
            (tree_blocks_are 2))
            (tree_blocks_are 3))
            (tree_blocks_are 4);
      }

-- the blocks of the trees of some groups, of which the first begins there
pub record AreBehind (v : Volume) (start : ℕ) (blocks : List ℕ) : Type 0 where
  pub once : IsOnce blocks
  pub free : All (IsFree v) blocks
  pub from : All (λ block. start ≤ block) blocks

groups_blocks : (v : Volume) (ag : ℕ) (ps : List GroupPlaced)
    → ((k n : ℕ) (d : GroupPlaced) → n ≡ ag + k → k < length ps → AreTreeBlocks v n (group_tree_places (get_or ps k d))) → AreBehind v (ag * v.agblocks) (flat_map group_tree_places ps)
groups_blocks v ag [] each = record {
  once = record { each = λ at. omega arith };
  free = All-nil (IsFree v);
  from = All-nil (λ block. ag * v.agblocks ≤ block);
}
groups_blocks v ag (p ∷ ps) each =
    let first : AreTreeBlocks v ag (group_tree_places p) = each zero ag p (omega arith) (omega arith) in
    let rest : AreBehind v ((ag + 1) * v.agblocks) (flat_map group_tree_places ps) =
    groups_blocks v (ag + 1) ps (λ k n d at low. each (suc k) n d (omega (arith, at)) (omega (arith, low))) in
    let mine = group_tree_places p in
    let others = flat_map group_tree_places ps in
    record {
      once =
          joined (λ block. block < (ag + 1) * v.agblocks) mine others first.once rest.once
          (All-weaker (IsTreeBlock v ag) (λ block. block < (ag + 1) * v.agblocks) (λ block is. is.below) mine first.all)
          (All-weaker (λ block. (ag + 1) * v.agblocks ≤ block) (λ block. block < (ag + 1) * v.agblocks → ⊥)
          (λ block from below. absurd (omega (arith, from, below))) others rest.from);
      free = All-append (IsFree v) mine others (All-weaker (IsTreeBlock v ag) (IsFree v) (λ block is. is.free) mine first.all) rest.free;
      from =
          All-append (λ block. ag * v.agblocks ≤ block) mine others
          (All-weaker (IsTreeBlock v ag) (λ block. ag * v.agblocks ≤ block) (λ block is. is.from) mine first.all)
          (All-weaker (λ block. (ag + 1) * v.agblocks ≤ block) (λ block. ag * v.agblocks ≤ block) (λ block from. omega (arith, from)) others rest.from);
    }

-- the blocks of the trees of all groups
pub trees_once : (v : Volume) (groups : HasGroups v.dblocks v.agblocks v.agcount) (inodes : List GroupInodes) (n : ℕ) (ps : List GroupPlaced)
    → ArePlaced v (chunk_run ∷ []) [] inodes n ps → AreOfPool v (chunk_run ∷ []) [] inodes n ps → AreBehind v (0 * v.agblocks) (flat_map group_tree_places ps)
trees_once v groups inodes n ps placed pool =
    groups_blocks v 0 ps (λ k ag d at low.
    let inside : k < n = omega (arith, low, placed.all) in
    let same : k ≡ ag = omega (arith, at) in
    subst (λ (m : ℕ). AreTreeBlocks v m (group_tree_places (get_or ps k d))) same
    (group_blocks v groups k (inodes_in_group inodes k) (get_or ps k d) (placed.each k d inside) (pool.each k d inside)))
