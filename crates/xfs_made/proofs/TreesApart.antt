-- The blocks of the trees of all groups differ, lie in the volume, and had no use before.
use Rattle.std.proofs.Common.{◌≡◌, ℕ, zero, suc, ◌+◌, ◌*◌, ◌≤◌, ◌<◌, true, not, ◌&&◌, List, [], ◌∷◌, ◌++◌, length, map, get_or, refl, sym, ap, ◌∙◌, subst, arith}
use Rattle.std.specs.List.{All, flat_map}
use Rattle.std.proofs.lemmas.Bool.{and_parts, not-true}
use Rattle.std.proofs.lemmas.List.Elements.{All-append, All-from_get_or, All-nil, All-weaker}
use Rattle.xfs_geom.specs.Conversions.{group_length, is_fixed}
use Rattle.xfs_geom.specs.Shape.{HasGroups}
use Rattle.xfs_geom.specs.Volumes.{Volume}
use Rattle.xfs_geom.specs.declared.records.InoRec.{InoRec}
use Rattle.xfs_geom.specs.declared.records.Run.{Run}
use Rattle.xfs_volume.specs.declared.groups.TreeBlocks.{TreeBlocks}
use Rattle.xfs_place.proofs.GroupIs.{length_uses, use_in}
use Rattle.xfs_place.proofs.ListedRows.{open_inside}
use Rattle.xfs_place.proofs.Rooms.{open_is}
use Rattle.xfs_place.specs.Placing.{IsPlacedGroup, inner_blocks, tree_sizes}
use Rattle.xfs_place.specs.Pool.{is_listed, is_open, is_pool, is_taken}
use Rattle.xfs_place.specs.Standing.{AreOfPool, IsOfPool, standing_blocks}
use Rattle.xfs_place.specs.Wanted.{ArePlaced, group_in, inodes_in_group, uses_in}
use Rattle.xfs_place.specs.declared.placed.GroupPlaced.{GroupPlaced}
use Rattle.xfs_place.specs.declared.wanted.GroupInodes.{GroupInodes}
use Rattle.xfs_space.proofs.FreeSpans.{group_short}
use Rattle.xfs_space.proofs.RecordedMaps.{group_inside}
use Rattle.xfs_render.proofs.TreePlaces.{all_of_cut}
use Rattle.xfs_render.specs.Groups.{no_tree, tree_places}
use Rattle.xfs_render.specs.Plans.{IsOnce}
use Rattle.xfs_render.specs.Trees.{group_tree_places}
use Rattle.xfs_made.proofs.OnceLists.{ascend_once, counted, counted_append, joined}
use Rattle.xfs_made.specs.Unused.{IsUnusedBlock}

-- a block of the pool is unused
pool_unused : (v : Volume) (kept : List Run) (reserved : List ℕ) (block : ℕ) → is_pool v kept reserved block ≡ true → IsUnusedBlock v kept reserved block
unfolding is_pool
pool_unused v kept reserved block pool =
    let both = and_parts (not (is_fixed v block) && not (is_taken kept block)) (not (is_listed reserved block)) pool in
    let parts = and_parts (not (is_fixed v block)) (not (is_taken kept block)) both.0 in
    record {
      unfixed = not-true (is_fixed v block) parts.0;
      untaken = not-true (is_taken kept block) parts.1;
      unreserved = not-true (is_listed reserved block) both.1;
    }

-- a block that trees of a group may stand on
record IsTreeBlock (v : Volume) (kept : List Run) (reserved : List ℕ) (ag block : ℕ) : Type 0 where
  unused : IsUnusedBlock v kept reserved block
  from : ag * v.agblocks ≤ block
  below : block < (ag + 1) * v.agblocks
  inside : block < v.dblocks

record AreTreeBlocks (v : Volume) (kept : List Run) (reserved : List ℕ) (ag : ℕ) (blocks : List ℕ) : Type 0 where
  once : IsOnce blocks
  all : All (IsTreeBlock v kept reserved ag) blocks

abbrev blocks_in : TreeBlocks → List ℕ
blocks_in t = t.blocks

abbrev tree_in : List TreeBlocks → ℕ → List ℕ
tree_in ts i = (get_or ts i no_tree).blocks

-- the blocks of five trees by their numbers are those of all trees
five_counted : (at : ℕ) (ts : List TreeBlocks) → length ts ≡ 5
    → counted at (tree_in ts 0 ++ tree_in ts 1 ++ tree_in ts 2 ++ tree_in ts 3 ++ tree_in ts 4) ≡ counted at (flat_map blocks_in ts)
five_counted at [] five = absurd (omega (arith, five))
five_counted at (a ∷ []) five = absurd (omega (arith, five))
five_counted at (a ∷ b ∷ []) five = absurd (omega (arith, five))
five_counted at (a ∷ b ∷ c ∷ []) five = absurd (omega (arith, five))
five_counted at (a ∷ b ∷ c ∷ d ∷ []) five = absurd (omega (arith, five))
five_counted at (a ∷ b ∷ c ∷ d ∷ e ∷ f ∷ ts) five = absurd (omega (arith, five))
five_counted at (a ∷ b ∷ c ∷ d ∷ e ∷ []) five = as_many a.blocks b.blocks c.blocks d.blocks e.blocks
  where
    as_many : (p q r s t : List ℕ) → counted at (p ++ q ++ r ++ s ++ t) ≡ counted at (p ++ (q ++ (r ++ (s ++ (t ++ [])))))
    as_many p q r s t =
        let one = counted_append at (p ++ q ++ r ++ s) t in
        let two = counted_append at (p ++ q ++ r) s in
        let three = counted_append at (p ++ q) r in
        let four = counted_append at p q in
        let first = counted_append at p (q ++ (r ++ (s ++ (t ++ [])))) in
        let second = counted_append at q (r ++ (s ++ (t ++ []))) in
        let third = counted_append at r (s ++ (t ++ [])) in
        let fourth = counted_append at s (t ++ []) in
        let fifth = counted_append at t [] in
        let none : counted at [] ≡ 0 = refl in
        omega (arith, one, two, three, four, first, second, third, fourth, fifth, none)

module _ (v : Volume) (groups : HasGroups v.dblocks v.agblocks v.agcount) (kept : List Run) (reserved : List ℕ) where
  -- the blocks of the trees of a group
  module _ (ag : ℕ) (low : ag < v.agcount) (inodes : List InoRec) (p : GroupPlaced)
      (placed : IsPlacedGroup (group_in v kept reserved ag (inner_blocks inodes)) (ag * v.agblocks) inodes p)
      (pool : IsOfPool v kept reserved (ag * v.agblocks) inodes p) where
    blocks_are : All (λ b. IsTreeBlock v kept reserved ag (ag * v.agblocks + b)) placed.blocks
    blocks_are =
        All-from_get_or (λ b. IsTreeBlock v kept reserved ag (ag * v.agblocks + b)) placed.blocks 0 (λ k within.
        let b = get_or placed.blocks k 0 in
        let open' = placed.low.open' k within in
        let short = group_short v ag groups.covered in
        let ends = group_inside v ag low groups.last in
        let here : b < group_length v ag = omega (arith, open_inside (uses_in v kept reserved ag) b open', length_uses v kept reserved ag) in
        let is : is_pool v kept reserved (ag * v.agblocks + b) ≡ true =
        sym (open_is v kept reserved (ag * v.agblocks + b)) ∙ ap is_open (sym (use_in v kept reserved ag b here)) ∙ open' in
        record {
          unused = pool_unused v kept reserved (ag * v.agblocks + b) is;
          from = omega arith;
          below = omega (arith, here, short);
          inside = omega (arith, here, ends);
        })

    tree_blocks_are : (i : ℕ) → All (IsTreeBlock v kept reserved ag) (tree_places p i)
    tree_blocks_are i =
        let sizes = tree_sizes (length p.bno) (length inodes) (length p.fino) (length p.rmap) in
        subst (λ (ts : List TreeBlocks). All (IsTreeBlock v kept reserved ag) (get_or ts i no_tree).blocks) (sym placed.trees)
        (all_of_cut (IsTreeBlock v kept reserved ag) (ag * v.agblocks) sizes placed.blocks i blocks_are)

    five : length p.trees ≡ 5
    five = ap length placed.trees

    group_blocks : AreTreeBlocks v kept reserved ag (group_tree_places p)
    group_blocks =
        let P = IsTreeBlock v kept reserved ag in
        record {
          once = record {
            each = λ at.
                let list = map (λ block. ag * v.agblocks + block) p.agfl in
                let part = counted_append at (flat_map blocks_in p.trees) list in
                let all = (ascend_once (standing_blocks (ag * v.agblocks) p) pool.ascend).each at in
                omega (arith, part, all, five_counted at p.trees five);
          };
          all =
              All-append P (tree_places p 0 ++ tree_places p 1 ++ tree_places p 2 ++ tree_places p 3) (tree_places p 4)
              (All-append P (tree_places p 0 ++ tree_places p 1 ++ tree_places p 2) (tree_places p 3)
              (All-append P (tree_places p 0 ++ tree_places p 1) (tree_places p 2)
              (All-append P (tree_places p 0) (tree_places p 1) (tree_blocks_are 0) (tree_blocks_are 1))
              (tree_blocks_are 2))
              (tree_blocks_are 3))
              (tree_blocks_are 4);
        }

-- the blocks of the trees of some groups, of which the first begins there
pub record AreBehind (v : Volume) (kept : List Run) (reserved : List ℕ) (start : ℕ) (blocks : List ℕ) : Type 0 where
  pub once : IsOnce blocks
  pub unused : All (IsUnusedBlock v kept reserved) blocks
  pub from : All (λ block. start ≤ block) blocks
  pub inside : All (λ block. block < v.dblocks) blocks

groups_blocks : (v : Volume) (kept : List Run) (reserved : List ℕ) (ag : ℕ) (ps : List GroupPlaced)
    → ((k n : ℕ) (d : GroupPlaced) → n ≡ ag + k → k < length ps → AreTreeBlocks v kept reserved n (group_tree_places (get_or ps k d)))
    → AreBehind v kept reserved (ag * v.agblocks) (flat_map group_tree_places ps)
groups_blocks v kept reserved ag [] each = record {
  once = record { each = λ at. omega arith };
  unused = All-nil (IsUnusedBlock v kept reserved);
  from = All-nil (λ block. ag * v.agblocks ≤ block);
  inside = All-nil (λ block. block < v.dblocks);
}
groups_blocks v kept reserved ag (p ∷ ps) each =
    let P = IsTreeBlock v kept reserved ag in
    let first : AreTreeBlocks v kept reserved ag (group_tree_places p) = each zero ag p (omega arith) (omega arith) in
    let rest : AreBehind v kept reserved ((ag + 1) * v.agblocks) (flat_map group_tree_places ps) =
    groups_blocks v kept reserved (ag + 1) ps (λ k n d at low. each (suc k) n d (omega (arith, at)) (omega (arith, low))) in
    let mine = group_tree_places p in
    let others = flat_map group_tree_places ps in
    record {
      once =
          joined (λ block. block < (ag + 1) * v.agblocks) mine others first.once rest.once
          (All-weaker P (λ block. block < (ag + 1) * v.agblocks) (λ block is. is.below) mine first.all)
          (All-weaker (λ block. (ag + 1) * v.agblocks ≤ block) (λ block. block < (ag + 1) * v.agblocks → ⊥)
          (λ block from below. absurd (omega (arith, from, below))) others rest.from);
      unused = All-append (IsUnusedBlock v kept reserved) mine others (All-weaker P (IsUnusedBlock v kept reserved) (λ block is. is.unused) mine first.all) rest.unused;
      from =
          All-append (λ block. ag * v.agblocks ≤ block) mine others (All-weaker P (λ block. ag * v.agblocks ≤ block) (λ block is. is.from) mine first.all)
          (All-weaker (λ block. (ag + 1) * v.agblocks ≤ block) (λ block. ag * v.agblocks ≤ block) (λ block from. omega (arith, from)) others rest.from);
      inside =
          All-append (λ block. block < v.dblocks) mine others (All-weaker P (λ block. block < v.dblocks) (λ block is. is.inside) mine first.all) rest.inside;
    }

-- the blocks of the trees of all groups
pub trees_apart : (v : Volume) (groups : HasGroups v.dblocks v.agblocks v.agcount) (kept : List Run) (reserved : List ℕ) (inodes : List GroupInodes) (ps : List GroupPlaced)
    → ArePlaced v kept reserved inodes v.agcount ps → AreOfPool v kept reserved inodes v.agcount ps → AreBehind v kept reserved (0 * v.agblocks) (flat_map group_tree_places ps)
trees_apart v groups kept reserved inodes ps placed pool =
    groups_blocks v kept reserved 0 ps (λ k ag d at low.
    let inside : k < v.agcount = omega (arith, low, placed.all) in
    let same : k ≡ ag = omega (arith, at) in
    subst (λ (m : ℕ). AreTreeBlocks v kept reserved m (group_tree_places (get_or ps k d))) same
    (group_blocks v groups kept reserved k inside (inodes_in_group inodes k) (get_or ps k d) (placed.each k d inside) (pool.each k d inside)))
