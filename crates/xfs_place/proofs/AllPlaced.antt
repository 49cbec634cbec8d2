-- What all asks and all groups keep.
use Rattle.std.proofs.Common.{◌≡◌, ℕ, zero, suc, ◌+◌, ◌-◌, ◌*◌, ◌^◌, ◌≤◌, ◌<◌, ◌==◌, inl, inr, Bool, true, false, if◌then◌else◌, Some, List, [], ◌∷◌, length, get_or, map, take, drop, sym, ◌∙◌, ap, subst, arith, length-drop, length-take}
use Rattle.std.specs.List.{All}
use Rattle.std.proofs.Math.Nat.{mul-le-mul_right}
use Rattle.std.proofs.lemmas.List.{length-map}
use Rattle.std.proofs.lemmas.List.Elements.{All-from_get_or}
use Rattle.std.proofs.lemmas.List.Sums.{sum-map, sum_by-cons, sum_by-le}
use Rattle.xfs_geom.specs.Sums.{free_blocks}
use Rattle.xfs_geom.specs.Conversions.{group_length}
use Rattle.xfs_geom.specs.Shape.{HasGroups}
use Rattle.xfs_geom.specs.Volumes.{Volume}
use Rattle.xfs_geom.specs.declared.records.InoRec.{InoRec}
use Rattle.xfs_geom.specs.declared.records.Run.{Run}
use Rattle.xfs_geom.specs.declared.records.Span.{Span}
use Rattle.xfs_kinds.specs.FreeRuns.{AreSeparate, is_in_spans}
use Rattle.xfs_volume.specs.declared.groups.TreeBlocks.{TreeBlocks}
use Rattle.xfs_place.specs.declared.placed.GroupPlaced.{GroupPlaced}
use Rattle.xfs_place.specs.declared.wanted.GroupInodes.{GroupInodes}
use Rattle.xfs_place.specs.Choice.{Group, IsChosenCount, in_pool, one_if, rank}
use Rattle.xfs_place.specs.Counts.{tree_block_count, placed_counts, room_placed}
use Rattle.xfs_place.specs.Placing.{IsPlacedGroup, cut, tree_blocks_at, tree_sizes}
use Rattle.xfs_place.specs.Wanted.{ArePlaced, inodes_in_group, wanted_group}
use Rattle.xfs_place.proofs.Counted.{ends, in_behind}
use Rattle.xfs_place.proofs.Found.{one_small, total_small}
use Rattle.xfs_place.proofs.GroupIs.{length_uses}

-- separate runs before a block have no more blocks than stand before it
spans_small : (rs : List Span) (low top : ℕ) → AreSeparate low rs → ((b : ℕ) → top ≤ b → is_in_spans rs b ≡ false) → low ≤ top + 1 → free_blocks rs + low ≤ top + 1
spans_small [] low top apart far h = omega (arith, h)
spans_small (r ∷ rest) low top apart far h =
    let end : r.start + r.count ≤ top = ends r rest low top apart far in
    let more = spans_small rest (r.start + r.count + 1) top apart.2 (λ b past. sym (in_behind r rest b (omega (arith, end, past))) ∙ far b past) (omega (arith, end)) in
    let first : free_blocks (r ∷ rest) ≡ r.count + free_blocks rest =
    sum-map (λ (s : Span). s.count) (r ∷ rest) ∙ sum_by-cons (λ (s : Span). s.count) r rest ∙ ap (λ (n : ℕ). r.count + n) (sym (sum-map (λ (s : Span). s.count) rest)) in
    omega (arith, more, first, apart.0)

-- no tree has more blocks than all together
tree_small : (base : ℕ) (sizes blocks : List ℕ) (tree : ℕ) → tree_block_count (map (tree_blocks_at base) (cut sizes blocks)) tree ≤ length blocks
tree_small base [] blocks tree = omega arith
tree_small base (s ∷ ss) blocks zero = omega (arith, length-map (take s blocks) (λ (b : ℕ). base + b), length-take s blocks)
tree_small base (s ∷ ss) blocks (suc tree) = omega (arith, tree_small base ss (drop s blocks) tree, length-drop s blocks)

few_chosen : (g : Group) (n : ℕ) → IsChosenCount g (Some n) → n ≤ length g.uses
few_chosen g n chosen = by_case chosen
  where
    ranked : rank g.uses (length g.uses) ≤ length g.uses * 1
    ranked = total_small (λ b. one_if (in_pool g.uses b)) 1 (length g.uses) (λ b. one_small (in_pool g.uses b))

    by_case : IsChosenCount g (Some n) → n ≤ length g.uses
    by_case (inl rich) = omega (arith, rich.0.0, ranked)
    by_case (inr little) = omega (arith, little.1.0.0, ranked)

room_small : (g : Group) (base : ℕ) (inodes : List InoRec) (p : GroupPlaced) → IsPlacedGroup g base inodes p → room_placed p ≤ 5 * length g.uses + 1
room_small g base inodes p is =
    let sizes = tree_sizes (length p.bno) (length inodes) (length p.fino) (length p.rmap) in
    let many : length is.blocks ≤ length g.uses = few_chosen g (length is.blocks) is.chosen in
    let free : free_blocks p.bno + 0 ≤ length g.uses + 1 = spans_small p.bno 0 (length g.uses) is.bno.separate is.bno.inside (omega arith) in
    let tree = λ (k : ℕ). subst (λ (ts : List TreeBlocks). tree_block_count ts k ≤ length is.blocks) (sym is.trees) (tree_small base sizes is.blocks k) in
    omega (arith, free, is.left, many, tree 0, tree 1, tree 4)

group_small : (v : Volume) (ag : ℕ) → HasGroups v.dblocks v.agblocks v.agcount → group_length v ag ≤ v.dblocks
group_small v ag groups = by_case (ag + 1 == v.agcount)
  where
    by_case : (r : Bool) → (if r then v.dblocks - ag * v.agblocks else v.agblocks) ≤ v.dblocks
    by_case true = omega arith
    by_case false =
        let one : 1 * v.agblocks ≤ (v.agcount - 1) * v.agblocks = mul-le-mul_right v.agblocks (omega (arith, groups.two)) in
        omega (arith, one, groups.last)

-- the free blocks of all groups fit their counter
pub rooms_small : (v : Volume) (kept : List Run) (reserved : List ℕ) (inodes : List GroupInodes) (n : ℕ) (groups : List GroupPlaced) → HasGroups v.dblocks v.agblocks v.agcount → n ≤ 512
    → ArePlaced v kept reserved inodes n groups → (placed_counts [] groups).fdblocks < 2 ^ 64
rooms_small v kept reserved inodes n groups has few placed =
    let d : GroupPlaced = record { bno = []; cnt = []; fino = []; rmap = []; trees = []; agfl = [] } in
    let each : All (λ (p : GroupPlaced). room_placed p ≤ 5 * 2 ^ 26 + 1) groups = All-from_get_or (λ (p : GroupPlaced). room_placed p ≤ 5 * 2 ^ 26 + 1) groups d (λ ag h.
    let long = length_uses v kept reserved ag in
    let one = room_small (wanted_group v kept reserved inodes ag) (ag * v.agblocks) (inodes_in_group inodes ag) (get_or groups ag d) (placed.each ag d (omega (arith, h, placed.all))) in
    omega (arith, one, long, group_small v ag has, has.small)) in
    let whole = sum_by-le room_placed (5 * 2 ^ 26 + 1) groups each in
    omega (arith, sum-map room_placed groups, whole, placed.all, few)
