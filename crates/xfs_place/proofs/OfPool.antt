-- Trees and free lists stand on different blocks of the pool.
use Rattle.std.proofs.Common.{◌≡◌, ℕ, ◌+◌, ◌*◌, ◌≤◌, ◌<◌, inl, inr, true, List, [], ◌∷◌, ◌++◌, length, get_or, map, take, drop, refl, sym, ◌∙◌, ap, ap₂, subst, arith, append_assoc, length-drop, length-take}
use Rattle.std.specs.List.{All, AllPairs, flat_map, sum}
use Rattle.std.proofs.lemmas.Bool.{cases_lt}
use Rattle.std.proofs.lemmas.List.{drop-drop, get_or-map, length-map, map-append, take-append-drop}
use Rattle.std.proofs.lemmas.List.Elements.{All-from_get_or, All-map}
use Rattle.std.proofs.lemmas.List.Sums.{sum_by-cons}
use Rattle.xfs_geom.specs.Conversions.{group_length}
use Rattle.xfs_geom.specs.Volumes.{Volume}
use Rattle.xfs_geom.specs.declared.records.InoRec.{InoRec}
use Rattle.xfs_geom.specs.declared.records.Run.{Run}
use Rattle.xfs_volume.specs.declared.groups.TreeBlocks.{TreeBlocks}
use Rattle.xfs_place.specs.declared.placed.GroupPlaced.{GroupPlaced}
use Rattle.xfs_place.specs.declared.uses.Use.{Use}
use Rattle.xfs_place.specs.declared.wanted.GroupInodes.{GroupInodes}
use Rattle.xfs_place.specs.Choice.{AreLowest, in_pool, one_if}
use Rattle.xfs_place.specs.Placing.{IsPlacedGroup, cut, inner_blocks, tree_blocks_at, tree_sizes}
use Rattle.xfs_place.specs.Pool.{is_open, is_pool}
use Rattle.xfs_place.specs.Standing.{AreOfPool, IsOfPool, standing_blocks}
use Rattle.xfs_place.specs.Wanted.{ArePlaced, group_in, inodes_in_group, uses_in}
use Rattle.xfs_place.proofs.Counted.{sizes_all}
use Rattle.xfs_place.proofs.GroupIs.{length_uses, use_in}
use Rattle.xfs_place.proofs.ListedRows.{open_inside}
use Rattle.xfs_place.proofs.Rooms.{open_is}
use Rattle.xfs_place.proofs.Totals.{rank_up}

abbrev blocks_in : TreeBlocks → List ℕ
blocks_in t = t.blocks

sum_first : (s : ℕ) (ss : List ℕ) → sum (s ∷ ss) ≡ s + sum ss
sum_first s ss = sum_by-cons (λ (x : ℕ). x) s ss

-- the parts of a list and what is behind them are the list
parts_are : (base : ℕ) (sizes blocks : List ℕ)
    → flat_map blocks_in (map (tree_blocks_at base) (cut sizes blocks)) ++ map (λ block. base + block) (drop (sum sizes) blocks) ≡ map (λ block. base + block) blocks
parts_are base [] blocks = refl
parts_are base (s ∷ ss) blocks =
    let f : ℕ → ℕ = λ block. base + block in
    let rest : drop (sum (s ∷ ss)) blocks ≡ drop (sum ss) (drop s blocks) = ap (λ (n : ℕ). drop n blocks) (sum_first s ss) ∙ sym (drop-drop (sum ss) s blocks) in
    ap (λ (xs : List ℕ). (map f (take s blocks) ++ flat_map blocks_in (map (tree_blocks_at base) (cut ss (drop s blocks)))) ++ map f xs) rest
    ∙ append_assoc (map f (take s blocks)) (flat_map blocks_in (map (tree_blocks_at base) (cut ss (drop s blocks)))) (map f (drop (sum ss) (drop s blocks)))
    ∙ ap (λ (xs : List ℕ). map f (take s blocks) ++ xs) (parts_are base ss (drop s blocks))
    ∙ sym (map-append f (take s blocks) (drop s blocks))
    ∙ ap (map f) (take-append-drop s blocks)

-- parts that fit have the lengths that they are cut to
lengths_are : (base : ℕ) (sizes blocks : List ℕ) → sum sizes ≤ length blocks → map (λ (t : TreeBlocks). length t.blocks) (map (tree_blocks_at base) (cut sizes blocks)) ≡ sizes
lengths_are base [] blocks fit = refl
lengths_are base (s ∷ ss) blocks fit =
    let whole = sum_first s ss in
    let first : length (map (λ (b : ℕ). base + b) (take s blocks)) ≡ s = length-map (take s blocks) (λ (b : ℕ). base + b) ∙ (omega (arith, length-take s blocks, whole, fit)) in
    ap₂ (λ (x : ℕ) (xs : List ℕ). x ∷ xs) first (lengths_are base ss (drop s blocks) (omega (arith, length-drop s blocks, whole, fit)))

-- the lowest blocks of a pool ascend
low_ascend : (uses : List Use) (blocks : List ℕ) (base : ℕ) → AreLowest uses blocks → AllPairs (λ x y. x < y) (map (λ block. base + block) blocks)
low_ascend uses blocks base low = λ i j d before in'.
    let f : ℕ → ℕ = λ block. base + block in
    let long : j < length blocks = omega (arith, in', length-map blocks f) in
    let first : get_or (map f blocks) i d ≡ base + get_or blocks i 0 = get_or-map f blocks i 0 d (omega (arith, before, long)) in
    let second : get_or (map f blocks) j d ≡ base + get_or blocks j 0 = get_or-map f blocks j 0 d long in
    elim (cases_lt (get_or blocks i 0) (get_or blocks j 0)) [
      | inl lower ↦ omega (arith, first, second, lower)
      | inr other ↦
          let ranked = rank_up (λ b. one_if (in_pool uses b)) (get_or blocks j 0) (get_or blocks i 0) other in
          absurd (omega (arith, ranked, low.ranks i (omega (arith, before, long)), low.ranks j long, before))
    ]

-- and are of the pool of the volume
low_pool : (v : Volume) (kept : List Run) (reserved : List ℕ) (ag : ℕ) (blocks : List ℕ) → AreLowest (uses_in v kept reserved ag) blocks
    → All (λ block. is_pool v kept reserved block ≡ true) (map (λ block. ag * v.agblocks + block) blocks)
low_pool v kept reserved ag blocks low =
    All-map (λ block. is_pool v kept reserved block ≡ true) (λ block. ag * v.agblocks + block) blocks
    (All-from_get_or (λ block. is_pool v kept reserved (ag * v.agblocks + block) ≡ true) blocks 0 (λ k in'.
    let b = get_or blocks k 0 in
    let open' = low.open' k in' in
    let here : b < group_length v ag = omega (arith, open_inside (uses_in v kept reserved ag) b open', length_uses v kept reserved ag) in
    sym (open_is v kept reserved (ag * v.agblocks + b)) ∙ ap is_open (sym (use_in v kept reserved ag b here)) ∙ open'))

of_pool : (v : Volume) (kept : List Run) (reserved : List ℕ) (ag : ℕ) (inodes : List InoRec) (p : GroupPlaced)
    → IsPlacedGroup (group_in v kept reserved ag (inner_blocks inodes)) (ag * v.agblocks) inodes p → IsOfPool v kept reserved (ag * v.agblocks) inodes p
of_pool v kept reserved ag inodes p is =
    let g = group_in v kept reserved ag (inner_blocks inodes) in
    let base = ag * v.agblocks in
    let sizes = tree_sizes (length p.bno) (length inodes) (length p.fino) (length p.rmap) in
    let whole : standing_blocks base p ≡ map (λ block. base + block) is.blocks =
    ap₂ (λ (ts : List TreeBlocks) (xs : List ℕ). flat_map blocks_in ts ++ map (λ block. base + block) xs) is.trees is.agfl ∙ parts_are base sizes is.blocks in
    let fit : sum sizes ≤ length is.blocks = omega (arith, sizes_all g (length is.blocks) p.bno inodes p.fino p.rmap refl is.fino is.bno is.rmap, is.left) in
    record {
      pool = subst (All (λ block. is_pool v kept reserved block ≡ true)) (sym whole) (low_pool v kept reserved ag is.blocks is.low);
      ascend = subst (AllPairs (λ x y. x < y)) (sym whole) (low_ascend (uses_in v kept reserved ag) is.blocks base is.low);
      sizes = ap (map (λ (t : TreeBlocks). length t.blocks)) is.trees ∙ lengths_are base sizes is.blocks fit;
    }

pub all_of_pool : (v : Volume) (kept : List Run) (reserved : List ℕ) (inodes : List GroupInodes) (n : ℕ) (groups : List GroupPlaced)
    → ArePlaced v kept reserved inodes n groups → AreOfPool v kept reserved inodes n groups
all_of_pool v kept reserved inodes n groups placed = record {
  each = λ ag d low. of_pool v kept reserved ag (inodes_in_group inodes ag) (get_or groups ag d) (placed.each ag d low);
}
