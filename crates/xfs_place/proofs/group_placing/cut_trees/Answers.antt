use Rattle.std.proofs.Common.{◌≡◌, ◌<◌, ◌+◌, ◌++◌, ◌∷◌, [], ◌^◌, ℕ, List, length, map, take, drop, get_or, sym, ◌∙◌, ap, arith}
use Rattle.std.specs.List.{sum}
use Rattle.std.proofs.lemmas.List.{append-nil, append_assoc, drop-drop, drop_all, drop_more}
use Rattle.std.proofs.lemmas.List.Sums.{sum_by-cons}
use Rattle.xfs_volume.specs.declared.groups.TreeBlocks.{TreeBlocks}
use Rattle.xfs_place.specs.Placing.{cut, tree_blocks_at}
use Rattle.xfs_place.proofs.group_placing.cut_trees.Goals as goal

-- one tree more is cut off
cut_next : (base from size i : ℕ) (sizes blocks : List ℕ) (ts us due : List TreeBlocks) (places : List ℕ) → drop i sizes ≡ size ∷ drop (i + 1) sizes
    → ts ++ map (tree_blocks_at base) (cut (drop i sizes) (drop from blocks)) ≡ due → us ≡ ts ++ record { blocks = places } ∷ []
    → places ≡ map (λ block. base + block) (take size (drop from blocks)) → us ++ map (tree_blocks_at base) (cut (drop (i + 1) sizes) (drop (from + size) blocks)) ≡ due
cut_next base from size i sizes blocks ts us due places step left is at =
    let rest : List TreeBlocks = map (tree_blocks_at base) (cut (drop (i + 1) sizes) (drop (from + size) blocks)) in
    let tree : TreeBlocks = record { blocks = places } in
    ap (λ (xs : List TreeBlocks). xs ++ rest) is
    ∙ append_assoc ts (tree ∷ []) rest
    ∙ ap (λ (ps : List ℕ). ts ++ record { blocks = ps } ∷ rest) at
    ∙ ap (λ (bs : List ℕ). ts ++ tree_blocks_at base (take size (drop from blocks)) ∷ map (tree_blocks_at base) (cut (drop (i + 1) sizes) bs)) (sym (drop-drop size from blocks))
    ∙ ap (λ (ss : List ℕ). ts ++ map (tree_blocks_at base) (cut ss (drop from blocks))) (sym step)
    ∙ left

-- and the others are smaller by its size
left_small : (from size i : ℕ) (sizes : List ℕ) → drop i sizes ≡ size ∷ drop (i + 1) sizes → from + sum (drop i sizes) < 2 ^ 40 → from + size + sum (drop (i + 1) sizes) < 2 ^ 40
left_small from size i sizes step small =
    let cons : sum (size ∷ drop (i + 1) sizes) ≡ size + sum (drop (i + 1) sizes) = sum_by-cons (λ x. x) size (drop (i + 1) sizes) in
    omega (arith, small, ap sum step ∙ cons)

pub loop-size-init : goal.loop-size-init
loop-size-init c = record {
  cut' = ap (λ (ts : List TreeBlocks). ts ++ map (tree_blocks_at c.args.base) (cut c.args.sizes.now c.args.blocks.now)) c.new-trees.ensures.items;
  small = omega (arith, c.requires.sizes);
}

pub loop-size-preserved : goal.loop-size-preserved
loop-size-preserved c =
    let sizes = c.args.sizes.now in
    let i = c.loop-size.size-index in
    let size = get_or sizes i 0 in
    let step = drop_more sizes i 0 c.loop-size-test.true in
    record {
      cut' = cut_next c.args.base c.loop-size.from size i sizes c.args.blocks.now c.loop-size.trees.items c.push.new.self.items
          (map (tree_blocks_at c.args.base) (cut sizes c.args.blocks.now)) c.from_vec.result step c.loop-size.invariant.cut' c.in_ok-push.ensures.items (c.from_vec.ensures ∙ c.in_ok-places.ensures);
      small = left_small c.loop-size.from size i sizes step c.loop-size.invariant.small;
    }

pub overflow_add-from : goal.overflow_add-from
overflow_add-from c =
    let sizes = c.args.sizes.now in
    let i = c.loop-size.size-index in
    let small = left_small c.loop-size.from (get_or sizes i 0) i sizes (drop_more sizes i 0 c.loop-size-test.true) c.loop-size.invariant.small in
    omega (arith, small)

pub take_blocks-requires : goal.take_blocks-requires
take_blocks-requires c = c.requires.base

pub returns : goal.returns
returns c =
    let ts = c.loop-size.trees.items in
    sym (append-nil ts)
    ∙ ap (λ (ss : List ℕ). ts ++ map (tree_blocks_at c.args.base) (cut ss (drop c.loop-size.from c.args.blocks.now))) (sym (drop_all c.loop-size.size-index c.args.sizes.now (omega (arith, c.loop-size-test.false))))
    ∙ c.loop-size.invariant.cut'
