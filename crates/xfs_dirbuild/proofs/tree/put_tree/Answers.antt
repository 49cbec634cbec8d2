use Rattle.std.proofs.Common.{◌≡◌, ℕ, ◌+◌, ◌<◌, ◌≤◌, inr, List, [], length, get_or, refl, sym, ◌∙◌, ap, ap₂, subst, arith, inl}
use Rattle.xfs_dirbuild.specs.Forms.{tree_count}
use Rattle.xfs_dirbuild.specs.Index.{IsIndexed, leaf_places, IsTreeOf, IsPointer}
use Rattle.xfs_dirbuild.specs.Blocks.{row_blocks, index_links}
use Rattle.xfs_dirbuild.proofs.Sections.{section-same}
use Rattle.xfs_dirbuild.proofs.TreeBytes.{row-none, rows-join, rows-are}
use Rattle.xfs_dirbuild.proofs.Magics.{indexed-join}
use Rattle.xfs_dirbuild.proofs.Rows.{holds-part}
use Rattle.xfs_dirbuild.proofs.Trees.{tree-one, tree-two, tree-three}
use Rattle.xfs_dirbuild.proofs.TreeCounts.{total-is, above-none, above-most, in-front, rows-some, rows-enough, rows-fit, rows-room, rows-low, upper-some, upper-enough, upper-fit, upper-few, middle-room, top-room, middle-low, top-low}
use Rattle.std.proofs.lemmas.Result.{IfOk-from_err}
use Rattle.std.specs.List.{All}
use Rattle.xfs_dirindex.specs.declared.pairs.Pair.{Pair}
use Rattle.xfs_dirbuild.proofs.tree.put_tree.Goals as goal

-- rows that stand behind others
over-top : (base tops nodes k : ℕ) → base + 0 + tops ≤ base + (tops + nodes) + k
over-top base tops nodes k = omega arith

over-middle : (base tops nodes k : ℕ) → base + tops + nodes ≤ base + (tops + nodes) + k
over-middle base tops nodes k = omega arith

over-one : (base tops k : ℕ) → base + 0 + tops ≤ base + tops + k
over-one base tops k = omega arith

pub returns-then-nodes-eq0-clause-tree : goal.returns-then-nodes-eq0-clause-tree
returns-then-nodes-eq0-clause-tree c =
    λ ms holds.
    let n = length c.args.pairs.now in
    let leaves = c.leaf_blocks-leaves.result in
    let nodes = c.nodes_above-nodes.result in
    let tops = c.nodes_above-tops.result in
    let base = c.args.base in
    let bank = c.put_row.new.blocks in
    let all = total-is n leaves nodes tops c.leaf_blocks-leaves.ensures c.nodes_above-nodes.ensures c.nodes_above-tops.ensures in
    let few = above-none leaves nodes c.nodes_above-nodes.ensures c.if-nodes-eq0.true in
    let some : 1 ≤ c.leaf_blocks-leaves.result = omega (arith, c.leaf_blocks-leaves.ensures, c.requires.some) in
    let above = above-most nodes tops c.nodes_above-tops.ensures in
    let none : c.nodes_above-tops.result + c.nodes_above-nodes.result ≡ 0 = omega (arith, above, c.if-nodes-eq0.true) in
    let one : c.leaf_blocks-leaves.result ≡ 1 = omega (arith, few, some) in
    let total : tree_count n ≡ 1 = omega (arith, all, none, one) in
    let mine = holds-part ms bank bank base (tops + nodes) leaves 0 (tree_count n) holds (omega arith) (omega (arith, all)) (λ k less. refl) in
    subst (λ (t : ℕ). IsTreeOf ms t c.args.pairs.now) (sym total)
    (tree-one ms c.args.pairs.now c.in_ok-below.below.items (c.in_ok-below.ensures.members ms mine)
    (c.in_ok-below.ensures.places ∙ ap₂ leaf_places none one) (c.in_ok-below.ensures.below ms mine))

pub returns-then-tops-eq0-clause-tree : goal.returns-then-tops-eq0-clause-tree
returns-then-tops-eq0-clause-tree c =
    λ ms holds.
    let n = length c.args.pairs.now in
    let leaves = c.leaf_blocks-leaves.result in
    let nodes = c.nodes_above-nodes.result in
    let tops = c.nodes_above-tops.result in
    let base = c.args.base in
    let row = c.put_row.new.blocks in
    let bank = c.put_row-2.new.blocks in
    let all = total-is n leaves nodes tops c.leaf_blocks-leaves.ensures c.nodes_above-nodes.ensures c.nodes_above-tops.ensures in
    let few = above-none nodes tops c.nodes_above-tops.ensures c.if-tops-eq0.true in
    let one : c.nodes_above-nodes.result ≡ 1 = omega (arith, few, c.if-nodes-eq0.false) in
    let none : c.nodes_above-tops.result ≡ 0 = c.if-tops-eq0.true in
    let first : c.nodes_above-tops.result + c.nodes_above-nodes.result ≡ 1 = omega (arith, none, one) in
    let total : tree_count n ≡ 1 + c.leaf_blocks-leaves.result = omega (arith, all, none, one) in
    let lower = holds-part ms row bank base (tops + nodes) leaves 0 (tree_count n) holds (omega arith) (omega (arith, all))
    (λ k less. c.in_ok-upper.ensures.others (c.args.base + (c.nodes_above-tops.result + c.nodes_above-nodes.result) + k) (inr (over-middle c.args.base c.nodes_above-tops.result c.nodes_above-nodes.result k))) in
    let upper = holds-part ms bank bank base tops nodes 0 (tree_count n) holds (omega arith) (omega (arith, all)) (λ k less. refl) in
    subst (λ (t : ℕ). IsTreeOf ms t c.args.pairs.now) (sym total)
    (tree-two ms leaves c.args.pairs.now c.in_ok-below.below.items c.in_ok-upper.upper.items (c.in_ok-below.ensures.members ms lower)
    (c.in_ok-below.ensures.places ∙ ap (λ (a : ℕ). leaf_places a c.leaf_blocks-leaves.result) first) (c.in_ok-below.ensures.below ms lower)
    (c.in_ok-upper.ensures.members ms upper) (c.in_ok-upper.ensures.places ∙ ap₂ leaf_places none one)
    (c.in_ok-upper.ensures.below ms upper ∙ c.deref.ensures.value))

pub returns-clause-tree : goal.returns-clause-tree
returns-clause-tree c =
    λ ms holds.
    let n = length c.args.pairs.now in
    let leaves = c.leaf_blocks-leaves.result in
    let nodes = c.nodes_above-nodes.result in
    let tops = c.nodes_above-tops.result in
    let base = c.args.base in
    let row = c.put_row.new.blocks in
    let next = c.put_row-2.new.blocks in
    let bank = c.put_row-3.new.blocks in
    let all = total-is n leaves nodes tops c.leaf_blocks-leaves.ensures c.nodes_above-nodes.ensures c.nodes_above-tops.ensures in
    let most_nodes = above-most leaves nodes c.nodes_above-nodes.ensures in
    let most_tops = above-most nodes tops c.nodes_above-tops.ensures in
    let one : c.nodes_above-tops.result ≡ 1 = omega (arith, most_nodes, most_tops, c.leaf_blocks-leaves.ensures, c.requires.few, c.if-tops-eq0.false) in
    let first : c.nodes_above-tops.result + c.nodes_above-nodes.result ≡ 1 + c.nodes_above-nodes.result = omega (arith, one) in
    let total : tree_count n ≡ 1 + c.nodes_above-nodes.result + c.leaf_blocks-leaves.result = omega (arith, all, one) in
    let lower = holds-part ms row bank base (tops + nodes) leaves 0 (tree_count n) holds (omega arith) (omega (arith, all))
    (λ k less.
    let place = c.args.base + (c.nodes_above-tops.result + c.nodes_above-nodes.result) + k in
    c.in_ok-put_row.ensures.others place (inr (over-top c.args.base c.nodes_above-tops.result c.nodes_above-nodes.result k)) ∙ c.in_ok-upper.ensures.others place (inr (over-middle c.args.base c.nodes_above-tops.result c.nodes_above-nodes.result k))) in
    let middle = holds-part ms next bank base tops nodes 0 (tree_count n) holds (omega arith) (omega (arith, all))
    (λ k less. c.in_ok-put_row.ensures.others (c.args.base + c.nodes_above-tops.result + k) (inr (over-one c.args.base c.nodes_above-tops.result k))) in
    let upper = holds-part ms bank bank base 0 tops 0 (tree_count n) holds (omega arith) (omega (arith, all)) (λ k less. refl) in
    subst (λ (t : ℕ). IsTreeOf ms t c.args.pairs.now) (sym total)
    (tree-three ms nodes leaves c.args.pairs.now c.in_ok-below.below.items c.in_ok-upper.upper.items c.in_ok-put_row.field-0.items
    (c.in_ok-below.ensures.members ms lower) (c.in_ok-below.ensures.places ∙ ap (λ (a : ℕ). leaf_places a c.leaf_blocks-leaves.result) first)
    (c.in_ok-below.ensures.below ms lower) (c.in_ok-upper.ensures.members ms middle)
    (c.in_ok-upper.ensures.places ∙ ap (λ (a : ℕ). leaf_places a c.nodes_above-nodes.result) one) (c.in_ok-upper.ensures.below ms middle ∙ c.deref.ensures.value)
    (c.in_ok-put_row.ensures.members ms upper) (c.in_ok-put_row.ensures.places ∙ ap (leaf_places 0) one) (c.in_ok-put_row.ensures.below ms upper ∙ c.deref-2.ensures.value))

-- all blocks of a tree, by its rows
all-rows : (n tops nodes leaves base : ℕ) (bank : List (List ℕ)) → tree_count n ≡ tops + nodes + leaves
    → ((k : ℕ) → k < tops + nodes → IsIndexed (get_or bank (base + k) []))
    → ((k : ℕ) → k < leaves → IsIndexed (get_or bank (base + (tops + nodes) + k) [])) → (k : ℕ) → k < tree_count n → IsIndexed (get_or bank (base + k) [])
all-rows n tops nodes leaves base bank all front row k less = indexed-join bank base (tops + nodes) leaves front row k (omega (arith, all, less))

pub returns-then-nodes-eq0-clause-indexed : goal.returns-then-nodes-eq0-clause-indexed
returns-then-nodes-eq0-clause-indexed c =
    let n = length c.args.pairs.now in
    let leaves = c.leaf_blocks-leaves.result in
    let nodes = c.nodes_above-nodes.result in
    let tops = c.nodes_above-tops.result in
    let all = total-is n leaves nodes tops c.leaf_blocks-leaves.ensures c.nodes_above-nodes.ensures c.nodes_above-tops.ensures in
    let above = above-most nodes tops c.nodes_above-tops.ensures in
    let none : c.nodes_above-tops.result + c.nodes_above-nodes.result ≡ 0 = omega (arith, above, c.if-nodes-eq0.true) in
    all-rows n tops nodes leaves c.args.base c.put_row.new.blocks all (λ k less. absurd (omega (arith, none, less))) c.in_ok-below.ensures.indexed

pub returns-then-tops-eq0-clause-indexed : goal.returns-then-tops-eq0-clause-indexed
returns-then-tops-eq0-clause-indexed c =
    let n = length c.args.pairs.now in
    let leaves = c.leaf_blocks-leaves.result in
    let nodes = c.nodes_above-nodes.result in
    let tops = c.nodes_above-tops.result in
    let bank = c.put_row-2.new.blocks in
    let all = total-is n leaves nodes tops c.leaf_blocks-leaves.ensures c.nodes_above-nodes.ensures c.nodes_above-tops.ensures in
    all-rows n tops nodes leaves c.args.base bank all
    (indexed-join bank c.args.base tops nodes (λ k less. absurd (omega (arith, c.if-tops-eq0.true, less))) c.in_ok-upper.ensures.indexed)
    (λ k less.
    subst (λ (b : List ℕ). IsIndexed b)
    (sym (c.in_ok-upper.ensures.others (c.args.base + (c.nodes_above-tops.result + c.nodes_above-nodes.result) + k) (inr (over-middle c.args.base c.nodes_above-tops.result c.nodes_above-nodes.result k))))
    (c.in_ok-below.ensures.indexed k less))

pub returns-clause-indexed : goal.returns-clause-indexed
returns-clause-indexed c =
    let n = length c.args.pairs.now in
    let leaves = c.leaf_blocks-leaves.result in
    let nodes = c.nodes_above-nodes.result in
    let tops = c.nodes_above-tops.result in
    let bank = c.put_row-3.new.blocks in
    let all = total-is n leaves nodes tops c.leaf_blocks-leaves.ensures c.nodes_above-nodes.ensures c.nodes_above-tops.ensures in
    all-rows n tops nodes leaves c.args.base bank all
    (indexed-join bank c.args.base tops nodes
    (λ k less. subst (λ (p : ℕ). IsIndexed (get_or bank p [])) (omega arith) (c.in_ok-put_row.ensures.indexed k less))
    (λ k less.
    subst (λ (b : List ℕ). IsIndexed b) (sym (c.in_ok-put_row.ensures.others (c.args.base + c.nodes_above-tops.result + k) (inr (over-one c.args.base c.nodes_above-tops.result k))))
    (c.in_ok-upper.ensures.indexed k less)))
    (λ k less.
    let place = c.args.base + (c.nodes_above-tops.result + c.nodes_above-nodes.result) + k in
    subst (λ (b : List ℕ). IsIndexed b)
    (sym (c.in_ok-put_row.ensures.others place (inr (over-top c.args.base c.nodes_above-tops.result c.nodes_above-nodes.result k)) ∙ c.in_ok-upper.ensures.others place (inr (over-middle c.args.base c.nodes_above-tops.result c.nodes_above-nodes.result k))))
    (c.in_ok-below.ensures.indexed k less))

pub returns-then-nodes-eq0-clause-bytes : goal.returns-then-nodes-eq0-clause-bytes
returns-then-nodes-eq0-clause-bytes c =
    let pairs = c.args.pairs.now in
    let n = length c.args.pairs.now in
    let leaves = c.leaf_blocks-leaves.result in
    let nodes = c.nodes_above-nodes.result in
    let tops = c.nodes_above-tops.result in
    let base = c.args.base in
    let bank = c.put_row.new.blocks in
    let below = c.in_ok-below.below.items in
    let all = total-is n leaves nodes tops c.leaf_blocks-leaves.ensures c.nodes_above-nodes.ensures c.nodes_above-tops.ensures in
    let above = above-most nodes tops c.nodes_above-tops.ensures in
    let none : c.nodes_above-tops.result ≡ 0 = omega (arith, above, c.if-nodes-eq0.true) in
    rows-join bank base tops nodes leaves (tree_count n) pairs below (index_links tops nodes below) all
    (row-none bank (base + 0) 2 0 tops (index_links tops nodes below) none) (row-none bank (base + tops) 1 tops nodes below c.if-nodes-eq0.true)
    c.in_ok-below.ensures.bytes c.in_ok-below.ensures.row refl
    ∙ rows-are pairs leaves nodes tops c.leaf_blocks-leaves.ensures c.nodes_above-nodes.ensures c.nodes_above-tops.ensures

pub returns-then-tops-eq0-clause-bytes : goal.returns-then-tops-eq0-clause-bytes
returns-then-tops-eq0-clause-bytes c =
    let pairs = c.args.pairs.now in
    let n = length c.args.pairs.now in
    let leaves = c.leaf_blocks-leaves.result in
    let nodes = c.nodes_above-nodes.result in
    let tops = c.nodes_above-tops.result in
    let base = c.args.base in
    let row = c.put_row.new.blocks in
    let bank = c.put_row-2.new.blocks in
    let below = c.in_ok-below.below.items in
    let all = total-is n leaves nodes tops c.leaf_blocks-leaves.ensures c.nodes_above-nodes.ensures c.nodes_above-tops.ensures in
    let room : c.args.base + (c.nodes_above-tops.result + c.nodes_above-nodes.result) + c.leaf_blocks-leaves.result ≤ length c.put_row.new.blocks =
    omega (arith, all, c.requires.room, c.in_ok-below.ensures.count) in
    let stays = section-same row bank (base + (tops + nodes)) leaves c.in_ok-upper.ensures.count room
    (λ k less. c.in_ok-upper.ensures.others (c.args.base + (c.nodes_above-tops.result + c.nodes_above-nodes.result) + k) (inr (over-middle c.args.base c.nodes_above-tops.result c.nodes_above-nodes.result k))) in
    rows-join bank base tops nodes leaves (tree_count n) pairs below (index_links tops nodes below) all
    (row-none bank (base + 0) 2 0 tops (index_links tops nodes below) c.if-tops-eq0.true)
    (c.in_ok-upper.ensures.bytes ∙ ap (row_blocks 1 tops nodes) c.deref.ensures.value)
    (stays ∙ c.in_ok-below.ensures.bytes) c.in_ok-below.ensures.row refl
    ∙ rows-are pairs leaves nodes tops c.leaf_blocks-leaves.ensures c.nodes_above-nodes.ensures c.nodes_above-tops.ensures

pub returns-clause-bytes : goal.returns-clause-bytes
returns-clause-bytes c =
    let pairs = c.args.pairs.now in
    let n = length c.args.pairs.now in
    let leaves = c.leaf_blocks-leaves.result in
    let nodes = c.nodes_above-nodes.result in
    let tops = c.nodes_above-tops.result in
    let base = c.args.base in
    let row = c.put_row.new.blocks in
    let next = c.put_row-2.new.blocks in
    let bank = c.put_row-3.new.blocks in
    let below = c.in_ok-below.below.items in
    let upper = c.in_ok-upper.upper.items in
    let all = total-is n leaves nodes tops c.leaf_blocks-leaves.ensures c.nodes_above-nodes.ensures c.nodes_above-tops.ensures in
    let room : c.args.base + (c.nodes_above-tops.result + c.nodes_above-nodes.result) + c.leaf_blocks-leaves.result ≤ length c.put_row.new.blocks =
    omega (arith, all, c.requires.room, c.in_ok-below.ensures.count) in
    let room_next : c.args.base + c.nodes_above-tops.result + c.nodes_above-nodes.result ≤ length c.put_row-2.new.blocks =
    omega (arith, room, c.in_ok-upper.ensures.count) in
    let long : length c.put_row-3.new.blocks ≡ length c.put_row.new.blocks = c.in_ok-put_row.ensures.count ∙ c.in_ok-upper.ensures.count in
    let low = section-same row bank (base + (tops + nodes)) leaves long room
    (λ k less.
    let place = c.args.base + (c.nodes_above-tops.result + c.nodes_above-nodes.result) + k in
    c.in_ok-put_row.ensures.others place (inr (over-top c.args.base c.nodes_above-tops.result c.nodes_above-nodes.result k)) ∙ c.in_ok-upper.ensures.others place (inr (over-middle c.args.base c.nodes_above-tops.result c.nodes_above-nodes.result k))) in
    let middle = section-same next bank (base + tops) nodes c.in_ok-put_row.ensures.count room_next
    (λ k less. c.in_ok-put_row.ensures.others (c.args.base + c.nodes_above-tops.result + k) (inr (over-one c.args.base c.nodes_above-tops.result k))) in
    rows-join bank base tops nodes leaves (tree_count n) pairs below upper all
    (c.in_ok-put_row.ensures.bytes ∙ ap (row_blocks 2 0 tops) c.deref-2.ensures.value)
    (middle ∙ (c.in_ok-upper.ensures.bytes ∙ ap (row_blocks 1 tops nodes) c.deref.ensures.value))
    (low ∙ c.in_ok-below.ensures.bytes) c.in_ok-below.ensures.row
    (c.in_ok-upper.ensures.row ∙ ap (index_links tops nodes) c.deref.ensures.value)
    ∙ rows-are pairs leaves nodes tops c.leaf_blocks-leaves.ensures c.nodes_above-nodes.ensures c.nodes_above-tops.ensures

pub returns-in_err-below-clause-tree : goal.returns-in_err-below-clause-tree
returns-in_err-below-clause-tree c = IfOk-from_err c.from_residual.result _ c.from_residual.ensures.0

pub returns-in_err-below-clause-bytes : goal.returns-in_err-below-clause-bytes
returns-in_err-below-clause-bytes c = IfOk-from_err c.from_residual.result _ c.from_residual.ensures.0

pub returns-in_err-below-clause-indexed : goal.returns-in_err-below-clause-indexed
returns-in_err-below-clause-indexed c = IfOk-from_err c.from_residual.result _ c.from_residual.ensures.0

pub returns-in_err-upper-clause-tree : goal.returns-in_err-upper-clause-tree
returns-in_err-upper-clause-tree c = IfOk-from_err c.from_residual-in_err-upper.result _ c.from_residual-in_err-upper.ensures.0

pub returns-in_err-upper-clause-bytes : goal.returns-in_err-upper-clause-bytes
returns-in_err-upper-clause-bytes c = IfOk-from_err c.from_residual-in_err-upper.result _ c.from_residual-in_err-upper.ensures.0

pub returns-in_err-upper-clause-indexed : goal.returns-in_err-upper-clause-indexed
returns-in_err-upper-clause-indexed c = IfOk-from_err c.from_residual-in_err-upper.result _ c.from_residual-in_err-upper.ensures.0

pub returns-in_err-put_row-clause-tree : goal.returns-in_err-put_row-clause-tree
returns-in_err-put_row-clause-tree c = IfOk-from_err c.from_residual-in_err-put_row.result _ c.from_residual-in_err-put_row.ensures.0

pub returns-in_err-put_row-clause-bytes : goal.returns-in_err-put_row-clause-bytes
returns-in_err-put_row-clause-bytes c = IfOk-from_err c.from_residual-in_err-put_row.result _ c.from_residual-in_err-put_row.ensures.0

pub returns-in_err-put_row-clause-indexed : goal.returns-in_err-put_row-clause-indexed
returns-in_err-put_row-clause-indexed c = IfOk-from_err c.from_residual-in_err-put_row.result _ c.from_residual-in_err-put_row.ensures.0

pub returns-in_err-below-clause-count : goal.returns-in_err-below-clause-count
returns-in_err-below-clause-count c = c.put_row.ensures.count

pub returns-in_err-below-clause-others : goal.returns-in_err-below-clause-others
returns-in_err-below-clause-others c =
    λ k less.
    c.put_row.ensures.others k (inl (in-front k c.args.base (c.nodes_above-tops.result + c.nodes_above-nodes.result) less))

pub returns-then-nodes-eq0-clause-count : goal.returns-then-nodes-eq0-clause-count
returns-then-nodes-eq0-clause-count c = c.put_row.ensures.count

pub returns-then-nodes-eq0-clause-others : goal.returns-then-nodes-eq0-clause-others
returns-then-nodes-eq0-clause-others c =
    λ k less.
    c.put_row.ensures.others k (inl (in-front k c.args.base (c.nodes_above-tops.result + c.nodes_above-nodes.result) less))

pub returns-in_err-upper-clause-count : goal.returns-in_err-upper-clause-count
returns-in_err-upper-clause-count c = c.put_row-2.ensures.count ∙ c.put_row.ensures.count

pub returns-in_err-upper-clause-others : goal.returns-in_err-upper-clause-others
returns-in_err-upper-clause-others c =
    λ k less.
    c.put_row-2.ensures.others k (inl (in-front k c.args.base c.nodes_above-tops.result less))
    ∙ c.put_row.ensures.others k (inl (in-front k c.args.base (c.nodes_above-tops.result + c.nodes_above-nodes.result) less))

pub returns-then-tops-eq0-clause-count : goal.returns-then-tops-eq0-clause-count
returns-then-tops-eq0-clause-count c = c.put_row-2.ensures.count ∙ c.put_row.ensures.count

pub returns-then-tops-eq0-clause-others : goal.returns-then-tops-eq0-clause-others
returns-then-tops-eq0-clause-others c =
    λ k less.
    c.put_row-2.ensures.others k (inl (in-front k c.args.base c.nodes_above-tops.result less))
    ∙ c.put_row.ensures.others k (inl (in-front k c.args.base (c.nodes_above-tops.result + c.nodes_above-nodes.result) less))

pub returns-in_err-put_row-clause-count : goal.returns-in_err-put_row-clause-count
returns-in_err-put_row-clause-count c = c.put_row-3.ensures.count ∙ c.put_row-2.ensures.count ∙ c.put_row.ensures.count

pub returns-in_err-put_row-clause-others : goal.returns-in_err-put_row-clause-others
returns-in_err-put_row-clause-others c =
    λ k less.
    c.put_row-3.ensures.others k (inl (in-front k c.args.base 0 less))
    ∙ c.put_row-2.ensures.others k (inl (in-front k c.args.base c.nodes_above-tops.result less))
    ∙ c.put_row.ensures.others k (inl (in-front k c.args.base (c.nodes_above-tops.result + c.nodes_above-nodes.result) less))

pub returns-clause-count : goal.returns-clause-count
returns-clause-count c = c.put_row-3.ensures.count ∙ c.put_row-2.ensures.count ∙ c.put_row.ensures.count

pub returns-clause-others : goal.returns-clause-others
returns-clause-others c =
    λ k less.
    c.put_row-3.ensures.others k (inl (in-front k c.args.base 0 less))
    ∙ c.put_row-2.ensures.others k (inl (in-front k c.args.base c.nodes_above-tops.result less))
    ∙ c.put_row.ensures.others k (inl (in-front k c.args.base (c.nodes_above-tops.result + c.nodes_above-nodes.result) less))

pub put_row-requires-clause-pointers : goal.put_row-requires-clause-pointers
put_row-requires-clause-pointers c = c.requires.pointers

pub put_row-requires-clause-some : goal.put_row-requires-clause-some
put_row-requires-clause-some c = rows-some (length c.args.pairs.now) c.leaf_blocks-leaves.result c.leaf_blocks-leaves.ensures c.requires.some

pub put_row-requires-clause-enough : goal.put_row-requires-clause-enough
put_row-requires-clause-enough c = rows-enough (length c.args.pairs.now) c.leaf_blocks-leaves.result c.leaf_blocks-leaves.ensures c.requires.some

pub put_row-requires-clause-fit : goal.put_row-requires-clause-fit
put_row-requires-clause-fit c = rows-fit (length c.args.pairs.now) c.leaf_blocks-leaves.result c.leaf_blocks-leaves.ensures

pub put_row-requires-clause-few : goal.put_row-requires-clause-few
put_row-requires-clause-few c = c.requires.few

pub put_row-requires-clause-base : goal.put_row-requires-clause-base
put_row-requires-clause-base c = c.requires.base

pub put_row-requires-clause-room : goal.put_row-requires-clause-room
put_row-requires-clause-room c =
    rows-room c.args.base (tree_count (length c.args.pairs.now)) c.nodes_above-tops.result c.nodes_above-nodes.result c.leaf_blocks-leaves.result (length c.args.blocks.now)
    (total-is (length c.args.pairs.now) c.leaf_blocks-leaves.result c.nodes_above-nodes.result c.nodes_above-tops.result c.leaf_blocks-leaves.ensures c.nodes_above-nodes.ensures c.nodes_above-tops.ensures) c.requires.room

pub put_row-requires-clause-low : goal.put_row-requires-clause-low
put_row-requires-clause-low c =
    rows-low (length c.args.pairs.now) c.leaf_blocks-leaves.result c.nodes_above-nodes.result c.nodes_above-tops.result c.leaf_blocks-leaves.ensures (above-most c.leaf_blocks-leaves.result c.nodes_above-nodes.result c.nodes_above-nodes.ensures) (above-most c.nodes_above-nodes.result c.nodes_above-tops.result c.nodes_above-tops.ensures) c.requires.few

pub put_row-requires-2-clause-pointers : goal.put_row-requires-2-clause-pointers
put_row-requires-2-clause-pointers c = subst (λ (ps : List Pair). All IsPointer ps) (sym c.deref.ensures.value) c.in_ok-below.ensures.pointers

pub put_row-requires-2-clause-some : goal.put_row-requires-2-clause-some
put_row-requires-2-clause-some c = upper-some c.nodes_above-nodes.result c.if-nodes-eq0.false

pub put_row-requires-2-clause-enough : goal.put_row-requires-2-clause-enough
put_row-requires-2-clause-enough c = upper-enough c.leaf_blocks-leaves.result c.nodes_above-nodes.result _ (above-most c.leaf_blocks-leaves.result c.nodes_above-nodes.result c.nodes_above-nodes.ensures) c.if-nodes-eq0.false (ap length c.deref.ensures.value ∙ c.in_ok-below.ensures.links)

pub put_row-requires-2-clause-fit : goal.put_row-requires-2-clause-fit
put_row-requires-2-clause-fit c = upper-fit c.leaf_blocks-leaves.result c.nodes_above-nodes.result _ c.nodes_above-nodes.ensures c.if-nodes-eq0.false (ap length c.deref.ensures.value ∙ c.in_ok-below.ensures.links)

pub put_row-requires-2-clause-few : goal.put_row-requires-2-clause-few
put_row-requires-2-clause-few c = upper-few (length c.deref.result.now) c.leaf_blocks-leaves.result c.leaf_blocks-leaves.result (c.nodes_above-tops.result + c.nodes_above-nodes.result) refl (rows-low (length c.args.pairs.now) c.leaf_blocks-leaves.result c.nodes_above-nodes.result c.nodes_above-tops.result c.leaf_blocks-leaves.ensures (above-most c.leaf_blocks-leaves.result c.nodes_above-nodes.result c.nodes_above-nodes.ensures) (above-most c.nodes_above-nodes.result c.nodes_above-tops.result c.nodes_above-tops.ensures) c.requires.few) (ap length c.deref.ensures.value ∙ c.in_ok-below.ensures.links)

pub put_row-requires-2-clause-base : goal.put_row-requires-2-clause-base
put_row-requires-2-clause-base c = c.requires.base

pub put_row-requires-2-clause-room : goal.put_row-requires-2-clause-room
put_row-requires-2-clause-room c = middle-room c.args.base (tree_count (length c.args.pairs.now)) c.nodes_above-tops.result c.nodes_above-nodes.result c.leaf_blocks-leaves.result (length c.args.blocks.now) (length c.put_row.new.blocks) (total-is (length c.args.pairs.now) c.leaf_blocks-leaves.result c.nodes_above-nodes.result c.nodes_above-tops.result c.leaf_blocks-leaves.ensures c.nodes_above-nodes.ensures c.nodes_above-tops.ensures) c.requires.room c.in_ok-below.ensures.count

pub put_row-requires-2-clause-low : goal.put_row-requires-2-clause-low
put_row-requires-2-clause-low c = middle-low c.nodes_above-tops.result c.nodes_above-nodes.result c.leaf_blocks-leaves.result (rows-low (length c.args.pairs.now) c.leaf_blocks-leaves.result c.nodes_above-nodes.result c.nodes_above-tops.result c.leaf_blocks-leaves.ensures (above-most c.leaf_blocks-leaves.result c.nodes_above-nodes.result c.nodes_above-nodes.ensures) (above-most c.nodes_above-nodes.result c.nodes_above-tops.result c.nodes_above-tops.ensures) c.requires.few)

pub put_row-requires-3-clause-pointers : goal.put_row-requires-3-clause-pointers
put_row-requires-3-clause-pointers c = subst (λ (ps : List Pair). All IsPointer ps) (sym c.deref-2.ensures.value) c.in_ok-upper.ensures.pointers

pub put_row-requires-3-clause-some : goal.put_row-requires-3-clause-some
put_row-requires-3-clause-some c = upper-some c.nodes_above-tops.result c.if-tops-eq0.false

pub put_row-requires-3-clause-enough : goal.put_row-requires-3-clause-enough
put_row-requires-3-clause-enough c = upper-enough c.nodes_above-nodes.result c.nodes_above-tops.result _ (above-most c.nodes_above-nodes.result c.nodes_above-tops.result c.nodes_above-tops.ensures) c.if-tops-eq0.false (ap length c.deref-2.ensures.value ∙ c.in_ok-upper.ensures.links)

pub put_row-requires-3-clause-fit : goal.put_row-requires-3-clause-fit
put_row-requires-3-clause-fit c = upper-fit c.nodes_above-nodes.result c.nodes_above-tops.result _ c.nodes_above-tops.ensures c.if-tops-eq0.false (ap length c.deref-2.ensures.value ∙ c.in_ok-upper.ensures.links)

pub put_row-requires-3-clause-few : goal.put_row-requires-3-clause-few
put_row-requires-3-clause-few c = upper-few (length c.deref-2.result.now) c.nodes_above-nodes.result c.nodes_above-nodes.result c.nodes_above-tops.result refl (middle-low c.nodes_above-tops.result c.nodes_above-nodes.result c.leaf_blocks-leaves.result (rows-low (length c.args.pairs.now) c.leaf_blocks-leaves.result c.nodes_above-nodes.result c.nodes_above-tops.result c.leaf_blocks-leaves.ensures (above-most c.leaf_blocks-leaves.result c.nodes_above-nodes.result c.nodes_above-nodes.ensures) (above-most c.nodes_above-nodes.result c.nodes_above-tops.result c.nodes_above-tops.ensures) c.requires.few)) (ap length c.deref-2.ensures.value ∙ c.in_ok-upper.ensures.links)

pub put_row-requires-3-clause-base : goal.put_row-requires-3-clause-base
put_row-requires-3-clause-base c = c.requires.base

pub put_row-requires-3-clause-room : goal.put_row-requires-3-clause-room
put_row-requires-3-clause-room c = top-room c.args.base (tree_count (length c.args.pairs.now)) c.nodes_above-tops.result c.nodes_above-nodes.result c.leaf_blocks-leaves.result (length c.args.blocks.now) (length c.put_row.new.blocks) (length c.put_row-2.new.blocks) (total-is (length c.args.pairs.now) c.leaf_blocks-leaves.result c.nodes_above-nodes.result c.nodes_above-tops.result c.leaf_blocks-leaves.ensures c.nodes_above-nodes.ensures c.nodes_above-tops.ensures) c.requires.room c.in_ok-below.ensures.count c.in_ok-upper.ensures.count

pub put_row-requires-3-clause-low : goal.put_row-requires-3-clause-low
put_row-requires-3-clause-low c = top-low c.nodes_above-tops.result c.nodes_above-nodes.result c.leaf_blocks-leaves.result (rows-low (length c.args.pairs.now) c.leaf_blocks-leaves.result c.nodes_above-nodes.result c.nodes_above-tops.result c.leaf_blocks-leaves.ensures (above-most c.leaf_blocks-leaves.result c.nodes_above-nodes.result c.nodes_above-nodes.ensures) (above-most c.nodes_above-nodes.result c.nodes_above-tops.result c.nodes_above-tops.ensures) c.requires.few)
