use Rattle.std.proofs.Common.{◌≡◌, ℕ, ◌+◌, ◌*◌, ◌<◌, ◌≤◌, length, map, replicate, List, [], ◌++◌, get_or, refl, sym, ap, ap₂, ◌∙◌, subst, arith}
use Rattle.std.specs.List.Sorted.{IsPermutation}
use Rattle.std.proofs.lemmas.List.{length-replicate, length-map}
use Rattle.xfs_dirindex.specs.declared.pairs.Pair.{Pair}
use Rattle.xfs_dirbuild.specs.Forms.{data_count, tree_count, value_blocks, nodes_above, leaf_blocks}
use Rattle.xfs_dirbuild.specs.Filling.{filled_shares, rest_in}
use Rattle.xfs_dirbuild.specs.Index.{IsIndexed, HoldsIndex, IsTreeOf, IsPointer}
use Rattle.xfs_dirbuild.specs.FreeBlocks.{IsBuiltFreeBlock, values_in}
use Rattle.xfs_dirbuild.specs.Placed.{IsBuiltDataBlock}
use Rattle.xfs_dirbuild.specs.Filling.{pairs_from}
use Rattle.xfs_dirbuild.specs.Blocks.{data_block, index_tree_blocks, free_index_blocks, index_of, dir_blocks, bank_part}
use Rattle.xfs_dirbuild.proofs.InRank.{ranked-is}
use Rattle.xfs_dirbuild.proofs.Sections.{section-join, section-same, section-all}
use Rattle.xfs_dirbuild.proofs.Rows.{holds-part}
use Rattle.xfs_dirbuild.proofs.TreeCounts.{total-is, above-most, in-front}
use Rattle.xfs_dirbuild.proofs.FillSteps.{shares-count, data_count-bound}
use Rattle.xfs_dirbuild.proofs.Magics.{data-magic, free-magic}
use Rattle.xfs_dirbuild.proofs.WholeNode.{whole-node}
use Rattle.std.proofs.lemmas.Result.{IfOk-from_err}
use Rattle.std.specs.List.{All}
use Rattle.xfs_dirbuild.proofs.Choosing.{data-low, all-fit, all-low, all-some, all-few, tree-room, three-sum}
use Rattle.xfs_dirbuild.proofs.leaf.build_node.Goals as goal

pub fill_blocks-requires-clause-room : goal.fill_blocks-requires-clause-room
fill_blocks-requires-clause-room c =
    let all = c.data_count-data.result + c.tree_count-index.result + c.value_blocks.result in
    let made : length c.in_ok-blocks.blocks ≡ c.data_count-data.result + c.tree_count-index.result + c.value_blocks.result =
    ap length c.in_ok-blocks.ensures ∙ length-replicate all (replicate 4096 0) in
    omega (arith, shares-count c.args.dir c.args.parent c.args.entries.now, c.data_count-data.ensures.value, made)

pub fill_blocks-requires-clause-low : goal.fill_blocks-requires-clause-low
fill_blocks-requires-clause-low c =
    omega (arith, shares-count c.args.dir c.args.parent c.args.entries.now, data_count-bound c.args.entries.now c.requires.writable c.requires.few)

pub put_free_blocks-requires-clause-few : goal.put_free_blocks-requires-clause-few
put_free_blocks-requires-clause-few c =
    omega (
      arith,
      shares-count c.args.dir c.args.parent c.args.entries.now,
      data_count-bound c.args.entries.now c.requires.writable c.requires.few,
      length-map (filled_shares c.args.dir c.args.parent c.args.entries.now) rest_in,
      ap length c.in_ok-stated.ensures.rests,
      ap length c.deref-2.ensures.value,
    )

pub put_free_blocks-requires-clause-room : goal.put_free_blocks-requires-clause-room
put_free_blocks-requires-clause-room c =
    let all = c.data_count-data.result + c.tree_count-index.result + c.value_blocks.result in
    let made : length c.in_ok-blocks.blocks ≡ c.data_count-data.result + c.tree_count-index.result + c.value_blocks.result =
    ap length c.in_ok-blocks.ensures ∙ length-replicate all (replicate 4096 0) in
    let values : length c.deref-2.result.now ≡ c.data_count-data.result =
    omega (
      arith,
      shares-count c.args.dir c.args.parent c.args.entries.now,
      c.data_count-data.ensures.value,
      length-map (filled_shares c.args.dir c.args.parent c.args.entries.now) rest_in,
      ap length c.in_ok-stated.ensures.rests,
      ap length c.deref-2.ensures.value,
    ) in
    let blocks : value_blocks (length c.deref-2.result.now) ≡ c.value_blocks.result = ap value_blocks values ∙ sym c.value_blocks.ensures in
    omega (arith, made, blocks, c.in_ok-stated.ensures.count, c.in_ok-put_tree.ensures.count)

behind-sum : (a k b n : ℕ) → b ≡ n → k < n → a + k < a + b
behind-sum a k b n is less = omega (arith, is, less)

tree-small : (n : ℕ) → n ≤ 16777218 → tree_count n ≤ 0x800000
tree-small n few =
    let leaves = leaf_blocks n in
    let nodes = nodes_above leaves in
    let tops = nodes_above nodes in
    let all = total-is n leaves nodes tops refl refl refl in
    let one = above-most leaves nodes refl in
    let two = above-most nodes tops refl in
    let low : leaf_blocks n ≤ 40000 = omega arith in
    let middle : nodes_above (leaf_blocks n) ≤ 40000 = omega (arith, one, low) in
    let high : nodes_above (nodes_above (leaf_blocks n)) ≤ 40000 = omega (arith, two, middle) in
    omega (arith, all, low, middle, high)

pub returns-clause-whole : goal.returns-clause-whole
unfolding value_blocks
returns-clause-whole c =
    λ placed are.
    let es = c.args.entries.now in
    let n = length c.args.entries.now + 2 in
    let ss = filled_shares c.args.dir c.args.parent es in
    let filled = c.fill_blocks.new.blocks in
    let treed = c.put_tree.new.blocks in
    let new = c.put_free_blocks.new.blocks in
    let pairs = c.sort_pairs.new.pairs.items in
    let value : c.data_count-data.result ≡ data_count c.args.entries.now = c.data_count-data.ensures.value in
    let count = shares-count c.args.dir c.args.parent es in
    let index : c.tree_count-index.result ≡ tree_count (length c.args.entries.now + 2) = c.tree_count-index.ensures in
    let all = c.data_count-data.result + c.tree_count-index.result + c.value_blocks.result in
    let made : length c.in_ok-blocks.blocks ≡ c.data_count-data.result + c.tree_count-index.result + c.value_blocks.result =
    ap length c.in_ok-blocks.ensures ∙ length-replicate all (replicate 4096 0) in
    let frees : c.value_blocks.result ≡ value_blocks (data_count c.args.entries.now) = c.value_blocks.ensures ∙ ap value_blocks value in
    let new_long : length c.put_free_blocks.new.blocks ≡ data_count es + tree_count (length c.args.entries.now + 2) + value_blocks (data_count es) =
    c.put_free_blocks.ensures.count ∙ (c.in_ok-put_tree.ensures.count ∙ (c.in_ok-stated.ensures.count ∙ (made ∙ sym (three-sum _ _ _ _ _ _ value index frees)))) in
    let rests : c.deref-2.result.now ≡ map rest_in ss = c.deref-2.ensures.value ∙ c.in_ok-stated.ensures.rests in
    let deref : c.deref.result.now ≡ c.sort_pairs.new.pairs.items = c.deref.ensures.value in
    let pairs_long : length c.sort_pairs.new.pairs.items ≡ length c.args.entries.now + 2 = c.in_ok-sort_pairs.ensures.count ∙ c.in_ok-stated.ensures.added in
    let size : tree_count (length c.deref.result.now) ≡ tree_count (length c.args.entries.now + 2) = ap tree_count (ap length deref ∙ pairs_long) in
    let values_long : length c.deref-2.result.now ≡ data_count es = ap length rests ∙ (length-map ss rest_in ∙ count) in
    let small = data_count-bound es c.requires.writable c.requires.few in
    whole-node c.args.dir c.args.parent (data_count es) (tree_count (length c.args.entries.now + 2)) (value_blocks (data_count es)) es new placed pairs c.requires.names (sym count)
    small (tree-small (length c.args.entries.now + 2) (omega (arith, c.requires.few))) refl new_long
    (λ k less.
    let inside : k < length ss = subst (λ (n : ℕ). k < n) (sym count) less in
    let low : k < c.data_count-data.result + c.tree_count-index.result = in-front k c.data_count-data.result c.tree_count-index.result (subst (λ (n : ℕ). k < n) (sym value) less) in
    let front : k < c.data_count-data.result = subst (λ (n : ℕ). k < n) (sym value) less in
    subst (λ (b : List ℕ). IsBuiltDataBlock (get_or ss k []) b) (sym (c.put_free_blocks.ensures.others k low ∙ c.in_ok-put_tree.ensures.others k front))
    (c.in_ok-stated.ensures.blocks k inside))
    (λ ms holds.
    let mine : HoldsIndex ms treed c.data_count-data.result 0 (tree_count (length c.deref.result.now)) =
    subst (λ (t : ℕ). HoldsIndex ms treed c.data_count-data.result 0 t) (sym size)
    (subst (λ (b : ℕ). HoldsIndex ms treed b 0 (tree_count (length c.args.entries.now + 2))) (sym value)
    (holds-part ms treed new (data_count es) 0 (tree_count (length c.args.entries.now + 2)) 0 (tree_count (length c.args.entries.now + 2)) holds (omega arith) (omega arith)
    (λ k less. c.put_free_blocks.ensures.others (data_count es + 0 + k) (omega (arith, value, index))))) in
    subst (λ (ps : List Pair). IsTreeOf ms (tree_count (length c.args.entries.now + 2)) ps) deref
    (subst (λ (t : ℕ). IsTreeOf ms t c.deref.result.now) size (c.in_ok-put_tree.ensures.tree ms mine)))
    (λ k less.
    let blocks : value_blocks (length c.deref-2.result.now) ≡ value_blocks (data_count es) = ap value_blocks values_long in
    let inside : k < value_blocks (length c.deref-2.result.now) = subst (λ (n : ℕ). k < n) (sym blocks) less in
    let place : c.data_count-data.result + c.tree_count-index.result + k ≡ data_count es + tree_count (length c.args.entries.now + 2) + k = ap₂ (λ (a b : ℕ). a + b + k) value index in
    subst (λ (p : ℕ). IsBuiltFreeBlock (2016 * k) (values_in (map rest_in ss) k) (get_or new p [])) place
    (subst (λ (vs : List ℕ). IsBuiltFreeBlock (2016 * k) (values_in vs k) (get_or new (c.data_count-data.result + c.tree_count-index.result + k) [])) rests
    (c.put_free_blocks.ensures.blocks k inside)))
    (subst (λ (ps : List Pair). IsPermutation ps pairs) c.in_ok-stated.ensures.pairs c.in_ok-sort_pairs.ensures.moved)
    c.in_ok-sort_pairs.ensures.ranked c.in_ok-sort_pairs.ensures.sound are

pub returns-clause-magics : goal.returns-clause-magics
returns-clause-magics c =
    let es = c.args.entries.now in
    let ss = filled_shares c.args.dir c.args.parent es in
    let new = c.put_free_blocks.new.blocks in
    let value : c.data_count-data.result ≡ data_count c.args.entries.now = c.data_count-data.ensures.value in
    let count = shares-count c.args.dir c.args.parent es in
    let index : c.tree_count-index.result ≡ tree_count (length c.args.entries.now + 2) = c.tree_count-index.ensures in
    let rests : c.deref-2.result.now ≡ map rest_in ss = c.deref-2.ensures.value ∙ c.in_ok-stated.ensures.rests in
    let deref : c.deref.result.now ≡ c.sort_pairs.new.pairs.items = c.deref.ensures.value in
    let pairs_long : length c.sort_pairs.new.pairs.items ≡ length c.args.entries.now + 2 = c.in_ok-sort_pairs.ensures.count ∙ c.in_ok-stated.ensures.added in
    let size : tree_count (length c.deref.result.now) ≡ tree_count (length c.args.entries.now + 2) = ap tree_count (ap length deref ∙ pairs_long) in
    let values_long : length c.deref-2.result.now ≡ data_count es = ap length rests ∙ (length-map ss rest_in ∙ count) in
    let blocks : value_blocks (length c.deref-2.result.now) ≡ value_blocks (data_count es) = ap value_blocks values_long in
    record {
      data_blocks = λ k less.
          let low : k < c.data_count-data.result + c.tree_count-index.result = in-front k c.data_count-data.result c.tree_count-index.result (subst (λ (n : ℕ). k < n) (sym value) less) in
          let front : k < c.data_count-data.result = subst (λ (n : ℕ). k < n) (sym value) less in
          data-magic (get_or new k []) (subst (λ (b : List ℕ). IsBuiltDataBlock (get_or ss k []) b) (sym (c.put_free_blocks.ensures.others k low ∙ c.in_ok-put_tree.ensures.others k front))
          (c.in_ok-stated.ensures.blocks k (subst (λ (n : ℕ). k < n) (sym count) less))).magic;
      index_blocks = λ k less.
          let low : c.data_count-data.result + k < c.data_count-data.result + c.tree_count-index.result = behind-sum c.data_count-data.result k c.tree_count-index.result _ index less in
          let inside : k < tree_count (length c.deref.result.now) = subst (λ (n : ℕ). k < n) (sym size) less in
          subst (λ (n : ℕ). IsIndexed (get_or new (n + k) [])) value
          (subst (λ (b : List ℕ). IsIndexed b) (sym (c.put_free_blocks.ensures.others (c.data_count-data.result + k) low)) (c.in_ok-put_tree.ensures.indexed k inside));
      free_blocks = λ k less.
          let inside : k < value_blocks (length c.deref-2.result.now) = subst (λ (n : ℕ). k < n) (sym blocks) less in
          let place : c.data_count-data.result + c.tree_count-index.result + k ≡ data_count es + tree_count (length c.args.entries.now + 2) + k = ap₂ (λ (a b : ℕ). a + b + k) value index in
          free-magic (get_or new (data_count es + tree_count (length c.args.entries.now + 2) + k) [])
          (subst (λ (p : ℕ). IsBuiltFreeBlock (2016 * k) (values_in c.deref-2.result.now k) (get_or new p [])) place (c.put_free_blocks.ensures.blocks k inside)).magic;
    }

pub returns-clause-bytes : goal.returns-clause-bytes
unfolding dir_blocks
returns-clause-bytes c =
    let ss = filled_shares c.args.dir c.args.parent c.args.entries.now in
    let d = c.data_count-data.result in
    let t = c.tree_count-index.result in
    let v = c.value_blocks.result in
    let filled = c.fill_blocks.new.blocks in
    let treed = c.put_tree.new.blocks in
    let new = c.put_free_blocks.new.blocks in
    let pairs = c.sort_pairs.new.pairs.items in
    let all = d + t + v in
    let made : length c.in_ok-blocks.blocks ≡ c.data_count-data.result + c.tree_count-index.result + c.value_blocks.result =
    ap length c.in_ok-blocks.ensures ∙ length-replicate all (replicate 4096 0) in
    let filled_long : length c.fill_blocks.new.blocks ≡ c.data_count-data.result + c.tree_count-index.result + c.value_blocks.result = c.in_ok-stated.ensures.count ∙ made in
    let treed_long : length c.put_tree.new.blocks ≡ c.data_count-data.result + c.tree_count-index.result + c.value_blocks.result = c.in_ok-put_tree.ensures.count ∙ filled_long in
    let count : length ss ≡ c.data_count-data.result = shares-count c.args.dir c.args.parent c.args.entries.now ∙ sym c.data_count-data.ensures.value in
    let rests : c.deref-2.result.now ≡ map rest_in ss = c.deref-2.ensures.value ∙ c.in_ok-stated.ensures.rests in
    let ranked : pairs ≡ index_of ss =
    ranked-is (pairs_from 0 ss) pairs (subst (λ (ps : List Pair). IsPermutation ps pairs) c.in_ok-stated.ensures.pairs c.in_ok-sort_pairs.ensures.moved)
    c.in_ok-sort_pairs.ensures.ranked in
    let deref : c.deref.result.now ≡ index_of ss = c.deref.ensures.value ∙ ranked in
    let pairs_long : length c.sort_pairs.new.pairs.items ≡ length c.args.entries.now + 2 = c.in_ok-sort_pairs.ensures.count ∙ c.in_ok-stated.ensures.added in
    let tree_size : c.tree_count-index.result ≡ tree_count (length c.deref.result.now) =
    c.tree_count-index.ensures ∙ ap tree_count (sym (ap length c.deref.ensures.value ∙ pairs_long)) in
    let free_size : c.value_blocks.result ≡ value_blocks (length c.deref-2.result.now) =
    c.value_blocks.ensures ∙ ap value_blocks (sym (ap length rests ∙ (length-map ss rest_in ∙ count))) in
    let first : bank_part new 0 d ≡ map data_block ss =
    section-same treed new 0 d c.put_free_blocks.ensures.count (omega (arith, treed_long)) (λ k less. c.put_free_blocks.ensures.others (0 + k) (omega arith))
    ∙ (section-same filled treed 0 d c.in_ok-put_tree.ensures.count (omega (arith, filled_long)) (λ k less. c.in_ok-put_tree.ensures.others (0 + k) (omega arith))
    ∙ (ap (bank_part filled 0) (sym count) ∙ c.in_ok-stated.ensures.bytes)) in
    let second : bank_part new (0 + d) t ≡ index_tree_blocks (index_of ss) =
    ap (λ (a : ℕ). bank_part new a t) (omega arith)
    ∙ (section-same treed new d t c.put_free_blocks.ensures.count (omega (arith, treed_long)) (λ k less. c.put_free_blocks.ensures.others (d + k) (omega arith))
    ∙ (ap (bank_part treed d) tree_size ∙ (c.in_ok-put_tree.ensures.bytes ∙ ap index_tree_blocks deref))) in
    let third : bank_part new (0 + d + t) v ≡ free_index_blocks (map rest_in ss) =
    ap (λ (a : ℕ). bank_part new a v) (omega arith)
    ∙ (ap (bank_part new (d + t)) free_size ∙ (c.put_free_blocks.ensures.bytes ∙ ap free_index_blocks rests)) in
    let whole : d + (t + v) ≡ d + t + v = omega arith in
    sym (section-all new (d + (t + v)) (c.put_free_blocks.ensures.count ∙ (treed_long ∙ sym whole)))
    ∙ (section-join new 0 d (t + v)
    ∙ ap₂ (λ (xs ys : List (List ℕ)). xs ++ ys) first
    (section-join new (0 + d) t v ∙ ap₂ (λ (xs ys : List (List ℕ)). xs ++ ys) second third))

pub returns-in_err-blocks-clause-count : goal.returns-in_err-blocks-clause-count
returns-in_err-blocks-clause-count c = IfOk-from_err c.from_residual.result _ c.from_residual.ensures.0

pub returns-in_err-blocks-clause-magics : goal.returns-in_err-blocks-clause-magics
returns-in_err-blocks-clause-magics c = IfOk-from_err c.from_residual.result _ c.from_residual.ensures.0

pub returns-in_err-blocks-clause-whole : goal.returns-in_err-blocks-clause-whole
returns-in_err-blocks-clause-whole c = IfOk-from_err c.from_residual.result _ c.from_residual.ensures.0

pub returns-in_err-blocks-clause-bytes : goal.returns-in_err-blocks-clause-bytes
returns-in_err-blocks-clause-bytes c = IfOk-from_err c.from_residual.result _ c.from_residual.ensures.0

pub returns-in_err-stated-clause-count : goal.returns-in_err-stated-clause-count
returns-in_err-stated-clause-count c = IfOk-from_err c.from_residual-in_err-stated.result _ c.from_residual-in_err-stated.ensures.0

pub returns-in_err-stated-clause-magics : goal.returns-in_err-stated-clause-magics
returns-in_err-stated-clause-magics c = IfOk-from_err c.from_residual-in_err-stated.result _ c.from_residual-in_err-stated.ensures.0

pub returns-in_err-stated-clause-whole : goal.returns-in_err-stated-clause-whole
returns-in_err-stated-clause-whole c = IfOk-from_err c.from_residual-in_err-stated.result _ c.from_residual-in_err-stated.ensures.0

pub returns-in_err-stated-clause-bytes : goal.returns-in_err-stated-clause-bytes
returns-in_err-stated-clause-bytes c = IfOk-from_err c.from_residual-in_err-stated.result _ c.from_residual-in_err-stated.ensures.0

pub returns-in_err-sort_pairs-clause-count : goal.returns-in_err-sort_pairs-clause-count
returns-in_err-sort_pairs-clause-count c = IfOk-from_err c.from_residual-in_err-sort_pairs.result _ c.from_residual-in_err-sort_pairs.ensures.0

pub returns-in_err-sort_pairs-clause-magics : goal.returns-in_err-sort_pairs-clause-magics
returns-in_err-sort_pairs-clause-magics c = IfOk-from_err c.from_residual-in_err-sort_pairs.result _ c.from_residual-in_err-sort_pairs.ensures.0

pub returns-in_err-sort_pairs-clause-whole : goal.returns-in_err-sort_pairs-clause-whole
returns-in_err-sort_pairs-clause-whole c = IfOk-from_err c.from_residual-in_err-sort_pairs.result _ c.from_residual-in_err-sort_pairs.ensures.0

pub returns-in_err-sort_pairs-clause-bytes : goal.returns-in_err-sort_pairs-clause-bytes
returns-in_err-sort_pairs-clause-bytes c = IfOk-from_err c.from_residual-in_err-sort_pairs.result _ c.from_residual-in_err-sort_pairs.ensures.0

pub returns-in_err-put_tree-clause-count : goal.returns-in_err-put_tree-clause-count
returns-in_err-put_tree-clause-count c = IfOk-from_err c.from_residual-in_err-put_tree.result _ c.from_residual-in_err-put_tree.ensures.0

pub returns-in_err-put_tree-clause-magics : goal.returns-in_err-put_tree-clause-magics
returns-in_err-put_tree-clause-magics c = IfOk-from_err c.from_residual-in_err-put_tree.result _ c.from_residual-in_err-put_tree.ensures.0

pub returns-in_err-put_tree-clause-whole : goal.returns-in_err-put_tree-clause-whole
returns-in_err-put_tree-clause-whole c = IfOk-from_err c.from_residual-in_err-put_tree.result _ c.from_residual-in_err-put_tree.ensures.0

pub returns-in_err-put_tree-clause-bytes : goal.returns-in_err-put_tree-clause-bytes
returns-in_err-put_tree-clause-bytes c = IfOk-from_err c.from_residual-in_err-put_tree.result _ c.from_residual-in_err-put_tree.ensures.0

pub data_count-data-requires-clause-writable : goal.data_count-data-requires-clause-writable
data_count-data-requires-clause-writable c = c.requires.writable

pub data_count-data-requires-clause-few : goal.data_count-data-requires-clause-few
data_count-data-requires-clause-few c = c.requires.few

pub fill_blocks-requires-clause-writable : goal.fill_blocks-requires-clause-writable
fill_blocks-requires-clause-writable c = c.requires.writable

pub fill_blocks-requires-clause-dir : goal.fill_blocks-requires-clause-dir
fill_blocks-requires-clause-dir c = c.requires.dir

pub fill_blocks-requires-clause-parent : goal.fill_blocks-requires-clause-parent
fill_blocks-requires-clause-parent c = c.requires.parent

pub overflow_add-entries : goal.overflow_add-entries
overflow_add-entries c = all-fit (length c.args.entries.now) c.requires.few

pub tree_count-index-requires : goal.tree_count-index-requires
tree_count-index-requires c = all-low (length c.args.entries.now) c.requires.few

pub value_blocks-requires : goal.value_blocks-requires
value_blocks-requires c = data-low c.data_count-data.result (length c.args.entries.now) c.data_count-data.ensures.bound c.requires.few

pub sort_pairs-requires : goal.sort_pairs-requires
sort_pairs-requires c = record { sound = c.in_ok-stated.ensures.sound }

pub put_tree-requires-clause-pointers : goal.put_tree-requires-clause-pointers
put_tree-requires-clause-pointers c = subst (λ (ps : List Pair). All IsPointer ps) (sym c.deref.ensures.value) c.in_ok-sort_pairs.ensures.sound

pub put_tree-requires-clause-some : goal.put_tree-requires-clause-some
put_tree-requires-clause-some c = all-some (length c.deref.result.now) (length c.args.entries.now) (ap length c.deref.ensures.value ∙ (c.in_ok-sort_pairs.ensures.count ∙ c.in_ok-stated.ensures.added))

pub put_tree-requires-clause-few : goal.put_tree-requires-clause-few
put_tree-requires-clause-few c = all-few (length c.deref.result.now) (length c.args.entries.now) (ap length c.deref.ensures.value ∙ (c.in_ok-sort_pairs.ensures.count ∙ c.in_ok-stated.ensures.added)) c.requires.few

pub put_tree-requires-clause-base : goal.put_tree-requires-clause-base
put_tree-requires-clause-base c = data-low c.data_count-data.result (length c.args.entries.now) c.data_count-data.ensures.bound c.requires.few

pub put_tree-requires-clause-room : goal.put_tree-requires-clause-room
put_tree-requires-clause-room c =
    let all = c.data_count-data.result + c.tree_count-index.result + c.value_blocks.result in
    let made : length c.in_ok-blocks.blocks ≡ c.data_count-data.result + c.tree_count-index.result + c.value_blocks.result =
    ap length c.in_ok-blocks.ensures ∙ length-replicate all (replicate 4096 0) in
    let sorted : length c.deref.result.now ≡ length c.args.entries.now + 2 = ap length c.deref.ensures.value ∙ (c.in_ok-sort_pairs.ensures.count ∙ c.in_ok-stated.ensures.added) in
    tree-room c.data_count-data.result c.tree_count-index.result c.value_blocks.result (tree_count (length c.deref.result.now)) (length c.fill_blocks.new.blocks)
    (length c.in_ok-blocks.blocks) c.in_ok-stated.ensures.count made (c.tree_count-index.ensures ∙ ap tree_count (sym sorted))

pub returns-clause-count : goal.returns-clause-count
returns-clause-count c =
    let all = c.data_count-data.result + c.tree_count-index.result + c.value_blocks.result in
    let made : length c.in_ok-blocks.blocks ≡ c.data_count-data.result + c.tree_count-index.result + c.value_blocks.result =
    ap length c.in_ok-blocks.ensures ∙ length-replicate all (replicate 4096 0) in
    let value : c.data_count-data.result ≡ data_count c.args.entries.now = c.data_count-data.ensures.value in
    c.put_free_blocks.ensures.count ∙ (c.in_ok-put_tree.ensures.count ∙ (c.in_ok-stated.ensures.count ∙ (made
    ∙ three-sum c.data_count-data.result c.tree_count-index.result c.value_blocks.result (data_count c.args.entries.now) (tree_count (length c.args.entries.now + 2))
    (value_blocks (data_count c.args.entries.now)) (sym value) (sym c.tree_count-index.ensures) (sym (c.value_blocks.ensures ∙ ap value_blocks value)))))
