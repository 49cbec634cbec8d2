-- The rows of a tree, one behind the other, are the tree.
use Rattle.std.proofs.Common.{◌≡◌, ℕ, ◌+◌, List, ◌++◌, map, length, sym, ◌∙◌, ap, ap₂, arith}
use Rattle.std.specs.List.{range_with_len}
use Rattle.xfs_dirindex.specs.declared.pairs.Pair.{Pair}
use Rattle.xfs_dirbuild.specs.Forms.{leaf_blocks, nodes_above}
use Rattle.xfs_dirbuild.specs.Blocks.{row_block, row_blocks, index_links, index_rows, index_tree_blocks, bank_part}
use Rattle.xfs_dirbuild.proofs.Sections.{section-join}

-- a row of no blocks
pub row-none : (bank : List (List ℕ)) (at level first count : ℕ) (pairs : List Pair) → count ≡ 0 → bank_part bank at count ≡ row_blocks level first count pairs
unfolding row_blocks
row-none bank at level first count pairs none =
    ap (bank_part bank at) none ∙ sym (ap (λ (n : ℕ). map (row_block level first n pairs) (range_with_len 0 n)) none)

pub rows-join : (bank : List (List ℕ)) (base tops nodes leaves count : ℕ) (pairs below upper : List Pair) → count ≡ tops + nodes + leaves
    → bank_part bank (base + 0) tops ≡ row_blocks 2 0 tops upper → bank_part bank (base + tops) nodes ≡ row_blocks 1 tops nodes below
    → bank_part bank (base + (tops + nodes)) leaves ≡ row_blocks 0 (tops + nodes) leaves pairs → below ≡ index_links (tops + nodes) leaves pairs
    → upper ≡ index_links tops nodes below → bank_part bank base count ≡ index_rows tops nodes leaves pairs
rows-join bank base tops nodes leaves count pairs below upper all top middle low below_is upper_is =
    let whole : count ≡ tops + (nodes + leaves) = omega arith in
    let start : base + 0 ≡ base = omega arith in
    let place : base + tops + nodes ≡ base + (tops + nodes) = omega arith in
    let first : bank_part bank base tops ≡ row_blocks 2 0 tops (index_links tops nodes below) =
    ap (λ (a : ℕ). bank_part bank a tops) (sym start) ∙ (top ∙ ap (row_blocks 2 0 tops) upper_is) in
    let last : bank_part bank (base + tops + nodes) leaves ≡ row_blocks 0 (tops + nodes) leaves pairs = ap (λ (a : ℕ). bank_part bank a leaves) place ∙ low in
    ap (bank_part bank base) whole
    ∙ (section-join bank base tops (nodes + leaves)
    ∙ (ap₂ (λ (xs ys : List (List ℕ)). xs ++ ys) first
    (section-join bank (base + tops) nodes leaves ∙ ap₂ (λ (xs ys : List (List ℕ)). xs ++ ys) middle last)
    ∙ ap (λ (links : List Pair).
    row_blocks 2 0 tops (index_links tops nodes links) ++ (row_blocks 1 tops nodes links ++ row_blocks 0 (tops + nodes) leaves pairs)) below_is))

pub rows-are : (pairs : List Pair) (leaves nodes tops : ℕ) → leaves ≡ leaf_blocks (length pairs) → nodes ≡ nodes_above leaves → tops ≡ nodes_above nodes
    → index_rows tops nodes leaves pairs ≡ index_tree_blocks pairs
unfolding index_tree_blocks
rows-are pairs leaves nodes tops leaves_is nodes_is tops_is =
    ap (λ (t : ℕ). index_rows t nodes leaves pairs) tops_is
    ∙ (ap (λ (k : ℕ). index_rows (nodes_above k) k leaves pairs) nodes_is
    ∙ ap (λ (l : ℕ). index_rows (nodes_above (nodes_above l)) (nodes_above l) l pairs) leaves_is)
