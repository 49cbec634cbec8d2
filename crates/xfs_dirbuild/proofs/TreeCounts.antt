-- How many blocks the levels of a tree have.
use Rattle.std.proofs.Common.{◌≡◌, ℕ, ◌+◌, ◌*◌, ◌/◌, ◌^◌, ◌<◌, ◌≤◌, Bool, true, false, nat_le, if◌then◌else◌, refl, sym, ◌∙◌, ap, ap₂, arith}
use Rattle.std.proofs.lemmas.Bool.Decides.{nat_tests}
use Rattle.xfs_dirbuild.specs.Forms.{leaf_blocks, nodes_above, tree_count}

pub total-is : (n leaves nodes tops : ℕ) → leaves ≡ leaf_blocks n → nodes ≡ nodes_above leaves → tops ≡ nodes_above nodes → tree_count n ≡ tops + nodes + leaves
unfolding tree_count
total-is n leaves nodes tops leaves_is nodes_is tops_is =
    let one : nodes_above (leaf_blocks n) ≡ nodes = ap nodes_above (sym leaves_is) ∙ sym nodes_is in
    ap₂ (λ (t k : ℕ). t + k + leaf_blocks n) (ap nodes_above one ∙ sym tops_is) one ∙ ap (λ (l : ℕ). tops + nodes + l) (sym leaves_is)

-- none stands above one block alone
pub above-none : (blocks above : ℕ) → above ≡ nodes_above blocks → above ≡ 0 → blocks ≤ 1
above-none blocks above is none = by_test (nat_le blocks 1) refl is
  where
    by_test : (t : Bool) → nat_le blocks 1 ≡ t → above ≡ (if t then 0 else (blocks + 503) / 504) → blocks ≤ 1
    by_test true small is = grind (arith, nat_tests)
    by_test false large is = grind (arith, nat_tests)

pub above-most : (blocks above : ℕ) → above ≡ nodes_above blocks → above ≤ (blocks + 503) / 504
above-most blocks above is = by_test (nat_le blocks 1) is
  where
    by_test : (t : Bool) → above ≡ (if t then 0 else (blocks + 503) / 504) → above ≤ (blocks + 503) / 504
    by_test true is = omega arith
    by_test false is = omega arith

-- numbers of the rows of a tree
pub in-front : (k base first : ℕ) → k < base → k < base + first
in-front k base first less = omega arith

pub rows-some : (n leaves : ℕ) → leaves ≡ leaf_blocks n → 1 ≤ n → 1 ≤ leaves
rows-some n leaves is some = omega arith

pub rows-enough : (n leaves : ℕ) → leaves ≡ leaf_blocks n → 1 ≤ n → leaves ≤ n
rows-enough n leaves is some = omega arith

pub rows-fit : (n leaves : ℕ) → leaves ≡ leaf_blocks n → n ≤ leaves * 504
rows-fit n leaves is = omega arith

pub rows-room : (base total tops nodes leaves len : ℕ) → total ≡ tops + nodes + leaves → base + total ≤ len → base + (tops + nodes) + leaves ≤ len
rows-room base total tops nodes leaves len is room = omega arith

leaves-few : (n leaves : ℕ) → leaves ≡ leaf_blocks n → n ≤ 2 ^ 24 + 2 → leaves ≤ 40000
leaves-few n leaves is few = omega arith

nodes-few : (leaves nodes : ℕ) → nodes ≤ (leaves + 503) / 504 → leaves ≤ 40000 → nodes ≤ 400
nodes-few leaves nodes most few = omega arith

rows-sum : (tops nodes leaves : ℕ) → tops ≤ 400 → nodes ≤ 400 → leaves ≤ 40000 → tops + nodes + leaves ≤ 0x800000
rows-sum tops nodes leaves a b c = omega arith

low-few : (n : ℕ) → n ≤ 400 → n ≤ 40000
low-few n few = omega arith

pub rows-low : (n leaves nodes tops : ℕ) → leaves ≡ leaf_blocks n → nodes ≤ (leaves + 503) / 504 → tops ≤ (nodes + 503) / 504 → n ≤ 2 ^ 24 + 2
    → tops + nodes + leaves ≤ 0x800000
rows-low n leaves nodes tops is nodes_most tops_most few =
    let a = leaves-few n leaves is few in
    let b = nodes-few leaves nodes nodes_most a in
    rows-sum tops nodes leaves (nodes-few nodes tops tops_most (low-few nodes b)) b a

-- the same of a row of nodes, which stands above more than one block
pub upper-some : (above : ℕ) → (above ≡ 0 → ⊥) → 1 ≤ above
upper-some above none = omega (arith, none)

pub upper-enough : (blocks above len : ℕ) → above ≤ (blocks + 503) / 504 → (above ≡ 0 → ⊥) → len ≡ blocks → above ≤ len
upper-enough blocks above len most none is = omega (arith, most, none, is)

pub upper-fit : (blocks above len : ℕ) → above ≡ nodes_above blocks → (above ≡ 0 → ⊥) → len ≡ blocks → len ≤ above * 504
upper-fit blocks above len is none same = by_test (nat_le blocks 1) is
  where
    by_test : (t : Bool) → above ≡ (if t then 0 else (blocks + 503) / 504) → len ≤ above * 504
    by_test true small = absurd (none small)
    by_test false large = omega (arith, large, same)

pub upper-few : (total len row rest : ℕ) → len ≡ row → rest + row ≤ 0x800000 → total ≡ len → total ≤ 2 ^ 24 + 2
upper-few total len row rest is low same = omega (arith, is, low, same)

pub middle-room : (base total tops nodes leaves len new : ℕ) → total ≡ tops + nodes + leaves → base + total ≤ len → new ≡ len → base + tops + nodes ≤ new
middle-room base total tops nodes leaves len new is room same = omega (arith, is, room, same)

pub top-room : (base total tops nodes leaves len middle new : ℕ) → total ≡ tops + nodes + leaves → base + total ≤ len → middle ≡ len → new ≡ middle
    → base + 0 + tops ≤ new
top-room base total tops nodes leaves len middle new is room same next = omega (arith, is, room, same, next)

pub middle-low : (tops nodes leaves : ℕ) → tops + nodes + leaves ≤ 0x800000 → tops + nodes ≤ 0x800000
middle-low tops nodes leaves low = omega (arith, low)

pub top-low : (tops nodes leaves : ℕ) → tops + nodes + leaves ≤ 0x800000 → 0 + tops ≤ 0x800000
top-low tops nodes leaves low = omega (arith, low)
