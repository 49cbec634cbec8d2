-- The greatest of numbers, of parts that are halved.
use Rattle.std.proofs.Common.{◌≡◌, ℕ, zero, suc, ◌+◌, ◌-◌, ◌*◌, ◌/◌, ◌^◌, ◌≤◌, ◌<◌, ◌≢◌, inl, inr, Bool, true, false, nat_le, if◌then◌else◌, max, List, length, get_or, set, refl, sym, ◌∙◌, ap, ap₂, subst, arith, get_or-set_same, get_or-set_other}
use Rattle.std.proofs.lemmas.Bool.{cases_eq, cases_lt, le-leb, lt-leb}
use Rattle.std.proofs.lemmas.Grind.{pow_more}
use Rattle.std.proofs.lemmas.Nat.{pow_below}
use Rattle.std.proofs.Math.ListN.{length-set}
use Rattle.xfs_place.specs.Greatest.{AreGreatest, IsBranch, leaf_at}

-- a node is no greater than the one above it
parent_above : (nodes : List ℕ) (i : ℕ) → IsBranch nodes (i / 2) → get_or nodes i 0 ≤ get_or nodes (i / 2) 0
parent_above nodes i branch = elim (cases_eq i (2 * (i / 2))) [
  | inl even ↦ omega (arith, branch, ap (λ (k : ℕ). get_or nodes k 0) even)
  | inr other ↦
      let odd : i ≡ 2 * (i / 2) + 1 = omega (arith, other) in
      omega (arith, branch, ap (λ (k : ℕ). get_or nodes k 0) odd)
]

-- nor than the first
below_first : (nodes : List ℕ) (leaves depth fuel i : ℕ) → AreGreatest nodes leaves depth → i ≤ fuel → 1 ≤ i → i < 2 * leaves → get_or nodes i 0 ≤ get_or nodes 1 0
below_first nodes leaves depth zero i are few some inside = absurd (omega (arith, few, some))
below_first nodes leaves depth (suc fuel) i are few some inside = elim (cases_eq i 1) [
  | inl first ↦ omega (arith, ap (λ (k : ℕ). get_or nodes k 0) first)
  | inr other ↦
      let up = parent_above nodes i (are.branches (i / 2) (omega (arith, some, other)) (omega (arith, inside))) in
      let rest = below_first nodes leaves depth fuel (i / 2) are (omega (arith, few, some)) (omega (arith, some, other)) (omega (arith, inside)) in
      omega (arith, up, rest)
]

-- where the first is small, all numbers are
pub all_small : (nodes : List ℕ) (leaves depth least : ℕ) → AreGreatest nodes leaves depth → get_or nodes 1 0 < least → (k : ℕ) → k < leaves → leaf_at nodes leaves k < least
all_small nodes leaves depth least are small = λ k inside.
    let below = below_first nodes leaves depth (leaves + k) (leaves + k) are (omega arith) (omega (arith, inside)) (omega (arith, inside)) in
    omega (arith, below, small)

-- a node of a level that is at least so large, where none before it in its level is
pub record Descends (nodes : List ℕ) (least level node : ℕ) : Type 0 where
  pub low : 2 ^ level ≤ node
  pub high : node < 2 ^ (level + 1)
  pub enough : least ≤ get_or nodes node 0
  pub before : (x : ℕ) → 2 ^ level ≤ x → x < node → get_or nodes x 0 < least

pub descends_first : (nodes : List ℕ) (least : ℕ) → least ≤ get_or nodes 1 0 → Descends nodes least 0 1
descends_first nodes least enough = record { low = omega arith; high = omega arith; enough = enough; before = λ x low high. absurd (omega (arith, low, high)) }

pub power_up : (i j : ℕ) → i ≤ j → 2 ^ i ≤ 2 ^ j
power_up i j low = elim (cases_eq i j) [
  | inl same ↦ omega (arith, ap (λ (k : ℕ). 2 ^ k) same)
  | inr other ↦
      let so = pow_below i j (omega (arith, low, other)) in
      omega (arith, so)
]

pub descends_inside : (nodes : List ℕ) (leaves depth least level node : ℕ) → AreGreatest nodes leaves depth → level < depth → Descends nodes least level node → node < leaves
descends_inside nodes leaves depth least level node are below old =
    let more = power_up (level + 1) depth (omega (arith, below)) in
    omega (arith, more, old.high, are.deep)

-- the next level
pub descends_next : (nodes : List ℕ) (leaves depth least level node next : ℕ) → AreGreatest nodes leaves depth → level < depth → Descends nodes least level node
    → next ≡ (if nat_le least (get_or nodes (2 * node) 0) then 2 * node else 2 * node + 1) → Descends nodes least (level + 1) next
descends_next nodes leaves depth least level node next are below old is = elim (cases_lt (get_or nodes (2 * node) 0) least) [
  | inr here ↦
      let at : next ≡ 2 * node = is ∙ ap (λ (t : Bool). if t then 2 * node else 2 * node + 1) (le-leb least (get_or nodes (2 * node) 0) here) in
      record {
        low = omega (arith, at, old.low, down);
        high = omega (arith, at, old.high, down, further);
        enough = omega (arith, here, ap (λ (k : ℕ). get_or nodes k 0) at);
        before = λ x low high. small x low (omega (arith, high, at));
      }
  | inl there ↦
      let at : next ≡ 2 * node + 1 = is ∙ ap (λ (t : Bool). if t then 2 * node else 2 * node + 1) (lt-leb least (get_or nodes (2 * node) 0) there) in
      record {
        low = omega (arith, at, old.low, down);
        high = omega (arith, at, old.high, down, further);
        enough = omega (arith, branch, old.enough, there, ap (λ (k : ℕ). get_or nodes k 0) at);
        before = λ x low high. elim (cases_eq x (2 * node)) [
          | inl last ↦ omega (arith, there, ap (λ (k : ℕ). get_or nodes k 0) last)
          | inr other ↦ small x low (omega (arith, high, at, other))
        ];
      }
]
  where
    down : 2 ^ (level + 1) ≡ 2 ^ level * 2
    down = pow_more 2 level

    further : 2 ^ (level + 1 + 1) ≡ 2 ^ (level + 1) * 2
    further = pow_more 2 (level + 1)

    inside : node < leaves
    inside = descends_inside nodes leaves depth least level node are below old

    some : 1 ≤ node
    some =
        let one = power_up 0 level (omega arith) in
        omega (arith, one, old.low)

    branch : IsBranch nodes node
    branch = are.branches node some inside

    small : (x : ℕ) → 2 ^ (level + 1) ≤ x → x < 2 * node → get_or nodes x 0 < least
    small x low high =
        let up = parent_above nodes x (are.branches (x / 2) (omega (arith, low, down, power_up 0 level (omega arith))) (omega (arith, high, inside))) in
        let so = old.before (x / 2) (omega (arith, low, down)) (omega (arith, high)) in
        omega (arith, up, so)

-- the last level
pub descends_last : (nodes : List ℕ) (leaves depth least node level : ℕ) → AreGreatest nodes leaves depth → depth ≤ level → level ≤ depth → Descends nodes least level node
    → (leaves ≤ node) × (node - leaves < leaves) × (least ≤ leaf_at nodes leaves (node - leaves)) × ((j : ℕ) → j < node - leaves → leaf_at nodes leaves j < least)
descends_last nodes leaves depth least node level are low high old =
    let same : level ≡ depth = omega (arith, low, high) in
    let from : leaves ≤ node = omega (arith, are.deep, old.low, ap (λ (k : ℕ). 2 ^ k) same) in
    let to : node < leaves * 2 = omega (arith, are.deep, old.high, pow_more 2 level, ap (λ (k : ℕ). 2 ^ k) same) in
    let at : leaves + (node - leaves) ≡ node = omega (arith, from) in (
      from,
      omega (arith, from, to),
      omega (arith, old.enough, ap (λ (k : ℕ). get_or nodes k 0) at),
      λ j before. old.before (leaves + j) (omega (arith, are.deep, ap (λ (k : ℕ). 2 ^ k) same)) (omega (arith, before)),
    )

-- a node is made the greater one of the two below it: it is a branch, and the others are what they were but for the one above it
branch_same : (nodes : List ℕ) (m value i : ℕ) → i ≢ m → 2 * i ≢ m → 2 * i + 1 ≢ m → IsBranch nodes i → IsBranch (set nodes m value) i
branch_same nodes m value i here left right branch =
    get_or-set_other nodes m i value 0 here ∙ branch ∙ ap₂ max (sym (get_or-set_other nodes m (2 * i) value 0 left)) (sym (get_or-set_other nodes m (2 * i + 1) value 0 right))

branch_made : (nodes : List ℕ) (m : ℕ) → 1 ≤ m → m < length nodes → IsBranch (set nodes m (max (get_or nodes (2 * m) 0) (get_or nodes (2 * m + 1) 0))) m
branch_made nodes m some inside =
    let value = max (get_or nodes (2 * m) 0) (get_or nodes (2 * m + 1) 0) in
    get_or-set_same nodes m value 0 inside
    ∙ ap₂ max (sym (get_or-set_other nodes m (2 * m) value 0 (λ e. absurd (omega (arith, e, some))))) (sym (get_or-set_other nodes m (2 * m + 1) value 0 (λ e. absurd (omega (arith, e, some)))))

-- all nodes of the first half are branches, but for the one above this one
pub record Mends (nodes : List ℕ) (leaves node : ℕ) : Type 0 where
  pub all : length nodes ≡ 2 * leaves
  pub branches : (i : ℕ) → 1 ≤ i → i < leaves → i ≢ node / 2 → IsBranch nodes i

pub mends_first : (nodes : List ℕ) (leaves depth p value : ℕ) → AreGreatest nodes leaves depth → leaves ≤ p → Mends (set nodes p value) leaves p
mends_first nodes leaves depth p value are low = record {
  all = length-set nodes p value ∙ are.all;
  branches = λ i some inside other.
      branch_same nodes p value i (λ e. absurd (omega (arith, e, inside, low))) (λ e. other (omega (arith, e))) (λ e. other (omega (arith, e))) (are.branches i some inside);
}

pub mends_next : (nodes next : List ℕ) (leaves node m : ℕ) → Mends nodes leaves node → m ≡ node / 2 → 1 ≤ m → m < leaves
    → next ≡ set nodes m (max (get_or nodes (2 * m) 0) (get_or nodes (2 * m + 1) 0)) → Mends next leaves m
mends_next nodes next leaves node m old at some low put = subst (λ (ns : List ℕ). Mends ns leaves m) (sym put) (record {
  all = length-set nodes m value ∙ old.all;
  branches = λ i one inside other. elim (cases_eq i m) [
    | inl same ↦ subst (IsBranch (set nodes m value)) (sym same) (branch_made nodes m some (omega (arith, low, old.all)))
    | inr apart ↦ branch_same nodes m value i apart (λ e. other (omega (arith, e))) (λ e. other (omega (arith, e))) (old.branches i one inside (λ e. apart (e ∙ sym at)))
  ];
})
  where
    value : ℕ
    value = max (get_or nodes (2 * m) 0) (get_or nodes (2 * m + 1) 0)

pub mends_last : (nodes : List ℕ) (leaves depth node : ℕ) → leaves ≡ 2 ^ depth → depth ≤ 32 → node < 2 → Mends nodes leaves node → AreGreatest nodes leaves depth
mends_last nodes leaves depth node deep few last old = record {
  all = old.all;
  deep = deep;
  few = few;
  branches = λ i some inside. old.branches i some inside (λ e. absurd (omega (arith, e, some, last)));
}

-- a node above one of a level is of the level above
pub climbs : (leaves depth level node : ℕ) → leaves ≡ 2 ^ depth → level < depth → 2 ^ (depth - level) ≤ node → node < 2 ^ (depth - level + 1)
    → (1 ≤ node / 2) × (node / 2 < leaves) × (2 ^ (depth - (level + 1)) ≤ node / 2) × (node / 2 < 2 ^ (depth - (level + 1) + 1))
climbs leaves depth level node deep below low high =
    let e : depth - level ≡ depth - (level + 1) + 1 = omega (arith, below) in
    let twice : 2 ^ (depth - level) ≡ 2 ^ (depth - (level + 1)) * 2 = ap (λ (n : ℕ). 2 ^ n) e ∙ pow_more 2 (depth - (level + 1)) in
    let more : 2 ^ (depth - level + 1) ≡ 2 ^ (depth - level) * 2 = pow_more 2 (depth - level) in
    let next : 2 ^ (depth - (level + 1) + 1) ≡ 2 ^ (depth - (level + 1)) * 2 = pow_more 2 (depth - (level + 1)) in
    let one = power_up 0 (depth - (level + 1)) (omega arith) in
    let whole = power_up (depth - level) depth (omega arith) in (
      omega (arith, low, twice, one),
      omega (arith, high, more, whole, deep),
      omega (arith, low, twice),
      omega (arith, high, more, twice, next),
    )

-- zeros
pub greatest_first : (nodes : List ℕ) (leaves depth : ℕ) → length nodes ≡ 2 * leaves → leaves ≡ 2 ^ depth → depth ≤ 32 → ((n : ℕ) → n < 2 * leaves → get_or nodes n 0 ≡ 0) → AreGreatest nodes leaves depth
greatest_first nodes leaves depth all deep few none = record {
  all = all;
  deep = deep;
  few = few;
  branches = λ i some inside. none i (omega (arith, inside)) ∙ sym (ap₂ max (none (2 * i) (omega (arith, inside))) (none (2 * i + 1) (omega (arith, inside))));
}
