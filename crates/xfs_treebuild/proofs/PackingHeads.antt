-- Headers of the blocks of a row, and the neighbours of a block in its row.
use Rattle.std.proofs.Common.{◌≡◌, ℕ, ◌+◌, ◌-◌, ◌/◌, ◌==◌, ◌<◌, ◌&&◌, ◌||◌, not, nat_lt, refl, arith, inl, inr, Bool, true, false, List, Option, None, IfSome, IsTrue, slice_get, get_or, if◌then◌else◌, sym, subst}
use Rattle.std.specs.List.{All}
use Rattle.std.proofs.lemmas.Bool.Decides.{nat_tests}
use Rattle.std.proofs.lemmas.Option.{slice_get_cases}
use Rattle.xfs_word.specs.Field.{field_of}
use Rattle.xfs_word.specs.Seal.{is_sealed}
use Rattle.xfs_geom.specs.Volumes.{Volume}
use Rattle.xfs_tree.specs.declared.layout.Layout.{Layout}
use Rattle.xfs_tree.specs.Blocks.{level_of, left_of, right_of}
use Rattle.xfs_geom.specs.Conversions.{is_fixed}
use Rattle.xfs_tree.specs.Rules.{block_seal, can_hold, is_of_root_cluster, is_sibling}
use Rattle.xfs_treebuild.specs.Packing.{lsn_of}
use Rattle.xfs_treebuild.specs.Private.Placed.{left_in, right_in, IsHeaded}

some_held : (P : ℕ → Type 0) (row : List ℕ) (k : ℕ) → All P row → IfSome (slice_get row k) P
some_held P row k all = elim (slice_get_cases row k).1 [
  | inl found ↦ subst (λ (o : Option ℕ). IfSome o P) (sym found.2) (subst P found.3 (all k found.0 found.1))
  | inr past ↦ subst (λ (o : Option ℕ). IfSome o P) (sym past.1) tt
]

unless_first : (P : ℕ → Type 0) (first : Bool) (o : Option ℕ) → IfSome o P → IfSome (if first then None else o) P
unless_first P true o held = tt
unless_first P false o held = held

pub left_held : (P : ℕ → Type 0) (row : List ℕ) (i : ℕ) (o : Option ℕ) → o ≡ left_in row i → All P row → IfSome o P
left_held P row i o is all =
    subst (λ (q : Option ℕ). IfSome q P) (sym is) (unless_first P (i == 0) (slice_get row (i - 1)) (some_held P row (i - 1) all))

pub right_held : (P : ℕ → Type 0) (row : List ℕ) (i : ℕ) (o : Option ℕ) → o ≡ right_in row i → All P row → IfSome o P
right_held P row i o is all = subst (λ (q : Option ℕ). IfSome q P) (sym is) (some_held P row (i + 1) all)

-- a header as it was written is that of the block at place i of its row
pub headed_by : (v : Volume) (l due : Layout) (owner due_owner level : ℕ) (row : List ℕ) (i place left right : ℕ) (beside after : Option ℕ) (block : List ℕ)
    → l ≡ due → owner ≡ due_owner → place ≡ get_or row i 0 → beside ≡ left_in row i → after ≡ right_in row i
    → IsTrue (is_sealed (block_seal v l owner place) block) → level_of block ≡ level → lsn_of l block ≡ 0
    → (l.long ≡ true → field_of block 68 4 ≡ 0) → left_of l block ≡ left → IsTrue (is_sibling v l owner beside left) → right_of l block ≡ right → IsTrue (is_sibling v l owner after right)
    → IsHeaded v due due_owner level row i block
headed_by v l due owner due_owner level row i place left right beside after block l_is owner_is place_is beside_is after_is sealed at_level at_lsn at_pad left_is left_right right_is right_right =
    let written : IsHeaded v l owner level row i block = record {
      sealed = subst (λ (p : ℕ). IsTrue (is_sealed (block_seal v l owner p) block)) place_is sealed;
      at_level = at_level;
      at_lsn = at_lsn;
      at_pad = at_pad;
      at_left = subst (λ (q : ℕ). IsTrue (is_sibling v l owner (left_in row i) q)) (sym left_is)
          (subst (λ (o : Option ℕ). IsTrue (is_sibling v l owner o left)) beside_is left_right);
      at_right = subst (λ (q : ℕ). IsTrue (is_sibling v l owner (right_in row i) q)) (sym right_is)
          (subst (λ (o : Option ℕ). IsTrue (is_sibling v l owner o right)) after_is right_right);
    } in
    subst (λ (m : Layout). IsHeaded v m due_owner level row i block) l_is (subst (λ (o : ℕ). IsHeaded v l o level row i block) owner_is written)

-- places that can hold blocks of a tree, by its layout and its owner
pub hold_by : (v : Volume) (l due : Layout) (owner due_owner : ℕ) (row : List ℕ) → l ≡ due → owner ≡ due_owner
    → All (λ place. IsTrue (can_hold v due due_owner place)) row → All (λ place. IsTrue (can_hold v l owner place)) row
hold_by v l due owner due_owner row l_is owner_is all =
    subst (λ (m : Layout). All (λ place. IsTrue (can_hold v m owner place)) row) (sym l_is)
    (subst (λ (o : ℕ). All (λ place. IsTrue (can_hold v due o place)) row) (sym owner_is) all)

-- a place that can hold a block of a tree lies in the volume
first_of_four : (a b c d : Bool) → IsTrue (a && b && c && d) → a ≡ true
first_of_four true b c d h = refl
first_of_four false b c d h = grind (arith, h)

pub held_low : (v : Volume) (l : Layout) (owner block : ℕ) → IsTrue (can_hold v l owner block) → block < v.dblocks
held_low v l owner block held =
    let low : nat_lt block v.dblocks ≡ true = first_of_four (nat_lt block v.dblocks) (l.long || block / v.agblocks == owner) (not (is_fixed v block)) (not (is_of_root_cluster v block)) held in
    grind (arith, nat_tests, low)
