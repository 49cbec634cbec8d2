-- What a block of a level is, whatever stands in front of it (chapter "Common B+trees").
use Rattle.std.specs.Prelude.{◌≡◌, ℕ, ◌==◌, ◌&&◌, ◌||◌, not, nat_le, Bool, true, if◌then◌else◌, List, [], ◌∷◌, Option, Some, None}
use Rattle.xfs_word.specs.Seal.{is_sealed}
use Rattle.xfs_geom.specs.First.{first_false}
use Rattle.xfs_geom.specs.Volumes.{Volume}
use Rattle.xfs_tree.specs.declared.stepping.Found.{Found}
use Rattle.xfs_tree.specs.declared.stepping.Spot.{Spot}
use Rattle.xfs_tree.specs.declared.seats.Seat.{Seat}
use Rattle.xfs_tree.specs.Shape.{Shape}
use Rattle.xfs_tree.specs.Blocks.{level_of, count_of, left_of, right_of, capacity, records_of, children_of, lows_of}
use Rattle.xfs_tree.specs.Rules.{are_lawful, ascend_behind, block_seal, least_of, bound_agrees, low_of, high_of, is_sibling, block_fault}

-- the first of some things
abbrev pub first_item : {A : Type 0} → List A → Option A
first_item [] = None
first_item (x ∷ xs) = Some x

module _ {R K : Type 0} (s : Shape R K) where
  -- each record but the first is lawful behind the one in front of it
  abbrev pub lawful_within : Volume → List R → Bool
  lawful_within v [] = true
  lawful_within v (r ∷ rs) = are_lawful s v (Some r) rs

  -- rule 6, but for the first record of a leaf
  abbrev pub is_ordered_within : Volume → ℕ → List ℕ → Bool
  is_ordered_within v level block =
      if level == 0 then lawful_within v (records_of s block) else ascend_behind s None (lows_of s level block)

  -- the first record of a leaf
  abbrev pub first_of : ℕ → List ℕ → Option R
  first_of level block = if level == 0 then first_item (records_of s block) else None

  -- rules 3 to 5
  unfoldable pub early_fault : Volume → ℕ → Seat K → List ℕ → Option ℕ
  early_fault v level seat block = first_false (
      (3, is_sealed (block_seal v s.layout s.owner seat.place) block)
      ∷ (4, level_of block == level)
      ∷ (5, nat_le (least_of level seat.low) (count_of block) && nat_le (count_of block) (capacity s.layout level))
      ∷ [])

  -- rules 6 to 8, but for the first record of a leaf
  unfoldable pub late_fault : Volume → ℕ → Option ℕ → Option ℕ → Seat K → List ℕ → Option ℕ
  late_fault v level left right seat block = first_false (
      (6, is_ordered_within v level block)
      ∷ (7, bound_agrees s seat.low (low_of s level block) && (not s.layout.high || bound_agrees s seat.high (high_of s level block)))
      ∷ (8, is_sibling v s.layout s.owner left (left_of s.layout block) && is_sibling v s.layout s.owner right (right_of s.layout block))
      ∷ [])

  -- the first rule that a block breaks behind a record, where its own first record and what is wrong with it alone are known
  abbrev pub rule_behind : Volume → Option R → Option R → Option ℕ → Option ℕ
  rule_behind v before None alone = alone
  rule_behind v before (Some first) alone = if s.lawful v before first then alone else Some 6

  -- what a block of a level gives: children, or records
  abbrev pub children_at : Volume → ℕ → List ℕ → List (Seat K)
  children_at v level block = if level == 0 then [] else children_of s v block

  abbrev pub records_at : ℕ → List ℕ → List R
  records_at level block = if level == 0 then records_of s block else []

  -- what is found in a block, whatever stands in front of it
  pub record IsFound (v : Volume) (spot : Spot K) (block : List ℕ) (found : Found R K) : Type 0 where
    pub fault : (before : Option R) → block_fault s v spot.level spot.left spot.right before spot.seat block ≡ rule_behind v before found.first found.alone
    pub children : found.alone ≡ None → found.children.items ≡ children_at v spot.level block
    pub records : found.alone ≡ None → found.records.items ≡ records_at spot.level block
