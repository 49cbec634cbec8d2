-- What is wrong with a block behind a record, from what is wrong with it alone and its first record.
use Rattle.std.proofs.Common.{◌≡◌, ℕ, ◌==◌, ◌&&◌, ◌||◌, not, nat_le, Bool, true, false, if◌then◌else◌, List, [], ◌∷◌, Option, Some, None, refl, sym, ◌∙◌, ap}
use Rattle.xfs_word.specs.Seal.{is_sealed}
use Rattle.xfs_geom.specs.Features.{or_else}
use Rattle.xfs_geom.specs.First.{first_false}
use Rattle.xfs_geom.specs.Volumes.{Volume}
use Rattle.xfs_tree.specs.declared.seats.Seat.{Seat}
use Rattle.xfs_tree.specs.Shape.{Shape}
use Rattle.xfs_tree.specs.Blocks.{level_of, count_of, left_of, right_of, capacity, records_of, lows_of}
use Rattle.xfs_tree.specs.Rules.{are_lawful, ascend_behind, block_seal, least_of, bound_agrees, is_ordered, low_of, high_of, is_sibling, block_fault}
use Rattle.xfs_tree.specs.Alone.{early_fault, first_item, first_of, late_fault, lawful_within, rule_behind}

-- three tests, then three more
six : (t3 t4 t5 t6 t7 t8 : Bool) → first_false ((3, t3) ∷ (4, t4) ∷ (5, t5) ∷ (6, t6) ∷ (7, t7) ∷ (8, t8) ∷ [])
    ≡ or_else (first_false ((3, t3) ∷ (4, t4) ∷ (5, t5) ∷ [])) (first_false ((6, t6) ∷ (7, t7) ∷ (8, t8) ∷ []))
six false t4 t5 t6 t7 t8 = refl
six true false t5 t6 t7 t8 = refl
six true true false t6 t7 t8 = refl
six true true true t6 t7 t8 = refl

-- a test of two
both : (first within t7 t8 : Bool) → first_false ((6, first && within) ∷ (7, t7) ∷ (8, t8) ∷ [])
    ≡ (if first then first_false ((6, within) ∷ (7, t7) ∷ (8, t8) ∷ []) else Some 6)
both true within t7 t8 = refl
both false within t7 t8 = refl

module _ {R K : Type 0} (s : Shape R K) (v : Volume) (before : Option R) where
  -- the order of a row of records behind another
  order_behind : (leaf ascends t7 t8 : Bool) (records : List R)
      → first_false ((6, if leaf then are_lawful s v before records else ascends) ∷ (7, t7) ∷ (8, t8) ∷ [])
      ≡ rule_behind s v before (if leaf then first_item records else None)
      (first_false ((6, if leaf then lawful_within s v records else ascends) ∷ (7, t7) ∷ (8, t8) ∷ []))
  order_behind false ascends t7 t8 records = refl
  order_behind true ascends t7 t8 [] = refl
  order_behind true ascends t7 t8 (r ∷ rs) = both (s.lawful v before r) (are_lawful s v (Some r) rs) t7 t8

  -- the first three rules of a block's bytes, then the others
  pub in_two : (level : ℕ) (left right : Option ℕ) (seat : Seat K) (block : List ℕ)
      → block_fault s v level left right before seat block
      ≡ or_else (early_fault s v level seat block) (first_false (
      (6, is_ordered s v level before block)
      ∷ (7, bound_agrees s seat.low (low_of s level block) && (not s.layout.high || bound_agrees s seat.high (high_of s level block)))
      ∷ (8, is_sibling v s.layout s.owner left (left_of s.layout block) && is_sibling v s.layout s.owner right (right_of s.layout block))
      ∷ []))
  unfolding block_fault early_fault
  in_two level left right seat block =
      six (is_sealed (block_seal v s.layout s.owner seat.place) block) (level_of block == level)
      (nat_le (least_of level seat.low) (count_of block) && nat_le (count_of block) (capacity s.layout level))
      (is_ordered s v level before block)
      (bound_agrees s seat.low (low_of s level block) && (not s.layout.high || bound_agrees s seat.high (high_of s level block)))
      (is_sibling v s.layout s.owner left (left_of s.layout block) && is_sibling v s.layout s.owner right (right_of s.layout block))

  pub fault_behind : (level : ℕ) (left right : Option ℕ) (seat : Seat K) (block : List ℕ)
      → block_fault s v level left right before seat block
      ≡ or_else (early_fault s v level seat block) (rule_behind s v before (first_of s level block) (late_fault s v level left right seat block))
  unfolding block_fault early_fault late_fault
  fault_behind level left right seat block =
      let keys = bound_agrees s seat.low (low_of s level block) && (not s.layout.high || bound_agrees s seat.high (high_of s level block)) in
      let siblings = is_sibling v s.layout s.owner left (left_of s.layout block) && is_sibling v s.layout s.owner right (right_of s.layout block) in
      let leaf = level == 0 in
      six (is_sealed (block_seal v s.layout s.owner seat.place) block) (level_of block == level)
      (nat_le (least_of level seat.low) (count_of block) && nat_le (count_of block) (capacity s.layout level))
      (if leaf then are_lawful s v before (records_of s block) else ascend_behind s None (lows_of s level block)) keys siblings
      ∙ ap (or_else (early_fault s v level seat block)) (order_behind leaf (ascend_behind s None (lows_of s level block)) keys siblings (records_of s block))

  -- a rule that is broken early is broken behind each record
  pub early_behind : (level : ℕ) (left right : Option ℕ) (seat : Seat K) (block : List ℕ) (rule : ℕ) (early : Option ℕ) → early ≡ Some rule → early ≡ early_fault s v level seat block
      → block_fault s v level left right before seat block ≡ rule_behind s v before None (Some rule)
  early_behind level left right seat block rule early is value =
      fault_behind level left right seat block
      ∙ ap (λ (o : Option ℕ). or_else o (rule_behind s v before (first_of s level block) (late_fault s v level left right seat block))) (sym value ∙ is)

  -- without one it is judged by its first record and what comes later
  pub late_behind : (level : ℕ) (left right : Option ℕ) (seat : Seat K) (block : List ℕ) (early late : Option ℕ) (first : Option R) → early ≡ None → early ≡ early_fault s v level seat block
      → first ≡ first_of s level block → late ≡ late_fault s v level left right seat block
      → block_fault s v level left right before seat block ≡ rule_behind s v before first late
  late_behind level left right seat block early late first none value is later =
      fault_behind level left right seat block
      ∙ ap (λ (o : Option ℕ). or_else o (rule_behind s v before (first_of s level block) (late_fault s v level left right seat block))) (sym value ∙ none)
      ∙ (λ i. rule_behind s v before (sym is i) (sym later i))

  -- a block that breaks no rule behind a record breaks none alone
  pub alone_clean : (first : Option R) (alone : Option ℕ) → rule_behind s v before first alone ≡ None → alone ≡ None
  alone_clean None alone clean = clean
  alone_clean (Some first) alone clean = passed (s.lawful v before first) alone clean
    where
      passed : (test : Bool) (alone : Option ℕ) → (if test then alone else Some 6) ≡ None → alone ≡ None
      passed true alone clean = clean
      passed false alone clean = cc
