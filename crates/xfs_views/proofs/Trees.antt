-- The records of a tree that reads are lawful in order, and each of its blocks can be one of the tree.
use Rattle.std.proofs.Common.{◌≡◌, ℕ, zero, suc, ◌+◌, ◌-◌, Bool, true, false, ◌==◌, ◌&&◌, nat_le, if◌then◌else◌, List, [], ◌∷◌, ◌++◌, Option, Some, None, Ok, refl, sym, ap, ◌∙◌, subst, arith}
use Rattle.std.specs.List.{flat_map, list_all}
use Rattle.std.proofs.lemmas.Bool.{and_parts, and_from}
use Rattle.std.proofs.lemmas.List.Folds.{list_all-append}
use Rattle.xfs_geom.specs.Features.{or_else}
use Rattle.xfs_disk.specs.Blocks.{Image, bytes_of_block}
use Rattle.xfs_word.specs.Seal.{is_sealed}
use Rattle.xfs_geom.specs.Volumes.{Volume}
use Rattle.xfs_tree.specs.Blocks.{level_of, count_of, capacity, records_of}
use Rattle.xfs_tree.specs.Reading.{Contents, at_block, behind, fault_above, met_above, next_of, places_of, reading, records_under, row_fault, level_row, rule_at, unless}
use Rattle.xfs_tree.specs.Rules.{are_lawful, block_fault, block_seal, can_hold, is_ordered, last_of, least_of, place_fault}
use Rattle.xfs_tree.specs.Shape.{Shape}
use Rattle.xfs_tree.specs.declared.seats.Seat.{Seat}
use Rattle.xfs_tree.specs.declared.unread.Unread.{Unread}
use Rattle.xfs_tree.proofs.Depths.{records_from}

-- where no test fails, the first passes and so do the rest
passes : (b : Bool) (number : ℕ) (rest : Option ℕ) → (if b then rest else Some number) ≡ None → (b ≡ true) × (rest ≡ None)
passes true number rest clean = (refl, clean)
passes false number rest clean = absurd cc

no_fault : (block : ℕ) (rule : Option ℕ) (later : Option Unread) → at_block block rule later ≡ None → (rule ≡ None) × (later ≡ None)
no_fault block None later clean = (refl, clean)
no_fault block (Some rule) later clean = absurd cc

neither : {A : Type 0} (first later : Option A) → or_else first later ≡ None → (first ≡ None) × (later ≡ None)
neither None later clean = (refl, clean)
neither (Some fault) later clean = absurd cc

-- what is read has no fault, and is the value
read_is : {A E : Type 0} (fault : Option E) (value due : A) → unless fault value ≡ Ok due → (fault ≡ None) × (value ≡ due)
read_is None value due reads = (refl, cc)
read_is (Some fault) value due reads = absurd cc

module _ {R K : Type 0} (s : Shape R K) (v : Volume) (image : Image) where
  -- a leaf that breaks no rule has lawful records
  ordered : (left right : Option ℕ) (before : Option R) (seat : Seat K) (block : List ℕ) → block_fault s v 0 left right before seat block ≡ None
      → are_lawful s v before (records_of s block) ≡ true
  unfolding block_fault
  ordered left right before seat block clean =
      let sealed = passes (is_sealed (block_seal v s.layout s.owner seat.place) block) 3 _ clean in
      let level = passes (level_of block == 0) 4 _ sealed.1 in
      let count = passes (nat_le (least_of 0 seat.low) (count_of block) && nat_le (count_of block) (capacity s.layout 0)) 5 _ level.1 in
      (passes (is_ordered s v 0 before block) 6 _ count.1).0

  joined : (before : Option R) (xs ys : List R) → are_lawful s v before xs ≡ true → are_lawful s v (last_of before xs) ys ≡ true
      → are_lawful s v before (xs ++ ys) ≡ true
  joined before [] ys front rest = rest
  joined before (x ∷ xs) ys front rest =
      let parts = and_parts (s.lawful v before x) (are_lawful s v (Some x) xs) front in
      and_from (s.lawful v before x) (are_lawful s v (Some x) (xs ++ ys)) parts.0 (joined (Some x) xs ys parts.1 rest)

  -- what the first block of a row that breaks no rule keeps, and what those behind it keep
  record IsClean (level : ℕ) (met : List ℕ) (left right : Option ℕ) (before : Option R) (seat : Seat K) (row : List (Seat K)) : Type 0 where
    placed : place_fault s v met seat.place ≡ None
    kept : block_fault s v level left (next_of right row) before seat (bytes_of_block image seat.place) ≡ None
    rest : row_fault s v image level (met ++ seat.place ∷ []) (Some seat.place) right (behind s v image level before seat) row ≡ None

  clean_parts : (level : ℕ) (met : List ℕ) (left right : Option ℕ) (before : Option R) (seat : Seat K) (row : List (Seat K))
      → row_fault s v image level met left right before (seat ∷ row) ≡ None → IsClean level met left right before seat row
  unfolding row_fault
  clean_parts level met left right before seat row clean =
      let both = no_fault seat.place (rule_at s v image level met left (next_of right row) before seat) _ clean in
      let rules = neither (place_fault s v met seat.place) _ both.0 in
      record { placed = rules.0; kept = rules.1; rest = both.1 }

  row_lawful : (met : List ℕ) (left right : Option ℕ) (before : Option R) (row : List (Seat K)) → row_fault s v image 0 met left right before row ≡ None
      → are_lawful s v before (flat_map (records_under s v image 0) row) ≡ true
  unfolding records_under
  row_lawful met left right before [] clean = refl
  row_lawful met left right before (seat ∷ row) clean =
      let is = clean_parts 0 met left right before seat row clean in
      joined before (records_of s (bytes_of_block image seat.place)) (flat_map (records_under s v image 0) row)
      (ordered left (next_of right row) before seat (bytes_of_block image seat.place) is.kept)
      (row_lawful (met ++ seat.place ∷ []) (Some seat.place) right (last_of before (records_of s (bytes_of_block image seat.place))) row is.rest)

  row_placed : (level : ℕ) (met : List ℕ) (left right : Option ℕ) (before : Option R) (row : List (Seat K)) → row_fault s v image level met left right before row ≡ None
      → list_all (can_hold v s.layout s.owner) (places_of row) ≡ true
  row_placed level met left right before [] clean = refl
  row_placed level met left right before (seat ∷ row) clean =
      let is = clean_parts level met left right before seat row clean in
      let first = passes (can_hold v s.layout s.owner seat.place) 1 _ is.placed in
      and_from (can_hold v s.layout s.owner seat.place) (list_all (can_hold v s.layout s.owner) (places_of row)) first.0
      (row_placed level (met ++ seat.place ∷ []) (Some seat.place) right (behind s v image level before seat) row is.rest)

  -- the levels above, and the next one
  levels_clean : (tops : List (Seat K)) (height depth : ℕ) → fault_above s v image tops height (suc depth) ≡ None
      → (fault_above s v image tops height depth ≡ None)
      × (row_fault s v image (height - depth) (met_above s v image tops depth) None None None (level_row s v image tops depth) ≡ None)
  unfolding fault_above
  levels_clean tops height depth clean = neither (fault_above s v image tops height depth) _ clean

  levels_placed : (tops : List (Seat K)) (height depth : ℕ) → fault_above s v image tops height depth ≡ None
      → list_all (can_hold v s.layout s.owner) (met_above s v image tops depth) ≡ true
  unfolding met_above
  levels_placed tops height zero clean = refl
  levels_placed tops height (suc depth) clean =
      let both = levels_clean tops height depth clean in
      list_all-append (can_hold v s.layout s.owner) (met_above s v image tops depth) (places_of (level_row s v image tops depth))
      ∙ and_from (list_all (can_hold v s.layout s.owner) (met_above s v image tops depth)) _ (levels_placed tops height depth both.0)
      (row_placed (height - depth) (met_above s v image tops depth) None None None (level_row s v image tops depth) both.1)

  no_fault_above : (tops : List (Seat K)) (height : ℕ) (tree : Contents R) → reading s v image tops height ≡ Ok tree
      → (fault_above s v image tops height (height + 1) ≡ None)
      × (record { records = flat_map (records_under s v image height) tops; blocks = met_above s v image tops (height + 1) } ≡ tree)
  no_fault_above tops height tree reads = read_is (fault_above s v image tops height (height + 1)) _ tree reads

  pub records_lawful : (tops : List (Seat K)) (height : ℕ) (tree : Contents R) → reading s v image tops height ≡ Ok tree
      → are_lawful s v None tree.records ≡ true
  records_lawful tops height tree reads =
      let read = no_fault_above tops height tree reads in
      let more : height + 1 ≡ suc height = omega arith in
      let none : height - height ≡ 0 = omega arith in
      let row = (levels_clean tops height height (ap (fault_above s v image tops height) (sym more) ∙ read.0)).1 in
      let leaves = ap (λ (n : ℕ). row_fault s v image n (met_above s v image tops height) None None None (level_row s v image tops height)) (sym none) ∙ row in
      let lawful = row_lawful (met_above s v image tops height) None None None (level_row s v image tops height) leaves in
      let under = records_from s v image 0 height height tops (omega arith) in
      subst (λ (t : Contents R). are_lawful s v None t.records ≡ true) read.1 (subst (λ (rs : List R). are_lawful s v None rs ≡ true) under lawful)

  pub blocks_placed : (tops : List (Seat K)) (height : ℕ) (tree : Contents R) → reading s v image tops height ≡ Ok tree
      → list_all (can_hold v s.layout s.owner) tree.blocks ≡ true
  blocks_placed tops height tree reads =
      let read = no_fault_above tops height tree reads in
      subst (λ (t : Contents R). list_all (can_hold v s.layout s.owner) t.blocks ≡ true) read.1 (levels_placed tops height (height + 1) read.0)
