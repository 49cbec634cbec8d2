-- A tree reads the same from another image that holds its blocks.
use Rattle.std.proofs.Common.{◌≡◌, ℕ, zero, suc, ◌+◌, ◌-◌, ◌==◌, if◌then◌else◌, List, [], ◌∷◌, ◌++◌, Option, Some, None, Result, Ok, refl, sym, ap, ap₂, ◌∙◌, subst, arith}
use Rattle.std.specs.List.{AllByRecursion, flat_map}
use Rattle.std.proofs.lemmas.List.Elements.{recursion_from_All}
use Rattle.xfs_geom.specs.Features.{or_else}
use Rattle.xfs_disk.specs.Blocks.{Image, bytes_of_block}
use Rattle.xfs_geom.specs.Volumes.{Volume}
use Rattle.xfs_tree.specs.Blocks.{children_of, records_of}
use Rattle.xfs_tree.specs.Reading.{Contents, at_block, behind, below, fault_above, met_above, next_of, places_of, reading, records_under, row_fault, level_row, rule_at, unless}
use Rattle.xfs_tree.specs.Rules.{block_fault, last_of, place_fault}
use Rattle.xfs_tree.specs.Shape.{Shape}
use Rattle.xfs_tree.specs.declared.seats.Seat.{Seat}
use Rattle.xfs_tree.specs.declared.unread.Unread.{Unread}
use Rattle.xfs_tree.proofs.Depths.{records_from, row_next, row_top}
use Rattle.xfs_views.specs.Same.{HoldSameBytes}

-- the same by recursion on the blocks
abbrev pub Each : Image → Image → List ℕ → Type 0
Each image now blocks = AllByRecursion (λ block. bytes_of_block now block ≡ bytes_of_block image block) blocks

pub each_front : (image now : Image) (xs ys : List ℕ) → Each image now (xs ++ ys) → Each image now xs
each_front image now [] ys same = tt
each_front image now (x ∷ xs) ys same = (same.0, each_front image now xs ys same.1)

pub each_rest : (image now : Image) (xs ys : List ℕ) → Each image now (xs ++ ys) → Each image now ys
each_rest image now [] ys same = same
each_rest image now (x ∷ xs) ys same = each_rest image now xs ys same.1

-- what has read has no fault
has_read : {A E : Type 0} (fault : Option E) (value due : A) → unless fault value ≡ Ok due → (fault ≡ None) × (value ≡ due)
has_read None value due reads = (refl, cc)
has_read (Some fault) value due reads = absurd cc

abbrev held : {R : Type 0} → List R → List ℕ → Contents R
held records blocks = record { records = records; blocks = blocks }

abbrev answer : {R : Type 0} → Contents R → Result (Contents R) Unread
answer tree = Ok tree

module _ {R K : Type 0} (s : Shape R K) (v : Volume) (image now : Image) where
  -- the children of the blocks of a row, and the records of leaves
  children_stay : (row : List (Seat K)) → Each image now (places_of row) → flat_map (below s v now) row ≡ flat_map (below s v image) row
  children_stay [] same = refl
  children_stay (seat ∷ row) same =
      ap₂ (λ (bytes : List ℕ) (rest : List (Seat K)). children_of s v bytes ++ rest) same.0 (children_stay row same.1)

  leaves_stay : (row : List (Seat K)) → Each image now (places_of row) → flat_map (records_under s v now zero) row ≡ flat_map (records_under s v image zero) row
  unfolding records_under
  leaves_stay [] same = refl
  leaves_stay (seat ∷ row) same =
      ap₂ (λ (bytes : List ℕ) (rest : List R). records_of s bytes ++ rest) same.0 (leaves_stay row same.1)

  -- the blocks above the next level are those above this one, and those of this one
  above : (tops : List (Seat K)) (depth : ℕ) → Each image now (met_above s v image tops (suc depth)) → Each image now (met_above s v image tops depth)
  unfolding met_above
  above tops depth same = each_front image now (met_above s v image tops depth) (places_of (level_row s v image tops depth)) same

  here : (tops : List (Seat K)) (depth : ℕ) → Each image now (met_above s v image tops (suc depth)) → Each image now (places_of (level_row s v image tops depth))
  unfolding met_above
  here tops depth same = each_rest image now (met_above s v image tops depth) (places_of (level_row s v image tops depth)) same

  row_stays : (tops : List (Seat K)) (depth : ℕ) → Each image now (met_above s v image tops depth) → level_row s v now tops depth ≡ level_row s v image tops depth
  row_stays tops zero same = row_top s v now tops ∙ sym (row_top s v image tops)
  row_stays tops (suc depth) same =
      row_next s v now tops depth
      ∙ ap (flat_map (below s v now)) (row_stays tops depth (above tops depth same))
      ∙ children_stay (level_row s v image tops depth) (here tops depth same)
      ∙ sym (row_next s v image tops depth)

  met_stays : (tops : List (Seat K)) (depth : ℕ) → Each image now (met_above s v image tops depth) → met_above s v now tops depth ≡ met_above s v image tops depth
  unfolding met_above
  met_stays tops zero same = refl
  met_stays tops (suc depth) same =
      let before = above tops depth same in
      ap₂ (λ (met : List ℕ) (row : List (Seat K)). met ++ places_of row) (met_stays tops depth before) (row_stays tops depth before)

  -- the first rule that a row breaks, if any
  fault_stays : (level : ℕ) (met : List ℕ) (left right : Option ℕ) (before : Option R) (row : List (Seat K)) → Each image now (places_of row)
      → row_fault s v now level met left right before row ≡ row_fault s v image level met left right before row
  unfolding row_fault
  fault_stays level met left right before [] same = refl
  fault_stays level met left right before (seat ∷ row) same =
      ap (λ (bytes : List ℕ). at_block seat.place
      (or_else (place_fault s v met seat.place) (block_fault s v level left (next_of right row) before seat bytes))
      (row_fault s v now level (met ++ seat.place ∷ []) (Some seat.place) right (if level == 0 then last_of before (records_of s bytes) else before) row)) same.0
      ∙ ap (λ (later : Option Unread). at_block seat.place (rule_at s v image level met left (next_of right row) before seat) later)
      (fault_stays level (met ++ seat.place ∷ []) (Some seat.place) right (behind s v image level before seat) row same.1)

  faults_stay : (tops : List (Seat K)) (height depth : ℕ) → Each image now (met_above s v image tops depth) → fault_above s v now tops height depth ≡ fault_above s v image tops height depth
  unfolding fault_above
  faults_stay tops height zero same = refl
  faults_stay tops height (suc depth) same =
      let before = above tops depth same in
      let row : row_fault s v now (height - depth) (met_above s v now tops depth) None None None (level_row s v now tops depth)
      ≡ row_fault s v image (height - depth) (met_above s v image tops depth) None None None (level_row s v image tops depth) =
      ap₂ (λ (met : List ℕ) (row : List (Seat K)). row_fault s v now (height - depth) met None None None row) (met_stays tops depth before) (row_stays tops depth before)
      ∙ fault_stays (height - depth) (met_above s v image tops depth) None None None (level_row s v image tops depth) (here tops depth same) in
      ap₂ (λ (first later : Option Unread). or_else first later) (faults_stay tops height depth before) row

  records_stay : (tops : List (Seat K)) (height : ℕ) → Each image now (met_above s v image tops (suc height))
      → flat_map (records_under s v now height) tops ≡ flat_map (records_under s v image height) tops
  records_stay tops height same =
      sym (records_from s v now zero height height tops (omega arith))
      ∙ ap (flat_map (records_under s v now zero)) (row_stays tops height (above tops height same))
      ∙ leaves_stay (level_row s v image tops height) (here tops height same)
      ∙ records_from s v image zero height height tops (omega arith)

  pub tree_kept : (tops : List (Seat K)) (height : ℕ) (tree : Contents R) → reading s v image tops height ≡ Ok tree → Each image now tree.blocks → reading s v now tops height ≡ Ok tree
  tree_kept tops height tree reads same =
      let due : List R = flat_map (records_under s v image height) tops in
      let blocks : List ℕ = met_above s v image tops (height + 1) in
      let read = has_read (fault_above s v image tops height (height + 1)) (held due blocks) tree reads in
      let all : Each image now blocks = subst (λ (t : Contents R). Each image now t.blocks) (sym read.1) same in
      let next : height + 1 ≡ suc height = omega arith in
      let none : fault_above s v now tops height (height + 1) ≡ None = faults_stay tops height (height + 1) all ∙ read.0 in
      let records = records_stay tops height (subst (λ (n : ℕ). Each image now (met_above s v image tops n)) next all) in
      ap (λ (fault : Option Unread). unless fault (held (flat_map (records_under s v now height) tops) (met_above s v now tops (height + 1)))) none
      ∙ ap₂ (λ (rs : List R) (bs : List ℕ). answer (held rs bs)) records (met_stays tops (height + 1) all)
      ∙ ap (λ (t : Contents R). answer t) read.1

  pub tree_stays : (tops : List (Seat K)) (height : ℕ) (tree : Contents R) → reading s v image tops height ≡ Ok tree → HoldSameBytes image now tree.blocks → reading s v now tops height ≡ Ok tree
  tree_stays tops height tree reads same =
      tree_kept tops height tree reads (recursion_from_All (λ (block : ℕ). bytes_of_block now block ≡ bytes_of_block image block) tree.blocks same)

  -- what reads, or the first fault, is the same where all levels are
  pub reading_stays : (tops : List (Seat K)) (height : ℕ) → Each image now (met_above s v image tops (height + 1)) → reading s v now tops height ≡ reading s v image tops height
  reading_stays tops height same =
      let next : height + 1 ≡ suc height = omega arith in
      let fault : fault_above s v now tops height (height + 1) ≡ fault_above s v image tops height (height + 1) = faults_stay tops height (height + 1) same in
      let records = records_stay tops height (subst (λ (n : ℕ). Each image now (met_above s v image tops n)) next same) in
      let blocks : met_above s v now tops (height + 1) ≡ met_above s v image tops (height + 1) = met_stays tops (height + 1) same in
      λ i. unless (fault i) (held (records i) (blocks i))
