-- One level more of a tree that is read from its root down, and its end.
use Rattle.std.proofs.Common.{◌≡◌, ℕ, zero, suc, ◌+◌, ◌-◌, ◌≤◌, ◌++◌, List, [], Option, Some, None, Ok, refl, sym, ◌∙◌, ap, arith}
use Rattle.std.specs.List.{flat_map}
use Rattle.xfs_geom.specs.Features.{or_else}
use Rattle.xfs_disk.specs.Blocks.{Image, bytes_of_block}
use Rattle.xfs_geom.specs.Volumes.{Volume}
use Rattle.xfs_tree.specs.declared.seats.Seat.{Seat}
use Rattle.xfs_tree.specs.declared.tree.TreeFault.{TreeFault}
use Rattle.xfs_tree.specs.declared.tree.TreeFault.TheVariants as errors
use Rattle.xfs_tree.specs.declared.unread.Unread.{Unread}
use Rattle.xfs_tree.specs.Shape.{Shape}
use Rattle.xfs_tree.specs.Blocks.{records_of}
use Rattle.xfs_tree.specs.Reading.{Contents, places_of, below, unless, level_row, met_above, fault_above, row_fault, records_under, reading}
use Rattle.xfs_tree.specs.Answers.{Fails, IsFault}
use Rattle.xfs_tree.proofs.Depths.{row_next, row_top, records_from}

-- neither of two is a fault
neither : {A : Type 0} (first later : Option A) → first ≡ None → later ≡ None → or_else first later ≡ None
neither None later none clean = clean
neither (Some fault) later none clean = cc

-- the later of two is the fault where the first is none
second : {A : Type 0} (first later : Option A) (fault : A) → first ≡ None → later ≡ Some fault → or_else first later ≡ Some fault
second None later fault none broken = broken
second (Some other) later fault none broken = cc

first_stays : {A : Type 0} (first later : Option A) (fault : A) → first ≡ Some fault → or_else first later ≡ Some fault
first_stays None later fault broken = cc
first_stays (Some other) later fault broken = broken

module _ {R K : Type 0} (s : Shape R K) (v : Volume) (image : Image) (tops : List (Seat K)) (height : ℕ) where
  -- what is known once the first levels are read
  pub record IsRead (depth : ℕ) (row : List (Seat K)) (met : List ℕ) : Type 0 where
    pub clean : fault_above s v image tops height depth ≡ None
    pub row_is : row ≡ level_row s v image tops depth
    pub met_is : met ≡ met_above s v image tops depth

  -- nothing is read
  pub none_read : IsRead 0 tops []
  unfolding fault_above met_above
  none_read = record { clean = refl; row_is = sym (row_top s v image tops); met_is = refl }

  -- the fault of the level at hand, as it is stated of the first levels
  level_fault : (depth level : ℕ) (row : List (Seat K)) (met : List ℕ) (fault : Option Unread) → level ≡ height - depth → IsRead depth row met
      → row_fault s v image level met None None None row ≡ fault
      → row_fault s v image (height - depth) (met_above s v image tops depth) None None None (level_row s v image tops depth) ≡ fault
  level_fault depth level row met fault at read held =
      ap (λ n. row_fault s v image n (met_above s v image tops depth) None None None (level_row s v image tops depth)) (sym at)
      ∙ ap (λ blocks. row_fault s v image level blocks None None None (level_row s v image tops depth)) (sym read.met_is)
      ∙ ap (λ seats. row_fault s v image level met None None None seats) (sym read.row_is) ∙ held

  -- one level more is read
  pub level_read : (depth deeper level : ℕ) (row next : List (Seat K)) (met met' : List ℕ) → deeper ≡ suc depth → level ≡ height - depth → IsRead depth row met
      → row_fault s v image level met None None None row ≡ None → next ≡ flat_map (below s v image) row → met' ≡ met ++ places_of row
      → IsRead deeper next met'
  unfolding fault_above met_above
  level_read depth deeper level row next met met' one at read clean children more = record {
    clean = ap (fault_above s v image tops height) one
        ∙ neither (fault_above s v image tops height depth) _ read.clean (level_fault depth level row met None at read clean);
    row_is = children ∙ ap (flat_map (below s v image)) read.row_is ∙ sym (row_next s v image tops depth) ∙ ap (level_row s v image tops) (sym one);
    met_is = more ∙ ap (λ blocks. blocks ++ places_of row) read.met_is ∙ ap (λ seats. met_above s v image tops depth ++ places_of seats) read.row_is
        ∙ ap (met_above s v image tops) (sym one);
  }

  -- a fault of the first levels is that of more levels
  fault_stays : (depth more whole : ℕ) (fault : Unread) → whole ≡ depth + more → fault_above s v image tops height depth ≡ Some fault
      → fault_above s v image tops height whole ≡ Some fault
  unfolding fault_above
  fault_stays depth zero whole fault sum broken =
      let same : whole ≡ depth = omega (arith, sum) in
      ap (fault_above s v image tops height) same ∙ broken
  fault_stays depth (suc more) whole fault sum broken =
      let next : whole ≡ suc (depth + more) = omega (arith, sum) in
      ap (fault_above s v image tops height) next
      ∙ first_stays (fault_above s v image tops height (depth + more)) _ fault (fault_stays depth more (depth + more) fault refl broken)

  -- a level that breaks a rule is what reading answers
  pub level_broken : (depth level : ℕ) (row : List (Seat K)) (met : List ℕ) (e : TreeFault) → level ≡ height - depth → depth ≤ height → IsRead depth row met
      → IsFault (row_fault s v image level met None None None row) e → Fails e (reading s v image tops height)
  unfolding fault_above
  level_broken depth level row met (errors.Unread fault) at inside read broken =
      let whole : height + 1 ≡ suc depth + (height - depth) = omega (arith, inside) in
      let deep : fault_above s v image tops height (height + 1) ≡ Some fault = fault_stays (suc depth) (height - depth) (height + 1) fault whole (fault_here fault broken) in
      ap (λ found. unless found (record { records = flat_map (records_under s v image height) tops; blocks = met_above s v image tops (height + 1) })) deep
    where
      fault_here : (fault : Unread) → row_fault s v image level met None None None row ≡ Some fault → fault_above s v image tops height (suc depth) ≡ Some fault
      fault_here fault broken = second (fault_above s v image tops height depth) _ fault read.clean (level_fault depth level row met (Some fault) at read broken)
  level_broken depth level row met errors.ReadFault at inside read broken = broken
  level_broken depth level row met errors.NoMemory at inside read broken = broken

  -- the leaves are read: the tree reads as its records and its blocks
  pub leaves_read : (depth : ℕ) (row : List (Seat K)) (met met' : List ℕ) (records : List R) → depth ≡ height → IsRead depth row met
      → row_fault s v image 0 met None None None row ≡ None → records ≡ flat_map (λ seat. records_of s (bytes_of_block image seat.place)) row → met' ≡ met ++ places_of row
      → reading s v image tops height ≡ Ok (record { records = records; blocks = met' })
  unfolding records_under
  leaves_read depth row met met' records last read clean held more =
      let at : 0 ≡ height - depth = omega (arith, last) in
      let all = level_read depth (suc depth) 0 row (flat_map (below s v image) row) met met' refl at read clean refl more in
      let whole : height + 1 ≡ suc depth = omega (arith, last) in
      let sum : height ≡ 0 + depth = omega (arith, last) in
      let under : records ≡ flat_map (records_under s v image height) tops =
      held ∙ leaves_under row ∙ ap (flat_map (records_under s v image 0)) read.row_is ∙ records_from s v image 0 depth height tops sum in
      let found : Contents R = record { records = flat_map (records_under s v image height) tops; blocks = met_above s v image tops (height + 1) } in
      ap (λ fault. unless fault found) (ap (fault_above s v image tops height) whole ∙ all.clean)
      ∙ ap (λ blocks. Ok (contents (flat_map (records_under s v image height) tops) blocks)) (ap (met_above s v image tops) whole ∙ sym all.met_is)
      ∙ ap (λ items. Ok (contents items met')) (sym under)
    where
      contents : List R → List ℕ → Contents R
      contents items blocks = record { records = items; blocks = blocks }

      leaves_under : (row : List (Seat K)) → flat_map (λ seat. records_of s (bytes_of_block image seat.place)) row ≡ flat_map (records_under s v image 0) row
      leaves_under row = refl
