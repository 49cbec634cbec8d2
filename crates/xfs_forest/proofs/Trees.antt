-- Trees whose reading is under way: one block taken, joined or refused, and one level more.
use Rattle.std.proofs.Common.{◌≡◌, ℕ, zero, suc, ◌+◌, ◌<◌, ◌==◌, Bool, true, false, if◌then◌else◌, List, [], ◌∷◌, ◌++◌, drop, length, get_or, Option, Some, None, Result, Ok, Err, IfOk, ◌⊎◌, inl, inr, refl, sym, ◌∙◌, ap, subst, arith}
use Rattle.std.proofs.lemmas.Bool.Decides.{nat_tests}
use Rattle.std.proofs.lemmas.Bool.{cases_lt}
use Rattle.std.proofs.lemmas.List.{get_or_append_left, get_or_push, length-append, map-append}
use Rattle.std.specs.Option.{is_some}
use Rattle.xfs_disk.specs.Blocks.{Image, bytes_of_block}
use Rattle.xfs_geom.specs.Volumes.{Volume}
use Rattle.xfs_forest.specs.declared.cells.Cell.{Cell}
use Rattle.xfs_tree.specs.declared.stepping.Found.{Found}
use Rattle.xfs_tree.specs.declared.stepping.Spot.{Spot}
use Rattle.xfs_forest.specs.declared.growing.Growing.{Growing}
use Rattle.xfs_tree.specs.declared.seats.Seat.{Seat}
use Rattle.xfs_tree.specs.declared.unread.Unread.{Unread}
use Rattle.xfs_tree.specs.Shape.{Shape}
use Rattle.xfs_tree.specs.Rules.{last_of, place_fault}
use Rattle.xfs_tree.specs.Reading.{Contents}
use Rattle.xfs_tree.specs.Alone.{rule_behind, IsFound}
use Rattle.xfs_forest.specs.Forest.{spot_in, spots_of, of_tree, GrowsBy, IsDescended, IsDone, IsGrowing, IsJoined, IsLive, IsPassed, IsSpotAt, IsTaken, IsThrough, AreListed}
use Rattle.xfs_forest.proofs.Growth.{live_broken, live_descends, live_ends, live_joined, live_stopped, live_taken}
use Rattle.xfs_tree.proofs.RowSteps.{none_left}

-- the last of some records by its place
pub last_at : {R : Type 0} (before : Option R) (xs : List R) (x : R) (n : ℕ) → length xs ≡ n + 1 → x ≡ get_or xs n x → last_of before xs ≡ Some x
last_at before [] x n size value = absurd (omega (arith, size))
last_at before (y ∷ []) x zero size value = ap Some (sym value)
last_at before (y ∷ z ∷ zs) x zero size value = absurd (omega (arith, size))
last_at before (y ∷ ys) x (suc n) size value = last_at (Some y) ys x n (omega (arith, size)) value

-- what is known of a tree that has no fault, and of one that may have one
pub grows_live : {R : Type 0} (fault : Option Unread) (whole : Result (Contents R) Unread) (live : Type 0) → fault ≡ None → GrowsBy fault whole live → live
grows_live None whole live none grows = grows
grows_live (Some fault) whole live none grows = cc

pub grows_map : {R : Type 0} (fault fault' : Option Unread) (whole : Result (Contents R) Unread) (live live' : Type 0) → fault' ≡ fault → (live → live')
    → GrowsBy fault whole live → GrowsBy fault' whole live'
grows_map None fault' whole live live' same step grows = subst (λ (o : Option Unread). GrowsBy o whole live') (sym same) (step grows)
grows_map (Some fault) fault' whole live live' same step grows = subst (λ (o : Option Unread). GrowsBy o whole live') (sym same) grows

pub grows_map_none : {R : Type 0} (fault fault' : Option Unread) (whole : Result (Contents R) Unread) (live live' : Type 0) → fault' ≡ fault → (fault ≡ None → live → live')
    → GrowsBy fault whole live → GrowsBy fault' whole live'
grows_map_none None fault' whole live live' same step grows = subst (λ (o : Option Unread). GrowsBy o whole live') (sym same) (step refl grows)
grows_map_none (Some fault) fault' whole live live' same step grows = subst (λ (o : Option Unread). GrowsBy o whole live') (sym same) grows

-- of what was found, that it was found
found_is : {A E : Type 0} (result : Result A E) (P : A → Type 0) (found : A) → result ≡ Ok found → IfOk result P → P found
found_is result P found is held = subst (λ (r : Result _ _). IfOk r P) is held

-- blocks of one tree, one block more
same_tree : (m n : ℕ) → m ≡ n → (m == n) ≡ true
same_tree m n same = grind (arith, nat_tests, same)

other_tree : (m n : ℕ) → (m ≡ n → ⊥) → (m == n) ≡ false
other_tree m n other = elim (cases m n) [ inl same ↦ absurd (other same) | inr differ ↦ differ ]
  where
    cases : (m n : ℕ) → (m ≡ n) ⊎ ((m == n) ≡ false)
    cases m n = by_test (m == n) refl
      where
        by_test : (test : Bool) → (m == n) ≡ test → (m ≡ n) ⊎ ((m == n) ≡ false)
        by_test true is = inl (grind (arith, nat_tests, is))
        by_test false is = inr is

pushed_if : {A : Type 0} (test : Bool) (x y : A) (xs : List A) → (if test then x ∷ (xs ++ y ∷ []) else (xs ++ y ∷ [])) ≡ (if test then x ∷ xs else xs) ++ y ∷ []
pushed_if true x y xs = refl
pushed_if false x y xs = refl

pub of_tree_more : {K : Type 0} (t : ℕ) (spots : List (Spot K)) (spot : Spot K) → spot.tree ≡ t → of_tree t (spots ++ spot ∷ []) ≡ of_tree t spots ++ spot ∷ []
of_tree_more t [] spot same = ap (λ (test : Bool). if test then spot ∷ [] else []) (same_tree spot.tree t same)
of_tree_more t (one ∷ spots) spot same =
    ap (λ (rest : List (Spot _)). if one.tree == t then one ∷ rest else rest) (of_tree_more t spots spot same)
    ∙ pushed_if (one.tree == t) one spot (of_tree t spots)

pub of_tree_other : {K : Type 0} (t : ℕ) (spots : List (Spot K)) (spot : Spot K) → (spot.tree ≡ t → ⊥) → of_tree t (spots ++ spot ∷ []) ≡ of_tree t spots
of_tree_other t [] spot other = ap (λ (test : Bool). if test then spot ∷ [] else []) (other_tree spot.tree t other)
of_tree_other t (one ∷ spots) spot other = ap (λ (rest : List (Spot _)). if one.tree == t then one ∷ rest else rest) (of_tree_other t spots spot other)

-- the first of some blocks is its tree's first, and none of another tree
pub of_tree_first : {K : Type 0} (t : ℕ) (spot : Spot K) (spots : List (Spot K)) → spot.tree ≡ t → of_tree t (spot ∷ spots) ≡ spot ∷ of_tree t spots
of_tree_first t spot spots same = ap (λ (test : Bool). if test then spot ∷ of_tree t spots else of_tree t spots) (same_tree spot.tree t same)

pub of_tree_passed : {K : Type 0} (t : ℕ) (spot : Spot K) (spots : List (Spot K)) → (spot.tree ≡ t → ⊥) → of_tree t (spot ∷ spots) ≡ of_tree t spots
of_tree_passed t spot spots other = ap (λ (test : Bool). if test then spot ∷ of_tree t spots else of_tree t spots) (other_tree spot.tree t other)

module _ {R K : Type 0} (s : Shape R K) (v : Volume) (image : Image) (whole : Result (Contents R) Unread) where
  -- what is known, of the same things named otherwise
  pub live_same : (level level' : ℕ) (blocks blocks' : List ℕ) (side side' : Option ℕ) (before before' : Option R) (rest rest' next next' : List (Seat K)) (records records' : List R)
      (spots spots' : List (Spot K)) → level' ≡ level → blocks' ≡ blocks → side' ≡ side → before' ≡ before → rest' ≡ rest → next' ≡ next → records' ≡ records → spots' ≡ spots
      → IsLive s v image whole level blocks side before rest next records spots → IsLive s v image whole level' blocks' side' before' rest' next' records' spots'
  live_same level level' blocks blocks' side side' before before' rest rest' next next' records records' spots spots' a b c d e f g h live =
      subst (λ (n : ℕ). IsLive s v image whole n blocks' side' before' rest' next' records' spots') (sym a)
      (subst (λ (x : List ℕ). IsLive s v image whole level x side' before' rest' next' records' spots') (sym b)
      (subst (λ (x : Option ℕ). IsLive s v image whole level blocks x before' rest' next' records' spots') (sym c)
      (subst (λ (x : Option R). IsLive s v image whole level blocks side x rest' next' records' spots') (sym d)
      (subst (λ (x : List (Seat K)). IsLive s v image whole level blocks side before x next' records' spots') (sym e)
      (subst (λ (x : List (Seat K)). IsLive s v image whole level blocks side before rest x records' spots') (sym f)
      (subst (λ (x : List R). IsLive s v image whole level blocks side before rest next x spots') (sym g)
      (subst (λ (x : List (Spot K)). IsLive s v image whole level blocks side before rest next records x) (sym h) live)))))))

  -- a block that was judged breaks a rule
  pub growing_broken : (tree : Growing R K) (cell : Cell R K) (found : Found R K) (spots : List (Spot K)) (rule : ℕ) → tree.fault ≡ None → cell.found ≡ Ok found
      → rule_behind s v tree.before found.first found.alone ≡ Some rule → IfOk cell.found (IsFound s v cell.spot (bytes_of_block image cell.spot.seat.place))
      → IsGrowing s v image whole tree (cell.spot ∷ spots) → whole ≡ Err (record { block = cell.spot.seat.place; rule = rule })
  growing_broken tree cell found spots rule none is broken judged growing =
      live_broken s v image whole tree.level tree.met.blocks.items tree.side tree.before (drop tree.at tree.row.items) tree.next.items tree.records.items cell.spot spots found rule
      (found_is cell.found (IsFound s v cell.spot (bytes_of_block image cell.spot.seat.place)) found is judged) broken
      (grows_live tree.fault whole (IsLive s v image whole tree.level tree.met.blocks.items tree.side tree.before (drop tree.at tree.row.items) tree.next.items tree.records.items (cell.spot ∷ spots)) none growing)

  -- a block that was judged is joined
  pub growing_joined : (old new : Growing R K) (cell : Cell R K) (found : Found R K) (spots : List (Spot K)) → cell.found ≡ Ok found
      → rule_behind s v old.before found.first found.alone ≡ None → IsJoined old new found → IfOk cell.found (IsFound s v cell.spot (bytes_of_block image cell.spot.seat.place))
      → IsGrowing s v image whole old (cell.spot ∷ spots) → IsGrowing s v image whole new spots
  growing_joined old new cell found spots is clean joined judged growing =
      grows_map old.fault new.fault whole (IsLive s v image whole old.level old.met.blocks.items old.side old.before (drop old.at old.row.items) old.next.items old.records.items (cell.spot ∷ spots))
      (IsLive s v image whole new.level new.met.blocks.items new.side new.before (drop new.at new.row.items) new.next.items new.records.items spots) joined.fault
      (λ live. live_same old.level new.level old.met.blocks.items new.met.blocks.items old.side new.side (last_of old.before found.records.items) new.before
      (drop old.at old.row.items) (drop new.at new.row.items) (old.next.items ++ found.children.items) new.next.items (old.records.items ++ found.records.items) new.records.items spots spots
      joined.kept.level (λ i. (joined.kept.met i).blocks.items) joined.side joined.before (λ i. drop (joined.kept.at i) (joined.kept.row i)) joined.next joined.records refl
      (live_joined s v image whole old.level old.met.blocks.items old.side old.before (drop old.at old.row.items) old.next.items old.records.items cell.spot spots found
      (found_is cell.found (IsFound s v cell.spot (bytes_of_block image cell.spot.seat.place)) found is judged) clean live)) growing

  -- the next block is taken
  pub growing_taken : (number : ℕ) (seat : Seat K) (old new : Growing R K) (before after : List (Cell R K)) → IsTaken number seat old new before after
      → drop old.at old.row.items ≡ seat ∷ drop (old.at + 1) old.row.items → place_fault s v old.met.blocks.items seat.place ≡ None
      → IsGrowing s v image whole old (of_tree number (spots_of before)) → IsGrowing s v image whole new (of_tree number (spots_of after))
  growing_taken number seat old new before after taken split clean growing =
      let spot : Spot K = spot_in number (length before) old seat in
      let rest : List (Seat K) = drop (old.at + 1) old.row.items in
      let spots : List (Spot K) = of_tree number (spots_of before) in
      let more : of_tree number (spots_of after) ≡ spots ++ spot ∷ []
      = ap (λ (cells : List (Cell R K)). of_tree number (spots_of cells)) taken.added
      ∙ ap (of_tree number) (map-append (λ (cell : Cell R K). cell.spot) before (taken.cell ∷ []))
      ∙ ap (λ (one : Spot K). of_tree number (spots_of before ++ one ∷ [])) taken.spot
      ∙ of_tree_more number (spots_of before) spot refl in
      grows_map old.fault new.fault whole (IsLive s v image whole old.level old.met.blocks.items old.side old.before (drop old.at old.row.items) old.next.items old.records.items spots)
      (IsLive s v image whole new.level new.met.blocks.items new.side new.before (drop new.at new.row.items) new.next.items new.records.items (of_tree number (spots_of after))) taken.fault
      (λ live. live_same old.level new.level (old.met.blocks.items ++ seat.place ∷ []) new.met.blocks.items (Some seat.place) new.side old.before new.before
      rest (drop new.at new.row.items) old.next.items new.next.items old.records.items new.records.items (spots ++ spot ∷ []) (of_tree number (spots_of after))
      taken.level taken.blocks taken.side taken.record_before (λ i. drop (taken.at i) (taken.row i)) taken.next taken.records more
      (live_taken s v image whole old.level old.met.blocks.items old.side old.before rest old.next.items old.records.items spots spot refl refl refl clean
      (subst (λ (seats : List (Seat K)). IsLive s v image whole old.level old.met.blocks.items old.side old.before seats old.next.items old.records.items spots) split live))) growing

  -- the next block breaks a rule by its place
  pub growing_stopped : (tree : Growing R K) (seat : Seat K) (rest : List (Seat K)) (rule : ℕ) → tree.fault ≡ None → drop tree.at tree.row.items ≡ seat ∷ rest
      → place_fault s v tree.met.blocks.items seat.place ≡ Some rule → IsGrowing s v image whole tree [] → whole ≡ Err (record { block = seat.place; rule = rule })
  growing_stopped tree seat rest rule none split broken growing =
      let live = grows_live tree.fault whole (IsLive s v image whole tree.level tree.met.blocks.items tree.side tree.before (drop tree.at tree.row.items) tree.next.items tree.records.items []) none growing in
      live_stopped s v image whole tree.level tree.met.blocks.items tree.side tree.before seat rest tree.next.items tree.records.items rule broken
      (subst (λ (seats : List (Seat K)). IsLive s v image whole tree.level tree.met.blocks.items tree.side tree.before seats tree.next.items tree.records.items []) split live)

  -- the level below begins
  pub growing_descends : (old new : Growing R K) (lower : ℕ) → IsThrough old → old.level ≡ lower + 1 → new.level ≡ lower → new.met ≡ old.met → new.side ≡ None
      → new.before ≡ None → drop new.at new.row.items ≡ old.next.items → new.next.items ≡ [] → new.records ≡ old.records → new.fault ≡ old.fault
      → IsGrowing s v image whole old [] → IsGrowing s v image whole new []
  growing_descends old new lower through above level met side before row next records fault growing =
      grows_map_none old.fault new.fault whole (IsLive s v image whole old.level old.met.blocks.items old.side old.before (drop old.at old.row.items) old.next.items old.records.items [])
      (IsLive s v image whole new.level new.met.blocks.items new.side new.before (drop new.at new.row.items) new.next.items new.records.items []) fault
      (λ none live. live_same lower new.level old.met.blocks.items new.met.blocks.items None new.side None new.before
      old.next.items (drop new.at new.row.items) [] new.next.items old.records.items new.records.items [] []
      level (λ i. (met i).blocks.items) side before row next (λ i. (records i).items) refl
      (live_descends s v image whole old.level lower old.met.blocks.items old.side old.before (drop old.at old.row.items) old.next.items old.records.items above
      (none_left old.row.items old.at (through none)) live)) growing

-- the leaves stay
pub descended_same : {R K : Type 0} (tree : Growing R K) → tree.level ≡ 0 → IsDescended tree tree
descended_same tree last = record {
  low = λ n low none. omega (arith, last);
  met = refl;
  grows = λ s v image whole growing. growing;
}

-- a tree of which a block was taken goes on
pub taken_passed : {R K : Type 0} (number : ℕ) (seat : Seat K) (old new : Growing R K) (before after : List (Cell R K)) → IsTaken number seat old new before after → IsPassed old new
taken_passed number seat old new before after taken = record {
  level = taken.level;
  row = taken.row;
  at = taken.at;
  met = taken.met;
  live = λ none. sym taken.fault ∙ none;
}

-- the blocks of the other trees stay
pub taken_others : {R K : Type 0} (number : ℕ) (seat : Seat K) (old new : Growing R K) (before after : List (Cell R K)) → IsTaken number seat old new before after
    → (u : ℕ) → (u ≡ number → ⊥) → of_tree u (spots_of after) ≡ of_tree u (spots_of before)
taken_others number seat old new before after taken u other =
    ap (λ (cells : List (Cell _ _)). of_tree u (spots_of cells)) taken.added
    ∙ ap (of_tree u) (map-append (λ (cell : Cell _ _). cell.spot) before (taken.cell ∷ []))
    ∙ of_tree_other u (spots_of before) taken.cell.spot (λ same. other (sym same ∙ ap (λ (s : Spot _). s.tree) taken.spot))

-- the block that was taken stands in the round
pub taken_listed : {R K : Type 0} (number : ℕ) (seat : Seat K) (old new : Growing R K) (before after : List (Cell R K)) → IsTaken number seat old new before after
    → (n end : ℕ) → number < n → seat.place < end → AreListed n end before → AreListed n end after
taken_listed number seat old new before after taken n end low inside listed =
    subst (AreListed n end) (sym taken.added) (λ i d within. elim (cases_lt i (length before)) [
      | inl below ↦ subst (λ (cell : Cell _ _). IsSpotAt n end i cell.spot) (sym (get_or_append_left before (taken.cell ∷ []) d i below)) (listed i d below)
      | inr past ↦
          let last : length before ≡ i = omega (arith, past, within, length-append before (taken.cell ∷ [])) in
          subst (λ (cell : Cell _ _). IsSpotAt n end i cell.spot) (sym (get_or_push before taken.cell d i last))
          (subst (IsSpotAt n end i) (sym taken.spot) (record { tree = low; at = last; volume = inside }))
    ])

-- a tree with a fault reads as it, wherever its reading stands
pub grows_dead : {R : Type 0} (fault : Option Unread) (whole : Result (Contents R) Unread) (live live' : Type 0) → is_some fault ≡ true → GrowsBy fault whole live → GrowsBy fault whole live'
grows_dead None whole live live' some grows = cc
grows_dead (Some fault) whole live live' some grows = grows

-- a tree that stopped reads as its fault
pub grows_stopped : {R : Type 0} (fault : Option Unread) (whole : Result (Contents R) Unread) (live : Type 0) (found : Unread) → fault ≡ Some found → whole ≡ Err found → GrowsBy fault whole live
grows_stopped fault whole live found is held = subst (λ (o : Option Unread). GrowsBy o whole live) (sym is) held

module _ {R K : Type 0} (s : Shape R K) (v : Volume) (image : Image) (whole : Result (Contents R) Unread) where
  -- a tree with a fault, of whose row a block was passed
  pub growing_dead : (old new : Growing R K) (spots : List (Spot K)) → is_some old.fault ≡ true → new.fault ≡ old.fault → IsGrowing s v image whole old spots
      → IsGrowing s v image whole new spots
  growing_dead old new spots some same growing =
      subst (λ (o : Option Unread). GrowsBy o whole
      (IsLive s v image whole new.level new.met.blocks.items new.side new.before (drop new.at new.row.items) new.next.items new.records.items spots)) (sym same)
      (grows_dead old.fault whole (IsLive s v image whole old.level old.met.blocks.items old.side old.before (drop old.at old.row.items) old.next.items old.records.items spots)
      (IsLive s v image whole new.level new.met.blocks.items new.side new.before (drop new.at new.row.items) new.next.items new.records.items spots) some growing)

  -- a tree that has a fault, and one whose leaves were read
  pub growing_fault : (tree : Growing R K) (spots : List (Spot K)) (fault : Unread) → tree.fault ≡ Some fault → IsGrowing s v image whole tree spots → whole ≡ Err fault
  growing_fault tree spots fault is growing =
      subst (λ (o : Option Unread). GrowsBy o whole
      (IsLive s v image whole tree.level tree.met.blocks.items tree.side tree.before (drop tree.at tree.row.items) tree.next.items tree.records.items spots)) is growing

  pub growing_ends : (tree : Growing R K) → tree.fault ≡ None → IsDone tree → IsGrowing s v image whole tree []
      → whole ≡ Ok (record { records = tree.records.items; blocks = tree.met.blocks.items })
  growing_ends tree none done growing =
      let low = done.low none in
      live_ends s v image whole tree.level tree.met.blocks.items tree.side tree.before (drop tree.at tree.row.items) tree.next.items tree.records.items (omega (arith, low))
      (none_left tree.row.items tree.at (done.through none))
      (grows_live tree.fault whole (IsLive s v image whole tree.level tree.met.blocks.items tree.side tree.before (drop tree.at tree.row.items) tree.next.items tree.records.items []) none growing)

  -- a tree that stops
  pub growing_refused : (old new : Growing R K) (number : ℕ) (seat : Seat K) (rest : List (Seat K)) (rule : ℕ) (cells : List (Cell R K)) → old.fault ≡ None
      → drop old.at old.row.items ≡ seat ∷ rest → place_fault s v old.met.blocks.items seat.place ≡ Some rule → cells ≡ []
      → new.fault ≡ Some (record { block = seat.place; rule = rule }) → IsGrowing s v image whole old (of_tree number (spots_of cells))
      → IsGrowing s v image whole new (of_tree number (spots_of cells))
  growing_refused old new number seat rest rule cells none split broken empty is growing =
      grows_stopped new.fault whole
      (IsLive s v image whole new.level new.met.blocks.items new.side new.before (drop new.at new.row.items) new.next.items new.records.items (of_tree number (spots_of cells)))
      (record { block = seat.place; rule = rule }) is
      (growing_stopped s v image whole old seat rest rule none split broken
      (subst (λ (cells : List (Cell R K)). IsGrowing s v image whole old (of_tree number (spots_of cells))) empty growing))
