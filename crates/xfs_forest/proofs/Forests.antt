-- Many trees by their numbers: one of them changed, all of them kept, and the blocks of a round.
use Rattle.std.proofs.Common.{◌≡◌, ℕ, zero, suc, ◌+◌, ◌-◌, ◌==◌, ◌<◌, ◌≤◌, Bool, true, false, List, [], ◌∷◌, ◌++◌, map, drop, take, length, get_or, set, Option, Result, IfOk, inl, inr, refl, sym, ◌∙◌, ap, subst, arith}
use Rattle.std.proofs.lemmas.Bool.{cases_eq, cases_lt}
use Rattle.std.proofs.lemmas.List.{get_or_default, get_or-map, get_or-set_other, get_or-set_same, get_or_append_left, get_or_push, length-append, length-map, length-set, map-append, take_more}
use Rattle.std.proofs.lemmas.List.Elements.{All-from_get_or, All-nil}
use Rattle.std.specs.List.{All, list_any}
use Rattle.xfs_collections.specs.Bank.{blocks_at}
use Rattle.xfs_disk.specs.Blocks.{Image, bytes_of_block}
use Rattle.xfs_geom.specs.Volumes.{Volume}
use Rattle.xfs_forest.specs.declared.plants.Plant.{Plant}
use Rattle.xfs_forest.specs.declared.cells.Cell.{Cell}
use Rattle.xfs_tree.specs.declared.stepping.Spot.{Spot}
use Rattle.xfs_forest.specs.declared.growing.Growing.{Growing}
use Rattle.xfs_tree.specs.declared.seats.Seat.{Seat}
use Rattle.xfs_tree.specs.declared.unread.Unread.{Unread}
use Rattle.xfs_tree.specs.Answers.{IsMet}
use Rattle.xfs_tree.specs.Rules.{place_fault}
use Rattle.xfs_tree.specs.Reading.{Contents}
use Rattle.xfs_tree.specs.Shape.{Shape}
use Rattle.xfs_tree.specs.Alone.{IsFound}
use Rattle.xfs_forest.specs.Forest.{cell_places, of_tree, reads_as, spots_of, AreFound, AreGrowing, IsFoundIn, AreListed, Each, EachBoth, IsDescended, IsForest, IsGrowing, IsJudged, IsInRound, IsKept, IsLow, IsNext, IsOnward, IsPassed, IsSpotAt, IsThrough, KnowsMet, room_of}
use Rattle.xfs_forest.proofs.Trees.{of_tree_first, of_tree_passed}

-- one item changed: what holds of each, and of each before and after
pub each_set : {A : Type 0} (P : A → Type 0) (n t : ℕ) (xs : List A) (y : A) → t < length xs → Each P n xs → P y → Each P n (set xs t y)
each_set P n t xs y inside each here = λ i d within. elim (cases_eq i t) [
  | inl same ↦ subst (λ (m : ℕ). P (get_or (set xs t y) m d)) (sym same) (subst P (sym (get_or-set_same xs t y d inside)) here)
  | inr other ↦ subst P (sym (get_or-set_other xs t i y d other)) (each i d within)
]

pub both_set : {A : Type 0} (Q : A → A → Type 0) (olds xs : List A) (t : ℕ) (y : A) → ((a b c : A) → Q a b → Q b c → Q a c) → t < length xs
    → EachBoth Q olds xs → ((d : A) → Q (get_or xs t d) y) → EachBoth Q olds (set xs t y)
both_set Q olds xs t y joins inside each here = λ i d within. elim (cases_eq i t) [
  | inl same ↦ joins (get_or olds i d) (get_or xs i d) (get_or (set xs t y) i d) (each i d within)
      (subst (λ (m : ℕ). Q (get_or xs m d) (get_or (set xs t y) m d)) (sym same) (subst (Q (get_or xs t d)) (sym (get_or-set_same xs t y d inside)) (here d)))
  | inr other ↦ subst (Q (get_or olds i d)) (sym (get_or-set_other xs t i y d other)) (each i d within)
]

-- what holds of each after a change that keeps it
pub each_both : {A : Type 0} (P P' : A → Type 0) (Q : A → A → Type 0) (n : ℕ) (olds news : List A) → n ≤ length olds → ((a b : A) → Q a b → P a → P' b)
    → EachBoth Q olds news → Each P n olds → Each P' n news
each_both P P' Q n olds news fits step both each = λ i d inside. step (get_or olds i d) (get_or news i d) (both i d (omega (arith, inside, fits))) (each i d inside)

pub both_both : {A : Type 0} (Q Q' Q'' : A → A → Type 0) (firsts seconds thirds : List A) → length firsts ≤ length seconds → ((a b c : A) → Q a b → Q' b c → Q'' a c)
    → EachBoth Q firsts seconds → EachBoth Q' seconds thirds → EachBoth Q'' firsts thirds
both_both Q Q' Q'' firsts seconds thirds fits joins first then = λ i d inside.
    joins (get_or firsts i d) (get_or seconds i d) (get_or thirds i d) (first i d inside) (then i d (omega (arith, inside, fits)))

pub both_map : {A : Type 0} (Q Q' : A → A → Type 0) (olds news : List A) → ((a b : A) → Q a b → Q' a b) → EachBoth Q olds news → EachBoth Q' olds news
both_map Q Q' olds news step both = λ i d inside. step (get_or olds i d) (get_or news i d) (both i d inside)

-- the same items, named otherwise
pub both_as : {A : Type 0} (Q : A → A → Type 0) {old new named_old named_new : A} → old ≡ named_old → new ≡ named_new → Q old new → Q named_old named_new
both_as Q {old} {new} {named_old} {named_new} same_old same_new held = subst (λ (x : _). Q x named_new) same_old (subst (Q old) same_new held)

-- of a test that is false, all follows where it is true
pub falsely : {A : Type 0} (b : Bool) → b ≡ false → b ≡ true → A
falsely true no_more so = cc
falsely false no_more so = cc

-- a loop over items that changes one at a time: those from i on are as they were, those below are changed
pub below_more : (P : ℕ → Type 0) (k : ℕ) → ((i : ℕ) → i < k → P i) → P k → (j : ℕ) → j < k + 1 → P j
below_more P k all at j inside = elim (cases_lt j k) [
  | inl below ↦ all j below
  | inr past ↦ let same : k ≡ j = omega arith in subst P same at
]

pub rest_after : {A : Type 0} (xs ys : List A) (k : ℕ) (y : A) → ((j : ℕ) (d : A) → k ≤ j → get_or ys j d ≡ get_or xs j d)
    → (j : ℕ) (d : A) → k + 1 ≤ j → get_or (set ys k y) j d ≡ get_or xs j d
rest_after xs ys k y rest j d later = get_or-set_other ys k j y d (λ e. omega (arith, e, later)) ∙ rest j d (omega (arith, later))

pub done_after : {A : Type 0} (Q : A → A → Type 0) (xs ys : List A) (k : ℕ) (x y : A) → k < length ys → ((j : ℕ) (d : A) → k ≤ j → get_or ys j d ≡ get_or xs j d)
    → ((j : ℕ) (d : A) → j < k → Q (get_or xs j d) (get_or ys j d)) → x ≡ get_or ys k x → Q x y
    → (j : ℕ) (d : A) → j < k + 1 → Q (get_or xs j d) (get_or (set ys k y) j d)
done_after Q xs ys k x y inside rest done value here j d before =
    below_more (λ i. Q (get_or xs i d) (get_or (set ys k y) i d)) k
    (λ i under. subst (Q (get_or xs i d)) (sym (get_or-set_other ys k i y d (λ e. omega (arith, e, under)))) (done i d under))
    (subst (Q (get_or xs k d)) (sym (get_or-set_same ys k y d inside))
    (subst (λ (z : _). Q z y) (value ∙ get_or_default ys k x d inside ∙ rest k d (omega arith)) here))
    j before

-- what stays of a tree stays further
pub kept_on : {R K : Type 0} (a b c : Growing R K) → IsKept a b → IsKept b c → IsKept a c
kept_on a b c first then = record {
  level = then.level ∙ first.level;
  row = then.row ∙ first.row;
  at = then.at ∙ first.at;
  met = then.met ∙ first.met;
  live = λ none. first.live (then.live none);
}

pub kept_same : {R K : Type 0} (a : Growing R K) → IsKept a a
kept_same a = record { level = refl; row = refl; at = refl; met = refl; live = λ none. none }

pub onward_on : {R K : Type 0} (a b c : Growing R K) → IsOnward a b → IsOnward b c → IsOnward a c
onward_on a b c first then = record {
  level = then.level ∙ first.level;
  row = then.row ∙ first.row;
  at = omega (arith, first.at, then.at);
  live = λ none. first.live (then.live none);
}

pub onward_same : {R K : Type 0} (a : Growing R K) → IsOnward a a
onward_same a = record { level = refl; row = refl; at = omega arith; live = λ none. none }

pub kept_onward : {R K : Type 0} (a b : Growing R K) → IsKept a b → IsOnward a b
kept_onward a b kept = record { level = kept.level; row = kept.row; at = omega (arith, kept.at); live = kept.live }

-- each block after it was judged, as it was before
spots_same : {R K : Type 0} (olds news : List (Cell R K)) → length news ≡ length olds
    → ((i : ℕ) (d : Cell R K) → i < length olds → (get_or news i d).spot ≡ (get_or olds i d).spot) → spots_of news ≡ spots_of olds
spots_same [] [] long each = refl
spots_same [] (y ∷ ys) long each = absurd (omega (arith, long))
spots_same (x ∷ xs) [] long each = absurd (omega (arith, long))
spots_same (x ∷ xs) (y ∷ ys) long each =
    let here = each 0 x (omega arith) in
    let rest = spots_same xs ys (omega (arith, long)) (λ i d inside. each (suc i) d (omega (arith, inside))) in
    λ i. here i ∷ rest i

-- the blocks of a round lie on the disk
pub places_inside : {R K : Type 0} (n end size : ℕ) (cells : List (Cell R K)) → end ≤ size → AreListed n end cells → All (λ block. block < size) (cell_places cells)
places_inside n end size [] fits listed = All-nil (λ block. block < size)
places_inside n end size (cell ∷ cells) fits listed = All-from_get_or (λ block. block < size) (cell_places (cell ∷ cells)) 0 (λ i inside.
    let under : i < length (cell ∷ cells) = omega (arith, inside, length-map (cell ∷ cells) (λ (c : Cell _ _). c.spot.seat.place)) in
    let low : (get_or (cell ∷ cells) i cell).spot.seat.place < size = omega (arith, fits, (listed i cell under).volume) in
    subst (λ (block : ℕ). block < size) (sym (get_or-map (λ (c : Cell _ _). c.spot.seat.place) (cell ∷ cells) i cell 0 under)) low)

module _ {P R K : Type 0} (shape : P → Shape R K) (v : Volume) (image : Image) where
  -- one tree changed, and the blocks in flight
  pub forest_set : (plants : List (Plant P R K)) (trees : List (Growing R K)) (t : ℕ) (new : Growing R K) (spots spots' : List (Spot K)) → t < length trees
      → ((p : Plant P R K) (d : Growing R K) → IsGrowing (shape (get_or plants t p).kind) v image (reads_as shape v image (get_or plants t p)) (get_or trees t d) (of_tree t spots)
      → IsGrowing (shape (get_or plants t p).kind) v image (reads_as shape v image (get_or plants t p)) new (of_tree t spots'))
      → ((u : ℕ) → (u ≡ t → ⊥) → of_tree u spots' ≡ of_tree u spots)
      → AreGrowing shape v image plants trees spots → AreGrowing shape v image plants (set trees t new) spots'
  forest_set plants trees t new spots spots' inside here others growing = λ u p d within. elim (cases_eq u t) [
    | inl same ↦ subst (λ (u : ℕ). IsGrowing (shape (get_or plants u p).kind) v image (reads_as shape v image (get_or plants u p)) (get_or (set trees t new) u d) (of_tree u spots')) (sym same)
        (subst (λ (tree : Growing R K). IsGrowing (shape (get_or plants t p).kind) v image (reads_as shape v image (get_or plants t p)) tree (of_tree t spots')) (sym (get_or-set_same trees t new d inside))
        (here p d (subst (λ (u : ℕ). IsGrowing (shape (get_or plants u p).kind) v image (reads_as shape v image (get_or plants u p)) (get_or trees u d) (of_tree u spots)) same (growing u p d within))))
    | inr other ↦ subst (λ (tree : Growing R K). IsGrowing (shape (get_or plants u p).kind) v image (reads_as shape v image (get_or plants u p)) tree (of_tree u spots')) (sym (get_or-set_other trees t u new d other))
        (subst (λ (own : List (Spot K)). IsGrowing (shape (get_or plants u p).kind) v image (reads_as shape v image (get_or plants u p)) (get_or trees u d) own) (sym (others u other)) (growing u p d within))
  ]

  -- one block more is joined
  pub forest_joined : (plants : List (Plant P R K)) (trees : List (Growing R K)) (cell : Cell R K) (plant : Plant P R K) (old new : Growing R K) (spots : List (Spot K))
      → cell.spot.tree < length plants → length trees ≡ length plants → plant ≡ get_or plants cell.spot.tree plant → old ≡ get_or trees cell.spot.tree old
      → IsFoundIn shape v image plants cell
      → ((whole : Result (Contents R) Unread) (own : List (Spot K)) → IfOk cell.found (IsFound (shape plant.kind) v cell.spot (bytes_of_block image cell.spot.seat.place))
      → IsGrowing (shape plant.kind) v image whole old (cell.spot ∷ own) → IsGrowing (shape plant.kind) v image whole new own)
      → AreGrowing shape v image plants trees (cell.spot ∷ spots) → AreGrowing shape v image plants (set trees cell.spot.tree new) spots
  forest_joined plants trees cell plant old new spots low long planted tree found joined growing =
      let t = cell.spot.tree in
      forest_set plants trees t new (cell.spot ∷ spots) spots (omega (arith, low, long))
      (λ p d here.
      let named : plant ≡ get_or plants t p = planted ∙ get_or_default plants t plant p low in
      subst (λ (q : Plant P R K). IsGrowing (shape q.kind) v image (reads_as shape v image q) new (of_tree t spots)) named
      (joined (reads_as shape v image plant) (of_tree t spots)
      (subst (λ (q : Plant P R K). IfOk cell.found (IsFound (shape q.kind) v cell.spot (bytes_of_block image cell.spot.seat.place))) (sym named) (found p))
      (subst (λ (q : Plant P R K). IsGrowing (shape q.kind) v image (reads_as shape v image q) old (cell.spot ∷ of_tree t spots)) (sym named)
      (subst (λ (x : Growing R K). IsGrowing (shape (get_or plants t p).kind) v image (reads_as shape v image (get_or plants t p)) x (cell.spot ∷ of_tree t spots))
      (sym (tree ∙ get_or_default trees t old d (omega (arith, low, long))))
      (subst (λ (own : List (Spot K)). IsGrowing (shape (get_or plants t p).kind) v image (reads_as shape v image (get_or plants t p)) (get_or trees t d) own) (of_tree_first t cell.spot spots refl) here)))))
      (λ u other. sym (of_tree_passed u cell.spot spots (λ same. other (sym same)))) growing

  -- blocks that were judged by a bank which holds them are found so in the image
  pub all_found : (plants : List (Plant P R K)) (bank : Image) (olds news : List (Cell R K)) (n end : ℕ) → AreListed n end olds → length news ≡ length olds
      → bank ≡ blocks_at image (cell_places olds) → EachBoth (IsJudged shape v plants bank) olds news → AreFound shape v image plants news
  all_found plants bank olds news n end listed long held judged = λ i d inside p.
      let old = get_or olds i d in
      let new = get_or news i d in
      let under : i < length olds = omega (arith, inside, long) in
      let one = judged i d under in
      let place : Cell R K → ℕ = λ (cell : Cell R K). cell.spot.seat.place in
      let at : new.spot.at ≡ i = ap (λ (s : Spot K). s.at) one.spot ∙ (listed i d under).at in
      let bytes : get_or bank new.spot.at [] ≡ bytes_of_block image new.spot.seat.place =
      (λ k. get_or (held k) (at k) [])
      ∙ get_or-map (λ place. get_or image place []) (cell_places olds) i 0 [] (omega (arith, under, length-map olds place))
      ∙ ap (λ place. get_or image place []) (get_or-map place olds i d 0 under ∙ ap (λ (s : Spot K). s.seat.place) (sym one.spot)) in
      subst (λ (block : List ℕ). IfOk new.found (IsFound (shape (get_or plants new.spot.tree p).kind) v new.spot block)) bytes (one.found p)

-- the blocks of a round, as they stand in it, stay so when they are judged
pub spots_judged : {P R K : Type 0} (shape : P → Shape R K) (v : Volume) (plants : List (Plant P R K)) (bank : Image) (olds news : List (Cell R K)) → length news ≡ length olds
    → EachBoth (IsJudged shape v plants bank) olds news → spots_of news ≡ spots_of olds
spots_judged shape v plants bank olds news long judged = spots_same olds news long (λ i d inside. (judged i d inside).spot)

pub listed_judged : {P R K : Type 0} (shape : P → Shape R K) (v : Volume) (plants : List (Plant P R K)) (bank : Image) (olds news : List (Cell R K)) (n end : ℕ) → length news ≡ length olds
    → EachBoth (IsJudged shape v plants bank) olds news → AreListed n end olds → AreListed n end news
listed_judged shape v plants bank olds news n end long judged listed = λ i d inside.
    let under : i < length olds = omega (arith, inside, long) in
    subst (IsSpotAt n end i) (sym (judged i d under).spot) (listed i d under)

-- the blocks of a round can be judged by a bank of as many
pub in_round : {P R K : Type 0} (plants : List (Plant P R K)) (bank : Image) (cells : List (Cell R K)) (end : ℕ) → AreListed (length plants) end cells → length bank ≡ length cells
    → Each (IsInRound plants bank end) (length cells) cells
in_round plants bank cells end listed size = λ i d inside.
    let one = listed i d inside in
    record { tree = one.tree; at = omega (arith, one.at, size, inside); volume = one.volume }

-- one tree passed a block of its row
pub forest_sound : {R K : Type 0} (n end t : ℕ) (trees : List (Growing R K)) (old new : Growing R K) (before after : List (Cell R K)) → t < n → IsForest n end trees before → IsPassed old new
    → AreListed n end after → IsForest n end (set trees t new) after
forest_sound n end t trees old new before after low forest passed listed = record {
  count = length-set trees t new ∙ forest.count;
  met = each_set KnowsMet n t trees new (omega (arith, low, forest.count)) forest.met passed.met;
  listed = listed;
}

-- trees that are kept, with another round
pub forest_kept : {R K : Type 0} (n end : ℕ) (olds news : List (Growing R K)) (before after : List (Cell R K)) → length news ≡ length olds → IsForest n end olds before → EachBoth IsKept olds news
    → AreListed n end after → IsForest n end news after
forest_kept n end olds news before after long forest kept listed = record {
  count = long ∙ forest.count;
  met = each_both KnowsMet KnowsMet IsKept n olds news (omega (arith, forest.count)) (λ a b one known. subst IsMet (sym one.met) known) kept forest.met;
  listed = listed;
}

pub none_listed : {R K : Type 0} (n end : ℕ) (cells : List (Cell R K)) → cells ≡ [] → AreListed n end cells
none_listed n end cells none = subst (AreListed n end) (sym none) (λ i d inside. absurd (omega (arith, inside)))

pub passed_onward : {R K : Type 0} (a b : Growing R K) → IsPassed a b → IsOnward a b
passed_onward a b passed = record { level = passed.level; row = passed.row; at = omega (arith, passed.at); live = passed.live }

-- a block of the row less is left
pub room_less : {R K : Type 0} (t : ℕ) (trees : List (Growing R K)) (d new : Growing R K) → t < length trees → IsPassed (get_or trees t d) new
    → (get_or trees t d).at < length (get_or trees t d).row.items → room_of (drop t (set trees t new)) < room_of (drop t trees)
room_less t [] d new inside passed more = absurd (omega (arith, inside))
room_less zero (tree ∷ trees) d new inside passed more =
    let rows : length new.row.items ≡ length tree.row.items = ap (λ (row : List (Seat _)). length row) passed.row in
    omega (arith, rows, passed.at, more)
room_less (suc t) (tree ∷ trees) d new inside passed more = room_less t trees d new (omega (arith, inside)) passed more

pub room_kept : {R K : Type 0} (t : ℕ) (olds news : List (Growing R K)) → length news ≡ length olds → EachBoth IsKept olds news → room_of (drop t news) ≡ room_of (drop t olds)
room_kept zero [] [] long kept = refl
room_kept (suc t) [] [] long kept = refl
room_kept t [] (new ∷ news) long kept = absurd (omega (arith, long))
room_kept t (old ∷ olds) [] long kept = absurd (omega (arith, long))
room_kept zero (old ∷ olds) (new ∷ news) long kept =
    let one = kept 0 old (omega arith) in
    λ i. length (one.row i) - one.at i
room_kept (suc t) (old ∷ olds) (new ∷ news) long kept = room_kept t olds news (omega (arith, long)) (λ i d inside. kept (suc i) d (omega (arith, inside)))

-- the next block of a tree that was kept
pub next_kept : {R K : Type 0} (end : ℕ) (old new : Growing R K) (seat : Seat K) (rule : Option ℕ) → IsKept old new → IsNext end old seat rule → IsNext end new seat rule
next_kept end old new seat rule kept next =
    let rows : length new.row.items ≡ length old.row.items = ap (λ (row : List (Seat _)). length row) kept.row in
    record {
      more = omega (arith, rows, kept.at, next.more);
      next = (λ i. drop (kept.at i) (kept.row i)) ∙ next.next ∙ (λ i. seat ∷ drop (sym kept.at i + 1) (sym kept.row i));
      inside = next.inside;
      fresh = λ none. (λ i. list_any (λ other. other == seat.place) (kept.met i).blocks.items) ∙ next.fresh none;
    }

pub broken_kept : {R K : Type 0} (s : Shape R K) (v : Volume) (old new : Growing R K) (place : ℕ) (rule : Option ℕ) → IsKept old new → rule ≡ place_fault s v old.met.blocks.items place
    → rule ≡ place_fault s v new.met.blocks.items place
broken_kept s v old new place rule kept broken = broken ∙ (λ i. place_fault s v (sym kept.met i).blocks.items place)

-- a row that was taken whole stays so
pub through_on : {R K : Type 0} (a b : Growing R K) → IsOnward a b → IsThrough a → IsThrough b
through_on a b onward through = λ none.
    let rows : length b.row.items ≡ length a.row.items = ap (λ (row : List (Seat _)). length row) onward.row in
    let whole = through (onward.live none) in
    omega (arith, rows, onward.at, whole)

pub through_more : {R K : Type 0} (t : ℕ) (olds news : List (Growing R K)) → t ≤ length olds → EachBoth IsOnward olds news → Each IsThrough t olds
    → ((d : Growing R K) → IsThrough (get_or news t d)) → Each IsThrough (t + 1) news
through_more t olds news fits onward through here = λ j d inside.
    below_more (λ i. IsThrough (get_or news i d)) t (λ i under. each_both IsThrough IsThrough IsOnward t olds news fits through_on onward through i d under) (here d) j inside

-- no level rises
pub low_on : {R K : Type 0} (n : ℕ) (a b : Growing R K) → IsOnward a b → IsLow n a → IsLow n b
low_on n a b onward low = λ none. let was = low (onward.live none) in omega (arith, onward.level, was)

-- where the levels below began
pub forest_descended : {R K : Type 0} (n end : ℕ) (olds news : List (Growing R K)) (before after : List (Cell R K)) → length news ≡ length olds → IsForest n end olds before → EachBoth IsDescended olds news
    → AreListed n end after → IsForest n end news after
forest_descended n end olds news before after long forest below listed = record {
  count = long ∙ forest.count;
  met = each_both KnowsMet KnowsMet IsDescended n olds news (omega (arith, forest.count)) (λ a b one known. subst IsMet (sym one.met) known) below forest.met;
  listed = listed;
}

pub growing_descended : {P R K : Type 0} (shape : P → Shape R K) (v : Volume) (image : Image) (plants : List (Plant P R K)) (olds news : List (Growing R K)) → length olds ≡ length plants
    → EachBoth IsDescended olds news → AreGrowing shape v image plants olds [] → AreGrowing shape v image plants news []
growing_descended shape v image plants olds news long below growing = λ t p d inside.
    (below t d (omega (arith, inside, long))).grows (shape (get_or plants t p).kind) v image (reads_as shape v image (get_or plants t p)) (growing t p d inside)

-- one tree more was begun
pub begun_more : {R K : Type 0} (end : ℕ) (i : ℕ) (olds news : List (Growing R K)) (tree : Growing R K) → news ≡ olds ++ tree ∷ [] → IsForest i end olds [] → KnowsMet tree → IsForest (i + 1) end news []
begun_more end i olds news tree more forest known = record {
  count = ap length more ∙ length-append olds (tree ∷ []) ∙ ap (λ (n : ℕ). n + 1) forest.count;
  met = subst (Each KnowsMet (i + 1)) (sym more) (λ j d inside. elim (cases_lt j i) [
    | inl below ↦ subst KnowsMet (sym (get_or_append_left olds (tree ∷ []) d j (omega (arith, below, forest.count)))) (forest.met j d below)
    | inr past ↦ subst KnowsMet (sym (get_or_push olds tree d j (omega (arith, past, inside, forest.count)))) known
  ]);
  listed = λ j d inside. absurd (omega (arith, inside));
}

module _ {P R K : Type 0} (shape : P → Shape R K) (v : Volume) (image : Image) where
  -- the first trees are begun
  abbrev pub AreBegun : ℕ → List (Plant P R K) → List (Growing R K) → Type 0
  AreBegun n plants trees = (t : ℕ) (p : Plant P R K) (d : Growing R K) → t < n →
      IsGrowing (shape (get_or plants t p).kind) v image (reads_as shape v image (get_or plants t p)) (get_or trees t d) []

  pub growing_more : (plants : List (Plant P R K)) (i : ℕ) (olds news : List (Growing R K)) (tree : Growing R K) (p : Plant P R K) → i < length plants → length olds ≡ i → news ≡ olds ++ tree ∷ []
      → AreBegun i plants olds → IsGrowing (shape (get_or plants i p).kind) v image (reads_as shape v image (get_or plants i p)) tree [] → AreBegun (i + 1) plants news
  growing_more plants i olds news tree p within long more begun here = subst (AreBegun (i + 1) plants) (sym more) (λ t q d inside. elim (cases_lt t i) [
    | inl below ↦ subst (λ (one : Growing R K). IsGrowing (shape (get_or plants t q).kind) v image (reads_as shape v image (get_or plants t q)) one [])
        (sym (get_or_append_left olds (tree ∷ []) d t (omega (arith, below, long)))) (begun t q d below)
    | inr past ↦
        let last : i ≡ t = omega (arith, past, inside) in
        subst (λ (one : Growing R K). IsGrowing (shape (get_or plants t q).kind) v image (reads_as shape v image (get_or plants t q)) one []) (sym (get_or_push olds tree d t (long ∙ last)))
        (subst (λ (u : ℕ). IsGrowing (shape (get_or plants u q).kind) v image (reads_as shape v image (get_or plants u q)) tree []) last
        (subst (λ (plant : Plant P R K). IsGrowing (shape plant.kind) v image (reads_as shape v image plant) tree []) (get_or_default plants i p q within) here))
  ])

-- one more of some results is what is due
pub finished_more : {A B C : Type 0} (f : A → C) (f' : B → C) (olds news : List A) (plants : List B) (i : ℕ) (x : A) → i < length plants → news ≡ olds ++ x ∷ []
    → map f olds ≡ map f' (take i plants) → ((p : B) → f x ≡ f' (get_or plants i p)) → map f news ≡ map f' (take (i + 1) plants)
finished_more f f' olds news [] i x inside more before here = absurd (omega (arith, inside))
finished_more f f' olds news (plant ∷ plants) i x inside more before here =
    ap (map f) more ∙ map-append f olds (x ∷ []) ∙ (λ k. before k ++ here plant k ∷ [])
    ∙ sym (map-append f' (take i (plant ∷ plants)) (get_or (plant ∷ plants) i plant ∷ []))
    ∙ ap (map f') (sym (take_more (plant ∷ plants) i plant inside))

pub low_up : {R K : Type 0} (n m : ℕ) (tree : Growing R K) → n ≤ m → IsLow n tree → IsLow m tree
low_up n m tree up low = λ none. let was = low none in omega (arith, up, was)
