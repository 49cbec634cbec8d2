-- Lawful records: their parts, their keys, and what they are read as.
use Rattle.std.proofs.Common.{◌≡◌, ℕ, zero, suc, ◌+◌, ◌<◌, Bool, true, false, ◌&&◌, List, [], ◌∷◌, ◌++◌, map, length, take, drop, get_or, Option, Some, None, Less, refl, sym, ◌∙◌, ap, arith}
use Rattle.std.specs.Cmp.Derive.{both_true}
use Rattle.std.proofs.Math.Seq.{take-add}
use Rattle.std.proofs.lemmas.List.{take-append-drop}
use Rattle.xfs_geom.specs.Volumes.{Volume}
use Rattle.xfs_tree.specs.Shape.{Shape, IsKind}
use Rattle.xfs_tree.specs.Rules.{are_lawful, last_of}

pub and_left : (a b : Bool) → (a && b) ≡ true → a ≡ true
and_left true b h = refl
and_left false b h = cc

pub and_right : (a b : Bool) → (a && b) ≡ true → b ≡ true
and_right true b h = h
and_right false b h = cc

pub last_append : {A : Type 0} (before : Option A) (xs ys : List A) → last_of before (xs ++ ys) ≡ last_of (last_of before xs) ys
last_append before [] ys = refl
last_append before (x ∷ xs) ys = last_append (Some x) xs ys

-- the last of the items up to the end of a share
pub last_on : {A : Type 0} (xs : List A) (a w : ℕ) → last_of (last_of None (take a xs)) (take w (drop a xs)) ≡ last_of None (take (a + w) xs)
last_on xs a w = sym (last_append None (take a xs) (take w (drop a xs))) ∙ ap (last_of None) (sym (take-add a w xs))

module _ {R K : Type 0} (s : Shape R K) (v : Volume) where
  lawful_front : (before : Option R) (xs ys : List R) → are_lawful s v before (xs ++ ys) ≡ true → are_lawful s v before xs ≡ true
  lawful_front before [] ys h = refl
  lawful_front before (x ∷ xs) ys h = both_true (and_left _ _ h) (lawful_front (Some x) xs ys (and_right _ _ h))

  lawful_back : (before : Option R) (xs ys : List R) → are_lawful s v before (xs ++ ys) ≡ true → are_lawful s v (last_of before xs) ys ≡ true
  lawful_back before [] ys h = h
  lawful_back before (x ∷ xs) ys h = lawful_back (Some x) xs ys (and_right _ _ h)

  -- a share of lawful records is lawful behind what is in front of it
  pub lawful_share : (xs : List R) (a w : ℕ) → are_lawful s v None xs ≡ true → are_lawful s v (last_of None (take a xs)) (take w (drop a xs)) ≡ true
  lawful_share xs a w h =
      let whole : are_lawful s v None (take a xs ++ drop a xs) ≡ true = ap (are_lawful s v None) (take-append-drop a xs) ∙ h in
      let behind = lawful_back None (take a xs) (drop a xs) whole in
      lawful_front (last_of None (take a xs)) (take w (drop a xs)) (drop w (drop a xs))
      (ap (are_lawful s v (last_of None (take a xs))) (take-append-drop w (drop a xs)) ∙ behind)

  -- records that were put and read back are lawful where they were
  settled_behind : IsKind s → (r : R) (xs : List R) → are_lawful s v (Some r) xs ≡ true → are_lawful s v (Some (s.settled r)) (map s.settled xs) ≡ true
  settled_behind kind r [] h = refl
  settled_behind kind r (x ∷ xs) h =
      both_true (kind.lawful_behind v r (s.settled x) (kind.lawful_settled v (Some r) x (and_left _ _ h))) (settled_behind kind x xs (and_right _ _ h))

  pub settled_lawful : IsKind s → (xs : List R) → are_lawful s v None xs ≡ true → are_lawful s v None (map s.settled xs) ≡ true
  settled_lawful kind [] h = refl
  settled_lawful kind (x ∷ xs) h = both_true (kind.lawful_settled v None x (and_left _ _ h)) (settled_behind kind x xs (and_right _ _ h))

  -- what is lawful behind a record is lawful as the first
  from_next : IsKind s → (x : R) (xs : List R) → s.lawful v None x ≡ true → are_lawful s v (Some x) xs ≡ true → are_lawful s v None xs ≡ true
  from_next kind x [] first h = refl
  from_next kind x (y ∷ ys) first h = both_true (kind.lawful_first v x y first (and_left _ _ h)) (and_right _ _ h)

  rest_lawful : IsKind s → (x : R) (xs : List R) → are_lawful s v None (x ∷ xs) ≡ true → are_lawful s v None xs ≡ true
  rest_lawful kind x xs h = from_next kind x xs (and_left _ _ h) (and_right _ _ h)

  pub each_lawful : IsKind s → (xs : List R) → are_lawful s v None xs ≡ true → (k : ℕ) (d : R) → k < length xs → s.lawful v None (get_or xs k d) ≡ true
  each_lawful kind [] h k d inside = absurd (omega arith)
  each_lawful kind (x ∷ xs) h zero d inside = and_left _ _ h
  each_lawful kind (x ∷ xs) h (suc k) d inside = each_lawful kind xs (rest_lawful kind x xs h) k d (omega arith)

  -- the keys of lawful records ascend
  above_first : IsKind s → (x : R) (xs : List R) → s.lawful v None x ≡ true → are_lawful s v (Some x) xs ≡ true → (k : ℕ) (d : R) → k < length xs
      → s.order (s.low x) (s.low (get_or xs k d)) ≡ Less
  above_first kind x [] first h k d inside = absurd (omega arith)
  above_first kind x (y ∷ ys) first h zero d inside = kind.ascends v x y first (and_left _ _ h)
  above_first kind x (y ∷ ys) first h (suc k) d inside =
      let second = kind.lawful_first v x y first (and_left _ _ h) in
      kind.total.trans (s.low x) (s.low y) (s.low (get_or ys k d)) (kind.ascends v x y first (and_left _ _ h))
      (above_first kind y ys second (and_right _ _ h) k d (omega arith))

  pub keys_rise : IsKind s → (xs : List R) → are_lawful s v None xs ≡ true → (i j : ℕ) (d : R) → i < j → j < length xs
      → s.order (s.low (get_or xs i d)) (s.low (get_or xs j d)) ≡ Less
  keys_rise kind [] h i j d before inside = absurd (omega arith)
  keys_rise kind (x ∷ xs) h i zero d before inside = absurd (omega arith)
  keys_rise kind (x ∷ xs) h zero (suc j) d before inside = above_first kind x xs (and_left _ _ h) (and_right _ _ h) j d (omega arith)
  keys_rise kind (x ∷ xs) h (suc i) (suc j) d before inside = keys_rise kind xs (rest_lawful kind x xs h) i j d (omega arith) (omega arith)
