-- Chunks that stand one behind the other.
use Rattle.std.proofs.Common.{◌≡◌, ℕ, zero, suc, ◌+◌, ◌*◌, ◌/◌, ◌≤◌, ◌<◌, Bool, true, false, List, [], ◌∷◌, ◌++◌, length, take, get_or, arith, refl, sym, subst, ap, ◌∙◌, add-one}
use Rattle.std.specs.List.{flat_map, range_with_len}
use Rattle.std.proofs.lemmas.List.Concat.{flat_map-append}
use Rattle.std.proofs.lemmas.List.{append-nil}
use Rattle.xfs_empty.proofs.Pushed.{range_more}
use Rattle.xfs_geom.specs.Conversions.{group_length}
use Rattle.xfs_geom.specs.Shape.{HasGroups}
use Rattle.xfs_geom.specs.Volumes.{Volume}
use Rattle.xfs_place.proofs.Rooms.{rooms_more, rooms_same}
use Rattle.xfs_place.specs.Chunks.{is_room, rooms, rooms_below}
use Rattle.xfs_filled.proofs.Asked.{group_few}

-- chunks of eight blocks stand one behind the other, from one block on up to another
abbrev pub Rise : ℕ → ℕ → List ℕ → Type 0
Rise end least [] = least ≤ end
Rise end least (x ∷ xs) = (least ≤ x) × Rise end (x + 8) xs

rise_ends : (end least : ℕ) (xs : List ℕ) → Rise end least xs → least ≤ end
rise_ends end least [] rise = rise
rise_ends end least (x ∷ xs) rise = let rest = rise_ends end (x + 8) xs rise.1 in let here = rise.0 in omega (arith, here, rest)

rise_later : (end far least : ℕ) (xs : List ℕ) → end ≤ far → Rise end least xs → Rise far least xs
rise_later end far least [] more rise = omega (arith, more, rise)
rise_later end far least (x ∷ xs) more rise = (rise.0, rise_later end far (x + 8) xs more rise.1)

rise_sooner : (end least first : ℕ) (xs : List ℕ) → first ≤ least → Rise end least xs → Rise end first xs
rise_sooner end least first [] less rise = omega (arith, less, rise)
rise_sooner end least first (x ∷ xs) less rise = let here = rise.0 in (omega (arith, less, here), rise.1)

rise_append : (middle end least : ℕ) (xs ys : List ℕ) → Rise middle least xs → Rise end middle ys → Rise end least (xs ++ ys)
rise_append middle end least [] ys rise next = rise_sooner end middle least ys rise next
rise_append middle end least (x ∷ xs) ys rise next = (rise.0, rise_append middle end (x + 8) xs ys rise.1 next)

pub rise_take : (n end least : ℕ) (xs : List ℕ) → Rise end least xs → Rise end least (take n xs)
rise_take zero end least xs rise = rise_ends end least xs rise
rise_take (suc n) end least [] rise = rise
rise_take (suc n) end least (x ∷ xs) rise = (rise.0, rise_take n end (x + 8) xs rise.1)

pub rise_low : (end least i d : ℕ) (xs : List ℕ) → Rise end least xs → i < length xs → least ≤ get_or xs i d
rise_low end least i d [] rise low = absurd (omega (arith, low))
rise_low end least zero d (x ∷ xs) rise low = rise.0
rise_low end least (suc i) d (x ∷ xs) rise low =
    let rest = rise_low end (x + 8) i d xs rise.1 (omega (arith, low)) in let here = rise.0 in omega (arith, here, rest)

pub rise_high : (end least i d : ℕ) (xs : List ℕ) → Rise end least xs → i < length xs → get_or xs i d + 8 ≤ end
rise_high end least i d [] rise low = absurd (omega (arith, low))
rise_high end least zero d (x ∷ xs) rise low = rise_ends end (x + 8) xs rise.1
rise_high end least (suc i) d (x ∷ xs) rise low = rise_high end (x + 8) i d xs rise.1 (omega (arith, low))

pub rise_apart : (end least i j d : ℕ) (xs : List ℕ) → Rise end least xs → i < j → j < length xs → get_or xs i d + 8 ≤ get_or xs j d
rise_apart end least i j d [] rise less low = absurd (omega (arith, low))
rise_apart end least i zero d (x ∷ xs) rise less low = absurd (omega (arith, less))
rise_apart end least zero (suc j) d (x ∷ xs) rise less low = rise_low end (x + 8) j d xs rise.1 (omega (arith, low))
rise_apart end least (suc i) (suc j) d (x ∷ xs) rise less low = rise_apart end (x + 8) i j d xs rise.1 (omega (arith, less)) (omega (arith, low))

-- from where its first one stands
pub rise_from : (end least from : ℕ) (xs : List ℕ) → from ≤ end → ((i d : ℕ) → i < length xs → from ≤ get_or xs i d) → Rise end least xs → Rise end from xs
rise_from end least from [] few each rise = few
rise_from end least from (x ∷ xs) few each rise = (each zero 0 (omega arith), rise.1)

module _ (v : Volume) (pool : ℕ → Bool) where
  -- one number more
  rise_step : (ag n : ℕ) → Rise (ag * v.agblocks + n * 8) (ag * v.agblocks) (rooms_below v pool 8 24 ag n)
      → Rise (ag * v.agblocks + (n + 1) * 8) (ag * v.agblocks) (rooms_below v pool 8 24 ag (n + 1))
  rise_step ag n before = by_case (is_room v pool 8 24 ag n) refl
    where
      by_case : (r : Bool) → is_room v pool 8 24 ag n ≡ r → Rise (ag * v.agblocks + (n + 1) * 8) (ag * v.agblocks) (rooms_below v pool 8 24 ag (n + 1))
      by_case true is =
          subst (λ (xs : List ℕ). Rise (ag * v.agblocks + (n + 1) * 8) (ag * v.agblocks) xs) (sym (rooms_more v pool 8 24 ag n is))
          (rise_append (ag * v.agblocks + n * 8) (ag * v.agblocks + (n + 1) * 8) (ag * v.agblocks) (rooms_below v pool 8 24 ag n) ((ag * v.agblocks + n * 8) ∷ []) before
          (omega arith, omega arith))
      by_case false is =
          subst (λ (xs : List ℕ). Rise (ag * v.agblocks + (n + 1) * 8) (ag * v.agblocks) xs) (sym (rooms_same v pool 8 24 ag n is))
          (rise_later (ag * v.agblocks + n * 8) (ag * v.agblocks + (n + 1) * 8) (ag * v.agblocks) (rooms_below v pool 8 24 ag n) (omega arith) before)

  rise_below : (ag n : ℕ) → Rise (ag * v.agblocks + n * 8) (ag * v.agblocks) (rooms_below v pool 8 24 ag n)
  unfolding rooms_below
  rise_below ag zero = omega arith
  rise_below ag (suc n) =
      subst (λ (m : ℕ). Rise (ag * v.agblocks + m * 8) (ag * v.agblocks) (rooms_below v pool 8 24 ag m)) (add-one n) (rise_step ag n (rise_below ag n))

  rise_group : (ag : ℕ) → HasGroups v.dblocks v.agblocks v.agcount → Rise ((ag + 1) * v.agblocks) (ag * v.agblocks) (rooms_below v pool 8 24 ag (group_length v ag / 8))
  rise_group ag groups =
      let short = group_few v ag groups in
      let next : (ag + 1) * v.agblocks ≡ ag * v.agblocks + v.agblocks = omega arith in
      rise_later (ag * v.agblocks + group_length v ag / 8 * 8) ((ag + 1) * v.agblocks) (ag * v.agblocks) (rooms_below v pool 8 24 ag (group_length v ag / 8))
      (omega (arith, short, next)) (rise_below ag (group_length v ag / 8))

  rise_groups : (n : ℕ) → HasGroups v.dblocks v.agblocks v.agcount
      → Rise (n * v.agblocks) 0 (flat_map (λ (ag : ℕ). rooms_below v pool 8 24 ag (group_length v ag / 8)) (range_with_len 0 n))
  rise_groups zero groups = omega arith
  rise_groups (suc n) groups =
      let f : ℕ → List ℕ = λ ag. rooms_below v pool 8 24 ag (group_length v ag / 8) in
      let none : 0 + n ≡ n = omega arith in
      let more : flat_map f (range_with_len 0 (suc n)) ≡ flat_map f (range_with_len 0 n) ++ f n =
      ap (λ (m : ℕ). flat_map f (range_with_len 0 m)) (sym (add-one n)) ∙ ap (flat_map f) (range_more 0 n ∙ ap (λ (m : ℕ). range_with_len 0 n ++ m ∷ []) none) ∙ flat_map-append f (range_with_len 0 n) (n ∷ []) ∙ ap (λ (xs : List ℕ). flat_map f (range_with_len 0 n) ++ xs) (append-nil (f n)) in
      subst (λ (xs : List ℕ). Rise (suc n * v.agblocks) 0 xs) (sym more)
      (rise_append (n * v.agblocks) (suc n * v.agblocks) 0 (flat_map f (range_with_len 0 n)) (f n) (rise_groups n groups)
      (subst (λ (m : ℕ). Rise (m * v.agblocks) (n * v.agblocks) (f n)) (add-one n) (rise_group n groups)))

  -- the chunks that a volume has room for
  pub rise_rooms : HasGroups v.dblocks v.agblocks v.agcount → Rise (v.agcount * v.agblocks) 0 (rooms v pool 8 24)
  unfolding rooms
  rise_rooms groups = rise_groups v.agcount groups

-- chunks that end by a block, each in front of those behind it
pub rise_of : (end least : ℕ) (xs : List ℕ) → least ≤ end → ((i j : ℕ) → i < j → j < length xs → get_or xs i 0 + 8 ≤ get_or xs j 0) → ((i : ℕ) → i < length xs → get_or xs i 0 + 8 ≤ end)
    → (0 < length xs → least ≤ get_or xs 0 0) → Rise end least xs
rise_of end least [] few apart ends low = few
rise_of end least (x ∷ xs) few apart ends low = (
  low (omega arith),
  rise_of end (x + 8) xs (ends zero (omega arith)) (λ i j less inside. apart (suc i) (suc j) (omega (arith, less)) (omega (arith, inside)))
      (λ i inside. ends (suc i) (omega (arith, inside))) (λ some. apart zero (suc zero) (omega arith) (omega (arith, some))),
)
