-- Chunks, as one number after another of a group is looked at.
use Rattle.std.specs.Option.{unwrap_or}
use Rattle.std.proofs.Common.{Some, ◌^◌, ◌==◌, nat_lt, if◌then◌else◌, ◌≡◌, ℕ, ◌+◌, ◌-◌, ◌*◌, ◌/◌, ◌≤◌, ◌<◌, Bool, true, false, not, ◌&&◌, ◌||◌, List, [], ◌∷◌, ◌++◌, length, take, map, refl, sym, ◌∙◌, ap, ap₂, subst, arith, append_assoc}
use Rattle.std.specs.List.{filter, list_all, list_any, range_with_len}
use Rattle.std.proofs.lemmas.List.{append-nil, map-append, take_all}
use Rattle.std.proofs.lemmas.List.Elements.{filter-append}
use Rattle.std.proofs.Math.Nat.{mul-le-mul_right}
use Rattle.xfs_kinds.specs.Owners.{inode_trees_owner, group_owner}
use Rattle.xfs_geom.specs.Runs.{covers}
use Rattle.xfs_geom.specs.Volumes.{Volume}
use Rattle.xfs_geom.specs.Conversions.{group_length, is_fixed}
use Rattle.xfs_geom.specs.declared.records.Run.{Run}
use Rattle.xfs_place.specs.declared.uses.Use.{Use}
use Rattle.xfs_place.specs.declared.uses.Use.TheVariants.{Pool, Reserved, Claimed, ForSpace, ForInodes}
use Rattle.xfs_place.specs.Pool.{is_listed, is_open, is_pool, is_taken, use_held, use_of, use_of_run}
use Rattle.xfs_place.specs.Chunks.{is_room, lies_in_chunks, rooms_below}
use Rattle.xfs_place.proofs.Ranges.{range_more, range_split, take_full, take_open}

never_open : (r : Run) → is_open (use_of_run r) ≡ false
never_open r = by_cases (nat_lt r.offset_word (2 ^ 61)) (r.owner == group_owner) (r.owner == inode_trees_owner)
  where
    by_cases : (f s i : Bool) → is_open (if f then (if s then ForSpace else (if i then ForInodes else Claimed)) else Claimed) ≡ false
    by_cases true true i = refl
    by_cases true false true = refl
    by_cases true false false = refl
    by_cases false s i = refl

-- runs close the blocks that they have, and those alone
held_open : (runs : List Run) (b : ℕ) (u : Use) → is_open (unwrap_or (use_held runs b) u) ≡ (not (is_taken runs b) && is_open u)
unfolding use_held is_taken
held_open [] b u = refl
held_open (r ∷ rest) b u = by_case (covers b r) (held_open rest b u)
  where
    by_case : (t : Bool) → is_open (unwrap_or (use_held rest b) u) ≡ (not (is_taken rest b) && is_open u)
        → is_open (unwrap_or (if t then Some (use_of_run r) else use_held rest b) u) ≡ (not (t || list_any (covers b) rest) && is_open u)
    by_case true others = never_open r
    by_case false others = others

-- a block's use is that of the pool where the block is of the pool
pub open_is : (v : Volume) (runs : List Run) (reserved : List ℕ) (b : ℕ) → is_open (use_of v runs reserved b) ≡ is_pool v runs reserved b
unfolding use_of is_pool
open_is v runs reserved b =
    held_open runs b (if is_fixed v b then Claimed else (if is_listed reserved b then Reserved else Pool)) ∙ by_cases (is_fixed v b) (is_taken runs b) (is_listed reserved b)
  where
    by_cases : (x t l : Bool) → (not t && is_open (if x then Claimed else (if l then Reserved else Pool))) ≡ (not x && not t && not l)
    by_cases true true true = refl
    by_cases true true false = refl
    by_cases true false true = refl
    by_cases true false false = refl
    by_cases false true true = refl
    by_cases false true false = refl
    by_cases false false true = refl
    by_cases false false false = refl

module _ (v : Volume) (pool : ℕ → Bool) (size from ag : ℕ) where
  pub no_rooms : rooms_below v pool size from ag 0 ≡ []
  unfolding rooms_below
  no_rooms = refl

  -- one number more
  pub rooms_more : (i : ℕ) → is_room v pool size from ag i ≡ true → rooms_below v pool size from ag (i + 1) ≡ rooms_below v pool size from ag i ++ (ag * v.agblocks + i * size) ∷ []
  unfolding rooms_below
  rooms_more i passes =
      let kept : filter (is_room v pool size from ag) (i ∷ []) ≡ i ∷ [] = rw passes refl in
      ap (λ (xs : List ℕ). map (λ j. ag * v.agblocks + j * size) (filter (is_room v pool size from ag) xs)) (range_more i)
      ∙ ap (map (λ j. ag * v.agblocks + j * size)) (filter-append (is_room v pool size from ag) (range_with_len 0 i) (i ∷ []) ∙ ap (λ (xs : List ℕ). filter (is_room v pool size from ag) (range_with_len 0 i) ++ xs) kept)
      ∙ map-append (λ j. ag * v.agblocks + j * size) (filter (is_room v pool size from ag) (range_with_len 0 i)) (i ∷ [])

  pub rooms_same : (i : ℕ) → is_room v pool size from ag i ≡ false → rooms_below v pool size from ag (i + 1) ≡ rooms_below v pool size from ag i
  unfolding rooms_below
  rooms_same i fails =
      let kept : filter (is_room v pool size from ag) (i ∷ []) ≡ [] = rw fails refl in
      ap (λ (xs : List ℕ). map (λ j. ag * v.agblocks + j * size) (filter (is_room v pool size from ag) xs)) (range_more i)
      ∙ ap (map (λ j. ag * v.agblocks + j * size)) (filter-append (is_room v pool size from ag) (range_with_len 0 i) (i ∷ []) ∙ ap (λ (xs : List ℕ). filter (is_room v pool size from ag) (range_with_len 0 i) ++ xs) kept ∙ append-nil (filter (is_room v pool size from ag) (range_with_len 0 i)))

  -- those of the first numbers stand in front of those of more
  pub rooms_front : (i n : ℕ) → i ≤ n → (more : List ℕ) × (rooms_below v pool size from ag n ≡ rooms_below v pool size from ag i ++ more)
  unfolding rooms_below
  rooms_front i n low =
      let k : ℕ = n - i in
      let many : n ≡ i + k = omega (arith, low) in
      let f : ℕ → ℕ = λ j. ag * v.agblocks + j * size in
      let p : ℕ → Bool = is_room v pool size from ag in (
        map f (filter p (range_with_len (0 + i) k)),
        ap (λ (xs : List ℕ). map f (filter p xs)) (range_split 0 i k n many)
            ∙ ap (map f) (filter-append p (range_with_len 0 i) (range_with_len (0 + i) k))
            ∙ map-append f (filter p (range_with_len 0 i)) (filter p (range_with_len (0 + i) k)),
      )

  -- a number is told by its place and its blocks
  pub room_is : (i start : ℕ) (lies result : Bool) → lies ≡ true → lies ≡ lies_in_chunks (group_length v ag) size from (i * size) → start ≡ ag * v.agblocks + i * size
      → result ≡ list_all pool (range_with_len start size) → result ≡ is_room v pool size from ag i
  unfolding is_room
  room_is i start lies result passes is at says =
      says ∙ ap (λ (b : ℕ). list_all pool (range_with_len b size)) at
      ∙ ap (λ (t : Bool). t && list_all pool (range_with_len (ag * v.agblocks + i * size) size)) (sym passes ∙ is)

  pub no_room_is : (i : ℕ) (lies : Bool) → lies ≡ false → lies ≡ lies_in_chunks (group_length v ag) size from (i * size) → false ≡ is_room v pool size from ag i
  unfolding is_room
  no_room_is i lies fails is = ap (λ (t : Bool). t && list_all pool (range_with_len (ag * v.agblocks + i * size) size)) (sym fails ∙ is)

  -- the loop's steps: at its start, with one chunk more, without, and where no more are wanted
  pub rooms_start : (n : ℕ) (xs : List ℕ) → length xs ≤ n → xs ≡ take n (xs ++ rooms_below v pool size from ag 0)
  rooms_start n xs few =
      let whole : xs ++ rooms_below v pool size from ag 0 ≡ xs = ap (λ (ys : List ℕ). xs ++ ys) no_rooms ∙ append-nil xs in
      sym (ap (take n) whole ∙ take_all n xs few)

  pub rooms_put : (n i start : ℕ) (xs ys zs : List ℕ) → ys ≡ take n (xs ++ rooms_below v pool size from ag i) → length ys < n → is_room v pool size from ag i ≡ true
      → start ≡ ag * v.agblocks + i * size → zs ≡ ys ++ start ∷ [] → zs ≡ take n (xs ++ rooms_below v pool size from ag (i + 1))
  rooms_put n i start xs ys zs so room passes at put =
      let front = xs ++ rooms_below v pool size from ag i in
      let few : length (take n front) < n = subst (λ (ws : List ℕ). length ws < n) so room in
      put ∙ ap₂ (λ (ws : List ℕ) (b : ℕ). ws ++ b ∷ []) so at
      ∙ sym (take_open n front (ag * v.agblocks + i * size) few)
      ∙ ap (take n) (append_assoc xs (rooms_below v pool size from ag i) ((ag * v.agblocks + i * size) ∷ []) ∙ ap (λ (ws : List ℕ). xs ++ ws) (sym (rooms_more i passes)))

  pub rooms_full : (n i all : ℕ) (xs ys : List ℕ) → i ≤ all → ys ≡ take n (xs ++ rooms_below v pool size from ag i) → n ≤ length ys
      → ys ≡ take n (xs ++ rooms_below v pool size from ag all)
  rooms_full n i all xs ys low so full =
      let more = rooms_front i all low in
      let front = xs ++ rooms_below v pool size from ag i in
      let enough : n ≤ length (take n front) = subst (λ (ws : List ℕ). n ≤ length ws) so full in
      so ∙ sym (take_full n front more.0 enough)
      ∙ ap (take n) (append_assoc xs (rooms_below v pool size from ag i) more.0 ∙ ap (λ (ws : List ℕ). xs ++ ws) (sym more.1))

-- a number below the quotient lies inside
pub number_inside : (i size length : ℕ) → 1 ≤ size → i < length / size → i * size + size ≤ length
number_inside i size length some low =
    let most : (i + 1) * size ≤ length / size * size = mul-le-mul_right size (omega (arith, low)) in
    omega (arith, most)
