-- Where the chunks of a new volume stand.
use Rattle.std.proofs.Common.{◌≡◌, ℕ, zero, suc, ◌+◌, ◌*◌, ◌/◌, ◌≤◌, ◌<◌, ◌&&◌, Bool, true, nat_le, List, [], ◌∷◌, length, get_or, arith, refl, sym, subst}
use Rattle.std.specs.List.{All, filter, flat_map, list_all, range_with_len}
use Rattle.std.proofs.lemmas.Bool.{and_parts, leb-true}
use Rattle.std.proofs.lemmas.List.{get_or-map, length-map}
use Rattle.std.proofs.lemmas.List.Elements.{All-append, filter_passes}
use Rattle.std.proofs.lemmas.List.FromFn.{get_or-range_with_len, length-range_with_len}
use Rattle.xfs_geom.specs.Conversions.{group_length}
use Rattle.xfs_geom.specs.Volumes.{Volume}
use Rattle.xfs_place.specs.Chunks.{is_room, lies_in_chunks, rooms, rooms_below}

-- a chunk of a group, by its number among those of eight blocks, and its blocks are of the pool
pub record IsRoomOf (v : Volume) (pool : ℕ → Bool) (start : ℕ) : Type 0 where
  pub group : ℕ
  pub number : ℕ
  pub inside : group < v.agcount
  pub at : start ≡ group * v.agblocks + number * 8
  pub behind : 24 ≤ number * 8
  pub ends : number * 8 + 8 ≤ group_length v group / 8 * 8
  pub open' : list_all pool (range_with_len start 8) ≡ true

module _ (v : Volume) (pool : ℕ → Bool) where
  room_says : (ag i : ℕ) → ag < v.agcount → is_room v pool 8 24 ag i ≡ true → IsRoomOf v pool (ag * v.agblocks + i * 8)
  unfolding is_room
  room_says ag i inside is =
      let both = and_parts (lies_in_chunks (group_length v ag) 8 24 (i * 8)) (list_all pool (range_with_len (ag * v.agblocks + i * 8) 8)) is in
      let lies = and_parts (nat_le 8 (i * 8) && nat_le 24 (i * 8)) (nat_le (i * 8 + 8) (group_length v ag / 8 * 8)) both.0 in
      let low = and_parts (nat_le 8 (i * 8)) (nat_le 24 (i * 8)) lies.0 in
      record {
        group = ag;
        number = i;
        inside = inside;
        at = refl;
        behind = leb-true 24 (i * 8) low.1;
        ends = leb-true (i * 8 + 8) (group_length v ag / 8 * 8) lies.1;
        open' = both.1;
      }

  rooms_say : (ag n : ℕ) → ag < v.agcount → All (IsRoomOf v pool) (rooms_below v pool 8 24 ag n)
  unfolding rooms_below
  rooms_say ag n inside = λ m d low.
      let f : ℕ → ℕ = λ i. ag * v.agblocks + i * 8 in
      let xs = filter (is_room v pool 8 24 ag) (range_with_len 0 n) in
      let few : m < length xs = let long = length-map xs f in omega (arith, long, low) in
      let passes = filter_passes (is_room v pool 8 24 ag) (range_with_len 0 n) m 0 few in
      subst (IsRoomOf v pool) (sym (get_or-map f xs m 0 d few)) (room_says ag (get_or xs m 0) inside passes)

  all_flat : (f : ℕ → List ℕ) (P : ℕ → Type 0) (xs : List ℕ) → ((k d : ℕ) → k < length xs → All P (f (get_or xs k d))) → All P (flat_map f xs)
  all_flat f P [] each = λ k d low. absurd (omega (arith, low))
  all_flat f P (x ∷ xs) each = All-append P (f x) (flat_map f xs) (each zero x (omega arith)) (all_flat f P xs (λ k d low. each (suc k) d (omega (arith, low))))

  -- each chunk that a volume has room for
  pub all_rooms : All (IsRoomOf v pool) (rooms v pool 8 24)
  unfolding rooms
  all_rooms =
      all_flat (λ (ag : ℕ). rooms_below v pool 8 24 ag (group_length v ag / 8)) (IsRoomOf v pool) (range_with_len 0 v.agcount) (λ k d low.
      let few : k < v.agcount = let long = length-range_with_len 0 v.agcount in omega (arith, long, low) in
      let is = get_or-range_with_len 0 v.agcount k d few in
      rooms_say (get_or (range_with_len 0 v.agcount) k d) (group_length v (get_or (range_with_len 0 v.agcount) k d) / 8) (omega (arith, is, few)))
