-- Where a new cluster stands: inside the volume, on blocks that are neither fixed nor taken.
use Rattle.std.proofs.Common.{◌≡◌, ℕ, Bool, true, false, not, ◌+◌, ◌*◌, ◌/◌, ◌≤◌, ◌<◌, ◌⊎◌, inl, inr, ◌&&◌, nat_le, List, [], ◌∷◌, refl, subst, arith}
use Rattle.std.specs.List.{filter, list_all, range_with_len}
use Rattle.std.proofs.lemmas.Bool.{and_parts, leb-true}
use Rattle.xfs_geom.specs.Conversions.{group_length, is_fixed}
use Rattle.xfs_geom.specs.Volumes.{Volume, volume_of}
use Rattle.xfs_geom.specs.declared.geometry.Geometry.{Geometry}
use Rattle.xfs_names.specs.declared.place.LostPlace.{LostPlace}
use Rattle.xfs_names.specs.declared.place.LostPlace.TheVariants as place
use Rattle.xfs_place.specs.Chunks.{asked_pool, asked_rooms, is_room, lies_in_chunks, rooms, rooms_below, rooms_of}
use Rattle.xfs_place.specs.Pool.{is_listed, is_pool, is_taken, is_unspared}
use Rattle.xfs_salvage.proofs.xfs_views.Members.{Member, filter_member, flat_member, map_member, member_row, row_member}
use Rattle.xfs_space.proofs.RecordedMaps.{group_inside}
use Rattle.xfs_rebuild.specs.declared.names_due.NamesDue.{NamesDue}
use Rattle.xfs_rename.specs.Lost.{added, added_for, cluster_ask, first_of, place_due, spared}

-- what passes of a list passes of each that it has
all_pass : {X : Type 0} (test : X → Bool) (x : X) (xs : List X) → list_all test xs ≡ true → Member x xs → test x ≡ true
all_pass test x [] all is = absurd is
all_pass test x (y ∷ ys) all is =
    let parts = and_parts (test y) (list_all test ys) all in
    elim is [
      | inl same ↦ subst (λ z. test z ≡ true) same parts.0
      | inr there ↦ all_pass test x ys parts.1 there
    ]

not_true : (t : Bool) → not t ≡ true → t ≡ false
not_true true is = absurd cc
not_true false is = refl

-- a room of four blocks
record IsRoom (g : Geometry) (pool : ℕ → Bool) (c : ℕ) : Type 0 where
  pub inside : c + 4 ≤ g.dblocks
  pub each : (b : ℕ) → c ≤ b → b < c + 4 → pool b ≡ true

room_is : (g : Geometry) (pool : ℕ → Bool) (ag i c : ℕ) → ag < g.agcount → is_room (volume_of g) pool 4 0 ag i ≡ true → ag * g.agblocks + i * 4 ≡ c → IsRoom g pool c
unfolding is_room
room_is g pool ag i c low room is =
    let v : Volume = volume_of g in
    let parts = and_parts (lies_in_chunks (group_length v ag) 4 0 (i * 4)) (list_all pool (range_with_len (ag * g.agblocks + i * 4) 4)) room in
    let lies = and_parts (nat_le 8 (i * 4) && nat_le 0 (i * 4)) (nat_le (i * 4 + 4) (group_length v ag / 8 * 8)) parts.0 in
    let end : i * 4 + 4 ≤ group_length v ag / 8 * 8 = leb-true (i * 4 + 4) (group_length v ag / 8 * 8) lies.1 in
    let group = group_inside v ag low g.shape.groups.last in
    record {
      inside = omega (arith, end, group, is);
      each = λ b above below.
          all_pass pool b (range_with_len (ag * g.agblocks + i * 4) 4) parts.1 (member_row b (ag * g.agblocks + i * 4) 4 (omega (arith, is, above)) (omega (arith, is, below)));
    }

rooms_are : (g : Geometry) (pool : ℕ → Bool) (c : ℕ) → Member c (rooms (volume_of g) pool 4 0) → IsRoom g pool c
unfolding rooms rooms_below
rooms_are g pool c is =
    let v : Volume = volume_of g in
    let of = flat_member (rooms_of v pool 4 0) c (range_with_len 0 g.agcount) is in
    let group = row_member of.0 0 g.agcount of.1 in
    let low = group.high in
    let at = map_member (λ i. of.0 * v.agblocks + i * 4) c (filter (is_room v pool 4 0 of.0) (range_with_len 0 (group_length v of.0 / 4))) of.2 in
    let room = filter_member (is_room v pool 4 0 of.0) at.0 (range_with_len 0 (group_length v of.0 / 4)) at.1 in
    room_is g pool of.0 at.0 c (omega (arith, low)) room.1 at.2

-- a cluster of blocks that nothing has
pub record IsFreeCluster (g : Geometry) (n : NamesDue) (c : ℕ) : Type 0 where
  pub inside : c + 4 ≤ g.dblocks
  pub clear : (b : ℕ) → c ≤ b → b < c + 4 → is_fixed (volume_of g) b ≡ false
  pub free : (b : ℕ) → c ≤ b → b < c + 4 → is_taken n.wanted.taken b ≡ false

record IsPoolBlock (g : Geometry) (n : NamesDue) (b : ℕ) : Type 0 where
  pub clear : is_fixed (volume_of g) b ≡ false
  pub free : is_taken n.wanted.taken b ≡ false

module _ (g : Geometry) (n : NamesDue) where
  pool_block : (sparing : List ℕ) (b : ℕ) → asked_pool (cluster_ask g n sparing) b ≡ true → IsPoolBlock g n b
  unfolding is_pool
  pool_block sparing b is =
      let v : Volume = volume_of g in
      let parts = and_parts (is_pool v n.wanted.taken n.wanted.reserved b) (is_unspared v sparing b) is in
      let two = and_parts (not (is_fixed v b) && not (is_taken n.wanted.taken b)) (not (is_listed n.wanted.reserved b)) parts.0 in
      let one = and_parts (not (is_fixed v b)) (not (is_taken n.wanted.taken b)) two.0 in
      record { clear = not_true (is_fixed v b) one.0; free = not_true (is_taken n.wanted.taken b) one.1 }

  asked_free : (sparing : List ℕ) (c : ℕ) → Member c (asked_rooms (cluster_ask g n sparing)) → IsFreeCluster g n c
  asked_free sparing c is =
      let room : IsRoom g (asked_pool (cluster_ask g n sparing)) c = rooms_are g (asked_pool (cluster_ask g n sparing)) c is in
      record {
        inside = room.inside;
        clear = λ b above below. (pool_block sparing b (room.each b above below)).clear;
        free = λ b above below. (pool_block sparing b (room.each b above below)).free;
      }

  -- no cluster, or one on such blocks
  abbrev pub IsOneOrNone : List ℕ → Type 0
  IsOneOrNone cs = (cs ≡ []) ⊎ ((c : ℕ) × (cs ≡ c ∷ []) × IsFreeCluster g n c)

  first_case : (xs ys : List ℕ) → ((c : ℕ) → Member c xs → IsFreeCluster g n c) → ((c : ℕ) → Member c ys → IsFreeCluster g n c) → IsOneOrNone (first_of xs ys)
  first_case [] [] one two = inl refl
  first_case [] (y ∷ ys) one two = inr (y, refl, two y (inl refl))
  first_case (x ∷ xs) ys one two = inr (x, refl, one x (inl refl))

  place_case : (p : LostPlace) → IsOneOrNone (added_for g n p)
  place_case place.Unneeded = inl refl
  place_case (place.Old ino) = inl refl
  place_case (place.Slot ino) = inl refl
  place_case place.Cluster =
      first_case (asked_rooms (cluster_ask g n (spared g n))) (asked_rooms (cluster_ask g n [])) (asked_free (spared g n)) (asked_free [])

  pub added_is : IsOneOrNone (added g n)
  added_is = place_case (place_due g n)
