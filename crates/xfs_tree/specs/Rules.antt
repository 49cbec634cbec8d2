-- The rules that a block of a tree keeps, by number in the order in which they are judged (chapter "Common B+trees").
use Rattle.std.specs.Prelude.{ℕ, ◌+◌, ◌*◌, ◌/◌, ◌==◌, ◌^◌, ◌-◌, Bool, true, false, not, ◌&&◌, ◌||◌, nat_le, nat_lt, if◌then◌else◌, List, [], ◌∷◌, Option, Some, None, slice_get}
use Rattle.std.specs.List.{list_any}
use Rattle.std.specs.Ordering.{is_lt}
use Rattle.xfs_word.specs.Seal.{is_sealed}
use Rattle.xfs_word.specs.declared.kinds.Seal.{Seal}
use Rattle.xfs_word.specs.declared.kinds.SealKind.TheVariants.{ShortTree, LongTree}
use Rattle.xfs_geom.specs.Conversions.{is_fixed, address_of}
use Rattle.xfs_geom.specs.First.{first_false}
use Rattle.xfs_geom.specs.Groups.{block_of_address}
use Rattle.xfs_geom.specs.Volumes.{Volume}
use Rattle.xfs_tree.specs.declared.layout.Layout.{Layout}
use Rattle.xfs_tree.specs.declared.seats.Seat.{Seat}
use Rattle.xfs_tree.specs.Shape.{Shape}
use Rattle.xfs_tree.specs.Blocks.{level_of, count_of, left_of, right_of, no_sibling, capacity, records_of, lows_of, highs_of}

-- the block is one of the four whose inodes are the root and its neighbours
abbrev pub is_of_root_cluster : Volume → ℕ → Bool
is_of_root_cluster v block =
    let cluster = block_of_address v.agblocks v.agblklog (v.rootino / 32 * 4) in
    nat_le cluster block && nat_lt block (cluster + 4)

-- the block can be one of the owner's tree: it lies in the group, or for an inode's tree in the volume, has no fixed use and
-- is not of the root's cluster
abbrev pub can_hold : Volume → Layout → ℕ → ℕ → Bool
can_hold v l owner block =
    nat_lt block v.dblocks
    && (l.long || block / v.agblocks == owner)
    && not (is_fixed v block)
    && not (is_of_root_cluster v block)

-- how a block of the owner's tree is sealed; its own address counts sectors
abbrev pub block_seal : Volume → Layout → ℕ → ℕ → Seal
block_seal v l owner block = record {
  kind = if l.long then LongTree else ShortTree l.magic;
  place = 8 * block;
  owner = Some owner;
  uuid = v.uuid;
}

-- the address of a block; one outside the volume stands as all ones
abbrev pub address_or_ones : Volume → ℕ → ℕ
address_or_ones v block = if nat_lt block v.dblocks then address_of v block else 2 ^ 64 - 1

-- the pointer to a sibling is that of the neighbour on the level, or all ones where there is none
abbrev pub is_sibling : Volume → Layout → ℕ → Option ℕ → ℕ → Bool
is_sibling v l owner None pointer = pointer == no_sibling l
is_sibling v l owner (Some block) pointer = if l.long then pointer == address_or_ones v block else (owner * v.agblocks + pointer == block)

-- a leaf that is the root may be empty
abbrev pub least_of : {K : Type 0} → ℕ → Option K → ℕ
least_of level None = if level == 0 then 0 else 1
least_of level (Some low) = 1

-- what comes last: the last of the list, or what was before where it is empty
abbrev pub last_of : {A : Type 0} → Option A → List A → Option A
last_of before [] = before
last_of before (x ∷ xs) = last_of (Some x) xs

module _ {R K : Type 0} (s : Shape R K) where
  -- each record is lawful behind the one in front of it
  abbrev pub are_lawful : Volume → Option R → List R → Bool
  are_lawful v before [] = true
  are_lawful v before (r ∷ rs) = s.lawful v before r && are_lawful v (Some r) rs

  -- each key is above the one in front of it
  abbrev pub is_above : Option K → K → Bool
  is_above None k = true
  is_above (Some before) k = is_lt (s.order before k)

  abbrev pub ascend_behind : Option K → List K → Bool
  ascend_behind before [] = true
  ascend_behind before (k ∷ ks) = is_above before k && ascend_behind (Some k) ks

  -- the greatest of some keys, where there is one
  abbrev pub greater : Option K → K → K
  greater None k = k
  greater (Some best) k = if is_lt (s.order best k) then k else best

  abbrev pub greatest_with : Option K → List K → Option K
  greatest_with best [] = best
  greatest_with best (k ∷ ks) = greatest_with (Some (greater best k)) ks

  -- a key is the one that the parent states, where it states one
  abbrev pub bound_agrees : Option K → Option K → Bool
  bound_agrees None held = true
  bound_agrees (Some due) None = false
  bound_agrees (Some due) (Some key) = s.same due key

  -- the records of a leaf are lawful behind those in front of it; the keys of a node ascend
  abbrev pub is_ordered : Volume → ℕ → Option R → List ℕ → Bool
  is_ordered v level before block =
      if level == 0 then are_lawful v before (records_of s block) else ascend_behind None (lows_of s level block)

  -- the low key of a block, and the high key: the greatest of what it holds
  abbrev pub low_of : ℕ → List ℕ → Option K
  low_of level block = slice_get (lows_of s level block) 0

  abbrev pub high_of : ℕ → List ℕ → Option K
  high_of level block = greatest_with None (highs_of s level block)

  -- rules 3 to 8: sealed, its level, how many it holds, their order, the parent's keys, the siblings
  abbrev pub block_tests : Volume → ℕ → Option ℕ → Option ℕ → Option R → Seat K → List ℕ → List (ℕ × Bool)
  block_tests v level left right before seat block =
      (3, is_sealed (block_seal v s.layout s.owner seat.place) block)
      ∷ (4, level_of block == level)
      ∷ (5, nat_le (least_of level seat.low) (count_of block) && nat_le (count_of block) (capacity s.layout level))
      ∷ (6, is_ordered v level before block)
      ∷ (7, bound_agrees seat.low (low_of level block) && (not s.layout.high || bound_agrees seat.high (high_of level block)))
      ∷ (8, is_sibling v s.layout s.owner left (left_of s.layout block) && is_sibling v s.layout s.owner right (right_of s.layout block))
      ∷ []

  -- the first rule that a block breaks between its neighbours and behind the record in front of it
  unfoldable pub block_fault : Volume → ℕ → Option ℕ → Option ℕ → Option R → Seat K → List ℕ → Option ℕ
  block_fault v level left right before seat block = first_false (block_tests v level left right before seat block)

  -- rules 1 and 2 come before: the block can be one of the tree, and was not met before
  abbrev pub place_fault : Volume → List ℕ → ℕ → Option ℕ
  place_fault v met place =
      first_false ((1, can_hold v s.layout s.owner place) ∷ (2, not (list_any (λ block. block == place) met)) ∷ [])
