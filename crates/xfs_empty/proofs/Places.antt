-- The blocks of an empty volume whose bytes are at hand.
use Rattle.std.proofs.Common.{◌≡◌, ℕ, ◌+◌, ◌-◌, ◌*◌, ◌/◌, ◌%◌, ◌≤◌, ◌<◌, ◌⊎◌, inl, inr, false, List, length, length-append, get_or, arith, ap, ◌∙◌}
use Rattle.std.specs.List.{All, range_with_len}
use Rattle.std.proofs.Math.Nat.{mod-eq_of_lt, div-eq_of_lt, mul-mod_left}
use Rattle.std.proofs.lemmas.Bool.{cases_lt, eqb-false}
use Rattle.std.proofs.lemmas.List.{get_or-append-add, get_or_append_left, get_or_default}
use Rattle.std.proofs.lemmas.List.FromFn.{get_or-map-range_with_len, get_or-range_with_len, length-map-range_with_len}
use Rattle.xfs_disk.specs.declared.stamp.Stamp.{Stamp}
use Rattle.xfs_geom.proofs.Bounds.{group_start}
use Rattle.xfs_geom.specs.Conversions.{address_of, inode_of}
use Rattle.xfs_geom.specs.Shape.{HasGroups}
use Rattle.xfs_geom.specs.Volumes.{Volume, volume_of}
use Rattle.xfs_geom.specs.declared.geometry.Geometry.{Geometry}
use Rattle.xfs_render.specs.Clusters.{CanCluster}
use Rattle.xfs_render.specs.Rendering.{is_head}
use Rattle.xfs_render.specs.declared.wanted_slots.SlotWanted.{SlotWanted}
use Rattle.xfs_empty.specs.Bytes.{AreFirstSlots, empty_places, header_places}
use Rattle.xfs_empty.specs.Inodes.{unused_slot}
use Rattle.xfs_empty.proofs.Kept.{many}
use Rattle.xfs_empty.proofs.Slots.{AreNumbered, first_can, slot_can, wanted_is}

-- one of the places is the first block of a group, or one of the first chunk
pub record IsHeadAt (g : Geometry) (i : ℕ) : Type 0 where
  pub low : i < g.agcount
  pub is : get_or (empty_places g) i 0 ≡ i * g.agblocks

pub record IsChunkAt (g : Geometry) (i : ℕ) : Type 0 where
  pub block : ℕ
  pub few : block < 8
  pub at : i ≡ g.agcount + block
  pub is : get_or (empty_places g) i 0 ≡ 16 + block

heads : (g : Geometry) → length (header_places g.agblocks g.agcount) ≡ g.agcount
heads g = length-map-range_with_len (λ ag. ag * g.agblocks) 0 g.agcount

pub count_places : (g : Geometry) → length (empty_places g) ≡ g.agcount + 8
count_places g =
    let all = length-append (header_places g.agblocks g.agcount) (range_with_len 16 8) in
    omega (arith, all, heads g)

pub head_at : (g : Geometry) (i : ℕ) → i < g.agcount → IsHeadAt g i
head_at g i low =
    let inside : i < length (header_places g.agblocks g.agcount) = omega (arith, heads g, low) in
    record {
      low = low;
      is =
          get_or_append_left (header_places g.agblocks g.agcount) (range_with_len 16 8) 0 i inside
          ∙ get_or-map-range_with_len (λ ag. ag * g.agblocks) 0 g.agcount i i 0 low (omega arith);
    }

pub chunk_at : (g : Geometry) (i block : ℕ) → block < 8 → i ≡ g.agcount + block → IsChunkAt g i
chunk_at g i block few at =
    let there : i ≡ length (header_places g.agblocks g.agcount) + block = omega (arith, heads g, at) in
    record {
      block = block;
      few = few;
      at = at;
      is =
          ap (λ (n : ℕ). get_or (empty_places g) n 0) there
          ∙ (get_or-append-add (header_places g.agblocks g.agcount) (range_with_len 16 8) block 0
          ∙ get_or-range_with_len 16 8 block 0 few);
    }

pub place_cases : (g : Geometry) (i : ℕ) → i < length (empty_places g) → IsHeadAt g i ⊎ IsChunkAt g i
place_cases g i low = by_case (cases_lt i g.agcount)
  where
    by_case : (i < g.agcount) ⊎ (g.agcount ≤ i) → IsHeadAt g i ⊎ IsChunkAt g i
    by_case (inl less) = inl (head_at g i less)
    by_case (inr more) = inr (chunk_at g i (i - g.agcount) (omega (arith, count_places g, low, more)) (omega (arith, more)))

-- all of them lie in the volume
pub all_inside : (g : Geometry) → All (λ place. place < g.dblocks) (empty_places g)
all_inside g k d low = by_case (place_cases g k low)
  where
    same : get_or (empty_places g) k d ≡ get_or (empty_places g) k 0
    same = get_or_default (empty_places g) k d 0 low

    by_case : IsHeadAt g k ⊎ IsChunkAt g k → get_or (empty_places g) k d < g.dblocks
    by_case (inl head) =
        let start : k * g.agblocks < g.dblocks = group_start k g.agcount g.agblocks g.dblocks head.low g.shape.groups.last in
        let at = head.is in
        omega (arith, same, at, start)
    by_case (inr chunk) =
        let enough : 1024 ≤ g.dblocks = many (volume_of g) g.shape.groups in
        let at = chunk.is in
        let few = chunk.few in
        omega (arith, same, at, few, enough)

-- the inodes of a block of the first chunk
pub chunk_inode : (v : Volume) (block k : ℕ) → HasGroups v.dblocks v.agblocks v.agcount → block < 8
    → inode_of v (16 + block) k ≡ 128 + (8 * block + k)
unfolding inode_of address_of
chunk_inode v block k groups few =
    let short : 16 + block < v.agblocks = omega (arith, groups.large, few) in
    let group : (16 + block) / v.agblocks ≡ 0 = div-eq_of_lt short in
    let rest : (16 + block) % v.agblocks ≡ 16 + block = mod-eq_of_lt short in
    rw (group, rest) (omega arith)

-- the slots are numbered from 128 on
pub numbered : (g : Geometry) (s : Stamp) (slots : List SlotWanted) → AreFirstSlots g s slots → AreNumbered 128 slots
numbered g s slots first =
    record { each = λ k d low. (first.each k d (omega (arith, low, first.count))).number }

no_slot : SlotWanted
no_slot = unused_slot 0

-- what is wanted of the slots of a block of the first chunk can be made, whatever stood there before
pub chunk_can : (g : Geometry) (s : Stamp) (slots : List SlotWanted) (block place : ℕ) (old : List ℕ) → AreFirstSlots g s slots → block < 8
    → place ≡ 16 + block → CanCluster (volume_of g) slots place old
chunk_can g s slots block place old first few at =
    record {
      each = λ k low.
          let v = volume_of g in
          let i : ℕ = 8 * block + k in
          let inside : 8 * block + k < 64 = omega (arith, few, low) in
          let there : inode_of v place k ≡ 128 + (8 * block + k) = ap (λ (p : ℕ). inode_of v p k) at ∙ chunk_inode v block k g.shape.groups few in
          let is = wanted_is 128 (inode_of v place k) (8 * block + k) slots no_slot (numbered g s slots first) (omega (arith, inside, first.count)) there in
          slot_can v slots (inode_of v place k) (get_or slots (8 * block + k) no_slot) _ is
          (first_can v s (128 + (8 * block + k)) (get_or slots (8 * block + k) no_slot) _ (omega arith) (first.each (8 * block + k) no_slot inside));
    }

-- the same of each place that is no first block of a group
pub places_can : (g : Geometry) (s : Stamp) (slots : List SlotWanted) (i : ℕ) (old : List ℕ) → AreFirstSlots g s slots → i < length (empty_places g)
    → is_head (volume_of g) (get_or (empty_places g) i 0) ≡ false → CanCluster (volume_of g) slots (get_or (empty_places g) i 0) old
places_can g s slots i old first low other = by_case (place_cases g i low)
  where
    by_case : IsHeadAt g i ⊎ IsChunkAt g i → CanCluster (volume_of g) slots (get_or (empty_places g) i 0) old
    by_case (inl head) =
        let none : get_or (empty_places g) i 0 % g.agblocks ≡ 0 = ap (λ (p : ℕ). p % g.agblocks) head.is ∙ mul-mod_left i g.agblocks in
        absurd (eqb-false _ _ other none)
    by_case (inr chunk) = chunk_can g s slots chunk.block _ old first chunk.few chunk.is
