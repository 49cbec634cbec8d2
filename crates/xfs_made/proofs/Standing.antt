-- What stands in an image that has the plan of an empty volume.
use Rattle.std.proofs.Common.{◌≡◌, ℕ, ◌+◌, ◌/◌, ◌%◌, ◌<◌, ◌≤◌, false, List, length, get_or, Some, refl, ap, ◌∙◌, subst, arith}
use Rattle.std.proofs.Math.Nat.{mod-eq_of_lt}
use Rattle.std.proofs.lemmas.Bool.{ne_eqb}
use Rattle.xfs_disk.specs.Blocks.{Image, IsImage}
use Rattle.xfs_disk.specs.declared.stamp.Stamp.{Stamp}
use Rattle.xfs_geom.specs.Conversions.{inode_of}
use Rattle.xfs_geom.specs.Volumes.{Volume, volume_of}
use Rattle.xfs_geom.specs.declared.geometry.Geometry.{Geometry}
use Rattle.xfs_image.specs.Slots.{slot_bytes}
use Rattle.xfs_place.specs.declared.placed.Placed.{Placed}
use Rattle.xfs_render.specs.Clusters.{slot_in}
use Rattle.xfs_render.specs.Plans.{HoldsPlan}
use Rattle.xfs_render.specs.Rendering.{is_head, old_at, byte_place}
use Rattle.xfs_render.specs.Slots.{IsMadeSlot, IsSlotDue, wanted_of}
use Rattle.xfs_render.specs.declared.bytes.Bytes.{Bytes}
use Rattle.xfs_render.specs.declared.plan.Plan.{Plan}
use Rattle.xfs_render.specs.declared.wanted_slots.SlotWanted.{SlotWanted}
use Rattle.xfs_made.proofs.Slots.{slots_stand}
use Rattle.xfs_made.specs.Standing.{HasHeads, IsStanding}
use Rattle.xfs_empty.proofs.Kept.{many}
use Rattle.xfs_empty.proofs.Places.{chunk_at, chunk_inode, count_places, head_at, numbered}
use Rattle.xfs_empty.proofs.Slots.{wanted_is}
use Rattle.xfs_empty.specs.Bytes.{IsEmptyBytes}
use Rattle.xfs_empty.specs.Inodes.{unused_slot}
use Rattle.xfs_empty.specs.Placing.{empty_wanted}
use Rattle.xfs_empty.specs.Planning.{IsEmptyPlan}
use Rattle.xfs_made.specs.Files.{HasFirstSlot, HasFirstSlots}

-- the first block of each group was at hand
heads_at : (g : Geometry) (sector : List ℕ) (s : Stamp) (b : Bytes) → IsEmptyBytes g sector s b → HasHeads (empty_wanted g) b
heads_at g sector s b made ag low =
    let count : length b.places ≡ g.agcount + 8 = ap length made.places' ∙ count_places g in
    (ag, omega (arith, count, low), ap (λ (ps : List ℕ). get_or ps ag 0) made.places' ∙ (head_at g ag low).is)

-- an image that has the plan has the volume
pub plan_stands : (g : Geometry) (sector : List ℕ) (s : Stamp) (plan : Plan) (blocks : ℕ) (image : Image) → (is : IsEmptyPlan g sector s plan)
    → IsImage blocks image → g.dblocks ≤ blocks → HoldsPlan image plan → IsStanding (empty_wanted g) is.is.placed is.bytes is.is.rendered.super image
plan_stands g sector s plan blocks image is whole enough held =
    record {
      volume' = is.is.rendered.reads image held;
      due = is.is.rendered.due;
      heads = heads_at g sector s is.bytes is.made;
      size = let count = whole.count in omega (arith, count, enough);
    }

no_slot : SlotWanted
no_slot = unused_slot 0

-- what is wanted of a slot was made
due_made : (v : Volume) (generation : ℕ) (slots : List SlotWanted) (ino : ℕ) (old new : List ℕ) (w : SlotWanted) → wanted_of slots ino ≡ Some w
    → IsSlotDue v generation slots ino old new → IsMadeSlot v generation w old new
due_made v generation slots ino old new w is due = rw is at due

module _ (g : Geometry) (sector : List ℕ) (s : Stamp) (p : Placed) (b : Bytes) (super : List ℕ) (image : Image) (made : IsEmptyBytes g sector s b)
    (is : IsStanding (empty_wanted g) p b super image) (i : ℕ) (low : i < 64) where
  abbrev v : Volume
  v = volume_of g

  -- the index of the block of the slot among the places, and the number of the slot in it
  abbrev index : ℕ
  index = g.agcount + i / 8

  abbrev k : ℕ
  k = i % 8

  few : i / 8 < 8
  few = omega (arith, low)

  few_slots : k < 8
  few_slots = omega arith

  inside : index < length b.places
  inside =
      let count : length b.places ≡ g.agcount + 8 = ap length made.places' ∙ count_places g in
      omega (arith, count, few)

  place : byte_place b index ≡ 16 + i / 8
  place =
      let chunk = chunk_at g index (i / 8) few refl in
      let there = chunk.at in
      let same : chunk.block ≡ i / 8 = omega (arith, there) in
      ap (λ (ps : List ℕ). get_or ps index 0) made.places' ∙ (chunk.is ∙ ap (λ (n : ℕ). 16 + n) same)

  other : is_head v (byte_place b index) ≡ false
  other =
      let large = g.shape.groups.large in
      let short : 16 + i / 8 < g.agblocks = omega (arith, large, few) in
      let rest : byte_place b index % g.agblocks ≡ 16 + i / 8 = ap (λ (n : ℕ). n % g.agblocks) place ∙ mod-eq_of_lt short in
      ne_eqb (byte_place b index % g.agblocks) 0 (λ same. absurd (omega (arith, rest, same)))

  here : byte_place b index < g.dblocks
  here = let enough = many v g.shape.groups in omega (arith, place, few, enough)

  number : inode_of v (byte_place b index) k ≡ 128 + i
  number = ap (λ (n : ℕ). inode_of v n k) place ∙ chunk_inode v (i / 8) k g.shape.groups few ∙ omega arith

  wanted : wanted_of b.slots (128 + i) ≡ Some (get_or b.slots i no_slot)
  wanted =
      let count = made.slots'.count in
      wanted_is 128 (128 + i) i b.slots no_slot (numbered g s b.slots made.slots') (omega (arith, count, low)) refl

  generation : b.stamp.generation ≡ s.generation
  generation = ap (λ (t : Stamp). t.generation) made.stamp'

  slot_made : HasFirstSlot v s image (128 + i)
  slot_made =
      let old = slot_in (old_at b index) k in
      let due : IsSlotDue v b.stamp.generation b.slots (128 + i) old (slot_bytes v image (128 + i)) =
      subst (λ (ino : ℕ). IsSlotDue v b.stamp.generation b.slots ino old (slot_bytes v image ino)) number
      (slots_stand (empty_wanted g) p b super image is index k inside few_slots other here) in
      record {
        wanted = get_or b.slots i no_slot;
        old = old;
        first = made.slots'.each i no_slot low;
        made =
            subst (λ (n : ℕ). IsMadeSlot v n (get_or b.slots i no_slot) old (slot_bytes v image (128 + i))) generation
            (due_made v b.stamp.generation b.slots (128 + i) old (slot_bytes v image (128 + i)) (get_or b.slots i no_slot) wanted due);
      }

-- all 64 slots of the first chunk were made
pub slots_made : (g : Geometry) (sector : List ℕ) (s : Stamp) (p : Placed) (b : Bytes) (super : List ℕ) (image : Image) → IsEmptyBytes g sector s b
    → IsStanding (empty_wanted g) p b super image → HasFirstSlots (volume_of g) s image
slots_made g sector s p b super image made is = record { each = slot_made g sector s p b super image made is }
