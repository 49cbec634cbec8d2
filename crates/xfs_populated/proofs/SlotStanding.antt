-- What stands in the slots of an image that has the plan of a volume with files.
use Rattle.std.proofs.Common.{◌≡◌, ℕ, zero, suc, ◌+◌, ◌*◌, ◌/◌, ◌%◌, ◌<◌, Bool, true, false, ◌||◌, List, [], ◌∷◌, ◌++◌, length, length-append, get_or, Some, arith, refl, subst, ap, ◌∙◌}
use Rattle.std.specs.List.{range_with_len}
use Rattle.std.proofs.Math.Nat.{mod-lt}
use Rattle.std.proofs.lemmas.List.{get_or-append-add, get_or_append_left}
use Rattle.std.proofs.lemmas.List.FromFn.{get_or-map-range_with_len, get_or-range_with_len, length-map-range_with_len, length-range_with_len}
use Rattle.xfs_disk.specs.Blocks.{Image}
use Rattle.xfs_disk.specs.declared.stamp.Stamp.{Stamp}
use Rattle.xfs_geom.specs.Conversions.{inode_of, is_fixed}
use Rattle.xfs_geom.specs.Volumes.{Volume, volume_of}
use Rattle.xfs_geom.specs.declared.geometry.Geometry.{Geometry}
use Rattle.xfs_geom.specs.declared.records.Run.{Run}
use Rattle.xfs_image.specs.Slots.{slot_bytes}
use Rattle.xfs_place.specs.declared.placed.Placed.{Placed}
use Rattle.xfs_render.specs.Clusters.{slot_in}
use Rattle.xfs_render.specs.Rendering.{is_head, old_at, byte_place}
use Rattle.xfs_render.specs.Slots.{IsMadeSlot, IsSlotDue, wanted_of}
use Rattle.xfs_render.specs.declared.bytes.Bytes.{Bytes}
use Rattle.xfs_render.specs.declared.plan.Plan.{Plan}
use Rattle.xfs_render.specs.declared.wanted_slots.SlotWanted.{SlotWanted}
use Rattle.xfs_made.proofs.Slots.{slots_stand}
use Rattle.xfs_made.specs.Standing.{HasHeads, IsStanding}
use Rattle.xfs_empty.specs.Bytes.{header_places}
use Rattle.xfs_proto.specs.declared.protofile.ProtoNode.{ProtoNode}
use Rattle.xfs_filled.specs.Chunks.{chunk_starts}
use Rattle.xfs_filled.specs.Numbers.{inode_at}
use Rattle.xfs_filled.specs.Slots.{all_slots, slot_of_index}
use Rattle.xfs_filled.specs.Wanting.{bytes_with, blocks_of_chunks, filled_bytes, filled_places, filled_wanted, wanted_by_chunks}
use Rattle.xfs_filled.proofs.Numbering.{block_few, chunk_inside}
use Rattle.xfs_filled.proofs.Slotted.{wanted_slot}
use Rattle.xfs_filled.proofs.Starting.{AreChunks, are_chunks, chunk_ends}
use Rattle.xfs_populated.specs.FilledSlots.{HasFilledSlot, HasFilledSlots}
use Rattle.xfs_populated.specs.Populated.{IsPopulated}

-- the blocks of chunks among the places
cluster_place : (starts : List ℕ) (c m i d : ℕ) → c < length starts → m < 8 → i ≡ 8 * c + m → get_or (blocks_of_chunks starts) i d ≡ get_or starts c 0 + m
cluster_place [] c m i d low few at = absurd (omega (arith, low))
cluster_place (x ∷ xs) zero m i d low few at =
    let long : length (range_with_len x 8) ≡ 8 = length-range_with_len x 8 in
    get_or_append_left (range_with_len x 8) (blocks_of_chunks xs) d i (omega (arith, at, few, long))
    ∙ get_or-range_with_len x 8 i d (omega (arith, at, few)) ∙ omega (arith, at)
cluster_place (x ∷ xs) (suc c) m i d low few at =
    let long : length (range_with_len x 8) ≡ 8 = length-range_with_len x 8 in
    let whole : i ≡ length (range_with_len x 8) + (8 * c + m) = omega (arith, at, long) in
    ap (λ (n : ℕ). get_or (range_with_len x 8 ++ blocks_of_chunks xs) n d) whole
    ∙ get_or-append-add (range_with_len x 8) (blocks_of_chunks xs) (8 * c + m) d
    ∙ cluster_place xs c m (8 * c + m) d (omega (arith, low)) few refl

pub clusters_long : (starts : List ℕ) → length (blocks_of_chunks starts) ≡ 8 * length starts
clusters_long [] = refl
clusters_long (x ∷ xs) =
    let long : length (range_with_len x 8) ≡ 8 = length-range_with_len x 8 in
    let both = length-append (range_with_len x 8) (blocks_of_chunks xs) in
    let rest = clusters_long xs in
    omega (arith, long, both, rest)

heads_long : (g : Geometry) → length (header_places g.agblocks g.agcount) ≡ g.agcount
heads_long g = length-map-range_with_len (λ ag. ag * g.agblocks) 0 g.agcount

pub places_long : (g : Geometry) (starts : List ℕ) → length (filled_places g starts) ≡ g.agcount + 8 * length starts
places_long g starts =
    let heads = heads_long g in
    let rest = clusters_long starts in
    let both = length-append (header_places g.agblocks g.agcount) (blocks_of_chunks starts) in
    omega (arith, heads, rest, both)

head_place : (g : Geometry) (starts : List ℕ) (ag : ℕ) → ag < g.agcount → get_or (filled_places g starts) ag 0 ≡ ag * g.agblocks
head_place g starts ag low =
    let heads = heads_long g in
    get_or_append_left (header_places g.agblocks g.agcount) (blocks_of_chunks starts) 0 ag (omega (arith, heads, low))
    ∙ get_or-map-range_with_len (λ ag. ag * g.agblocks) 0 g.agcount ag ag 0 low (omega arith)

chunk_place : (g : Geometry) (starts : List ℕ) (c m : ℕ) → c < length starts → m < 8 → get_or (filled_places g starts) (g.agcount + (8 * c + m)) 0 ≡ get_or starts c 0 + m
chunk_place g starts c m low few =
    let heads = heads_long g in
    let whole : g.agcount + (8 * c + m) ≡ length (header_places g.agblocks g.agcount) + (8 * c + m) = omega (arith, heads) in
    ap (λ (n : ℕ). get_or (filled_places g starts) n 0) whole
    ∙ get_or-append-add (header_places g.agblocks g.agcount) (blocks_of_chunks starts) (8 * c + m) 0
    ∙ cluster_place starts c m (8 * c + m) 0 low few refl

left_false : (a b : Bool) → (a || b) ≡ false → a ≡ false
left_false true b is = is
left_false false b is = refl

-- what is wanted of a slot was made
due_made : (v : Volume) (generation : ℕ) (slots : List SlotWanted) (ino : ℕ) (old new : List ℕ) (w : SlotWanted) → wanted_of slots ino ≡ Some w
    → IsSlotDue v generation slots ino old new → IsMadeSlot v generation w old new
due_made v generation slots ino old new w is due = rw is at due

module _ (g : Geometry) (sector : List ℕ) (s : Stamp) (starts : List ℕ) (ns : List ProtoNode) (contents : List (List ℕ)) (runs : List Run) where
  abbrev b : Bytes
  b = bytes_with g sector s starts ns contents runs

  heads_at : HasHeads (wanted_by_chunks g starts ns contents) (bytes_with g sector s starts ns contents runs)
  heads_at ag low = let long = places_long g starts in (ag, omega (arith, long, low), head_place g starts ag low)

  module _ (p : Placed) (super : List ℕ) (image : Image) (chunks : AreChunks (volume_of g) starts)
      (is : IsStanding (wanted_by_chunks g starts ns contents) p (bytes_with g sector s starts ns contents runs) super image) (j : ℕ) (low : j < 64 * length starts) where
    abbrev index : ℕ
    index = g.agcount + (8 * (j / 64) + j % 64 / 8)

    chunk_low : j / 64 < length starts
    chunk_low = chunk_inside j (length starts) low

    inside : index < length (filled_places g starts)
    inside = let long = places_long g starts in let few = block_few j in let chunk = chunk_low in omega (arith, long, few, chunk)

    place : byte_place b index ≡ get_or starts (j / 64) 0 + j % 64 / 8
    place = chunk_place g starts (j / 64) (j % 64 / 8) chunk_low (block_few j)

    other : is_head (volume_of g) (byte_place b index) ≡ false
    other =
        let few = block_few j in
        let clear : is_fixed (volume_of g) (get_or starts (j / 64) 0 + j % 64 / 8) ≡ false =
        (chunks.each (j / 64) 0 chunk_low).clear (get_or starts (j / 64) 0 + j % 64 / 8) (omega arith) (omega (arith, few)) in
        ap (is_head (volume_of g)) place ∙ left_false _ _ clear

    here : byte_place b index < g.dblocks
    here =
        let few = block_few j in
        let ends = chunk_ends (volume_of g) (get_or starts (j / 64) 0) g.shape.groups (chunks.each (j / 64) 0 chunk_low) in
        omega (arith, place, few, ends)

    number : inode_of (volume_of g) (byte_place b index) (j % 8) ≡ inode_at (volume_of g) starts j
    number = ap (λ (n : ℕ). inode_of (volume_of g) n (j % 8)) place

    slot_made : HasFilledSlot (volume_of g) s starts ns contents runs image j
    slot_made =
        let old = slot_in (old_at b index) (j % 8) in
        let due : IsSlotDue (volume_of g) s.generation (all_slots (volume_of g) s starts ns contents runs) (inode_at (volume_of g) starts j) old (slot_bytes (volume_of g) image (inode_at (volume_of g) starts j)) =
        subst (λ (ino : ℕ). IsSlotDue (volume_of g) s.generation (all_slots (volume_of g) s starts ns contents runs) ino old (slot_bytes (volume_of g) image ino)) number
        (slots_stand (wanted_by_chunks g starts ns contents) p b super image is index (j % 8) inside (mod-lt j (omega arith)) other here) in
        record {
          old = old;
          made =
              due_made (volume_of g) s.generation (all_slots (volume_of g) s starts ns contents runs) (inode_at (volume_of g) starts j) old
              (slot_bytes (volume_of g) image (inode_at (volume_of g) starts j)) (slot_of_index (volume_of g) s starts ns contents runs j)
              (wanted_slot (volume_of g) s starts ns contents runs (g.agcount * g.agblocks) 16 g.shape.groups g.shape.addresses chunks.rise j low) due;
        }

-- an image that has the plan has the volume
pub populated_stands : (g : Geometry) (sector : List ℕ) (s : Stamp) (ns : List ProtoNode) (contents : List (List ℕ)) (plan : Plan) (blocks : ℕ) (image : Image)
    → (is : IsPopulated g sector s ns contents plan blocks image)
    → IsStanding (filled_wanted g ns contents) is.filled.placed (filled_bytes g sector s ns contents is.filled.placed.runs) is.filled.rendered.super image
populated_stands g sector s ns contents plan blocks image is =
    record {
      volume' = is.filled.rendered.reads image is.holds;
      due = is.filled.rendered.due;
      heads = heads_at g sector s (chunk_starts g (length ns)) ns contents is.filled.placed.runs;
      size = let count = is.sized.count in let enough = is.enough in omega (arith, count, enough);
    }

-- all slots were made
pub slots_are_made : (g : Geometry) (sector : List ℕ) (s : Stamp) (ns : List ProtoNode) (contents : List (List ℕ)) (plan : Plan) (blocks : ℕ) (image : Image)
    → (is : IsPopulated g sector s ns contents plan blocks image)
    → HasFilledSlots (volume_of g) s (chunk_starts g (length ns)) ns contents is.filled.placed.runs image
slots_are_made g sector s ns contents plan blocks image is =
    record {
      each = λ j low.
          slot_made g sector s (chunk_starts g (length ns)) ns contents is.filled.placed.runs is.filled.placed is.filled.rendered.super image
          (are_chunks g (length ns) is.first) (populated_stands g sector s ns contents plan blocks image is) j low;
    }
