-- The slots of a new volume state no log sequence number.
use Rattle.std.proofs.Common.{◌≡◌, inl, inr, ℕ, Bool, true, false, ◌+◌, ◌-◌, ◌*◌, ◌==◌, ◌≤◌, ◌<◌, nat_lt, List, length, map, get_or, Option, Some, None, refl, sym, ap, ◌∙◌, subst, arith}
use Rattle.std.specs.Prelude.{MatchOption, if◌then◌else◌}
use Rattle.std.specs.List.{All, flat_map, range_with_len}
use Rattle.std.proofs.lemmas.List.Elements.{All-from_recursion}
use Rattle.xfs_disk.specs.Blocks.{Image, bytes_of_block}
use Rattle.xfs_disk.specs.declared.stamp.Stamp.{Stamp}
use Rattle.xfs_word.specs.Field.{part_of}
use Rattle.xfs_geom.specs.Conversions.{inode_of}
use Rattle.xfs_geom.specs.Volumes.{Volume, volume_of}
use Rattle.xfs_geom.specs.declared.geometry.Geometry.{Geometry}
use Rattle.xfs_geom.specs.declared.records.Run.{Run}
use Rattle.xfs_image.specs.Lsns.{LsnPlace, cluster_places, lsn_at, slot_place}
use Rattle.xfs_image.specs.Slots.{bytes_in, cluster_blocks, slot_bytes}
use Rattle.xfs_inodebuild.specs.declared.forks.ForkWanted.{ForkWanted}
use Rattle.xfs_views.proofs.Members.{Member, all_members, flat_member, map_member, row_member}
use Rattle.xfs_render.specs.Slots.{DropsAttrs, IsBased, IsMadeSlot, SetsFork, SetsLinks}
use Rattle.xfs_render.specs.declared.wanted_slots.SlotBase.{SlotBase}
use Rattle.xfs_render.specs.declared.wanted_slots.SlotBase.TheVariants as Base
use Rattle.xfs_render.specs.declared.wanted_slots.SlotWanted.{SlotWanted}
use Rattle.xfs_made.proofs.Numbers.{number_in_part}
use Rattle.xfs_volume.specs.declared.cores.Core.{Core}
use Rattle.xfs_empty.specs.Inodes.{system_slot, unused_slot}
use Rattle.xfs_proto.specs.declared.protofile.ProtoNode.{ProtoNode}
use Rattle.xfs_built.proofs.SlotNumbers.{slot_back, slot_lsn}
use Rattle.xfs_built.specs.Bases.{StartsAtZero}
use Rattle.xfs_filled.specs.Numbers.{inode_at}
use Rattle.xfs_filled.specs.Slots.{slot_of_place, place_of_index, slot_of_index}
use Rattle.xfs_populated.specs.FilledSlots.{HasFilledSlots}
use Rattle.xfs_populated.proofs.NumberChunks.{clusters, slot_is}

abbrev lsn_of : Core → ℕ
lsn_of core = core.lsn

-- no change of a slot changes its number
bare_lsn : (v : Volume) (ino : ℕ) (attrs : Option ℕ) (old new : List ℕ) → MatchOption attrs (new ≡ old) (λ n. DropsAttrs v ino n old new) → slot_lsn new ≡ slot_lsn old
bare_lsn v ino None old new same = ap slot_lsn same
bare_lsn v ino (Some n) old new drops = ap lsn_of drops.stated

forked_lsn : (v : Volume) (ino : ℕ) (fork : Option ForkWanted) (old new : List ℕ) → MatchOption fork (new ≡ old) (λ f. SetsFork v ino f old new) → slot_lsn new ≡ slot_lsn old
forked_lsn v ino None old new same = ap slot_lsn same
forked_lsn v ino (Some f) old new sets = ap lsn_of sets.stated

linked_lsn : (v : Volume) (ino : ℕ) (nlink : Option ℕ) (old new : List ℕ) → MatchOption nlink (new ≡ old) (λ n. SetsLinks v ino n old new) → slot_lsn new ≡ slot_lsn old
linked_lsn v ino None old new same = ap slot_lsn same
linked_lsn v ino (Some n) old new sets = ap lsn_of sets.stated

-- but the base gives it
zero_base : (v : Volume) (generation ino : ℕ) (base : SlotBase) (old new : List ℕ) → StartsAtZero base → IsBased v generation ino base old new → slot_lsn new ≡ 0
zero_base v generation ino Base.Kept old new none based = absurd none
zero_base v generation ino Base.Free old new none based = ap lsn_of based.stated
zero_base v generation ino (Base.Fresh core) old new none based = ap lsn_of based.stated ∙ none

made_zero : (v : Volume) (generation : ℕ) (w : SlotWanted) (old new : List ℕ) → StartsAtZero w.base → IsMadeSlot v generation w old new → slot_lsn new ≡ 0
made_zero v generation w old new none made =
    linked_lsn v w.ino w.nlink made.forked new made.links
    ∙ (forked_lsn v w.ino w.fork made.bare made.forked made.fork
    ∙ (bare_lsn v w.ino w.drop_attrs made.based made.bare made.attrs ∙ zero_base v generation w.ino w.base old made.based none made.base))

module _ (g : Geometry) (s : Stamp) (starts : List ℕ) (ns : List ProtoNode) (contents : List (List ℕ)) (runs : List Run) (image : Image)
    (slots : HasFilledSlots (volume_of g) s starts ns contents runs image) (inside : All (λ start. start + 8 ≤ g.dblocks) starts) where
  abbrev v : Volume
  v = volume_of g

  abbrev start : ℕ → ℕ
  start c = get_or starts c 0

  base_zero : (j : ℕ) → StartsAtZero (slot_of_index v s starts ns contents runs j).base
  base_zero j = by_case (j == 1) (j == 2) (nat_lt j (length ns + 2))
    where
      by_case : (a b c : Bool) → StartsAtZero (if a then system_slot v s (inode_at v starts 1) else if b then system_slot v s (inode_at v starts 2) else if c then slot_of_place v s starts ns contents runs (place_of_index j) else unused_slot (inode_at v starts j)).base
      by_case true b c = refl
      by_case false true c = refl
      by_case false false true = refl
      by_case false false false = tt

  slot_zero : (j : ℕ) → j < 64 * length starts → slot_lsn (slot_bytes v image (inode_at v starts j)) ≡ 0
  slot_zero j low =
      let slot = slots.each j low in
      made_zero v s.generation (slot_of_index v s starts ns contents runs j) slot.old (slot_bytes v image (inode_at v starts j)) (base_zero j) slot.made

  block_zero : (c block k : ℕ) → c < length starts → start c ≤ block → block < start c + 8 → k < 8 → (lsn_at image (slot_place block k)).lsn ≡ 0
  block_zero c block k low from upto few =
      let ends = inside c 0 low in
      let m : ℕ = block - start c in
      let at : block ≡ start c + m = omega (arith, from) in
      let row : m < 8 = omega (arith, from, upto) in
      let number : inode_of v block k ≡ inode_at v starts (64 * c + (8 * m + k)) = ap (λ (b : ℕ). inode_of v b k) at ∙ slot_is v starts c m k (64 * c + (8 * m + k)) row few refl in
      let bytes : slot_bytes v image (inode_of v block k) ≡ part_of (bytes_of_block image block) (512 * k) 512 = ap (bytes_in image) (slot_back g block k (omega (arith, ends, upto)) few) in
      sym (number_in_part (bytes_of_block image block) (512 * k) 512 112 8 (omega arith))
      ∙ (ap slot_lsn (sym bytes) ∙ (ap (λ (ino : ℕ). slot_lsn (slot_bytes v image ino)) number ∙ slot_zero (64 * c + (8 * m + k)) (omega (arith, low, row, few))))

  half_of : (c k : ℕ) → Member k (clusters v starts c) → (start c ≤ k) × (k + 4 ≤ start c + 8)
  half_of c k is =
      elim is [
        | inl first ↦ (omega (arith, first), omega (arith, first))
        | inr rest ↦ elim rest [ inl second ↦ (omega (arith, second), omega (arith, second)) | inr none ↦ absurd none ]
      ]

  place_zero : (place : LsnPlace) → Member place (flat_map cluster_places (flat_map (clusters v starts) (range_with_len 0 (length starts)))) → (lsn_at image place).lsn ≡ 0
  place_zero place is =
      let in_cluster = flat_member cluster_places place (flat_map (clusters v starts) (range_with_len 0 (length starts))) is in
      let k : ℕ = in_cluster.0 in
      let in_chunk = flat_member (clusters v starts) k (range_with_len 0 (length starts)) in_cluster.1 in
      let c : ℕ = in_chunk.0 in
      let chunk = row_member c 0 (length starts) in_chunk.1 in
      let last = chunk.high in
      let half = half_of c k in_chunk.2 in
      let front = half.0 in
      let back = half.1 in
      let in_block = flat_member (λ block. map (slot_place block) (range_with_len 0 8)) place (cluster_blocks k) in_cluster.2 in
      let block : ℕ = in_block.0 in
      let here = row_member block k 4 in_block.1 in
      let from = here.low in
      let upto = here.high in
      let slot = map_member (slot_place block) place (range_with_len 0 8) in_block.2 in
      let row = row_member slot.0 0 8 slot.1 in
      let few = row.high in
      subst (λ (p : LsnPlace). (lsn_at image p).lsn ≡ 0) slot.2
      (block_zero c block slot.0 (omega (arith, last)) (omega (arith, front, from)) (omega (arith, back, upto)) (omega (arith, few)))

  pub clusters_zero : All (λ (place : LsnPlace). (lsn_at image place).lsn ≡ 0) (flat_map cluster_places (flat_map (clusters (volume_of g) starts) (range_with_len 0 (length starts))))
  clusters_zero =
      let places : List LsnPlace = flat_map cluster_places (flat_map (clusters v starts) (range_with_len 0 (length starts))) in
      All-from_recursion (λ (place : LsnPlace). (lsn_at image place).lsn ≡ 0) places (all_members (λ (place : LsnPlace). (lsn_at image place).lsn ≡ 0) places place_zero)
