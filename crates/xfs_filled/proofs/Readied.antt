-- The bytes of a volume with files are at hand, and what is wanted of its slots can be made.
use Rattle.std.proofs.Common.{◌≡◌, ◌≢◌, ℕ, zero, suc, ◌+◌, ◌-◌, ◌*◌, ◌/◌, ◌%◌, ◌^◌, ◌==◌, ◌≤◌, ◌<◌, ◌⊎◌, inl, inr, Bool, true, false, List, [], ◌∷◌, ◌++◌, length, length-append, take, drop, get_or, Option, Some, None, arith, refl, sym, subst, ap, ap₂, ◌∙◌, append-nil}
use Rattle.std.specs.List.{All, Contains, flat_map, range_with_len}
use Rattle.std.specs.List.Sorted.{IsNonDecreasingBy}
use Rattle.std.specs.Option.{MatchOption}
use Rattle.std.proofs.Math.Nat.{mul-mod_left}
use Rattle.std.proofs.lemmas.Bool.{cases_lt, eqb-false}
use Rattle.std.proofs.lemmas.List.{get_or-append-add, get_or_append_left, get_or_default, take-append-drop}
use Rattle.std.proofs.lemmas.List.Elements.{filter-append}
use Rattle.std.proofs.lemmas.List.FromFn.{get_or-map-range_with_len, get_or-range_with_len, length-map-range_with_len, length-range_with_len}
use Rattle.xfs_disk.specs.declared.stamp.Stamp.{Stamp}
use Rattle.xfs_empty.proofs.Slots.{slot_can}
use Rattle.xfs_empty.specs.Bytes.{header_places}
use Rattle.xfs_geom.proofs.Bounds.{group_start}
use Rattle.xfs_geom.specs.Conversions.{inode_of}
use Rattle.xfs_geom.specs.Volumes.{Volume, stated_volume, volume_of}
use Rattle.xfs_geom.specs.Writing.{IsAcceptedSector}
use Rattle.xfs_geom.specs.declared.geometry.Geometry.{Geometry}
use Rattle.xfs_geom.specs.declared.records.Run.{Run}
use Rattle.xfs_kinds.specs.OffsetWords.{is_file_data}
use Rattle.xfs_place.specs.Claims.{IsClaimedRun}
use Rattle.xfs_place.specs.Pool.{IsRunOf}
use Rattle.xfs_place.specs.Objects.{asks_of}
use Rattle.xfs_proto.specs.declared.protofile.ProtoNode.{ProtoNode}
use Rattle.xfs_render.specs.Objects.{written_blocks}
use Rattle.xfs_render.specs.declared.wanted_slots.SlotWanted.{SlotWanted}
use Rattle.xfs_render.specs.Clusters.{CanCluster, slot_in}
use Rattle.xfs_render.specs.Readiness.{HasBytes}
use Rattle.xfs_render.specs.Rendering.{is_head, old_at}
use Rattle.xfs_render.specs.Slots.{wanted_of}
use Rattle.xfs_render.specs.declared.bytes.Bytes.{Bytes}
use Rattle.xfs_filled.specs.Directories.{IsSoundWhere, made_directory_at}
use Rattle.xfs_filled.specs.FileTrees.{AreProtoNodes, object_order}
use Rattle.xfs_filled.specs.Forks.{HasOffset, extents_of_owner, extents_of_run, owned_by}
use Rattle.xfs_filled.specs.Numbers.{inode_at, number_of}
use Rattle.xfs_filled.specs.Objects.{all_objects}
use Rattle.xfs_filled.specs.Sites.{AreChunksPlaced, IsSite}
use Rattle.xfs_filled.specs.Slots.{all_slots, slot_of_index}
use Rattle.xfs_filled.specs.Spans.{AreRunsOf}
use Rattle.xfs_filled.specs.Wanting.{blocks_of_chunks, filled_places, wanted_by_chunks}
use Rattle.xfs_filled.specs.declared.directories.MadeDirectory.{MadeDirectory}
use Rattle.xfs_filled.proofs.Making.{slot_makes}
use Rattle.xfs_filled.proofs.Ordered.{order_has, owners_differ, rise_in}
use Rattle.xfs_filled.proofs.Slotted.{slots_in_order, wanted_slot}
use Rattle.xfs_filled.proofs.Spanning.{all_owned, none_owned, others_in}

-- the directories of a site are sound
pub site_sound : (g : Geometry) (starts : List ℕ) (ns : List ProtoNode) (contents : List (List ℕ)) (directories : List (Option MadeDirectory)) (order : List ℕ)
    → IsSite g starts ns contents directories order → (k : ℕ) → k < length ns → IsSoundWhere (made_directory_at (volume_of g) starts ns k)
site_sound g starts ns contents directories order site k low =
    let f = made_directory_at (volume_of g) starts ns in
    let long = ap length site.built ∙ length-map-range_with_len f 0 (length ns) in
    let is : get_or directories k None ≡ f k = ap (λ (ds : List (Option MadeDirectory)). get_or ds k None) site.built ∙ get_or-map-range_with_len f 0 (length ns) k k None low (omega arith) in
    subst IsSoundWhere is (site.sound k None (omega (arith, long, low)))

-- each file has no more extents than fill its fork
owned_few : (v : Volume) (starts places : List ℕ) (runs : List Run) (j : ℕ) → AreRunsOf v starts places runs → j < length places
    → ((a b : ℕ) → a < b → b < length places → number_of v starts (get_or places a 0) ≢ number_of v starts (get_or places b 0))
    → length (flat_map (extents_of_run v) (owned_by (number_of v starts (get_or places j 0)) runs)) ≤ 21
owned_few v starts [] runs j are low differ = absurd (omega (arith, low))
owned_few v starts (k ∷ ks) runs zero are low differ =
    let n = are.0 in
    let owner : ℕ = number_of v starts k in
    let behind = others_in v starts (number_of v starts k) ks (drop n runs) are.4 (λ j d less same.
    differ zero (suc j) (omega arith) (omega (arith, less)) (sym same ∙ ap (λ (m : ℕ). number_of v starts m) (get_or_default ks j d 0 less))) in
    let own : owned_by (number_of v starts k) runs ≡ take n runs =
    ap (owned_by (number_of v starts k)) (sym (take-append-drop n runs)) ∙ filter-append (λ (r : Run). r.owner == number_of v starts k) (take n runs) (drop n runs)
    ∙ ap₂ (λ (xs ys : List Run). xs ++ ys) (all_owned (number_of v starts k) (take n runs) are.2) (none_owned (number_of v starts k) (drop n runs) behind) ∙ append-nil (take n runs) in
    subst (λ (rs : List Run). length (flat_map (extents_of_run v) rs) ≤ 21) (sym own) are.3
owned_few v starts (k ∷ ks) runs (suc j) are low differ =
    let n = are.0 in
    let rest = owned_few v starts ks (drop n runs) j are.4 (omega (arith, low)) (λ a b less few. differ (suc a) (suc b) (omega (arith, less)) (omega (arith, few))) in
    let other = differ zero (suc j) (omega arith) low in
    let own : owned_by (number_of v starts (get_or ks j 0)) runs ≡ owned_by (number_of v starts (get_or ks j 0)) (drop n runs) =
    ap (owned_by (number_of v starts (get_or ks j 0))) (sym (take-append-drop n runs))
    ∙ filter-append (λ (r : Run). r.owner == number_of v starts (get_or ks j 0)) (take n runs) (drop n runs)
    ∙ ap (λ (xs : List Run). xs ++ owned_by (number_of v starts (get_or ks j 0)) (drop n runs))
    (none_owned (number_of v starts (get_or ks j 0)) (take n runs) (λ m d less same. other (sym (are.2 m d less) ∙ same))) in
    subst (λ (rs : List Run). length (flat_map (extents_of_run v) rs) ≤ 21) (sym own) rest

pub extents_few : (g : Geometry) (starts : List ℕ) (ns : List ProtoNode) (runs : List Run) → AreChunksPlaced g starts ns → AreRunsOf (volume_of g) starts (object_order ns) runs
    → (k : ℕ) → k < length ns → length (extents_of_owner (volume_of g) (number_of (volume_of g) starts k) runs) ≤ 21
extents_few g starts ns runs placed are k low =
    let there : Contains (object_order ns) k = order_has ns k low in
    let place : get_or (object_order ns) there.0 0 ≡ k = get_or_default (object_order ns) there.0 0 k there.1 ∙ there.2 in
    subst (λ (m : ℕ). length (extents_of_owner (volume_of g) (number_of (volume_of g) starts m) runs) ≤ 21) place
    (owned_few (volume_of g) starts (object_order ns) runs there.0 are there.1
    (λ a b less few. owners_differ g starts ns (object_order ns) a b placed refl (omega (arith, less, few)) few (omega (arith, less))))

-- the blocks of chunks
pub record IsBlockOf (starts : List ℕ) (place : ℕ) : Type 0 where
  pub chunk : ℕ
  pub block : ℕ
  pub low : chunk < length starts
  pub few : block < 8
  pub is : place ≡ get_or starts chunk 0 + block

past : (front rest : List ℕ) (i d : ℕ) → length front ≤ i → get_or (front ++ rest) i d ≡ get_or rest (i - length front) d
past front rest i d more =
    let whole : i ≡ length front + (i - length front) = omega (arith, more) in
    ap (λ (m : ℕ). get_or (front ++ rest) m d) whole ∙ get_or-append-add front rest (i - length front) d

-- the same of clusters of any size
record IsPartOf (n : ℕ) (starts : List ℕ) (place : ℕ) : Type 0 where
  pub chunk : ℕ
  pub block : ℕ
  pub low : chunk < length starts
  pub few : block < n
  pub is : place ≡ get_or starts chunk 0 + block

part_at : (n : ℕ) (starts : List ℕ) (i d : ℕ) → i < length (flat_map (λ start. range_with_len start n) starts) → IsPartOf n starts (get_or (flat_map (λ start. range_with_len start n) starts) i d)
part_at n [] i d low = absurd (omega (arith, low))
part_at n (x ∷ xs) i d low = by_case (part_at n xs (i - length (range_with_len x n)) d) (cases_lt i n)
  where
    long : length (range_with_len x n) ≡ n
    long = length-range_with_len x n

    by_case : (i - length (range_with_len x n) < length (flat_map (λ start. range_with_len start n) xs) → IsPartOf n xs (get_or (flat_map (λ start. range_with_len start n) xs) (i - length (range_with_len x n)) d))
        → (i < n) ⊎ (n ≤ i) → IsPartOf n (x ∷ xs) (get_or (range_with_len x n ++ flat_map (λ start. range_with_len start n) xs) i d)
    by_case next (inl less) =
        record {
          chunk = 0;
          block = i;
          low = omega arith;
          few = less;
          is = get_or_append_left (range_with_len x n) (flat_map (λ start. range_with_len start n) xs) d i (omega (arith, less, long)) ∙ get_or-range_with_len x n i d less;
        }
    by_case next (inr more) =
        let all = length-append (range_with_len x n) (flat_map (λ start. range_with_len start n) xs) in
        let rest = next (omega (arith, all, low, more, long)) in
        let inside = rest.low in
        record {
          chunk = suc rest.chunk;
          block = rest.block;
          low = omega (arith, inside);
          few = rest.few;
          is = past (range_with_len x n) (flat_map (λ start. range_with_len start n) xs) i d (omega (arith, more, long)) ∙ rest.is;
        }

cluster_at : (starts : List ℕ) (i d : ℕ) → i < length (blocks_of_chunks starts) → IsBlockOf starts (get_or (blocks_of_chunks starts) i d)
cluster_at starts i d low = let part = part_at 8 starts i d low in record { chunk = part.chunk; block = part.block; low = part.low; few = part.few; is = part.is }

heads : (g : Geometry) → length (header_places g.agblocks g.agcount) ≡ g.agcount
heads g = length-map-range_with_len (λ ag. ag * g.agblocks) 0 g.agcount

place_cases : (g : Geometry) (starts : List ℕ) (i d : ℕ) → i < length (filled_places g starts)
    → ((i < g.agcount) × (get_or (filled_places g starts) i d ≡ i * g.agblocks)) ⊎ IsBlockOf starts (get_or (filled_places g starts) i d)
place_cases g starts i d low = by_case (cases_lt i g.agcount)
  where
    by_case : (i < g.agcount) ⊎ (g.agcount ≤ i) → ((i < g.agcount) × (get_or (filled_places g starts) i d ≡ i * g.agblocks)) ⊎ IsBlockOf starts (get_or (filled_places g starts) i d)
    by_case (inl less) =
        let count = heads g in
        inl (
          less,
          get_or_append_left (header_places g.agblocks g.agcount) (blocks_of_chunks starts) d i (omega (arith, count, less))
              ∙ get_or-map-range_with_len (λ ag. ag * g.agblocks) 0 g.agcount i i d less (omega arith),
        )
    by_case (inr more) =
        let count = heads g in
        let all = length-append (header_places g.agblocks g.agcount) (blocks_of_chunks starts) in
        let whole : i ≡ length (header_places g.agblocks g.agcount) + (i - g.agcount) = omega (arith, count, more) in
        let is = ap (λ (m : ℕ). get_or (filled_places g starts) m d) whole ∙ get_or-append-add (header_places g.agblocks g.agcount) (blocks_of_chunks starts) (i - g.agcount) d in
        inr (subst (IsBlockOf starts) (sym is) (cluster_at starts (i - g.agcount) d (omega (arith, count, all, low, more))))

all_inside : (g : Geometry) (starts : List ℕ) → All (λ start. start + 8 ≤ g.dblocks) starts → All (λ place. place < g.dblocks) (filled_places g starts)
all_inside g starts inside i d low = by_case (place_cases g starts i d low)
  where
    by_case : ((i < g.agcount) × (get_or (filled_places g starts) i d ≡ i * g.agblocks)) ⊎ IsBlockOf starts (get_or (filled_places g starts) i d) → get_or (filled_places g starts) i d < g.dblocks
    by_case (inl head) =
        let start : i * g.agblocks < g.dblocks = group_start i g.agcount g.agblocks g.dblocks head.0 g.shape.groups.last in
        let at = head.1 in
        omega (arith, at, start)
    by_case (inr block) =
        let most = inside block.chunk 0 block.low in
        let few = block.few in
        let at = block.is in
        omega (arith, most, few, at)

-- which inode of all chunks a slot has
inode_is : (v : Volume) (starts : List ℕ) (j c m k : ℕ) → j / 64 ≡ c → j % 64 / 8 ≡ m → j % 8 ≡ k → inode_at v starts j ≡ inode_of v (get_or starts c 0 + m) k
inode_is v starts j c m k chunk block slot =
    ap (λ (x : ℕ). inode_of v (get_or starts x 0 + j % 64 / 8) (j % 8)) chunk ∙ ap (λ (x : ℕ). inode_of v (get_or starts c 0 + x) (j % 8)) block
    ∙ ap (λ (x : ℕ). inode_of v (get_or starts c 0 + m) x) slot

slot_place : (v : Volume) (starts : List ℕ) (c m k : ℕ) → m < 8 → k < 8 → inode_at v starts (64 * c + (8 * m + k)) ≡ inode_of v (get_or starts c 0 + m) k
slot_place v starts c m k few low = inode_is v starts (64 * c + (8 * m + k)) c m k (omega (arith, few, low)) (omega (arith, few, low)) (omega (arith, few, low))

module _ (g : Geometry) (s : Stamp) (starts : List ℕ) (ns : List ProtoNode) (contents : List (List ℕ)) (runs : List Run) (placed : AreChunksPlaced g starts ns) (files : AreProtoNodes ns)
    (sound : (k : ℕ) → k < length ns → IsSoundWhere (made_directory_at (volume_of g) starts ns k)) (are : AreRunsOf (volume_of g) starts (object_order ns) runs) where
  block_can : (place : ℕ) (old : List ℕ) → IsBlockOf starts place → CanCluster (volume_of g) (all_slots (volume_of g) s starts ns contents runs) place old
  block_can place old of =
      record {
        each = λ k low.
            let v = volume_of g in
            let j : ℕ = 64 * of.chunk + (8 * of.block + k) in
            let few = of.few in
            let inside = of.low in
            let there : inode_of (volume_of g) place k ≡ inode_at (volume_of g) starts (64 * of.chunk + (8 * of.block + k)) =
            ap (λ (p : ℕ). inode_of (volume_of g) p k) of.is ∙ sym (slot_place (volume_of g) starts of.chunk of.block k few low) in
            slot_can (volume_of g) (all_slots (volume_of g) s starts ns contents runs) (inode_of (volume_of g) place k) (slot_of_index (volume_of g) s starts ns contents runs j) (slot_in old k)
            (ap (wanted_of (all_slots (volume_of g) s starts ns contents runs)) there
            ∙ wanted_slot (volume_of g) s starts ns contents runs g.dblocks 0 g.shape.groups g.shape.addresses (rise_in g starts ns placed) j (omega (arith, few, low, inside)))
            (slot_makes (volume_of g) s starts ns contents runs files sound (extents_few g starts ns runs placed are) j (slot_in old k));
      }

  place_can : (i : ℕ) (old : List ℕ) → i < length (filled_places g starts) → is_head (volume_of g) (get_or (filled_places g starts) i 0) ≡ false
      → CanCluster (volume_of g) (all_slots (volume_of g) s starts ns contents runs) (get_or (filled_places g starts) i 0) old
  place_can i old low other = by_case (place_cases g starts i 0 low)
    where
      by_case : ((i < g.agcount) × (get_or (filled_places g starts) i 0 ≡ i * g.agblocks)) ⊎ IsBlockOf starts (get_or (filled_places g starts) i 0)
          → CanCluster (volume_of g) (all_slots (volume_of g) s starts ns contents runs) (get_or (filled_places g starts) i 0) old
      by_case (inl head) =
          let none : get_or (filled_places g starts) i 0 % g.agblocks ≡ 0 = ap (λ (p : ℕ). p % g.agblocks) head.1 ∙ mul-mod_left i g.agblocks in
          absurd (eqb-false _ _ other none)
      by_case (inr block) = block_can (get_or (filled_places g starts) i 0) old block

  -- the bytes are at hand
  pub bytes_ready : (b : Bytes) → IsAcceptedSector b.sector → stated_volume b.sector ≡ volume_of g → b.places ≡ filled_places g starts → length b.old ≡ length b.places
      → length b.objects ≡ written_blocks (asks_of (all_objects (volume_of g) starts ns contents)) → b.slots ≡ all_slots (volume_of g) s starts ns contents runs → b.cycle ≡ Some 1
      → HasBytes (wanted_by_chunks g starts ns contents) b
  bytes_ready b accepted states places old objects slots cycle =
      record {
        accepted = accepted;
        states = states;
        objects = objects;
        old = old;
        inside = subst (λ (ps : List ℕ). All (λ place. place < g.dblocks) ps) (sym places) (all_inside g starts placed.volume);
        order = subst (λ (ws : List SlotWanted). IsNonDecreasingBy (λ (w : SlotWanted). w.ino) ws) (sym slots)
            (slots_in_order (volume_of g) s starts ns contents runs g.dblocks 0 g.shape.groups g.shape.addresses (rise_in g starts ns placed));
        slots = λ i low other.
            subst (λ (ws : List SlotWanted). CanCluster (volume_of g) ws (get_or b.places i 0) (old_at b i)) (sym slots)
            (subst (λ (ps : List ℕ). i < length ps → is_head (volume_of g) (get_or ps i 0) ≡ false → CanCluster (volume_of g) (all_slots (volume_of g) s starts ns contents runs) (get_or ps i 0) (old_at b i))
            (sym places) (λ less not_head. place_can i (old_at b i) less not_head) low other);
        cycle = subst (λ c. MatchOption c (Unit {0}) (λ cycle. (1 ≤ cycle) × (cycle < 2 ^ 31))) (sym cycle) (omega arith, omega arith);
      }

-- runs that are claimed lie in the volume, and their offsets fit extents
behind_all : (P : Run → Type 0) (kept runs : List Run) → All P (kept ++ runs) → All P runs
behind_all P kept runs all k d low =
    let long = length-append kept runs in
    subst P (get_or-append-add kept runs k d) (all (length kept + k) d (omega (arith, long, low)))

pub claimed_inside : (dblocks : ℕ) (kept runs : List Run) → All (IsClaimedRun dblocks) (kept ++ runs) → All (IsRunOf dblocks) runs
claimed_inside dblocks kept runs all k d low = let claim = behind_all (IsClaimedRun dblocks) kept runs all k d low in (claim.some, claim.inside)

claim_fits : (dblocks : ℕ) (r : Run) → dblocks ≤ 2 ^ 54 → IsClaimedRun dblocks r → HasOffset r
claim_fits dblocks r few claim = by_case (is_file_data r.owner r.offset_word) refl
  where
    by_case : (b : Bool) → is_file_data r.owner r.offset_word ≡ b → HasOffset r
    by_case true is = record { fits = claim.fits is }
    by_case false is = let none = claim.plain is in let inside = claim.inside in record { fits = omega (arith, none, inside, few) }

pub claimed_offsets : (dblocks : ℕ) (kept runs : List Run) → dblocks ≤ 2 ^ 54 → All (IsClaimedRun dblocks) (kept ++ runs) → All HasOffset runs
claimed_offsets dblocks kept runs few all k d low = claim_fits dblocks _ few (behind_all (IsClaimedRun dblocks) kept runs all k d low)
