-- No block is planned twice for a volume with files.
use Rattle.std.proofs.Common.{◌≡◌, ℕ, ◌+◌, ◌*◌, ◌%◌, ◌≤◌, ◌<◌, inl, inr, Bool, true, false, ◌&&◌, ◌||◌, nat_le, nat_lt, List, [], ◌∷◌, length, map, refl, sym, ap, ◌∙◌, arith}
use Rattle.std.specs.List.{All, list_any, range_with_len}
use Rattle.std.proofs.Math.Nat.{mul-le-mul_right, mul-mod_left}
use Rattle.std.proofs.lemmas.Bool.{and_from, eq-eqb, false≢true, le-leb, leb-true, lt-ltb, or_left, or_right}
use Rattle.std.proofs.lemmas.List.Elements.{All-append, All-head, All-nil, All-tail, All-weaker}
use Rattle.xfs_disk.specs.declared.stamp.Stamp.{Stamp}
use Rattle.xfs_geom.specs.Conversions.{is_fixed}
use Rattle.xfs_geom.specs.Runs.{covers}
use Rattle.xfs_geom.specs.Volumes.{Volume, volume_of}
use Rattle.xfs_geom.specs.declared.geometry.Geometry.{Geometry}
use Rattle.xfs_place.specs.Pool.{is_taken}
use Rattle.xfs_render.specs.Plans.{IsOnce, planned}
use Rattle.xfs_render.specs.Rendering.{is_head}
use Rattle.xfs_render.specs.declared.plan.Plan.{Plan}
use Rattle.xfs_empty.specs.Bytes.{header_places}
use Rattle.xfs_empty.specs.Geometry.{HasFirstChunk}
use Rattle.xfs_populated.proofs.xfs_made.OnceLists.{all_range, joined, range_once, rising_once}
use Rattle.xfs_populated.proofs.xfs_made.RowLists.{all_items}
use Rattle.xfs_proto.specs.declared.protofile.ProtoNode.{ProtoNode}
use Rattle.xfs_filled.specs.Chunks.{chunk_at, chunk_starts}
use Rattle.xfs_filled.specs.Planning.{IsFilledPlan}
use Rattle.xfs_filled.specs.Wanting.{blocks_of_chunks, filled_bytes, filled_places, filled_wanted}
use Rattle.xfs_filled.proofs.Rising.{Rise}
use Rattle.xfs_filled.proofs.Starting.{IsChunkAt, are_chunks}
use Rattle.xfs_populated.proofs.xfs_made.PlansApart.{head_fixed, plans_apart}
use Rattle.xfs_populated.specs.xfs_made.Unused.{AreHeadsOrKept, IsHeadOrKept}

-- the blocks of chunks that stand one behind the other
clusters_from : (end least : ℕ) (xs : List ℕ) → Rise end least xs → All (λ n. least ≤ n) (blocks_of_chunks xs)
clusters_from end least [] rise = All-nil (λ n. least ≤ n)
clusters_from end least (x ∷ xs) rise =
    let here = rise.0 in
    All-append (λ n. least ≤ n) (range_with_len x 8) (blocks_of_chunks xs) (all_range (λ n. least ≤ n) x 8 (λ k low high. omega (arith, low, here)))
    (All-weaker (λ n. x + 8 ≤ n) (λ n. least ≤ n) (λ n far. omega (arith, far, here)) (blocks_of_chunks xs) (clusters_from end (x + 8) xs rise.1))

clusters_once : (end least : ℕ) (xs : List ℕ) → Rise end least xs → IsOnce (blocks_of_chunks xs)
clusters_once end least [] rise = record { each = λ at. omega arith }
clusters_once end least (x ∷ xs) rise =
    joined (λ n. n < x + 8) (range_with_len x 8) (blocks_of_chunks xs) (range_once x 8) (clusters_once end (x + 8) xs rise.1)
    (all_range (λ n. n < x + 8) x 8 (λ k low high. high))
    (All-weaker (λ n. x + 8 ≤ n) (λ n. n < x + 8 → ⊥) (λ n far near. absurd (omega (arith, far, near))) (blocks_of_chunks xs) (clusters_from end (x + 8) xs rise.1))

-- none of them has a fixed use
clusters_unfixed : (v : Volume) (xs : List ℕ) → All (IsChunkAt v) xs → All (λ n. is_fixed v n ≡ false) (blocks_of_chunks xs)
clusters_unfixed v [] chunks = All-nil (λ n. is_fixed v n ≡ false)
clusters_unfixed v (x ∷ xs) chunks =
    let chunk : IsChunkAt v x = All-head (IsChunkAt v) x xs chunks in
    All-append (λ n. is_fixed v n ≡ false) (range_with_len x 8) (blocks_of_chunks xs) (all_range (λ n. is_fixed v n ≡ false) x 8 (λ k low high. chunk.clear k low high))
    (clusters_unfixed v xs (All-tail (IsChunkAt v) x xs chunks))

-- they are those of the runs of the chunks
taken_first : (x n : ℕ) (xs : List ℕ) → x ≤ n → n < x + 8 → is_taken (map chunk_at (x ∷ xs)) n ≡ true
unfolding is_taken
taken_first x n xs low high =
    or_left (covers n (chunk_at x)) (list_any (covers n) (map chunk_at xs)) (and_from (nat_le x n) (nat_lt n (x + 8)) (le-leb x n low) (lt-ltb n (x + 8) high))

taken_later : (x n : ℕ) (xs : List ℕ) → is_taken (map chunk_at xs) n ≡ true → is_taken (map chunk_at (x ∷ xs)) n ≡ true
unfolding is_taken
taken_later x n xs taken = or_right (covers n (chunk_at x)) (list_any (covers n) (map chunk_at xs)) taken

clusters_taken : (xs : List ℕ) → All (λ n. is_taken (map chunk_at xs) n ≡ true) (blocks_of_chunks xs)
clusters_taken [] = All-nil (λ n. is_taken [] n ≡ true)
clusters_taken (x ∷ xs) =
    All-append (λ n. is_taken (map chunk_at (x ∷ xs)) n ≡ true) (range_with_len x 8) (blocks_of_chunks xs)
    (all_range (λ n. is_taken (map chunk_at (x ∷ xs)) n ≡ true) x 8 (λ k low high. taken_first x k xs low high))
    (All-weaker (λ n. is_taken (map chunk_at xs) n ≡ true) (λ n. is_taken (map chunk_at (x ∷ xs)) n ≡ true) (λ n taken. taken_later x n xs taken) (blocks_of_chunks xs)
    (clusters_taken xs))

-- block 0 is none of them
none_covers : (x : ℕ) (r : Bool) → 16 ≤ x → nat_le x 0 ≡ r → (r && nat_lt 0 (x + 8)) ≡ false
none_covers x true low is = absurd (omega (arith, low, leb-true x 0 is))
none_covers x false low is = refl

none_taken : (end least : ℕ) (xs : List ℕ) → 16 ≤ least → Rise end least xs → is_taken (map chunk_at xs) 0 ≡ false
unfolding is_taken
none_taken end least [] low rise = refl
none_taken end least (x ∷ xs) low rise =
    let here = rise.0 in
    ap (λ (t : Bool). t || list_any (covers 0) (map chunk_at xs)) (none_covers x (nat_le x 0) (omega (arith, low, here)) refl) ∙ none_taken end (x + 8) xs (omega (arith, low, here)) rise.1

pub chunks_clear : (g : Geometry) (files : ℕ) → HasFirstChunk (volume_of g) → is_taken (map chunk_at (chunk_starts g files)) 0 ≡ false
chunks_clear g files first = none_taken (g.agcount * g.agblocks) 16 (chunk_starts g files) (omega arith) (are_chunks g files first).rise

-- the places whose bytes are at hand are the first blocks of groups and those of the chunks
module _ (g : Geometry) (starts : List ℕ) (chunks : All (IsChunkAt (volume_of g)) starts) (rise : Rise (g.agcount * g.agblocks) 16 starts) where
  abbrev heads : List ℕ
  heads = header_places g.agblocks g.agcount

  heads_once : IsOnce heads
  heads_once =
      let large = g.shape.groups.large in
      rising_once (λ ag. ag * g.agblocks) 0 g.agcount (λ i j less.
      let most : (i + 1) * g.agblocks ≤ j * g.agblocks = mul-le-mul_right g.agblocks (omega (arith, less)) in
      omega (arith, most, large))

  all_heads : All (λ n. is_head (volume_of g) n ≡ true) heads
  all_heads =
      all_items (λ n. is_head (volume_of g) n ≡ true) (λ ag. ag * g.agblocks) 0 g.agcount
      (λ k low high. eq-eqb (k * g.agblocks % g.agblocks) 0 (mul-mod_left k g.agblocks))

  -- no group begins in a chunk
  no_head : (n : ℕ) → is_fixed (volume_of g) n ≡ false → is_head (volume_of g) n ≡ true → ⊥
  no_head n unfixed head = false≢true (sym unfixed ∙ head_fixed (volume_of g) n head)

  heads_or_kept : AreHeadsOrKept (volume_of g) (map chunk_at starts) (filled_places g starts)
  heads_or_kept =
      let v = volume_of g in
      let kept = map chunk_at starts in
      record {
        once =
            joined (λ n. is_head v n ≡ true) heads (blocks_of_chunks starts) heads_once (clusters_once (g.agcount * g.agblocks) 16 starts rise) all_heads
            (All-weaker (λ n. is_fixed v n ≡ false) (λ n. is_head v n ≡ true → ⊥) no_head (blocks_of_chunks starts) (clusters_unfixed v starts chunks));
        each =
            All-append (IsHeadOrKept v kept) heads (blocks_of_chunks starts) (All-weaker (λ n. is_head v n ≡ true) (IsHeadOrKept v kept) (λ n head. inl head) heads all_heads)
            (All-weaker (λ n. is_taken kept n ≡ true) (IsHeadOrKept v kept) (λ n taken. inr taken) (blocks_of_chunks starts) (clusters_taken starts));
      }

pub filled_once : (g : Geometry) (sector : List ℕ) (s : Stamp) (ns : List ProtoNode) (contents : List (List ℕ)) (plan : Plan) → IsFilledPlan g sector s ns contents plan
    → HasFirstChunk (volume_of g) → IsOnce (planned plan)
filled_once g sector s ns contents plan is first =
    let are = are_chunks g (length ns) first in
    plans_apart (filled_wanted g ns contents) is.placed (filled_bytes g sector s ns contents is.placed.runs) plan is.stands is.rendered
    (heads_or_kept g (chunk_starts g (length ns)) are.each are.rise)
