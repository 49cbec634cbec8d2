-- The chunks of a new volume: they lie in it, and no two have a block in common.
use Rattle.std.proofs.Common.{◌≡◌, ℕ, zero, suc, ◌+◌, ◌-◌, ◌*◌, ◌≤◌, ◌<◌, ◌==◌, ◌⊎◌, inl, inr, Bool, true, false, cond, not, ◌&&◌, nat_le, nat_lt, List, [], ◌∷◌, length, map, take, get_or, arith, refl, sym, subst, ap}
use Rattle.std.specs.List.{All, list_all, range_with_len}
use Rattle.std.proofs.Math.Nat.{mul-le-mul_right}
use Rattle.std.proofs.lemmas.Bool.{and_parts, leb-true, ltb-true, eqb-false, cases_lt}
use Rattle.std.proofs.lemmas.List.Elements.{All-take}
use Rattle.xfs_disk.proofs.OneOrder.{count-cons}
use Rattle.xfs_empty.proofs.Chunk.{chunk_free, first_length}
use Rattle.xfs_empty.specs.Geometry.{HasFirstChunk}
use Rattle.xfs_geom.specs.Conversions.{group_length, is_fixed}
use Rattle.xfs_geom.specs.Runs.{covers, runs_on}
use Rattle.xfs_geom.specs.Shape.{HasGroups}
use Rattle.xfs_geom.specs.Volumes.{Volume, volume_of}
use Rattle.xfs_geom.specs.declared.geometry.Geometry.{Geometry}
use Rattle.xfs_geom.specs.declared.records.Run.{Run}
use Rattle.xfs_place.specs.Chunks.{asked_pool, asked_rooms}
use Rattle.xfs_place.specs.Claims.{IsClaimedRun}
use Rattle.xfs_place.specs.Pool.{is_listed, is_pool, is_taken, is_unspared}
use Rattle.xfs_place.specs.Wanted.{CanBeKept, IsOffFixed}
use Rattle.xfs_filled.specs.Chunks.{chunk_at, chunk_starts, further_ask}
use Rattle.xfs_filled.specs.Numbers.{further_chunks}
use Rattle.xfs_filled.proofs.Rising.{Rise, rise_from, rise_rooms, rise_take}
use Rattle.xfs_filled.proofs.RoomsFound.{IsRoomOf, all_rooms}

-- a chunk lies in a group, on whole eight blocks behind the first, and none of its blocks has a fixed use
pub record IsChunkAt (v : Volume) (start : ℕ) : Type 0 where
  pub group : ℕ
  pub number : ℕ
  pub inside : group < v.agcount
  pub at : start ≡ group * v.agblocks + number * 8
  pub behind : 2 ≤ number
  pub ends : number * 8 + 8 ≤ group_length v group
  pub clear : (b : ℕ) → start ≤ b → b < start + 8 → is_fixed v b ≡ false

-- the chunks of a new volume
pub record AreChunks (v : Volume) (starts : List ℕ) : Type 0 where
  pub each : All (IsChunkAt v) starts
  pub rise : Rise (v.agcount * v.agblocks) 16 starts

not_true : (b : Bool) → not b ≡ true → b ≡ false
not_true true is = sym is
not_true false is = refl

pool_clear : (v : Volume) (runs : List Run) (reserved spared : List ℕ) (b : ℕ) → (is_pool v runs reserved b && is_unspared v spared b) ≡ true → is_fixed v b ≡ false
unfolding is_pool
pool_clear v runs reserved spared b is =
    let pool = (and_parts (not (is_fixed v b) && not (is_taken runs b) && not (is_listed reserved b)) (is_unspared v spared b) is).0 in
    let front = (and_parts (not (is_fixed v b) && not (is_taken runs b)) (not (is_listed reserved b)) pool).0 in
    not_true (is_fixed v b) (and_parts (not (is_fixed v b)) (not (is_taken runs b)) front).0

either : (a b : ℕ) → a ≤ b → (a ≡ b) ⊎ (a + 1 ≤ b)
either a b low = by_case (cases_lt a b)
  where
    by_case : (a < b) ⊎ (b ≤ a) → (a ≡ b) ⊎ (a + 1 ≤ b)
    by_case (inl less) = inr (omega (arith, less))
    by_case (inr more) = inl (omega (arith, low, more))

all_in : (p : ℕ → Bool) (a n b : ℕ) → list_all p (range_with_len a n) ≡ true → a ≤ b → b < a + n → p b ≡ true
all_in p a zero b all low high = absurd (omega (arith, low, high))
all_in p a (suc n) b all low high =
    let both = and_parts (p a) (list_all p (range_with_len (a + 1) n)) all in
    by_case both.0 (λ more. all_in p (a + 1) n b both.1 more (omega (arith, high))) (either a b low)
  where
    by_case : p a ≡ true → (a + 1 ≤ b → p b ≡ true) → (a ≡ b) ⊎ (a + 1 ≤ b) → p b ≡ true
    by_case here rest (inl same) = subst (λ (m : ℕ). p m ≡ true) same here
    by_case here rest (inr more) = rest more

room_chunk : (g : Geometry) (files start : ℕ) → IsRoomOf (volume_of g) (asked_pool (further_ask g files)) start → IsChunkAt (volume_of g) start
room_chunk g files start room =
    let behind = room.behind in
    let ends = room.ends in
    record {
      group = room.group;
      number = room.number;
      inside = room.inside;
      at = room.at;
      behind = omega (arith, behind);
      ends = omega (arith, ends);
      clear = λ b low high.
          pool_clear (volume_of g) (further_ask g files).taken [] (further_ask g files).spared_from b (all_in (asked_pool (further_ask g files)) start 8 b room.open' low high);
    }

first_chunk : (g : Geometry) → HasFirstChunk (volume_of g) → IsChunkAt (volume_of g) 16
first_chunk g first =
    let long = first_length (volume_of g) g.shape.groups in
    let two = g.shape.groups.two in
    record {
      group = 0;
      number = 2;
      inside = omega (arith, two);
      at = omega arith;
      behind = omega arith;
      ends = omega (arith, long);
      clear = λ b low high. chunk_free (volume_of g) b g.shape.groups first low (omega (arith, high));
    }

all_cons : (P : ℕ → Type 0) (x : ℕ) (xs : List ℕ) → P x → All P xs → All P (x ∷ xs)
all_cons P x xs p all zero d low = p
all_cons P x xs p all (suc k) d low = all k d (omega (arith, low))

all_chunks : (g : Geometry) (files : ℕ) → All (IsChunkAt (volume_of g)) (asked_rooms (further_ask g files))
all_chunks g files = λ k d low. room_chunk g files _ (all_rooms (volume_of g) (asked_pool (further_ask g files)) k d low)

room_low : (v : Volume) (pool : ℕ → Bool) (start : ℕ) → IsRoomOf v pool start → 24 ≤ start
room_low v pool start room = let at = room.at in let behind = room.behind in omega (arith, at, behind)

big : (v : Volume) → HasGroups v.dblocks v.agblocks v.agcount → 24 ≤ v.agcount * v.agblocks
big v groups =
    let most : 1 * v.agblocks ≤ v.agcount * v.agblocks = mul-le-mul_right v.agblocks (omega (arith, groups.two)) in
    omega (arith, most, groups.large)

pub are_chunks : (g : Geometry) (files : ℕ) → HasFirstChunk (volume_of g) → AreChunks (volume_of g) (chunk_starts g files)
unfolding chunk_starts
are_chunks g files first =
    let v = volume_of g in
    let pool = asked_pool (further_ask g files) in
    let n = further_chunks files in
    let found = asked_rooms (further_ask g files) in
    let rise = rise_from (v.agcount * v.agblocks) 0 24 found (big v g.shape.groups) (λ i d low. room_low v pool _ (all_rooms v pool i d low)) (rise_rooms v pool g.shape.groups) in
    record {
      each = all_cons (IsChunkAt v) 16 (take n found) (first_chunk g first) (All-take (IsChunkAt v) n found (all_chunks g files));
      rise = (omega arith, rise_take n (v.agcount * v.agblocks) 24 found rise);
    }

-- a chunk ends in the volume
pub chunk_ends : (v : Volume) (start : ℕ) → HasGroups v.dblocks v.agblocks v.agcount → IsChunkAt v start → start + 8 ≤ v.dblocks
chunk_ends v start groups chunk = by_case (chunk.group + 1 == v.agcount) refl chunk.ends
  where
    by_case : (r : Bool) → (chunk.group + 1 == v.agcount) ≡ r → chunk.number * 8 + 8 ≤ cond r (v.dblocks - chunk.group * v.agblocks) v.agblocks → start + 8 ≤ v.dblocks
    by_case true is ends = let at = chunk.at in omega (arith, at, ends)
    by_case false is ends =
        let other = eqb-false (chunk.group + 1) v.agcount is in
        let inside = chunk.inside in
        let before : chunk.group + 1 ≤ v.agcount - 1 = omega (arith, other, inside) in
        let most : (chunk.group + 1) * v.agblocks ≤ (v.agcount - 1) * v.agblocks = mul-le-mul_right v.agblocks before in
        let next : (chunk.group + 1) * v.agblocks ≡ chunk.group * v.agblocks + v.agblocks = omega arith in
        let at = chunk.at in
        omega (arith, at, ends, most, next, groups.last)

pub all_end : (v : Volume) (starts : List ℕ) → HasGroups v.dblocks v.agblocks v.agcount → AreChunks v starts → All (λ start. start + 8 ≤ v.dblocks) starts
all_end v starts groups chunks = λ k d low. chunk_ends v _ groups (chunks.each k d low)

-- the runs of chunks can be kept
chunk_claim : (d start : ℕ) → start + 8 ≤ d → IsClaimedRun d (chunk_at start)
chunk_claim d start inside = record { some = omega arith; inside = inside; fits = λ is. cc; plain = λ is. refl }

covers_says : (start b : ℕ) → covers b (chunk_at start) ≡ true → (start ≤ b) × (b < start + 8)
covers_says start b is = let both = and_parts (nat_le start b) (nat_lt b (start + 8)) is in (leb-true start b both.0, ltb-true b (start + 8) both.1)

chunk_clear : (v : Volume) (start : ℕ) → IsChunkAt v start → IsOffFixed v (chunk_at start)
chunk_clear v start chunk block is = let on = covers_says start block is in chunk.clear block on.0 on.1

pub all_mapped : (P : Run → Type 0) (xs : List ℕ) → ((k d : ℕ) → k < length xs → P (chunk_at (get_or xs k d))) → All P (map chunk_at xs)
all_mapped P [] each k d low = absurd (omega (arith, low))
all_mapped P (x ∷ xs) each zero d low = each zero x (omega arith)
all_mapped P (x ∷ xs) each (suc k) d low = all_mapped P xs (λ m e less. each (suc m) e (omega (arith, less))) k d (omega (arith, low))

none_on : (end least b : ℕ) (xs : List ℕ) → b < least → Rise end least xs → runs_on (map chunk_at xs) b ≡ 0
none_on end least b [] below rise = refl
none_on end least b (x ∷ xs) below rise =
    let here = rise.0 in
    let first : covers b (chunk_at x) ≡ false = by_case x (covers b (chunk_at x)) refl (omega (arith, below, here)) in
    let rest = none_on end (x + 8) b xs (omega (arith, below, here)) rise.1 in
    let all = count-cons (covers b) (chunk_at x) (map chunk_at xs) in
    let one : ◌≡◌ {A = ℕ} (cond (covers b (chunk_at x)) 1 0) 0 = ap (λ (t : Bool). cond t 1 0) first in
    omega (arith, all, one, rest)
  where
    by_case : (x : ℕ) (r : Bool) → covers b (chunk_at x) ≡ r → b < x → r ≡ false
    by_case x true is low = let on = covers_says x b is in let begins = on.0 in absurd (omega (arith, low, begins))
    by_case x false is low = refl

once_on : (end least b : ℕ) (xs : List ℕ) → Rise end least xs → runs_on (map chunk_at xs) b ≤ 1
once_on end least b [] rise = omega arith
once_on end least b (x ∷ xs) rise = by_case (covers b (chunk_at x)) refl (once_on end (x + 8) b xs rise.1)
  where
    all : runs_on (map chunk_at (x ∷ xs)) b ≡ cond (covers b (chunk_at x)) 1 0 + runs_on (map chunk_at xs) b
    all = count-cons (covers b) (chunk_at x) (map chunk_at xs)

    by_case : (r : Bool) → covers b (chunk_at x) ≡ r → runs_on (map chunk_at xs) b ≤ 1 → runs_on (map chunk_at (x ∷ xs)) b ≤ 1
    by_case true is once =
        let on = covers_says x b is in
        let ends = on.1 in
        let rest = none_on end (x + 8) b xs ends rise.1 in
        let one : ◌≡◌ {A = ℕ} (cond (covers b (chunk_at x)) 1 0) 1 = ap (λ (t : Bool). cond t 1 0) is in
        omega (arith, all, one, rest)
    by_case false is once =
        let one : ◌≡◌ {A = ℕ} (cond (covers b (chunk_at x)) 1 0) 0 = ap (λ (t : Bool). cond t 1 0) is in
        omega (arith, all, one, once)

pub chunks_kept : (v : Volume) (starts : List ℕ) → HasGroups v.dblocks v.agblocks v.agcount → AreChunks v starts → CanBeKept v (map chunk_at starts)
chunks_kept v starts groups chunks =
    record {
      each = all_mapped (IsClaimedRun v.dblocks) starts (λ k d low. chunk_claim v.dblocks _ (all_end v starts groups chunks k d low));
      clear = all_mapped (IsOffFixed v) starts (λ k d low. chunk_clear v _ (chunks.each k d low));
      apart = record { once = λ block. once_on (v.agcount * v.agblocks) 16 block starts chunks.rise };
    }
