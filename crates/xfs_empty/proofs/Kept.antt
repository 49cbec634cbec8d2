-- The first chunk is all that an empty volume keeps.
use Rattle.std.proofs.Common.{◌≡◌, ℕ, zero, suc, ◌+◌, ◌-◌, ◌*◌, ◌/◌, ◌%◌, ◌^◌, ◌≤◌, ◌<◌, Bool, true, false, ◌&&◌, ◌||◌, nat_le, nat_lt, List, [], ◌∷◌, ◌++◌, length, get_or, Ok, arith, refl}
use Rattle.std.specs.List.{All}
use Rattle.std.proofs.Math.Nat.{mod-eq_of_lt, div-eq_of_lt, mul-le-mul_right}
use Rattle.std.proofs.lemmas.Bool.{leb-true, ltb-true, le-leb, lt-ltb}
use Rattle.std.proofs.lemmas.List.FromFn.{get_or-map-range_with_len, length-map-range_with_len}
use Rattle.std.proofs.lemmas.List.Sums.{count_by-le-length}
use Rattle.std.specs.Cmp.Derive.{both_true}
use Rattle.xfs_geom.specs.Runs.{covers}
use Rattle.xfs_geom.proofs.Votes.{left, right}
use Rattle.xfs_geom.specs.Shape.{HasGroups, HasAddresses}
use Rattle.xfs_geom.specs.Volumes.{Volume}
use Rattle.xfs_geom.specs.declared.geometry.Geometry.{Geometry}
use Rattle.xfs_geom.specs.declared.records.Run.{Run}
use Rattle.xfs_place.specs.Claims.{IsClaimedRun}
use Rattle.xfs_place.specs.Objects.{keep_with}
use Rattle.xfs_place.specs.Pool.{is_taken}
use Rattle.xfs_place.specs.Wanted.{CanBeKept, IsOffFixed, all_kept}
use Rattle.xfs_place.specs.declared.wanted.GroupInodes.{GroupInodes}
use Rattle.xfs_tree.specs.Rules.{is_of_root_cluster}
use Rattle.xfs_empty.specs.Geometry.{HasFirstChunk}
use Rattle.xfs_empty.specs.Placing.{all_inodes, chunk_run, empty_wanted, group_inodes}
use Rattle.xfs_empty.proofs.Chunk.{chunk_free}

-- what holds of one item
pub all_one : {X : Type 0} (P : X → Type 0) (x : X) → P x → All P (x ∷ [])
all_one P x p zero d low = p
all_one P x p (suc k) d low = absurd (omega (arith, low))

chunk_claim : (d : ℕ) → 24 ≤ d → IsClaimedRun d chunk_run
chunk_claim d enough =
    record {
      some = omega arith;
      inside = enough;
      fits = λ is. cc;
      plain = λ is. refl;
    }

chunk_clear : (v : Volume) → HasGroups v.dblocks v.agblocks v.agcount → HasFirstChunk v → IsOffFixed v chunk_run
chunk_clear v groups first block is =
    chunk_free v block groups first (leb-true 16 block (left _ (nat_lt block 24) is)) (ltb-true block 24 (right (nat_le 16 block) _ is))

-- at least 1088 blocks
pub many : (v : Volume) → HasGroups v.dblocks v.agblocks v.agcount → 1024 ≤ v.dblocks
many v groups =
    let most : 1 * v.agblocks ≤ (v.agcount - 1) * v.agblocks = mul-le-mul_right v.agblocks (omega (arith, groups.two)) in
    omega (arith, groups.last, groups.large, most)

pub chunk_kept : (v : Volume) → HasGroups v.dblocks v.agblocks v.agcount → HasFirstChunk v → CanBeKept v (chunk_run ∷ [])
chunk_kept v groups first =
    record {
      each = all_one (IsClaimedRun v.dblocks) chunk_run (chunk_claim v.dblocks (omega (arith, many v groups)));
      clear = all_one (IsOffFixed v) chunk_run (chunk_clear v groups first);
      apart = record { once = λ block. count_by-le-length (covers block) (chunk_run ∷ []) };
    }

-- the root's cluster is of the first chunk
pub root_taken : (v : Volume) (block : ℕ) → HasGroups v.dblocks v.agblocks v.agcount → HasAddresses v.agblocks v.agblklog → HasFirstChunk v
    → is_of_root_cluster v block ≡ true → is_taken (chunk_run ∷ []) block ≡ true
unfolding is_taken
root_taken v block groups addresses first is = taken (rw (first.root, group, rest) at is)
  where
    short : 16 < 2 ^ v.agblklog
    short = omega (arith, groups.large, addresses.enough)

    group : 16 / 2 ^ v.agblklog ≡ 0
    group = div-eq_of_lt short

    rest : 16 % 2 ^ v.agblklog ≡ 16
    rest = mod-eq_of_lt short

    left_or : (a b : Bool) → a ≡ true → (a || b) ≡ true
    left_or a b h = rw h refl

    taken : (nat_le (0 * v.agblocks + 16) block && nat_lt block (0 * v.agblocks + 16 + 4)) ≡ true → (covers block chunk_run || false) ≡ true
    taken h =
        let low : 0 * v.agblocks + 16 ≤ block = leb-true _ _ (left _ _ h) in
        let high : block < 0 * v.agblocks + 16 + 4 = ltb-true _ _ (right (nat_le (0 * v.agblocks + 16) block) _ h) in
        left_or _ false (both_true (le-leb 16 block (omega arith)) (lt-ltb block 24 (omega arith)))

-- the records of a group
pub inodes_are : (n ag : ℕ) (d : GroupInodes) → ag < n → get_or (all_inodes n) ag d ≡ group_inodes ag
inodes_are n ag d low = get_or-map-range_with_len group_inodes 0 n ag ag d low (omega arith)

pub count_inodes : (n : ℕ) → length (all_inodes n) ≡ n
count_inodes n = length-map-range_with_len group_inodes 0 n

-- no object takes anything
pub none_placed : (g : Geometry) (runs : List Run) → all_kept (empty_wanted g) ≡ Ok (chunk_run ∷ [] ++ runs) → runs ≡ []
unfolding keep_with
none_placed g [] is = refl
none_placed g (r ∷ runs) is = cc
