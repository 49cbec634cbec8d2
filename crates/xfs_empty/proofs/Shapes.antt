-- The shape of a new volume, from the bounds of its groups and its log.
use Rattle.std.proofs.Common.{◌≡◌, ℕ, ◌+◌, ◌-◌, ◌*◌, ◌/◌, ◌%◌, ◌^◌, ◌≤◌, ◌<◌, zero, suc, Bool, true, false, ◌==◌, ◌&&◌, ◌||◌, leb, cond, IsTrue, arith, refl}
use Rattle.std.proofs.Math.Nat.{div-eq_of_lt, mod-eq_of_lt, div-le_of_le-mul, lt-div-mul-add, mul-le-mul_right}
use Rattle.std.proofs.lemmas.Bool.{leb-true, le-leb, eqb-true}
use Rattle.xfs_geom.proofs.LogPlace.{place_of_block}
use Rattle.xfs_geom.proofs.Votes.{left, right}
use Rattle.xfs_geom.specs.Groups.{blocks_of_group}
use Rattle.xfs_geom.specs.Shape.{HasAddresses, HasGroups, HasLog, HasRoot, IsShaped, is_off_log}
use Rattle.xfs_empty.specs.Sizes.{has_log_room, parts}
use Rattle.xfs_empty.specs.declared.sizes.GroupSizes.{GroupSizes}

-- so many parts of a size hold all blocks
pub parts_cover : (d s : ℕ) → 1 ≤ s → d ≤ parts d s * s
parts_cover d s some =
    let below : d + s - 1 < (d + s - 1) / s * s + s = lt-div-mul-add some in
    omega arith

-- a part of a number is no larger
pub part_small : (d s : ℕ) → 1 ≤ s → parts d s ≤ d
part_small zero s some =
    let none : (zero + s - 1) / s ≡ 0 = div-eq_of_lt (omega arith) in
    omega arith
part_small (suc d) s some =
    let most : suc d + s - 1 ≤ s * suc d = by_mul in
    div-le_of_le-mul s most
  where
    by_mul : suc d + s - 1 ≤ s * suc d
    by_mul =
        let large : 1 * d ≤ s * d = mul-le-mul_right d some in
        omega arith

-- the group in the middle is neither the first nor behind the last
pub middle : (n : ℕ) → 2 ≤ n → (1 ≤ n / 2) × (n / 2 < n)
middle n two = (omega arith, omega arith)

-- blocks 16 to 23 are a chunk before the log
pub new_root : (d w n b log l : ℕ) → 1024 ≤ w → 2 ≤ n → w ≤ 2 ^ b → 1030 ≤ log → HasRoot d w n b log l 128
new_root d w n b log l large two enough behind =
    let short : 16 < 2 ^ b = omega arith in
    let group : 16 / 2 ^ b ≡ 0 = div-eq_of_lt short in
    let rest : 16 % 2 ^ b ≡ 16 = mod-eq_of_lt short in
    record {
      slot = omega arith;
      group = rw group (omega arith);
      behind = rw rest (omega arith);
      inside = rw (group, rest) (by_first d w n large two);
      apart = rw (group, rest) (before log l behind);
    }
  where
    by_case : (r : Bool) (d w n : ℕ) → 1024 ≤ w → 2 ≤ n → (1 == n) ≡ r → 24 ≤ cond r (d - 0 * w) w
    by_case true d w n large two is = absurd (let one : 1 ≡ n = eqb-true _ _ is in omega arith)
    by_case false d w n large two is = omega arith

    by_first : (d w n : ℕ) → 1024 ≤ w → 2 ≤ n → 24 ≤ blocks_of_group d w n 0
    by_first d w n large two = by_case (1 == n) d w n large two refl

    or_true : (a b : Bool) → a ≡ true → (a || b) ≡ true
    or_true a b h = rw h refl

    before : (log l : ℕ) → 1030 ≤ log → IsTrue (is_off_log (0 * w + 16) log l)
    before log l low = or_true (leb (0 * w + 16 + 4) log) _ (le-leb _ _ (omega arith))

-- the three bounds of the log
pub record IsLogBound (g : GroupSizes) (d l : ℕ) : Type 0 where
  pub large : 512 ≤ l
  pub small : l ≤ 521728
  pub inside : 6 + l + 64 ≤ blocks_of_group d g.size g.count (g.count / 2)

pub log_bound : (g : GroupSizes) (d l : ℕ) → IsTrue (has_log_room g d l) → IsLogBound g d l
log_bound g d l h =
    let first = left _ (leb (6 + l + 64) (blocks_of_group d g.size g.count (g.count / 2))) h in
    record {
      large = leb-true 512 l (left _ (leb l 521728) first);
      small = leb-true l 521728 (right (leb 512 l) _ first);
      inside = leb-true _ _ (right (leb 512 l && leb l 521728) _ h);
    }

-- the log at AG block 6 of the middle group
pub new_log : (g : GroupSizes) (d l : ℕ) → HasGroups d g.size g.count → IsTrue (has_log_room g d l)
    → HasLog d g.size g.count (g.count / 2 * g.size + 6) l
new_log g d l groups h =
    let bound = log_bound g d l h in
    let group : g.count / 2 < g.count = (middle g.count groups.two).1 in
    place_of_block d g.size g.count l (g.count / 2) 6 groups.covered bound.large group (omega arith) (omega (arith, bound.inside)) bound.small

-- it begins behind the first group
pub log_behind : (n w : ℕ) → 2 ≤ n → 1024 ≤ w → 1030 ≤ n / 2 * w + 6
log_behind n w two large =
    let one : 1 ≤ n / 2 = omega arith in
    let most : 1 * w ≤ n / 2 * w = mul-le-mul_right w one in
    omega arith

pub new_shape : (g : GroupSizes) (d b l : ℕ) → HasGroups d g.size g.count → HasAddresses g.size b → IsTrue (has_log_room g d l)
    → IsShaped d g.size g.count b (g.count / 2 * g.size + 6) l 128 0
new_shape g d b l groups addresses log =
    record {
      groups = groups;
      addresses = addresses;
      log_inside = new_log g d l groups log;
      root = new_root d g.size g.count b (g.count / 2 * g.size + 6) l groups.large groups.two addresses.enough
          (log_behind g.count g.size groups.two groups.large);
      log_sectors = refl;
    }
