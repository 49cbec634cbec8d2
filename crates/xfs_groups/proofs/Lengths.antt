-- The lengths of groups, and the place of the cluster of the root.
use Rattle.std.proofs.Common.{◌≡◌, ℕ, zero, suc, Bool, true, false, ◌+◌, ◌-◌, ◌*◌, ◌/◌, ◌%◌, ◌^◌, ◌≤◌, ◌<◌, ◌==◌, if◌then◌else◌, refl, sym, ap, ap₂, ◌∙◌, subst, pow-suc, arith}
use Rattle.std.proofs.Math.Nat.{mul-le-mul_right}
use Rattle.std.proofs.lemmas.Bool.{eqb-false, eqb-true}
use Rattle.xfs_geom.specs.Conversions.{group_length}
use Rattle.xfs_geom.specs.Volumes.{volume_of}
use Rattle.xfs_geom.specs.declared.geometry.Geometry.{Geometry}
use Rattle.xfs_image.specs.Clusters.{root_cluster}
use Rattle.xfs_groups.specs.Private.Chosen.{cluster_place}

pub of_group : (ag w k : ℕ) → k < w → (ag * w + k) / w ≡ ag
of_group ag w k inside = grind (arith, inside)

in_group : (ag w k : ℕ) → k < w → (ag * w + k) % w ≡ k
in_group ag w k inside = grind (arith, inside)

pub short : (g : Geometry) (ag : ℕ) → ag < g.agcount → group_length (volume_of g) ag ≤ g.agblocks
short g ag inside = by_case (ag + 1 == g.agcount) refl
  where
    by_case : (b : Bool) → (ag + 1 == g.agcount) ≡ b → (if b then g.dblocks - ag * g.agblocks else g.agblocks) ≤ g.agblocks
    by_case true e =
        let last : ag + 1 ≡ g.agcount = eqb-true (ag + 1) g.agcount e in
        let full : g.dblocks ≤ (ag + 1) * g.agblocks = subst (λ (n : ℕ). g.dblocks ≤ n * g.agblocks) (sym last) g.shape.groups.covered in
        grind (arith, full)
    by_case false e = omega arith

pub within : (g : Geometry) (ag : ℕ) → ag < g.agcount → ag * g.agblocks + group_length (volume_of g) ag ≤ g.dblocks
within g ag inside = by_case (ag + 1 == g.agcount) refl
  where
    last : (g.agcount - 1) * g.agblocks + 64 ≤ g.dblocks
    last = g.shape.groups.last

    by_case : (b : Bool) → (ag + 1 == g.agcount) ≡ b → ag * g.agblocks + (if b then g.dblocks - ag * g.agblocks else g.agblocks) ≤ g.dblocks
    by_case true e =
        let is : ag + 1 ≡ g.agcount = eqb-true (ag + 1) g.agcount e in
        let before : ag ≡ g.agcount - 1 = omega (arith, is) in
        let start : ag * g.agblocks + 64 ≤ g.dblocks = subst (λ (n : ℕ). n * g.agblocks + 64 ≤ g.dblocks) (sym before) last in
        omega (arith, start)
    by_case false e =
        let other = eqb-false (ag + 1) g.agcount e in
        let lower : (ag + 1) * g.agblocks ≤ (g.agcount - 1) * g.agblocks = mul-le-mul_right g.agblocks (omega (arith, other, inside)) in
        let next : (ag + 1) * g.agblocks ≡ ag * g.agblocks + g.agblocks = grind arith in
        omega (arith, lower, next, last)

-- an address rounded down to a multiple of four is of the same group
rounded : (a m : ℕ) → 0 < m → a / 4 * 4 ≡ a / (4 * m) * (4 * m) + a % (4 * m) / 4 * 4
rounded a m some =
    let parts : a ≡ a / (4 * m) * (4 * m) + a % (4 * m) = grind arith in
    let whole : a / (4 * m) * (4 * m) ≡ 4 * (a / (4 * m) * m) = grind arith in
    omega (arith, parts, whole)

four_times : (n : ℕ) → 2 ≤ n → 2 ^ n ≡ 4 * 2 ^ (n - 2)
four_times zero two = absurd (omega (arith, two))
four_times (suc zero) two = absurd (omega (arith, two))
four_times (suc (suc n)) two =
    let e : suc (suc n) - 2 ≡ n = omega arith in
    rw e (omega (arith, pow-suc 2 (suc n), pow-suc 2 n))

two_bits : (n : ℕ) → 1024 ≤ 2 ^ n → 2 ≤ n
two_bits zero large = absurd (omega (arith, large))
two_bits (suc zero) large = absurd (omega (arith, large))
two_bits (suc (suc n)) large = omega arith

-- the cluster of the root stands at a place of a group
pub record RootPlace (g : Geometry) : Type 0 where
  pub group : ℕ
  pub place : ℕ
  pub there : group < g.agcount
  pub inside : place < group_length (volume_of g) group / 4
  pub at : cluster_place (volume_of g) group place ≡ root_cluster (volume_of g)

pub root_place : (g : Geometry) → RootPlace g
root_place g =
    let v = volume_of g in
    let a = g.rootino / 8 in
    let size = 2 ^ g.agblklog in
    let m = 2 ^ (g.agblklog - 2) in
    let group = a / size in
    let block = a % size in
    let large : 1024 ≤ size = (let most = g.shape.addresses.enough in let least = g.shape.groups.large in omega (arith, most, least)) in
    let bits : 2 ≤ g.agblklog = two_bits g.agblklog large in
    let whole : size ≡ 4 * m = four_times g.agblklog bits in
    let some : 0 < m = omega (arith, whole, large) in
    let address : g.rootino / 32 * 4 ≡ a / 4 * 4 = omega arith in
    let round : a / 4 * 4 ≡ group * size + block / 4 * 4 = subst (λ (n : ℕ). a / 4 * 4 ≡ a / n * n + a % n / 4 * 4) (sym whole) (rounded a m some) in
    let low : block < size = omega (arith, large) in
    let below : block / 4 * 4 < size = omega (arith, low) in
    let inside : block / 8 * 8 + 8 ≤ group_length v group = g.shape.root.inside in
    record {
      group = group;
      place = block / 4;
      there = g.shape.root.group;
      inside = omega (arith, inside);
      at = sym (ap (λ (n : ℕ). n / size * g.agblocks + n % size) (address ∙ round)
          ∙ ap₂ (λ (x y : ℕ). x * g.agblocks + y) (of_group group size (block / 4 * 4) below) (in_group group size (block / 4 * 4) below)
          ∙ omega arith);
    }
