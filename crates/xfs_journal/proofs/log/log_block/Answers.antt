use Rattle.std.proofs.Common.{◌≡◌, ℕ, Bool, true, false, ◌==◌, ◌≤◌, ◌<◌, ◌+◌, ◌-◌, ◌*◌, ◌/◌, ◌%◌, if◌then◌else◌, refl, arith, rules}
use Rattle.std.proofs.Math.Nat.{mul-le-mul_right}
use Rattle.std.proofs.lemmas.Bool.Decides.{nat_tests}
use Rattle.xfs_geom.specs.Groups.{blocks_of_group}
use Rattle.xfs_geom.specs.Shape.{HasGroups, HasLog}
use Rattle.xfs_journal.proofs.log.log_block.Goals as goal

-- a group lies in the volume
group_inside : (d w n g : ℕ) → HasGroups d w n → g < n → g * w + blocks_of_group d w n g ≤ d
group_inside d w n g shape inside = by_case (g + 1 == n) refl
  where
    by_case : (last : Bool) → (g + 1 == n) ≡ last → g * w + (if last then d - g * w else w) ≤ d
    by_case true is =
        let most : g * w ≤ (n - 1) * w = mul-le-mul_right w (omega arith) in
        let low = shape.last in
        omega (arith, most, low)
    by_case false is =
        let before : g + 1 < n = grind (arith, nat_tests, is, inside) in
        let most : (g + 1) * w ≤ (n - 1) * w = mul-le-mul_right w (omega arith) in
        let next : (g + 1) * w ≡ g * w + w = omega arith in
        let low = shape.last in
        omega (arith, most, next, low)

log_inside : (d w n log blocks i : ℕ) → HasGroups d w n → HasLog d w n log blocks → i < blocks → log + i < d
log_inside d w n log blocks i shape held inside =
    let group = group_inside d w n (log / w) shape held.group in
    let some = shape.large in
    let fits = held.inside in
    let whole : log / w * w + log % w ≡ log = omega arith in
    omega (arith, group, fits, whole, inside)

pub returns-clause-inside : goal.returns-clause-inside
returns-clause-inside c =
    let g = c.args.g.now in
    let some = g.shape.log_inside.large in
    let last = log_inside g.dblocks g.agblocks g.agcount g.log g.logblocks (g.logblocks - 1) g.shape.groups g.shape.log_inside (omega (arith, some)) in
    omega (arith, some, last)

pub returns-clause-number : goal.returns-clause-number
returns-clause-number c = search rules
