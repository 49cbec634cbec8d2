-- The log's place by its block number, from its place by its address.
use Rattle.std.proofs.Common.{◌≡◌, ℕ, ◌+◌, ◌*◌, ◌-◌, ◌/◌, ◌%◌, ◌≤◌, ◌<◌, Bool, true, false, ◌==◌, arith, refl, sym, subst}
use Rattle.std.proofs.lemmas.Nat.{div-mul-add, mod-mul-add}
use Rattle.std.proofs.lemmas.Bool.{eqb-true}
use Rattle.std.specs.Prelude.{if◌then◌else◌}
use Rattle.xfs_geom.specs.Groups.{blocks_of_group, group_of_address, ag_block_of_address}
use Rattle.xfs_geom.specs.Parts.{HasParts}
use Rattle.xfs_geom.specs.Shape.{HasLog}
use Rattle.xfs_geom.specs.Stated.{stated_log}
use Rattle.xfs_geom.specs.declared.stated.Stated.{Stated}

-- no group is longer than agblocks
pub group_small : (d w n g : ℕ) → d ≤ n * w → blocks_of_group d w n g ≤ w
group_small d w n g covered = by_case (g + 1 == n) refl
  where
    by_case : (r : Bool) → (g + 1 == n) ≡ r → (if r then d - g * w else w) ≤ w
    by_case true last =
        let same : g + 1 ≡ n = eqb-true _ _ last in
        let whole : d ≤ (g + 1) * w = subst (λ (m : ℕ). d ≤ m * w) (sym same) covered in
        omega arith
    by_case false other = omega arith

-- a block number gives back its group and its AG block
pub place_of_block : (d w n l g b : ℕ) → d ≤ n * w → 512 ≤ l → g < n → 1 ≤ b → b + l ≤ blocks_of_group d w n g → l ≤ 521728
    → HasLog d w n (g * w + b) l
place_of_block d w n l g b covered large group behind inside small =
    let fits : blocks_of_group d w n g ≤ w = group_small d w n g covered in
    let low : b < w = omega arith in
    let quotient : (g * w + b) / w ≡ g = div-mul-add g w b low in
    let rest : (g * w + b) % w ≡ b = mod-mul-add g w b low in
    record {
      large = large;
      small = small;
      group = rw quotient group;
      behind = rw rest behind;
      inside = rw (rest, quotient) inside;
    }

pub log_kept : (v : Stated) → HasParts v → HasLog v.dblocks v.agblocks v.agcount (stated_log v) v.logblocks
log_kept v parts =
    place_of_block v.dblocks v.agblocks v.agcount v.logblocks (group_of_address v.agblklog v.logstart) (ag_block_of_address v.agblklog v.logstart)
    parts.groups.covered parts.log_at.large parts.log_at.group parts.log_at.behind parts.log_at.inside parts.log_at.small
