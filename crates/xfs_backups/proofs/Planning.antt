-- The plan of backups, made group by group.
use Rattle.std.proofs.Common.{◌≡◌, ℕ, ◌+◌, ◌-◌, ◌<◌, List, ◌++◌, true, false, Option, Some, suc, subst, append_assoc, arith}
use Rattle.xfs_disk.specs.Blocks.{Image, bytes_of_block}
use Rattle.xfs_geom.specs.Superblocks.{is_agreeing}
use Rattle.xfs_geom.specs.Volumes.{stated_volume}
use Rattle.xfs_geom.specs.Election.{super_of}
use Rattle.xfs_backups.specs.Backups.{first_disagreeing, start_of, step_of, steps_from}
use Rattle.xfs_writing.specs.Writing.{Writes}

-- one more group: its step stands behind the plan
pub next_steps : (primary : List ℕ) (image : Image) (group count : ℕ) (before after step whole : Writes)
    → group < count → step ≡ step_of primary (start_of primary group) (bytes_of_block image (start_of primary group)) → after ≡ before ++ step
    → before ++ steps_from primary image group (count - group) ≡ whole
    → after ++ steps_from primary image (group + 1) (count - (group + 1)) ≡ whole
next_steps primary image group count before after step whole within value pushed so_far =
    let more : count - group ≡ suc (count - (group + 1)) = omega arith in
    rw (pushed, value, append_assoc) (subst (λ (n : ℕ). before ++ steps_from primary image group n ≡ whole) more so_far)

-- a backup that agrees is passed over
pub agreeing_next : (primary : List ℕ) (image : Image) (group count : ℕ) (whole : Option ℕ) → group < count
    → is_agreeing (stated_volume primary) (super_of (bytes_of_block image (start_of primary group))) ≡ true
    → first_disagreeing primary image group (count - group) ≡ whole → first_disagreeing primary image (group + 1) (count - (group + 1)) ≡ whole
agreeing_next primary image group count whole within agreeing so_far =
    let more : count - group ≡ suc (count - (group + 1)) = omega arith in
    rw agreeing at (subst (λ (n : ℕ). first_disagreeing primary image group n ≡ whole) more so_far)

-- a backup that does not agree is the first
pub disagreeing_here : (primary : List ℕ) (image : Image) (group count : ℕ) (whole : Option ℕ) → group < count
    → is_agreeing (stated_volume primary) (super_of (bytes_of_block image (start_of primary group))) ≡ false
    → first_disagreeing primary image group (count - group) ≡ whole → Some group ≡ whole
disagreeing_here primary image group count whole within other so_far =
    let more : count - group ≡ suc (count - (group + 1)) = omega arith in
    rw other at (subst (λ (n : ℕ). first_disagreeing primary image group n ≡ whole) more so_far)
