use Rattle.std.proofs.Common.{◌≡◌, ◌+◌, ◌≤◌, inr, ◌∙◌, lit≤, rules, arith}
use Rattle.xfs_word.specs.Field.{part_of}
use Rattle.xfs_inodebuild.proofs.cores.put_core.Goals as goal

pub returns-clause-zero_behind_format : goal.returns-clause-zero_behind_format
returns-clause-zero_behind_format c =
    let kept : part_of c.put_birth.new.slot 6 2 ≡ part_of c.clear_slot.new.slot 6 2 = search rules in kept ∙ c.clear_slot.ensures 6 2 (lit≤ tt)

pub returns-clause-zero_before_times : goal.returns-clause-zero_before_times
returns-clause-zero_before_times c =
    let kept : part_of c.put_birth.new.slot 24 8 ≡ part_of c.clear_slot.new.slot 24 8 = search rules in kept ∙ c.clear_slot.ensures 24 8 (lit≤ tt)

pub returns-clause-zero_before_flags : goal.returns-clause-zero_before_flags
returns-clause-zero_before_flags c =
    let kept : part_of c.put_birth.new.slot 84 6 ≡ part_of c.clear_slot.new.slot 84 6 = search rules in kept ∙ c.clear_slot.ensures 84 6 (lit≤ tt)

pub returns-clause-zero_before_crtime : goal.returns-clause-zero_before_crtime
returns-clause-zero_before_crtime c =
    let kept : part_of c.put_birth.new.slot 132 12 ≡ part_of c.clear_slot.new.slot 132 12 = search rules in kept ∙ c.clear_slot.ensures 132 12 (lit≤ tt)

pub returns-clause-zero_forks : goal.returns-clause-zero_forks
returns-clause-zero_forks c =
    λ at width low high.
    let counts : 64 + 20 ≤ at = omega (arith, low) in
    let times : 32 + 32 ≤ at = omega (arith, low) in
    let flags : 90 + 42 ≤ at = omega (arith, low) in
    let owner : 8 + 16 ≤ at = omega (arith, low) in
    let kind : 0 + 6 ≤ at = omega (arith, low) in
    c.put_birth.ensures.keeps_parts at width (inr low)
    ∙ (c.put_flags.ensures.keeps_parts at width (inr flags)
    ∙ (c.put_counts.ensures.keeps_parts at width (inr counts)
    ∙ (c.put_times.ensures.keeps_parts at width (inr times)
    ∙ (c.put_owner.ensures.keeps_parts at width (inr owner)
    ∙ (c.put_kind.ensures.keeps_parts at width (inr kind) ∙ c.clear_slot.ensures at width high)))))
