use Rattle.std.proofs.Common.{◌+◌, ◌-◌, ◌≤◌, length, inr, ◌∙◌, arith}
use Rattle.xfs_inodebuild.proofs.blank.put_fresh.Goals as goal

pub returns-clause-zero_behind_fork : goal.returns-clause-zero_behind_fork
returns-clause-zero_behind_fork c =
    let n = length c.args.fork.now in
    let behind : 176 + length c.args.fork.now ≤ 176 + length c.args.fork.now = omega arith in
    let low : 176 ≤ 176 + length c.args.fork.now = omega arith in
    let high : 176 + length c.args.fork.now + (336 - length c.args.fork.now) ≤ 512 = omega (arith, c.requires.fork) in
    c.put_part.ensures.keeps_parts (176 + n) (336 - n) (inr behind) ∙ c.put_core.ensures.zero_forks (176 + n) (336 - n) low high
