use Rattle.std.proofs.Common.{ℕ, rules, arith}
use Rattle.xfs_naming.specs.Naming.{links_at, file_at}
use Rattle.xfs_naming.proofs.Broken.{broken_step, broken_found, broken_end}
use Rattle.xfs_naming.proofs.counts.broken_links.Goals as goal

pub returns-then-law : goal.returns-then-law
returns-then-law c =
    let n = c.args.names.now in
    broken_found (λ (ino : ℕ). links_at n.root n.files.now n.entries.now (file_at n.files.now ino) ino) c.args.numbers.now c.loop-ino.ino-index 0 c.links_at-law.result _ (search rules) c.links_at-law.ensures (search rules) c.loop-ino.invariant

pub loop-ino-preserved : goal.loop-ino-preserved
loop-ino-preserved c =
    let n = c.args.names.now in
    broken_step (λ (ino : ℕ). links_at n.root n.files.now n.entries.now (file_at n.files.now ino) ino) c.args.numbers.now c.loop-ino.ino-index 0 c.links_at-law.result _ (search rules) c.links_at-law.ensures (search rules) c.loop-ino.invariant

pub returns : goal.returns
returns c =
    let n = c.args.names.now in
    broken_end (λ (ino : ℕ). links_at n.root n.files.now n.entries.now (file_at n.files.now ino) ino) c.args.numbers.now c.loop-ino.ino-index _ (omega arith) c.loop-ino.invariant
