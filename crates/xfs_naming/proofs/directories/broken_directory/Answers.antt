use Rattle.std.proofs.Common.{rules, arith}
use Rattle.xfs_naming.specs.Naming.{directory_at, directory_laws}
use Rattle.xfs_naming.proofs.Broken.{broken_step, broken_found, broken_end}
use Rattle.xfs_naming.proofs.directories.broken_directory.Goals as goal

pub returns-then-law : goal.returns-then-law
unfolding directory_laws
returns-then-law c =
    let n = c.args.names.now in
    broken_found (directory_at n.root n.files.now n.entries.now) n.dirs.now c.loop-dir.dir-index _ c.in_ok-law.law _ (search rules) c.in_ok-law.ensures (search rules) c.loop-dir.invariant

pub loop-dir-preserved : goal.loop-dir-preserved
loop-dir-preserved c =
    let n = c.args.names.now in
    broken_step (directory_at n.root n.files.now n.entries.now) n.dirs.now c.loop-dir.dir-index _ c.in_ok-law.law _ (search rules) c.in_ok-law.ensures (search rules) c.loop-dir.invariant

pub returns : goal.returns
unfolding directory_laws
returns c =
    let n = c.args.names.now in
    broken_end (directory_at n.root n.files.now n.entries.now) n.dirs.now c.loop-dir.dir-index _ (omega arith) c.loop-dir.invariant
