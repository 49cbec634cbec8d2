use Rattle.std.proofs.Common.{rules, arith}
use Rattle.xfs_naming.specs.Naming.{place_law}
use Rattle.xfs_naming.proofs.Broken.{broken_step, broken_found, broken_end}
use Rattle.xfs_naming.proofs.places.broken_place.Goals as goal

pub returns-then-law : goal.returns-then-law
returns-then-law c =
    let n = c.args.names.now in
    broken_found (place_law n.root n.files.now n.entries.now n.dirs.now) c.args.numbers.now c.loop-ino.ino-index 0 c.place_law-law.result _ (search rules) c.place_law-law.ensures (search rules) c.loop-ino.invariant

pub loop-ino-preserved : goal.loop-ino-preserved
loop-ino-preserved c =
    let n = c.args.names.now in
    broken_step (place_law n.root n.files.now n.entries.now n.dirs.now) c.args.numbers.now c.loop-ino.ino-index 0 c.place_law-law.result _ (search rules) c.place_law-law.ensures (search rules) c.loop-ino.invariant

pub returns : goal.returns
returns c =
    let n = c.args.names.now in
    broken_end (place_law n.root n.files.now n.entries.now n.dirs.now) c.args.numbers.now c.loop-ino.ino-index _ (omega arith) c.loop-ino.invariant
