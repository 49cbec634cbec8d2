use Rattle.std.proofs.Common.{◌+◌, ◌*◌, ◌≤◌, ◌<◌, arith}
use Rattle.xfs_place.proofs.Branches.{descends_first, descends_inside, descends_last, descends_next}
use Rattle.xfs_place.proofs.greatest.descend.Goals as goal

pub loop-level-init : goal.loop-level-init
loop-level-init c = descends_first c.args.nodes.now c.args.least c.requires.enough

pub lower-node-requires : goal.lower-node-requires
lower-node-requires c =
    let l = c.loop-level in
    let low = descends_inside c.args.nodes.now c.args.leaves c.args.depth c.args.least l._level l.node c.requires.stands c.loop-level-test.true l.invariant in
    omega (arith, low, c.requires.stands.all)

pub loop-level-preserved : goal.loop-level-preserved
loop-level-preserved c =
    let l = c.loop-level in
    descends_next c.args.nodes.now c.args.leaves c.args.depth c.args.least l._level l.node c.lower-node.result c.requires.stands c.loop-level-test.true l.invariant c.lower-node.ensures

pub returns : goal.returns
returns c =
    let l = c.loop-level in
    let last = descends_last c.args.nodes.now c.args.leaves c.args.depth c.args.least l.node l._level c.requires.stands c.loop-level-test.false (omega arith) l.invariant in
    (last.1, last.2, last.3)
