use Rattle.std.proofs.Common.{◌<◌, arith}
use Rattle.std.proofs.lemmas.Bool.{ltb-true}
use Rattle.xfs_naming.proofs.Placing.{less_before}
use Rattle.xfs_naming.proofs.runs.is_less_before.Goals as goal

pub returns : goal.returns
returns g c = λ passes.
    let key = g.T.Numbered.key in
    let some : 0 < c.args.near = let other = c.if-near-eq0.false in omega (arith, other) in
    let less : c.number.result < c.args.number = ltb-true c.number.result c.args.number passes in
    let same = c.number.ensures in
    less_before key c.args.number c.args.records.now c.args.near c.index-records-near.result some c.requires.inside c.requires.rise c.index-records-near.is (omega (arith, less, same))
