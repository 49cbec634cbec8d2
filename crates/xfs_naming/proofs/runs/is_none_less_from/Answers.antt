use Rattle.std.proofs.Common.{◌<◌, ◌≤◌, length, arith}
use Rattle.std.proofs.lemmas.Bool.{leb-true}
use Rattle.xfs_naming.proofs.Placing.{none_less_from}
use Rattle.xfs_naming.proofs.runs.is_none_less_from.Goals as goal

pub returns : goal.returns
returns g c = λ passes.
    let key = g.T.Numbered.key in
    let inside : c.args.near < length c.args.records.now = let other = c.if-near-records.false in let fits = c.requires.inside in omega (arith, other, fits) in
    let least : c.args.number ≤ c.number.result = leb-true c.args.number c.number.result passes in
    let same = c.number.ensures in
    none_less_from key c.args.number c.args.records.now c.args.near c.index-records-near.result inside c.requires.rise c.index-records-near.is (omega (arith, least, same))
