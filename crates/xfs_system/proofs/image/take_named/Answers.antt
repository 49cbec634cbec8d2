-- A call that only reads opens its image for that alone.
use Rattle.std.proofs.Common.{Some, subst, sym}
use Rattle.xfs_system.specs.Opening.{IsTakenBy}
use Rattle.xfs_system.specs.declared.purpose.Purpose.{Purpose}
use Rattle.xfs_system.proofs.image.take_named.Goals as goal

pub returns-in-Reads : goal.returns-in-Reads
returns-in-Reads g c =
    let H = g.H.Host in
    let P : Purpose → Type 0 = λ purpose.
    IsTakenBy (H.opens c.args.host.now) (H.refuses c.args.host.now) (H.says_used c.args.host.now) H.is_none c.args.word.now purpose (Some c.open_told.result) in
    subst P (sym c.in-Reads.is) c.open_told.ensures
