use Rattle.std.proofs.Common.{refl}
use Rattle.xfs_rename.specs.Parted.{IsParted}
use Rattle.xfs_rename.proofs.wanting.ask_names.Goals as goal

pub ask_parts-requires : goal.ask_parts-requires
ask_parts-requires c =
    record { parts = (c.args.due, record { due = c.requires.due; settling = c.requires.settling; wanted' = refl; files' = refl; clusters' = refl; fresh' = refl }) }

pub returns-in-Ok : goal.returns-in-Ok
returns-in-Ok c =
    let n = c.args.due in
    let is : IsParted c.args.g.now c.args.stamp.now n c.args.settling.now n.wanted n.files n.clusters n.fresh =
    record { due = c.requires.due; settling = c.requires.settling; wanted' = refl; files' = refl; clusters' = refl; fresh' = refl } in
    let asked = c.in-Ok.ensures in
    record { wanted = asked.wanted n is; kept = asked.kept n is; slots = refl; seen = refl; log = refl }

pub returns-in-Err : goal.returns-in-Err
returns-in-Err c = record { wanted = tt; kept = tt; slots = tt; seen = tt; log = tt }
